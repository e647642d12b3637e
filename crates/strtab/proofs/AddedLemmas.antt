-- What adding a name does to the names of a table, and to the offsets of those that are there.
use Rattle.std.proofs.Common.{◌≡◌, ◌≢◌, ℕ, true, false, List, [], ◌∷◌, ◌++◌, Contains, refl, sym, ap, ◌∙◌, subst, inl, inr, arith}
use Rattle.std.proofs.lemmas.Bool.{cases_Bool, cond-true, cond-false, true≢false}
use Rattle.std.proofs.lemmas.List.Elements.{All-nil, All-push, Contains-get_or}
use Rattle.std.proofs.lemmas.List.Quantifiers.{all_pairs_push}
use Rattle.std.specs.List.{list_any}
use Rattle.std.specs.Str.{bytes_eq}
use Rattle.strtab.specs.StringTable.{HasNoZero}
use Rattle.strtab.specs.Names.{size_of, names_before, offset_of, added, IsName, AreNames}
use Rattle.strtab.proofs.NamesLemmas.{names_before-here, names_before-later, found-Contains}

-- ---- the names after a use

-- a name that is there changes nothing
pub added-there : (names : List (List ℕ)) (name : List ℕ) → list_any (bytes_eq name) names ≡ true → added names name ≡ names
added-there names [] there = refl
added-there names (b ∷ bytes) there = cond-true _ names _ there

-- a new name goes last
pub added-new : (names : List (List ℕ)) (name : List ℕ) → name ≢ [] → list_any (bytes_eq name) names ≡ false → added names name ≡ names ++ name ∷ []
added-new names [] filled new = absurd (filled refl)
added-new names (b ∷ bytes) filled new = cond-false _ names _ new

-- ---- names stay names

-- no names are names
pub AreNames-nil : AreNames []
AreNames-nil = record { each = All-nil IsName; distinct = λ i j d before within. absurd (omega arith) }

-- names and a new one are names
AreNames-push : (names : List (List ℕ)) (name : List ℕ) → AreNames names → IsName name → list_any (bytes_eq name) names ≡ false → AreNames (names ++ name ∷ [])
AreNames-push names name are is new = record {
  each = All-push IsName names name are.each is;
  distinct = all_pairs_push (λ first later. first ≢ later) names name are.distinct (λ k d within same.
      true≢false (sym (found-Contains name names (subst (Contains names) same (Contains-get_or names k d within))) ∙ new));
}

-- whatever name without a zero byte is used, names stay names
pub AreNames-added : (names : List (List ℕ)) (name : List ℕ) → AreNames names → HasNoZero name → AreNames (added names name)
AreNames-added names [] are whole = are
AreNames-added names (b ∷ bytes) are whole =
    elim (cases_Bool (list_any (bytes_eq (b ∷ bytes)) names)) [
      | inl there ↦ rw (added-there names (b ∷ bytes) there) are
      | inr new ↦
          let is : IsName (b ∷ bytes) = record { filled = λ e. cc; whole = whole } in
          rw (added-new names (b ∷ bytes) (λ e. cc) new) (AreNames-push names (b ∷ bytes) are is new)
    ]

-- ---- offsets stay

-- the names before one that is there are the same when more names follow
names_before-append : (name : List ℕ) (names more : List (List ℕ)) → list_any (bytes_eq name) names ≡ true
    → names_before (names ++ more) name ≡ names_before names name
names_before-append name [] more there = absurd (true≢false (sym there))
names_before-append name (first ∷ names) more there =
    elim (cases_Bool (bytes_eq name first)) [
      | inl h ↦ names_before-here name first (names ++ more) h ∙ sym (names_before-here name first names h)
      | inr h ↦
          names_before-later name first (names ++ more) h
          ∙ ap (λ (l : List (List ℕ)). first ∷ l) (names_before-append name names more (rw h at there))
          ∙ sym (names_before-later name first names h)
    ]

-- a name that is there keeps its offset when more names follow
pub offset_of-append : (name : List ℕ) (names more : List (List ℕ)) → list_any (bytes_eq name) names ≡ true
    → offset_of (names ++ more) name ≡ offset_of names name
offset_of-append [] names more there = refl
offset_of-append (b ∷ bytes) names more there = ap size_of (names_before-append (b ∷ bytes) names more there)

-- and when another name is used
pub offset_of-added : (names : List (List ℕ)) (name other : List ℕ) → list_any (bytes_eq name) names ≡ true
    → offset_of (added names other) name ≡ offset_of names name
offset_of-added names name [] there = refl
offset_of-added names name (b ∷ bytes) there =
    elim (cases_Bool (list_any (bytes_eq (b ∷ bytes)) names)) [
      | inl old ↦ rw (added-there names (b ∷ bytes) old) refl
      | inr new ↦ rw (added-new names (b ∷ bytes) (λ e. cc) new) (offset_of-append name names ((b ∷ bytes) ∷ []) there)
    ]
