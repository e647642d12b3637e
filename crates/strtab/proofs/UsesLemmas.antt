-- A list of uses of names: its distinct names are lawful, and each use is found in their table.
use Rattle.std.proofs.Common.{◌≡◌, ◌≢◌, ℕ, zero, suc, Bool, true, List, [], ◌∷◌, ◌++◌, Some, All, AllPairs, Contains, get_or, fold, refl, ◌∙◌, inl, inr, arith}
use Rattle.std.proofs.lemmas.Bool.{cases_Bool, or_left, or_right}
use Rattle.std.proofs.lemmas.List.Elements.{All-head, All-tail, All-contains, All-get_or, Contains-get_or}
use Rattle.std.proofs.lemmas.List.Folds.{list_any-append}
use Rattle.std.proofs.lemmas.List.Sums.{fold-append}
use Rattle.std.specs.List.{list_any}
use Rattle.std.specs.Str.{bytes_eq}
use Rattle.strtab.specs.StringTable.{name_in, HasNoZero}
use Rattle.strtab.specs.Names.{table_of, offset_of, added, first_uses, IsName, AreNames}
use Rattle.strtab.proofs.NamesLemmas.{bytes_eq-itself, found-Contains, name_in-offset_of, offset_of-injective}
use Rattle.strtab.proofs.AddedLemmas.{AreNames-nil, AreNames-added, added-there, added-new, offset_of-added}

-- ---- names of a table

-- each name of a table is found at its offset
pub name_in-names : (big : Bool) (names : List (List ℕ)) → AreNames names → (name : List ℕ) → Contains names name
    → name_in (table_of big names) (offset_of names name) ≡ Some name
name_in-names big names are name among =
    let is = All-contains IsName names name are.each among in
    name_in-offset_of big names name is.filled is.whole (found-Contains name names among)

-- names at different places have different offsets
pub offset_of-apart : (names : List (List ℕ)) → AreNames names → AllPairs (λ first later. offset_of names first ≢ offset_of names later) names
offset_of-apart names are i j d before within same =
    let first = All-get_or IsName names i d (omega arith) are.each in
    let later = All-get_or IsName names j d within are.each in
    let first_there = found-Contains (get_or names i d) names (Contains-get_or names i d (omega arith)) in
    let later_there = found-Contains (get_or names j d) names (Contains-get_or names j d within) in
    are.distinct i j d before within
    (offset_of-injective names (get_or names i d) (get_or names j d) first.filled first.whole later.filled later.whole first_there later_there same)

-- ---- a list of uses

-- a name that is there stays, whatever is used
there-added : (names : List (List ℕ)) (name other : List ℕ) → list_any (bytes_eq name) names ≡ true → list_any (bytes_eq name) (added names other) ≡ true
there-added names name [] there = there
there-added names name (b ∷ bytes) there =
    elim (cases_Bool (list_any (bytes_eq (b ∷ bytes)) names)) [
      | inl old ↦ rw (added-there names (b ∷ bytes) old) there
      | inr new ↦ rw (added-new names (b ∷ bytes) (λ e. cc) new, list_any-append (bytes_eq name) names ((b ∷ bytes) ∷ [])) (or_left _ _ there)
    ]

-- a name that is not empty is there once it is used
there-used : (names : List (List ℕ)) (name : List ℕ) → name ≢ [] → list_any (bytes_eq name) (added names name) ≡ true
there-used names name filled =
    elim (cases_Bool (list_any (bytes_eq name) names)) [
      | inl old ↦ rw (added-there names name old) old
      | inr new ↦
          rw (added-new names name filled new, list_any-append (bytes_eq name) names (name ∷ []))
          (or_right _ _ (or_left _ _ (bytes_eq-itself name)))
    ]

-- and stays through all later uses
there-uses : (uses names : List (List ℕ)) (name : List ℕ) → list_any (bytes_eq name) names ≡ true → list_any (bytes_eq name) (fold added names uses) ≡ true
there-uses [] names name there = there
there-uses (use' ∷ uses) names name there = there-uses uses (added names use') name (there-added names name use' there)

-- each use that is not empty is there at the end
uses-there : (uses names : List (List ℕ)) (name : List ℕ) → name ≢ [] → Contains uses name → list_any (bytes_eq name) (fold added names uses) ≡ true
uses-there [] names name filled among = absurd (omega (arith, among.1))
uses-there (use' ∷ uses) names name filled (zero, within, same) = there-uses uses (added names use') name (rw same (there-used names name filled))
uses-there (use' ∷ uses) names name filled (suc at, within, same) = uses-there uses (added names use') name filled (at, omega arith, same)

-- names stay names through all uses
AreNames-uses : (uses names : List (List ℕ)) → AreNames names → All HasNoZero uses → AreNames (fold added names uses)
AreNames-uses [] names are whole = are
AreNames-uses (use' ∷ uses) names are whole =
    AreNames-uses uses (added names use') (AreNames-added names use' are (All-head HasNoZero use' uses whole)) (All-tail HasNoZero use' uses whole)

-- the offset of a name that is there stays through all later uses
pub offset_of-uses : (uses names : List (List ℕ)) (name : List ℕ) → list_any (bytes_eq name) names ≡ true
    → offset_of (fold added names uses) name ≡ offset_of names name
offset_of-uses [] names name there = refl
offset_of-uses (use' ∷ uses) names name there =
    offset_of-uses uses (added names use') name (there-added names name use' there) ∙ offset_of-added names name use' there

-- the distinct names of lawful uses are lawful
pub AreNames-first_uses : (uses : List (List ℕ)) → All HasNoZero uses → AreNames (first_uses uses)
AreNames-first_uses uses whole = AreNames-uses uses [] AreNames-nil whole

-- each used name is found at its offset
pub name_in-first_uses : (big : Bool) (uses : List (List ℕ)) → All HasNoZero uses → (name : List ℕ) → Contains uses name
    → name_in (table_of big (first_uses uses)) (offset_of (first_uses uses) name) ≡ Some name
name_in-first_uses big uses whole [] among = refl
name_in-first_uses big uses whole (b ∷ bytes) among =
    name_in-offset_of big (first_uses uses) (b ∷ bytes) (λ e. cc) (All-contains HasNoZero uses (b ∷ bytes) whole among)
    (uses-there uses [] (b ∷ bytes) (λ e. cc) among)

-- a used name keeps its offset through all later uses
pub offset_of-later : (uses later : List (List ℕ)) (name : List ℕ) → Contains uses name
    → offset_of (first_uses (uses ++ later)) name ≡ offset_of (first_uses uses) name
offset_of-later uses later [] among = refl
offset_of-later uses later (b ∷ bytes) among =
    rw (fold-append added [] uses later) (offset_of-uses later (first_uses uses) (b ∷ bytes) (uses-there uses [] (b ∷ bytes) (λ e. cc) among))
