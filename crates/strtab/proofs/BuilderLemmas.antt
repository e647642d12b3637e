-- What a table that is being built keeps, from call to call.
use Rattle.std.proofs.Common.{◌≡◌, ◌≢◌, ℕ, ◌+◌, ◌≤◌, Bool, true, false, ◌==◌, List, [], ◌∷◌, ◌++◌, length, map, Vec, Option, None, Some, Result, Ok, Err, IfOk, IfErr, OnOk, OnErr, refl, sym, ap, ◌∙◌, subst, inl, inr, arith, add-zero, length-append, append_assoc}
use Rattle.std.proofs.lemmas.Bool.{cases_Bool, true≢false}
use Rattle.std.proofs.lemmas.List.{map-append}
use Rattle.std.proofs.lemmas.Option.{none-some}
use Rattle.std.specs.List.{list_any}
use Rattle.std.specs.Str.{bytes_eq}
use Rattle.st_base.specs.declared.fault.Refused.{Refused}
use Rattle.st_base.specs.declared.sizes.TheConstants.{FILE_LIMIT}
use Rattle.strtab.specs.StringTable.{HasNoZero}
use Rattle.strtab.specs.Names.{spelled, size_of, names_before, offset_of, added, RefusesSize}
use Rattle.strtab.specs.Builder.{names_in, offsets_from, found_in, IsIndexed, IsPlaced}
use Rattle.strtab.proofs.NamesLemmas.{names_before-here, names_before-later, names_before-last, spelled-append, offset_of-filled}
use Rattle.strtab.proofs.AddedLemmas.{AreNames-nil, AreNames-added, added-there, added-new}

-- ---- a table without names

-- it is four bytes
pub IsIndexed-nil : {A : Type 0} (entries : List (Vec ℕ A × ℕ)) (bytes : List ℕ) → entries ≡ [] → bytes ≡ 0 ∷ 0 ∷ 0 ∷ 0 ∷ [] → IsIndexed entries bytes
IsIndexed-nil {A} entries bytes none word =
    let start : IsIndexed {A = A} [] (0 ∷ 0 ∷ 0 ∷ 0 ∷ []) = record { spells = refl; offsets = refl; within = omega arith; names = AreNames-nil } in
    subst (λ es. IsIndexed es bytes) (sym none) (subst (λ bs. IsIndexed {A = A} [] bs) (sym word) start)

-- ---- placing a name

-- a new name is placed last, and its bytes at the table's end
pub IsPlaced-new : {A : Type 0} (found : Option ℕ) (name : Vec ℕ A) (old new : List (Vec ℕ A × ℕ)) (before after bytes : List ℕ) (strx : ℕ)
    → found ≡ None → strx ≡ length before → new ≡ old ++ (name, strx) ∷ [] → bytes ≡ name.items → after ≡ before ++ (bytes ++ 0 ∷ [])
    → length before + (length bytes + 1) ≤ FILE_LIMIT → IsPlaced found name old new before after strx
IsPlaced-new found name old new before after bytes strx absent end last spells grown fits =
    let whole : after ≡ before ++ (name.items ++ 0 ∷ []) = grown ∙ ap (λ (b : List ℕ). before ++ (b ++ 0 ∷ [])) spells in
    let size : length after ≤ FILE_LIMIT = rw grown (simp length-append (omega arith)) in
    subst (λ f. IsPlaced f name old new before after strx) (sym absent) (end, last, whole, size)

-- ---- looking a name up

-- a name that the map has is among the names
found-there : {A : Type 0} (entries : List (Vec ℕ A × ℕ)) (name : List ℕ) (strx : ℕ) → found_in entries name ≡ Some strx
    → list_any (bytes_eq name) (names_in entries) ≡ true
found-there [] name strx e = absurd (none-some strx e)
found-there (entry ∷ entries) name strx e =
    elim (cases_Bool (bytes_eq name entry.0.items)) [
      | inl h ↦ rw h refl
      | inr h ↦ rw h (found-there entries name strx (rw h at e))
    ]

-- a name that the map lacks is not among the names
absent-new : {A : Type 0} (entries : List (Vec ℕ A × ℕ)) (name : List ℕ) → found_in entries name ≡ None
    → list_any (bytes_eq name) (names_in entries) ≡ false
absent-new [] name e = refl
absent-new (entry ∷ entries) name e =
    elim (cases_Bool (bytes_eq name entry.0.items)) [
      | inl h ↦ absurd (none-some entry.1 (sym (rw h at e)))
      | inr h ↦ rw h (absent-new entries name (rw h at e))
    ]

-- the offset that the map has of a name is after the names before it
found-offset : {A : Type 0} (entries : List (Vec ℕ A × ℕ)) (at : ℕ) (name : List ℕ) (strx : ℕ) → map (λ e. e.1) entries ≡ offsets_from at (names_in entries)
    → found_in entries name ≡ Some strx → strx ≡ at + length (spelled (names_before (names_in entries) name))
found-offset [] at name strx offsets e = absurd (none-some strx e)
found-offset (entry ∷ entries) at name strx offsets e =
    let first : entry.1 ≡ at = cc in
    let later : map (λ e. e.1) entries ≡ offsets_from (at + (length entry.0.items + 1)) (names_in entries) = cc in
    elim (cases_Bool (bytes_eq name entry.0.items)) [
      | inl h ↦
          let here : Some entry.1 ≡ Some strx = rw h at e in
          let same : entry.1 ≡ strx = cc in
          rw (names_before-here name entry.0.items (names_in entries) h) (omega arith)
      | inr h ↦
          let rest = found-offset entries (at + (length entry.0.items + 1)) name strx later (rw h at e) in
          rw (names_before-later name entry.0.items (names_in entries) h) (simp length-append (omega arith))
    ]

-- the offset of one more name is after all names
offsets_from-push : (at : ℕ) (names : List (List ℕ)) (name : List ℕ)
    → offsets_from at (names ++ name ∷ []) ≡ offsets_from at names ++ (at + length (spelled names)) ∷ []
offsets_from-push at [] name = rw (add-zero at) refl
offsets_from-push at (first ∷ names) name =
    let rest = offsets_from-push (at + (length first + 1)) names name in
    let size : at + length (first ++ (0 ∷ spelled names)) ≡ at + (length first + 1) + length (spelled names) = simp length-append (omega arith) in
    rw (rest, size) refl

-- the table's size is that of its names
pub size_of-indexed : {A : Type 0} (entries : List (Vec ℕ A × ℕ)) (bytes : List ℕ) → IsIndexed entries bytes → size_of (names_in entries) ≡ length bytes
size_of-indexed entries bytes kept = let e = ap length kept.spells in omega arith

-- ---- a name was placed

-- a name that was tested and is not empty has bytes
pub filled-tested : (items bytes : List ℕ) (empty : Bool) → items ≡ bytes → empty ≡ (length bytes == 0) → empty ≡ false → items ≢ []
filled-tested items bytes empty spells told filled e = true≢false (ap (λ (l : List ℕ). length l == 0) (sym e ∙ spells) ∙ sym told ∙ filled)

-- the table after a name was used: its names, the answer, and what is kept
record Uses {A : Type 0} (name : List ℕ) (old new : List (Vec ℕ A × ℕ)) (after : List ℕ) (strx : ℕ) : Type 0 where
  pub names : names_in new ≡ added (names_in old) name
  pub offset : strx ≡ offset_of (names_in new) name
  pub kept : IsIndexed new after

module _ {A : Type 0} (name : Vec ℕ A) (old : List (Vec ℕ A × ℕ)) (before : List ℕ) (filled : name.items ≢ []) (whole : HasNoZero name.items)
    (kept : IsIndexed old before) where
  -- a name that is there
  uses-there : (strx : ℕ) → found_in old name.items ≡ Some strx → Uses name.items old old before strx
  uses-there strx found =
      let there = found-there old name.items strx found in
      record {
        names = sym (added-there (names_in old) name.items there);
        offset = found-offset old 4 name.items strx kept.offsets found ∙ sym (offset_of-filled (names_in old) name.items filled);
        kept = kept;
      }

  -- a new name
  uses-new : found_in old name.items ≡ None → length before + (length name.items + 1) ≤ FILE_LIMIT
      → Uses name.items old (old ++ (name, length before) ∷ []) (before ++ (name.items ++ 0 ∷ [])) (length before)
  uses-new absent fits =
      let new = absent-new old name.items absent in
      let names : names_in (old ++ (name, length before) ∷ []) ≡ names_in old ++ name.items ∷ [] =
      map-append (λ (e : Vec ℕ A × ℕ). e.0.items) old ((name, length before) ∷ []) in
      let adds = added-new (names_in old) name.items filled new in
      let size = size_of-indexed old before kept in
      let bytes : spelled (names_in (old ++ (name, length before) ∷ [])) ≡ spelled (names_in old) ++ (name.items ++ 0 ∷ []) =
      ap spelled names ∙ spelled-append (names_in old) (name.items ∷ []) in
      let offsets = map-append (λ (e : Vec ℕ A × ℕ). e.1) old ((name, length before) ∷ []) in
      record {
        names = names ∙ sym adds;
        offset =
            rw (names, offset_of-filled (names_in old ++ name.items ∷ []) name.items filled, names_before-last name.items (names_in old) new) (sym size);
        kept = record {
          spells = rw (bytes, kept.spells) (append_assoc (0 ∷ 0 ∷ 0 ∷ 0 ∷ []) (spelled (names_in old)) (name.items ++ 0 ∷ []));
          offsets = offsets ∙ rw (names, offsets_from-push 4 (names_in old) name.items, kept.offsets, size) refl;
          within = simp length-append (omega arith);
          names = rw (names ∙ sym adds) (AreNames-added (names_in old) name.items kept.names whole);
        };
      }

  -- whatever name is used
  uses-placed : (new : List (Vec ℕ A × ℕ)) (after : List ℕ) (strx : ℕ) (found : Option ℕ) → found_in old name.items ≡ found
      → IsPlaced found name old new before after strx → Uses name.items old new after strx
  uses-placed new after strx (Some at) found placed =
      let there = uses-there at found in
      rw (placed.0, placed.1, placed.2) there
  uses-placed new after strx None found placed =
      let fits = ap length placed.2 in
      let size = length-append before (name.items ++ 0 ∷ []) in
      let part = length-append name.items (0 ∷ []) in
      rw (placed.1, placed.2, placed.0) (uses-new found (omega arith))

  module _ (new : List (Vec ℕ A × ℕ)) (after : List ℕ) (names : List (List ℕ)) (bytes : List ℕ) (view : names_in old ≡ names) (spells : name.items ≡ bytes) where
    -- the names after a use
    pub names-placed : (r : Result ℕ Refused) → IfOk r (λ strx. IsPlaced (found_in old name.items) name old new before after strx)
        → OnOk r (names_in new ≡ added names bytes)
    names-placed (Ok strx) placed = rw (← view, ← spells) (uses-placed new after strx _ refl placed).names
    names-placed (Err why) placed = tt

    -- the answer is the offset of the name
    pub offset-placed : (r : Result ℕ Refused) → IfOk r (λ strx. IsPlaced (found_in old name.items) name old new before after strx)
        → IfOk r (λ strx. strx ≡ offset_of (names_in new) bytes)
    offset-placed (Ok strx) placed = rw (← spells) (uses-placed new after strx _ refl placed).offset
    offset-placed (Err why) placed = tt

    -- what is kept, used or refused
    pub kept-placed : (r : Result ℕ Refused) → IfOk r (λ strx. IsPlaced (found_in old name.items) name old new before after strx)
        → OnErr r (new ≡ old) → OnErr r (after ≡ before) → IsIndexed new after
    kept-placed (Ok strx) placed same_names same_table = (uses-placed new after strx _ refl placed).kept
    kept-placed (Err why) placed same_names same_table = rw (same_names, same_table) kept

    -- a refusal speaks of the size that the table would have
    pub refused-placed : (r : Result ℕ Refused) → IfErr r (RefusesSize (length before + (length name.items + 1))) → OnErr r (found_in old name.items ≡ None)
        → IfErr r (RefusesSize (size_of (added names bytes)))
    refused-placed (Ok strx) refused absent = tt
    refused-placed (Err why) refused absent =
        let added' = added-new (names_in old) name.items filled (absent-new old name.items absent) in
        let grown = spelled-append (names_in old) (name.items ∷ []) in
        let size = size_of-indexed old before kept in
        let whole' : size_of (names_in old ++ name.items ∷ []) ≡ length before + (length name.items + 1) = rw grown (simp length-append (omega arith)) in
        rw (← view, ← spells, added', whole') refused
