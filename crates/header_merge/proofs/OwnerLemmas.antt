-- In an image whose headers are those of merged ranges, each header stands for the range that is kept for its own; and the numbers of a
-- kept range, carried over, are those of each range that it is kept for.
use Rattle.std.proofs.Common.{◌≡◌, ◌≢◌, ℕ, zero, suc, ◌<◌, ◌⊎◌, ◌&&◌, Bool, true, false, not, cond, List, [], ◌∷◌, length, map, Option, Some, None, refl, sym, ap, ◌∙◌, inl, inr, subst}
use Rattle.std.specs.Prelude.{◌==◌, slice_get, slice_index, nat_eq}
use Rattle.std.specs.List.{filter}
use Rattle.std.specs.Option.{option_map_or}
use Rattle.std.specs.Cmp.Lexicographic.{pointwise}
use Rattle.std.proofs.lemmas.Slice.Eq.{bytes_eq-Decides}
use Rattle.std.proofs.lemmas.Bool.{eq-eqb, eqb-true, cases_eq}
use Rattle.std.proofs.lemmas.Option.{slice_get-get_or, slice_get_within}
use Rattle.st_base.specs.declared.fault.Fault.{Fault}
use Rattle.bincl_match.specs.declared.range.Grouping.{Grouping}
use Rattle.bincl_match.specs.declared.range.RangeOf.{RangeOf}
use Rattle.bincl_match.specs.Lawful.{IsLawful}
use Rattle.bincl_match.specs.Matching.{AllAgree, NumbersAgree}
use Rattle.bincl_match.specs.Merging.{IsMerging}
use Rattle.bincl_match.proofs.ListLemmas.{some_is, both, both_true, get_unmap, get_beside}
use Rattle.unit_index.specs.declared.owner.Owner.{Owner}
use Rattle.unit_index.specs.Owners.{Row, fault_among, fault_by, file_or_none, index_fault, is_header, is_like, is_same, new_number, number_for, only_of, owned_by, owner_in, owners_of, stands_for, the_one}
use Rattle.header_merge.specs.Merged.{is_kept}
use Rattle.header_merge.specs.ImageRows.{AreImageRows, IsImageRow}
use Rattle.header_merge.proofs.ListLemmas.{get_map, get_there, only_passes, the_one_is}

-- ---- faults

-- a test that fails twice over passes
not_not : (b : Bool) → not (not b) ≡ b
not_not true = refl
not_not false = refl

-- a header that one is like has no fault
like_one : (r q : Row) (all : List Row) (more : Option Fault) → filter (is_like r) all ≡ q ∷ [] → more ≡ None → (b : Bool)
    → cond b (fault_by r (filter (is_like r) all) more) more ≡ None
like_one r q all more one none true = ap (λ z. fault_by r z more) one ∙ none
like_one r q all more one none false = none

-- nor has a list of such headers
no_fault_in : (all rows : List Row) → ((k : ℕ) (r : Row) → slice_get rows k ≡ Some r → (q : Row) × (filter (is_like r) all ≡ q ∷ []))
    → fault_among all rows ≡ None
no_fault_in all [] each = refl
no_fault_in all (r ∷ rows) each =
    let one = each zero r refl in
    like_one r one.0 all (fault_among all rows) one.1 (no_fault_in all rows (λ k z at. each (suc k) z at)) r.excluded

module _ (ranges : List RangeOf) (g : Grouping) (rows : List Row) (lawful : IsLawful ranges) (merging : IsMerging ranges g)
    (are : AreImageRows ranges g rows) where
  -- ---- ranges by places

  -- the place of the range that is kept for the one at this place
  abbrev kept_at : ℕ → ℕ
  kept_at k = slice_index g.kept k

  abbrev instance_at : ℕ → ℕ
  instance_at k = slice_index g.instance k

  abbrev At : ℕ → RangeOf → Type 0
  At k x = slice_get ranges k ≡ Some x

  -- the kept range is a range
  kept_range : (k : ℕ) (x : RangeOf) → At k x → (y : RangeOf) × At (kept_at k) y
  kept_range k x at = get_there ranges (kept_at k) (merging.inside k (slice_get_within ranges k x at))

  -- and is kept for itself
  kept_itself : (k : ℕ) (x : RangeOf) → At k x → kept_at (kept_at k) ≡ kept_at k
  kept_itself k x at = merging.fixed k (slice_get_within ranges k x at)

  -- a range stays where it is kept for itself
  kept_is : (k : ℕ) (x : RangeOf) → At k x → is_kept g k ≡ nat_eq (kept_at k) k
  kept_is k x at =
      let within : k < length g.kept = subst (λ z. k < z) (sym merging.count.0) (slice_get_within ranges k x at) in
      ap (λ z. option_map_or (λ first. first == k) z true) (slice_get-get_or g.kept k 0 within)

  -- a range and its kept one have one name
  kept_name : (k : ℕ) (x y : RangeOf) → At k x → At (kept_at k) y → x.name ≡ y.name
  kept_name k x y at kept = by_case (cases_eq (kept_at k) k) where
    by_case : (kept_at k ≡ k) ⊎ (kept_at k ≢ k) → x.name ≡ y.name
    by_case (inl e) = let same : x ≡ y = some_is (slice_get ranges k) x y at (ap (slice_get ranges) (sym e) ∙ kept) in ap (λ (z : RangeOf). z.name) same
    by_case (inr n) =
        let pair = merging.paired k (slice_get_within ranges k x at) n in
        let first : x ≡ pair.first = some_is (slice_get ranges k) x pair.first at pair.first_is in
        let second : y ≡ pair.second = some_is (slice_get ranges (kept_at k)) y pair.second kept pair.second_is in
        ap (λ (z : RangeOf). z.name) first ∙ pair.names ∙ sym (ap (λ (z : RangeOf). z.name) second)

  -- ---- headers

  -- a header is that of the range at its place
  row_back : (k : ℕ) (r : Row) → slice_get rows k ≡ Some r → (x : RangeOf) × At k x × IsImageRow g k x r
  row_back k r at =
      let range = get_beside rows ranges k r are.count at in
      let row = are.each k range.0 range.1 in
      let same : row.0 ≡ r = some_is (slice_get rows k) row.0 r row.1 at in
      (range.0, range.1, subst (λ z. IsImageRow g k range.0 z) same row.2)

  -- it is excluded where another range is kept for its own
  excluded_is : (k : ℕ) (x : RangeOf) (r : Row) → At k x → IsImageRow g k x r → not r.excluded ≡ nat_eq (kept_at k) k
  excluded_is k x r at row = ap not row.excluded ∙ not_not (is_kept g k) ∙ kept_is k x at

  -- of all headers that of the kept range alone is like it
  like_kept : (k : ℕ) (x y : RangeOf) (r q : Row) → At k x → At (kept_at k) y → IsImageRow g k x r → slice_get rows (kept_at k) ≡ Some q
      → IsImageRow g (kept_at k) y q → filter (is_like r) rows ≡ q ∷ []
  like_kept k x y r q at kept row at_q row_q =
      only_passes (is_like r) rows (kept_at k) q at_q
      (both_true (not q.excluded) (pointwise nat_eq r.name q.name && nat_eq r.value q.value)
      (excluded_is (kept_at k) y q kept row_q ∙ eq-eqb (kept_at (kept_at k)) (kept_at k) (kept_itself k x at))
      (both_true (pointwise nat_eq r.name q.name) (nat_eq r.value q.value)
      ((bytes_eq-Decides r.name q.name).1 (row.name ∙ kept_name k x y at kept ∙ sym row_q.name))
      (eq-eqb r.value q.value (row.value ∙ merging.shared k (slice_get_within ranges k x at) ∙ sym row_q.value))))
      only where
        only : (j : ℕ) (s : Row) → slice_get rows j ≡ Some s → is_like r s ≡ true → j ≡ kept_at k
        only j s at_s like = by_case (cases_eq j (kept_at k)) where
          by_case : (j ≡ kept_at k) ⊎ (j ≢ kept_at k) → j ≡ kept_at k
          by_case (inl same) = same
          by_case (inr other) =
              let tests = both (not s.excluded) (pointwise nat_eq r.name s.name && nat_eq r.value s.value) like in
              let equal = both (pointwise nat_eq r.name s.name) (nat_eq r.value s.value) tests.1 in
              let z = row_back j s at_s in
              let itself : kept_at j ≡ j = eqb-true (kept_at j) j (sym (excluded_is j z.0 s z.1 z.2) ∙ tests.0) in
              let names : z.0.name ≡ y.name = sym z.2.name ∙ sym ((bytes_eq-Decides r.name s.name).0 equal.0) ∙ row.name ∙ kept_name k x y at kept in
              let values : instance_at j ≡ instance_at (kept_at k) =
              sym z.2.value ∙ sym (eqb-true r.value s.value equal.1) ∙ row.value ∙ merging.shared k (slice_get_within ranges k x at) in
              absurd (merging.different j (kept_at k) z.0 y z.1 kept names itself (kept_itself k x at) other values)

  -- so there is no fault
  pub no_fault : index_fault rows ≡ None
  no_fault = no_fault_in rows rows (λ k r at.
      let x = row_back k r at in
      let y = kept_range k x.0 x.1 in
      let q = are.each (kept_at k) y.0 y.1 in
      (q.0, like_kept k x.0 y.0 r q.0 x.1 y.1 x.2 q.1 q.2))

  -- ---- owners

  -- the owner of a range's header, where this range is kept for it
  abbrev owner : RangeOf → RangeOf → Owner
  owner x y = record { unit = x.unit; file = x.file; owner_unit = y.unit; owner_file = y.file }

  -- that of a header, given by ranges
  owner_by : (x y : RangeOf) (r q : Row) → r.unit ≡ x.unit → r.file ≡ x.file → q.unit ≡ y.unit → q.file ≡ y.file → owned_by r (Some q) ≡ owner x y
  owner_by x y r q unit file owner_unit owner_file =
      ap (λ z. let o : Owner = record { unit = z; file = r.file; owner_unit = q.unit; owner_file = q.file } in o) unit
      ∙ ap (λ z. let o : Owner = record { unit = x.unit; file = z; owner_unit = q.unit; owner_file = q.file } in o) file
      ∙ ap (λ z. let o : Owner = record { unit = x.unit; file = x.file; owner_unit = z; owner_file = q.file } in o) owner_unit
      ∙ ap (λ z. let o : Owner = record { unit = x.unit; file = x.file; owner_unit = y.unit; owner_file = z } in o) owner_file

  -- a header that is excluded and one that is not
  owner_cases : (k : ℕ) (x y : RangeOf) (r q : Row) → At k x → At (kept_at k) y → IsImageRow g k x r → slice_get rows (kept_at k) ≡ Some q
      → IsImageRow g (kept_at k) y q → (b : Bool) → r.excluded ≡ b → owner_in rows r ≡ owner x y
  owner_cases k x y r q at kept row at_q row_q true is =
      ap (λ z. cond z (owned_by r (the_one (is_like r) rows)) (owned_by r (Some r))) is
      ∙ ap (λ z. owned_by r (only_of z)) (like_kept k x y r q at kept row at_q row_q) ∙ owner_by x y r q row.unit row.file row_q.unit row_q.file
  owner_cases k x y r q at kept row at_q row_q false is =
      let itself : kept_at k ≡ k = eqb-true (kept_at k) k (sym (excluded_is k x r at row) ∙ ap not is) in
      let same : x ≡ y = some_is (slice_get ranges k) x y at (ap (slice_get ranges) (sym itself) ∙ kept) in
      ap (λ z. cond z (owned_by r (the_one (is_like r) rows)) (owned_by r (Some r))) is ∙ owner_by x x r r row.unit row.file row.unit row.file
      ∙ ap (owner x) same

  -- each header stands for the kept range of its range
  owner_is : (k : ℕ) (x y : RangeOf) → At k x → At (kept_at k) y → slice_get (owners_of rows) k ≡ Some (owner x y)
  owner_is k x y at kept =
      let r = are.each k x at in
      let q = are.each (kept_at k) y kept in
      get_map (owner_in rows) rows k r.0 r.1 ∙ ap (λ z. Some z) (owner_cases k x y r.0 q.0 at kept r.2 q.1 q.2 r.0.excluded refl)

  -- the owner at a place, and the two ranges that it tells
  abbrev IsOwner : ℕ → Owner → RangeOf → RangeOf → Type 0
  IsOwner j o x y = At j x × At (kept_at j) y × (owner x y ≡ o)

  owner_back : (j : ℕ) (o : Owner) → slice_get (owners_of rows) j ≡ Some o → (x : RangeOf) × (y : RangeOf) × IsOwner j o x y
  owner_back j o at =
      let r = get_unmap (owner_in rows) rows j o at in
      let x = row_back j r.0 r.1 in
      let y = kept_range j x.0 x.1 in
      (x.0, y.0, (x.1, y.1, some_is (slice_get (owners_of rows) j) (owner x.0 y.0) o (owner_is j x.0 y.0 x.1 y.1) at))

  -- a header is found by its unit and its file
  pub stands : (k : ℕ) (x y : RangeOf) → slice_get ranges k ≡ Some x → slice_get ranges (slice_index g.kept k) ≡ Some y
      → stands_for (owners_of rows) x.unit x.file ≡ Some (record { unit = x.unit; file = x.file; owner_unit = y.unit; owner_file = y.file })
  stands k x y at kept =
      the_one_is (is_header x.unit x.file) (owners_of rows) k (owner x y) (owner_is k x y at kept)
      (both_true (nat_eq x.unit x.unit) (nat_eq x.file x.file) (eq-eqb x.unit x.unit refl) (eq-eqb x.file x.file refl))
      (λ j o at_o passes.
      let z = owner_back j o at_o in
      let tests = both (nat_eq x.unit o.unit) (nat_eq x.file o.file) passes in
      let unit : z.0.unit ≡ x.unit = ap (λ (w : Owner). w.unit) z.2.2 ∙ sym (eqb-true x.unit o.unit tests.0) in
      let file : z.0.file ≡ x.file = ap (λ (w : Owner). w.file) z.2.2 ∙ sym (eqb-true x.file o.file tests.1) in
      lawful.one_header x.unit x.file j k (z.0, z.2.0, unit, file) (x, at, refl, refl))

  -- ---- numbers

  -- ranges that one unit and one file tell are one
  one_place : (j k : ℕ) (x y : RangeOf) → At j x → At k y → x.unit ≡ y.unit → x.file ≡ y.file → j ≡ k
  one_place j k x y at_x at_y unit file = lawful.one_header y.unit y.file j k (x, at_x, unit, file) (y, at_y, refl, refl)

  -- of one unit, the header of the range at j alone stands for the range that is kept for it, and for the one at k
  same_is : (j k : ℕ) (x y p q : RangeOf) → At j x → At (kept_at j) y → At k p → At (kept_at k) q → kept_at j ≡ kept_at k
      → the_one (is_same x.unit (owner p q)) (owners_of rows) ≡ Some (owner x y)
  same_is j k x y p q at kept at_p kept_p e =
      let one : q ≡ y = some_is (slice_get ranges (kept_at j)) q y (ap (slice_get ranges) e ∙ kept_p) kept in
      the_one_is (is_same x.unit (owner p q)) (owners_of rows) j (owner x y) (owner_is j x y at kept)
      (both_true (nat_eq x.unit x.unit) (nat_eq q.unit y.unit && nat_eq q.file y.file) (eq-eqb x.unit x.unit refl)
      (both_true (nat_eq q.unit y.unit) (nat_eq q.file y.file) (eq-eqb q.unit y.unit (ap (λ (z : RangeOf). z.unit) one))
      (eq-eqb q.file y.file (ap (λ (z : RangeOf). z.file) one))))
      (λ l o at_o passes.
      let z = owner_back l o at_o in
      let tests = both (nat_eq x.unit o.unit) (nat_eq q.unit o.owner_unit && nat_eq q.file o.owner_file) passes in
      let owners = both (nat_eq q.unit o.owner_unit) (nat_eq q.file o.owner_file) tests.1 in
      let is = z.2.2 in
      let place : kept_at l ≡ kept_at k = one_place (kept_at l) (kept_at k) z.1 q z.2.1 kept_p
      (ap (λ (w : Owner). w.owner_unit) is ∙ sym (eqb-true q.unit o.owner_unit owners.0))
      (ap (λ (w : Owner). w.owner_file) is ∙ sym (eqb-true q.file o.owner_file owners.1)) in
      merging.apart l j z.0 x z.2.0 at (ap (λ (w : Owner). w.unit) is ∙ sym (eqb-true x.unit o.unit tests.0)) (place ∙ sym e))

  -- a file of the unit of p is the file of the unit of x whose range has the same kept one
  number_at : (j k : ℕ) (x p : RangeOf) → At j x → At k p → kept_at j ≡ kept_at k → (file : ℕ) → p.file ≡ file
      → new_number (owners_of rows) p.unit x.unit file ≡ x.file
  number_at j k x p at at_p e zero is = absurd (lawful.no_zero p.unit k (p, at_p, refl, is))
  number_at j k x p at at_p e (suc file) is =
      let y = kept_range j x at in
      let q = kept_range k p at_p in
      ap (λ z. number_for (owners_of rows) x.unit (stands_for (owners_of rows) p.unit z)) (sym is)
      ∙ ap (number_for (owners_of rows) x.unit) (stands k p q.0 at_p q.1) ∙ ap file_or_none (same_is j k x y.0 p q.0 at y.1 at_p q.1 e)

  abbrev Same : ℕ → ℕ → Type 0
  Same a b = kept_at a ≡ kept_at b

  -- one range has one kept range
  same_kept : (j k : ℕ) → (j ≡ k) ⊎ Same j k → kept_at j ≡ kept_at k
  same_kept j k (inl e) = ap kept_at e
  same_kept j k (inr e) = e

  -- a number that agrees with one of another unit is what that becomes
  number_is : (unit other m n : ℕ) → NumbersAgree ranges Same unit other m n → new_number (owners_of rows) other unit n ≡ m
  number_is unit other m n (inl none) = ap (new_number (owners_of rows) other unit) none.1 ∙ sym none.0
  number_is unit other m n (inr (j, k, (x, at, x_unit, x_file), (p, at_p, p_unit, p_file), e)) =
      ap (λ z. new_number (owners_of rows) z unit n) (sym p_unit) ∙ ap (λ z. new_number (owners_of rows) p.unit z n) (sym x_unit)
      ∙ number_at j k x p at at_p (same_kept j k e) n p_file ∙ x_file

  -- likewise of all numbers
  numbers_are : (unit other : ℕ) (ms ns : List ℕ) → AllAgree ranges Same unit other ms ns → map (new_number (owners_of rows) other unit) ns ≡ ms
  numbers_are unit other [] [] agree = refl
  numbers_are unit other [] (n ∷ ns) agree = absurd agree
  numbers_are unit other (m ∷ ms) [] agree = absurd agree
  numbers_are unit other (m ∷ ms) (n ∷ ns) agree =
      ap (λ z. z ∷ map (new_number (owners_of rows) other unit) ns) (number_is unit other m n agree.0) ∙ ap (λ z. m ∷ z) (numbers_are unit other ms ns agree.1)

  -- the numbers of a kept range, carried over into the unit of another, are that one's
  pub numbers : (k : ℕ) (x y : RangeOf) → slice_get ranges k ≡ Some x → slice_get ranges (slice_index g.kept k) ≡ Some y → slice_index g.kept k ≢ k
      → map (new_number (owners_of rows) y.unit x.unit) y.numbers ≡ x.numbers
  numbers k x y at kept other =
      let pair = merging.paired k (slice_get_within ranges k x at) other in
      let first : pair.first ≡ x = some_is (slice_get ranges k) pair.first x pair.first_is at in
      let second : pair.second ≡ y = some_is (slice_get ranges (kept_at k)) pair.second y pair.second_is kept in
      numbers_are x.unit y.unit x.numbers y.numbers
      (subst (λ (z : RangeOf). AllAgree ranges Same x.unit z.unit x.numbers z.numbers) second
      (subst (λ (z : RangeOf). AllAgree ranges Same z.unit pair.second.unit z.numbers pair.second.numbers) first pair.agree))
