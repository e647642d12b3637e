-- In an index each owner stands at its unit and number, so what is looked for among all owners is found at its place in one unit.
use Rattle.std.proofs.Common.{◌≡◌, ◌≢◌, ℕ, zero, suc, ◌+◌, ◌-◌, ◌<◌, ◌⊎◌, ◌&&◌, Bool, true, false, cond, List, [], ◌∷◌, ◌++◌, Option, Some, None, refl, sym, ap, ◌∙◌, arith, inl, inr, subst, length, map, append-nil}
use Rattle.std.specs.Prelude.{slice_get, nat_eq, unwrap_or}
use Rattle.std.specs.List.{filter}
use Rattle.std.specs.Option.{option_map}
use Rattle.std.proofs.lemmas.Bool.{eq-eqb, eqb-true}
use Rattle.std.proofs.lemmas.List.{map-append}
use Rattle.std.proofs.lemmas.List.Elements.{filter-append}
use Rattle.std.proofs.lemmas.Option.{slice_get-map}
use Rattle.stab_symbols.specs.Files.{new_file}
use Rattle.unit_outlines.specs.declared.outline_types.HeaderMark.{HeaderMark}
use Rattle.unit_outlines.specs.declared.outline_types.UnitSpan.{UnitSpan}
use Rattle.unit_index.specs.declared.owner.Owner.{Owner}
use Rattle.unit_index.specs.declared.owner.TheConstants.{NO_FILE}
use Rattle.unit_index.specs.declared.owner.HeaderAt.{HeaderAt}
use Rattle.unit_index.specs.Owners.{Row, row_at, unit_rows, rows_from, only_of, the_one, is_like, owned_by, owner_in, is_header, stands_for, is_same, file_or_none, number_for, new_number}
use Rattle.unit_index.specs.Indexes.{all_owners, AreNumbered, AreInPlace, AsMany, owners_by, opener}
use Rattle.unit_index.specs.Filling.{owns, number_of, numbers_of, owners_at}
use Rattle.unit_index.proofs.Tests.{which, both, both_true, map_length}

-- ---- an index is in place

owner_at : (all : List Row) (r : Row) → ((owner_in all r).unit ≡ r.unit) × ((owner_in all r).file ≡ r.file)
owner_at all r = by_case r.excluded (the_one (is_like r) all) where
  by_case : (b : Bool) (o : Option Row) → ((cond b (owned_by r o) (owned_by r (Some r))).unit ≡ r.unit) × ((cond b (owned_by r o) (owned_by r (Some r))).file ≡ r.file)
  by_case false o = (refl, refl)
  by_case true None = (refl, refl)
  by_case true (Some k) = (refl, refl)

rows_numbered : (all : List Row) (unit file : ℕ) (hs : List HeaderMark) → AreNumbered unit file (map (owner_in all) (unit_rows unit file hs))
rows_numbered all unit file [] = tt
rows_numbered all unit file (h ∷ hs) = ((owner_at all (row_at unit file h)).0, (owner_at all (row_at unit file h)).1, rows_numbered all unit (file + 1) hs)

pub owners_in_place : (all : List Row) (unit : ℕ) (spans : List UnitSpan) → AreInPlace unit (owners_by all unit spans)
owners_in_place all unit [] = tt
owners_in_place all unit (s ∷ spans) = (rows_numbered all unit 1 s.headers, owners_in_place all (unit + 1) spans)

-- each unit has as many owners as headers
rows_length : (unit file : ℕ) (hs : List HeaderMark) → length (unit_rows unit file hs) ≡ length hs
rows_length unit file [] = refl
rows_length unit file (h ∷ hs) = ap suc (rows_length unit (file + 1) hs)

pub as_many_by : (all : List Row) (unit : ℕ) (spans : List UnitSpan) → AsMany spans (owners_by all unit spans)
as_many_by all unit [] = tt
as_many_by all unit (s ∷ spans) = (map_length (owner_in all) (unit_rows unit 1 s.headers) ∙ rows_length unit 1 s.headers, as_many_by all (unit + 1) spans)

-- the owners by units are those of all headers
pub all_by_units : (all : List Row) (unit : ℕ) (spans : List UnitSpan) → all_owners (owners_by all unit spans) ≡ map (owner_in all) (rows_from unit spans)
all_by_units all unit [] = refl
all_by_units all unit (s ∷ spans) =
    ap (λ z. map (owner_in all) (unit_rows unit 1 s.headers) ++ z) (all_by_units all (unit + 1) spans)
    ∙ sym (map-append (owner_in all) (unit_rows unit 1 s.headers) (rows_from (unit + 1) spans))

-- ---- a test that owners of one unit alone pass

none_of : (test : Owner → Bool) (u w f : ℕ) → ((o : Owner) → test o ≡ true → o.unit ≡ u) → (os : List Owner) → AreNumbered w f os → w ≢ u → filter test os ≡ []
none_of test u w f only [] a n = refl
none_of test u w f only (o ∷ os) a n = by_case (which (test o)) (none_of test u w (f + 1) only os a.2 n) where
  by_case : (test o ≡ true) ⊎ (test o ≡ false) → filter test os ≡ [] → filter test (o ∷ os) ≡ []
  by_case (inl t) more = absurd (n (sym a.0 ∙ only o t))
  by_case (inr t) more = ap (λ b. cond b (o ∷ filter test os) (filter test os)) t ∙ more

none_behind : (test : Owner → Bool) (u w : ℕ) → ((o : Owner) → test o ≡ true → o.unit ≡ u) → (oss : List (List Owner)) → AreInPlace w oss → u < w → filter test (all_owners oss) ≡ []
none_behind test u w only [] a l = refl
none_behind test u w only (os ∷ oss) a l =
    filter-append test os (all_owners oss)
    ∙ ap (λ z. z ++ filter test (all_owners oss)) (none_of test u w 1 only os a.0 (λ e. absurd (omega arith)))
    ∙ none_behind test u (w + 1) only oss a.1 (omega arith)

-- finds them in that unit
in_unit : (test : Owner → Bool) (w k : ℕ) → ((o : Owner) → test o ≡ true → o.unit ≡ w + k) → (oss : List (List Owner)) → AreInPlace w oss
    → filter test (all_owners oss) ≡ filter test (owners_at (slice_get oss k))
in_unit test w k only [] a = refl
in_unit test w zero only (os ∷ oss) a =
    let e : w + zero ≡ w = omega arith in
    filter-append test os (all_owners oss)
    ∙ ap (λ z. filter test os ++ z) (none_behind test w (w + 1) (λ o t. only o t ∙ e) oss a.1 (omega arith))
    ∙ append-nil (filter test os)
in_unit test w (suc k) only (os ∷ oss) a =
    let e : w + suc k ≡ w + 1 + k = omega arith in
    filter-append test os (all_owners oss)
    ∙ ap (λ z. z ++ filter test (all_owners oss)) (none_of test (w + suc k) w 1 only os a.0 (λ q. absurd (omega arith)))
    ∙ in_unit test (w + 1) k (λ o t. only o t ∙ e) oss a.1

-- the owners of a unit are numbered
numbered_from : (w k : ℕ) (oss : List (List Owner)) → AreInPlace w oss → AreNumbered (w + k) 1 (owners_at (slice_get oss k))
numbered_from w k [] a = tt
numbered_from w zero (os ∷ oss) a = let e : w ≡ w + zero = omega arith in subst (λ z. AreNumbered z 1 os) e a.0
numbered_from w (suc k) (os ∷ oss) a = let e : w + 1 + k ≡ w + suc k = omega arith in subst (λ z. AreNumbered z 1 (owners_at (slice_get oss k))) e (numbered_from (w + 1) k oss a.1)

numbered_at : (oss : List (List Owner)) → AreInPlace 0 oss → (unit : ℕ) → AreNumbered unit 1 (owners_at (slice_get oss unit))
numbered_at oss a unit = let e : zero + unit ≡ unit = omega arith in subst (λ z. AreNumbered z 1 (owners_at (slice_get oss unit))) e (numbered_from 0 unit oss a)

-- a test on the unit
in_its_unit : (unit : ℕ) (rest : Owner → Bool) (oss : List (List Owner)) → AreInPlace 0 oss
    → filter (λ o. nat_eq unit o.unit && rest o) (all_owners oss) ≡ filter (λ o. nat_eq unit o.unit && rest o) (owners_at (slice_get oss unit))
in_its_unit unit rest oss a =
    let e : zero + unit ≡ unit = omega arith in
    in_unit (λ o. nat_eq unit o.unit && rest o) 0 unit (λ o t. sym (eqb-true unit o.unit (both (nat_eq unit o.unit) (rest o) t).0) ∙ sym e) oss a

-- ---- the header with a number

none_later : (u m f : ℕ) (os : List Owner) → m < f → AreNumbered u f os → filter (is_header u m) os ≡ []
none_later u m f [] l a = refl
none_later u m f (o ∷ os) l a = by_case (which (is_header u m o)) (none_later u m (f + 1) os (omega arith) a.2) where
  by_case : (is_header u m o ≡ true) ⊎ (is_header u m o ≡ false) → filter (is_header u m) os ≡ [] → filter (is_header u m) (o ∷ os) ≡ []
  by_case (inl t) more =
      let b = both (nat_eq u o.unit) (nat_eq m o.file) t in
      let e : m ≡ o.file = eqb-true m o.file b.1 in
      let g : o.file ≡ f = a.1 in absurd (omega arith)
  by_case (inr t) more = ap (λ b. cond b (o ∷ filter (is_header u m) os) (filter (is_header u m) os)) t ∙ more

find_from : (u f : ℕ) (os : List Owner) (g : ℕ) → AreNumbered u f os → the_one (is_header u (f + g)) os ≡ slice_get os g
find_from u f [] g a = refl
find_from u f (o ∷ os) zero a =
    let e : o.file ≡ f + zero = (let g : o.file ≡ f = a.1 in omega arith) in
    let t : is_header u (f + zero) o ≡ true = both_true (nat_eq u o.unit) (nat_eq (f + zero) o.file) (eq-eqb u o.unit (sym a.0)) (eq-eqb (f + zero) o.file (sym e)) in
    ap (λ b. only_of (cond b (o ∷ filter (is_header u (f + zero)) os) (filter (is_header u (f + zero)) os))) t
    ∙ ap (λ z. only_of (o ∷ z)) (none_later u (f + zero) (f + 1) os (omega arith) a.2)
find_from u f (o ∷ os) (suc g) a = by_case (which (is_header u (f + suc g) o)) (find_from u (f + 1) os g a.2) where
  by_case : (is_header u (f + suc g) o ≡ true) ⊎ (is_header u (f + suc g) o ≡ false) → the_one (is_header u (f + 1 + g)) os ≡ slice_get os g → the_one (is_header u (f + suc g)) (o ∷ os) ≡ slice_get os g
  by_case (inl t) more =
      let b = both (nat_eq u o.unit) (nat_eq (f + suc g) o.file) t in
      let e : f + suc g ≡ o.file = eqb-true (f + suc g) o.file b.1 in
      let h : o.file ≡ f = a.1 in absurd (omega arith)
  by_case (inr t) more =
      let e : f + suc g ≡ f + 1 + g = omega arith in
      ap (λ b. only_of (cond b (o ∷ filter (is_header u (f + suc g)) os) (filter (is_header u (f + suc g)) os))) t
      ∙ ap (λ z. the_one (is_header u z) os) e ∙ more

pub stands_at : (oss : List (List Owner)) → AreInPlace 0 oss → (unit file : ℕ) → stands_for (all_owners oss) unit (suc file) ≡ slice_get (owners_at (slice_get oss unit)) file
stands_at oss a unit file =
    let f : suc file ≡ 1 + file = omega arith in
    ap only_of (in_its_unit unit (λ o. nat_eq (suc file) o.file) oss a)
    ∙ ap (λ z. the_one (is_header unit z) (owners_at (slice_get oss unit))) f
    ∙ find_from unit 1 (owners_at (slice_get oss unit)) file (numbered_at oss a unit)

pub none_zero : (oss : List (List Owner)) → AreInPlace 0 oss → (unit : ℕ) → stands_for (all_owners oss) unit 0 ≡ None
none_zero oss a unit =
    ap only_of (in_its_unit unit (λ o. nat_eq 0 o.file) oss a
    ∙ none_later unit 0 1 (owners_at (slice_get oss unit)) (omega arith) (numbered_at oss a unit))

-- ---- the header that a header stands for

-- the main source stands for none
pub stands_zero : (oss : List (List Owner)) → AreInPlace 0 oss → (unit file : ℕ) → file ≡ 0 → None ≡ option_map opener (stands_for (all_owners oss) unit file)
stands_zero oss a unit file e = ap (option_map opener) (sym (ap (stands_for (all_owners oss) unit) e ∙ none_zero oss a unit))

-- a header stands for what its owner says
pub stands_found : (oss : List (List Owner)) → AreInPlace 0 oss → (unit file : ℕ) (found : Option HeaderAt) (o : Option Owner) → file ≢ 0
    → o ≡ slice_get (owners_at (slice_get oss unit)) (file - 1) → found ≡ option_map opener o → found ≡ option_map opener (stands_for (all_owners oss) unit file)
stands_found oss a unit zero found o n e q = absurd (n refl)
stands_found oss a unit (suc g) found o n e q =
    let h : suc g - 1 ≡ g = omega arith in
    q ∙ ap (option_map opener) (e ∙ ap (slice_get (owners_at (slice_get oss unit))) h ∙ sym (stands_at oss a unit g))

-- a unit that is not there has no headers
pub stands_nowhere : (oss : List (List Owner)) → AreInPlace 0 oss → (unit file : ℕ) → slice_get oss unit ≡ None → None ≡ option_map opener (stands_for (all_owners oss) unit file)
stands_nowhere oss a unit zero none = stands_zero oss a unit zero refl
stands_nowhere oss a unit (suc g) none = ap (option_map opener) (sym (stands_at oss a unit g ∙ ap (λ z. slice_get (owners_at z) g) none))

-- ---- new numbers

-- within a unit the test on the unit always passes
same_tests : (u f : ℕ) (k : Owner) (os : List Owner) → AreNumbered u f os → filter (is_same u k) os ≡ filter (owns k.owner_unit k.owner_file) os
same_tests u f k [] a = refl
same_tests u f k (o ∷ os) a =
    let t : nat_eq u o.unit ≡ true = eq-eqb u o.unit (sym a.0) in
    ap (λ b. cond (b && (nat_eq k.owner_unit o.owner_unit && nat_eq k.owner_file o.owner_file)) (o ∷ filter (is_same u k) os) (filter (is_same u k) os)) t
    ∙ ap (λ z. cond (owns k.owner_unit k.owner_file o) (o ∷ z) z) (same_tests u (f + 1) k os a.2)

number_at : (oss : List (List Owner)) → AreInPlace 0 oss → (u : ℕ) (k : Owner) → file_or_none (the_one (is_same u k) (all_owners oss)) ≡ number_of (owners_at (slice_get oss u)) k
number_at oss a u k =
    ap (λ z. file_or_none (only_of z))
    (in_its_unit u (λ o. nat_eq k.owner_unit o.owner_unit && nat_eq k.owner_file o.owner_file) oss a
    ∙ same_tests u 1 k (owners_at (slice_get oss u)) (numbered_at oss a u))

-- the new number of a file is that of the table of its unit
pub number_in_table : (oss : List (List Owner)) → AreInPlace 0 oss → (kept u file : ℕ)
    → new_number (all_owners oss) kept u file ≡ new_file (numbers_of (owners_at (slice_get oss u)) (owners_at (slice_get oss kept))) file
number_in_table oss a kept u zero = refl
number_in_table oss a kept u (suc g) =
    ap (number_for (all_owners oss) u) (stands_at oss a kept g) ∙ by_case (slice_get (owners_at (slice_get oss kept)) g) refl where
      by_case : (o : Option Owner) → slice_get (owners_at (slice_get oss kept)) g ≡ o
          → number_for (all_owners oss) u (slice_get (owners_at (slice_get oss kept)) g)
          ≡ unwrap_or (slice_get (map (number_of (owners_at (slice_get oss u))) (owners_at (slice_get oss kept))) g) NO_FILE
      by_case None e =
          ap (number_for (all_owners oss) u) e
          ∙ ap (λ z. unwrap_or z NO_FILE) (sym (slice_get-map (number_of (owners_at (slice_get oss u))) (owners_at (slice_get oss kept)) g ∙ ap (option_map (number_of (owners_at (slice_get oss u)))) e))
      by_case (Some k) e =
          ap (number_for (all_owners oss) u) e ∙ number_at oss a u k
          ∙ ap (λ z. unwrap_or z NO_FILE) (sym (slice_get-map (number_of (owners_at (slice_get oss u))) (owners_at (slice_get oss kept)) g ∙ ap (option_map (number_of (owners_at (slice_get oss u)))) e))
