-- The map of a unit's files by the headers that open their ranges, and its tables of new numbers.
use Rattle.std.proofs.Common.{◌≡◌, ℕ, suc, ◌⊎◌, ◌&&◌, Bool, true, false, cond, List, [], ◌∷◌, ◌++◌, length, Option, Some, None, refl, sym, ap, ◌∙◌, inl, inr, append-nil}
use Rattle.std.specs.Prelude.{nat_eq}
use Rattle.std.specs.List.{filter}
use Rattle.std.proofs.lemmas.Bool.{eq-eqb, eqb-true}
use Rattle.std.proofs.lemmas.List.Elements.{filter-append}
use Rattle.std.proofs.lemmas.Option.{same_Some}
use Rattle.unit_outlines.specs.declared.outline_types.UnitSpan.{UnitSpan}
use Rattle.unit_index.specs.declared.owner.Owner.{Owner}
use Rattle.unit_index.specs.declared.owner.TheConstants.{NO_FILE}
use Rattle.unit_index.specs.Owners.{only_of, file_or_none}
use Rattle.unit_index.specs.Indexes.{AsMany}
use Rattle.unit_index.specs.Filling.{owns, file_of, more_files}
use Rattle.unit_index.proofs.Tests.{which, both, both_true, not_both, none_is}

-- ---- one header more

file_push : (xs : List Owner) (o : Owner) → file_of (xs ++ o ∷ []) ≡ Some (more_files (file_of xs) o.file)
file_push [] o = refl
file_push (k ∷ []) o = refl
file_push (k ∷ l ∷ ks) o = refl

-- a header stands for the range that is asked for exactly where its opener is that header
owned_with : (o : Owner) (a b : ℕ) (t : Bool) → (nat_eq o.owner_unit a && nat_eq o.owner_file b) ≡ t → owns a b o ≡ t
owned_with o a b true t =
    let c = both (nat_eq o.owner_unit a) (nat_eq o.owner_file b) t in
    both_true (nat_eq a o.owner_unit) (nat_eq b o.owner_file) (eq-eqb a o.owner_unit (sym (eqb-true o.owner_unit a c.0))) (eq-eqb b o.owner_file (sym (eqb-true o.owner_file b c.1)))
owned_with o a b false t = by_case (which (owns a b o)) where
  by_case : (owns a b o ≡ true) ⊎ (owns a b o ≡ false) → owns a b o ≡ false
  by_case (inr h) = h
  by_case (inl h) =
      let c = both (nat_eq a o.owner_unit) (nat_eq b o.owner_file) h in
      not_both (nat_eq o.owner_unit a && nat_eq o.owner_file b)
      (both_true (nat_eq o.owner_unit a) (nat_eq o.owner_file b) (eq-eqb o.owner_unit a (sym (eqb-true a o.owner_unit c.0))) (eq-eqb o.owner_file b (sym (eqb-true b o.owner_file c.1)))) t

filtered : (os : List Owner) (o : Owner) (a b : ℕ) (t : Bool) → owns a b o ≡ t → filter (owns a b) (os ++ o ∷ []) ≡ filter (owns a b) os ++ cond t (o ∷ []) []
filtered os o a b t e = filter-append (owns a b) os (o ∷ []) ∙ ap (λ z. filter (owns a b) os ++ cond z (o ∷ []) []) e

-- the look-up after one more header
pub file_more : (os : List Owner) (o : Owner) (a b : ℕ) (old here new : Option ℕ) (w : ℕ)
    → w ≡ more_files here o.file → new ≡ cond (nat_eq o.owner_unit a && nat_eq o.owner_file b) (Some w) old
    → old ≡ file_of (filter (owns a b) os) → here ≡ file_of (filter (owns o.owner_unit o.owner_file) os)
    → new ≡ file_of (filter (owns a b) (os ++ o ∷ []))
file_more os o a b old here new w we e p ph = by_case (which (nat_eq o.owner_unit a && nat_eq o.owner_file b)) where
  by_case : ((nat_eq o.owner_unit a && nat_eq o.owner_file b) ≡ true) ⊎ ((nat_eq o.owner_unit a && nat_eq o.owner_file b) ≡ false) → new ≡ file_of (filter (owns a b) (os ++ o ∷ []))
  by_case (inl t) =
      let c = both (nat_eq o.owner_unit a) (nat_eq o.owner_file b) t in
      let ea : o.owner_unit ≡ a = eqb-true o.owner_unit a c.0 in
      let eb : o.owner_file ≡ b = eqb-true o.owner_file b c.1 in
      e ∙ ap (λ z. cond z (Some w) old) t
      ∙ ap (λ z. Some z) (we ∙ ap (λ z. more_files z o.file) (ph ∙ ap (λ z. file_of (filter (owns z o.owner_file) os)) ea ∙ ap (λ z. file_of (filter (owns a z) os)) eb))
      ∙ sym (file_push (filter (owns a b) os) o)
      ∙ ap file_of (sym (filtered os o a b true (owned_with o a b true t)))
  by_case (inr t) =
      e ∙ ap (λ z. cond z (Some w) old) t ∙ p
      ∙ ap file_of (sym (append-nil (filter (owns a b) os)))
      ∙ ap file_of (sym (filtered os o a b false (owned_with o a b false t)))

-- what is found is the file of the one header
pub file_found : (os : List Owner) (found : Option ℕ) (file : ℕ) → found ≡ file_of os → found ≡ Some file → file ≡ file_or_none (only_of os)
file_found [] found file e f = absurd (none_is file (sym e ∙ f))
file_found (o ∷ []) found file e f = sym (same_Some o.file file (sym e ∙ f))
file_found (o ∷ p ∷ os) found file e f = sym (same_Some NO_FILE file (sym e ∙ f))

pub file_missing : (os : List Owner) (found : Option ℕ) → found ≡ file_of os → found ≡ None → NO_FILE ≡ file_or_none (only_of os)
file_missing [] found e f = refl
file_missing (o ∷ []) found e f = absurd (none_is o.file (sym f ∙ e))
file_missing (o ∷ p ∷ os) found e f = absurd (none_is NO_FILE (sym f ∙ e))

-- ---- as many

pub as_many_length : (spans : List UnitSpan) (all : List (List Owner)) → AsMany spans all → length all ≡ length spans
as_many_length [] [] a = refl
as_many_length [] (os ∷ all) a = absurd a
as_many_length (s ∷ spans) [] a = absurd a
as_many_length (s ∷ spans) (os ∷ all) a = ap suc (as_many_length spans all a.1)
