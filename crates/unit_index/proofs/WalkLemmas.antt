-- Walks over the headers of a unit and over units: what is done and what is left make the whole.
use Rattle.std.proofs.Common.{◌≡◌, ℕ, ◌+◌, ◌<◌, ◌≤◌, Bool, true, false, cond, List, [], ◌∷◌, ◌++◌, length, get_or, drop, Option, Some, None, Result, Err, refl, sym, ap, ◌∙◌, subst, map, append_assoc, append-nil}
use Rattle.std.specs.List.{filter}
use Rattle.std.proofs.lemmas.Option.{none-some}
use Rattle.st_base.specs.declared.fault.Fault.{Fault}
use Rattle.st_base.specs.declared.fault.Refused.{Refused}
use Rattle.st_base.specs.declared.fault.Refused.TheVariants as refused
use Rattle.st_base.specs.declared.fault.TheConstants.{NO_HEADER, AMBIGUOUS}
use Rattle.st_base.specs.Faults.{fault_at}
use Rattle.unit_outlines.specs.declared.outline_types.HeaderMark.{HeaderMark}
use Rattle.unit_outlines.specs.declared.outline_types.UnitSpan.{UnitSpan}
use Rattle.stab_units.proofs.ListLemmas.{drop_item, drop_past}
use Rattle.unit_index.specs.declared.owner.Owner.{Owner}
use Rattle.unit_index.specs.Owners.{Row, row_at, unit_rows, rows_from, rows_of, is_like, owner_in, fault_by, fault_among}
use Rattle.unit_index.specs.Indexes.{owners_by}
use Rattle.unit_index.specs.LookingUp.{AreOwners, AreAllOwners}

-- ---- over the headers of a unit

pub rows_step : (whole before : List Row) (unit at : ℕ) (hs : List HeaderMark) (h : HeaderMark) → at < length hs → h ≡ get_or hs at h
    → before ++ unit_rows unit (at + 1) (drop at hs) ≡ whole → (before ++ row_at unit (at + 1) h ∷ []) ++ unit_rows unit (at + 1 + 1) (drop (at + 1) hs) ≡ whole
rows_step whole before unit at hs h l e w =
    append_assoc before (row_at unit (at + 1) h ∷ []) (unit_rows unit (at + 1 + 1) (drop (at + 1) hs))
    ∙ ap (λ z. before ++ unit_rows unit (at + 1) z) (sym (drop_item hs at h l e)) ∙ w

pub rows_end : (whole before : List Row) (unit at : ℕ) (hs : List HeaderMark) → length hs ≤ at → before ++ unit_rows unit (at + 1) (drop at hs) ≡ whole → before ≡ whole
rows_end whole before unit at hs l w = sym (append-nil before) ∙ ap (λ z. before ++ unit_rows unit (at + 1) z) (sym (drop_past hs at l)) ∙ w

-- ---- over units

pub units_step : (whole before : List Row) (spans : List UnitSpan) (at : ℕ) (s : UnitSpan) → at < length spans → s ≡ get_or spans at s
    → before ++ rows_from at (drop at spans) ≡ whole → (before ++ unit_rows at 1 s.headers) ++ rows_from (at + 1) (drop (at + 1) spans) ≡ whole
units_step whole before spans at s l e w =
    append_assoc before (unit_rows at 1 s.headers) (rows_from (at + 1) (drop (at + 1) spans))
    ∙ ap (λ z. before ++ rows_from at z) (sym (drop_item spans at s l e)) ∙ w

pub units_end : (whole before : List Row) (spans : List UnitSpan) (at : ℕ) → length spans ≤ at → before ++ rows_from at (drop at spans) ≡ whole → before ≡ whole
units_end whole before spans at l w = sym (append-nil before) ∙ ap (λ z. before ++ rows_from at z) (sym (drop_past spans at l)) ∙ w

-- ---- the first fault

fault-append : (all xs ys : List Row) → fault_among all xs ≡ None → fault_among all (xs ++ ys) ≡ fault_among all ys
fault-append all [] ys n = refl
fault-append all (r ∷ xs) ys n = by_case r.excluded (filter (is_like r) all) n (λ h. fault-append all xs ys h) where
  by_case : (b : Bool) (ks : List Row) → cond b (fault_by r ks (fault_among all xs)) (fault_among all xs) ≡ None
      → (fault_among all xs ≡ None → fault_among all (xs ++ ys) ≡ fault_among all ys) → cond b (fault_by r ks (fault_among all (xs ++ ys))) (fault_among all (xs ++ ys)) ≡ fault_among all ys
  by_case false ks h more = more h
  by_case true [] h more = absurd (none-some (fault_at NO_HEADER r.place) (sym h))
  by_case true (k ∷ []) h more = more h
  by_case true (k ∷ l ∷ ks) h more = absurd (none-some (fault_at AMBIGUOUS r.place) (sym h))

fault-front : (all xs ys : List Row) (f : Fault) → fault_among all xs ≡ Some f → fault_among all (xs ++ ys) ≡ Some f
fault-front all [] ys f n = absurd (none-some f n)
fault-front all (r ∷ xs) ys f n = by_case r.excluded (filter (is_like r) all) n (λ h. fault-front all xs ys f h) where
  by_case : (b : Bool) (ks : List Row) → cond b (fault_by r ks (fault_among all xs)) (fault_among all xs) ≡ Some f
      → (fault_among all xs ≡ Some f → fault_among all (xs ++ ys) ≡ Some f) → cond b (fault_by r ks (fault_among all (xs ++ ys))) (fault_among all (xs ++ ys)) ≡ Some f
  by_case false ks h more = more h
  by_case true [] h more = h
  by_case true (k ∷ []) h more = more h
  by_case true (k ∷ l ∷ ks) h more = h

-- the unit at a place has none
pub fault_next : (all : List Row) (spans : List UnitSpan) (at : ℕ) (s : UnitSpan) (hs : List HeaderMark) (whole : Option Fault) → at < length spans → s ≡ get_or spans at s → hs ≡ s.headers
    → fault_among all (unit_rows at 1 hs) ≡ None → fault_among all (rows_from at (drop at spans)) ≡ whole → fault_among all (rows_from (at + 1) (drop (at + 1) spans)) ≡ whole
fault_next all spans at s hs whole l e h n w =
    sym (fault-append all (unit_rows at 1 s.headers) (rows_from (at + 1) (drop (at + 1) spans)) (ap (λ z. fault_among all (unit_rows at 1 z)) (sym h) ∙ n))
    ∙ ap (λ z. fault_among all (rows_from at z)) (sym (drop_item spans at s l e)) ∙ w

-- the unit at a place has this one
pub fault_here : (all : List Row) (spans : List UnitSpan) (at : ℕ) (s : UnitSpan) (hs : List HeaderMark) (f : Fault) (whole : Option Fault) → at < length spans → s ≡ get_or spans at s → hs ≡ s.headers
    → fault_among all (unit_rows at 1 hs) ≡ Some f → fault_among all (rows_from at (drop at spans)) ≡ whole → whole ≡ Some f
fault_here all spans at s hs f whole l e h n w =
    sym w ∙ ap (λ z. fault_among all (rows_from at z)) (drop_item spans at s l e)
    ∙ fault-front all (unit_rows at 1 s.headers) (rows_from (at + 1) (drop (at + 1) spans)) f (ap (λ z. fault_among all (unit_rows at 1 z)) (sym h) ∙ n)

-- a unit's refusal is that of all
pub refused_here : (spans : List UnitSpan) (at : ℕ) (s : UnitSpan) (hs : List HeaderMark) (v : Result (List (List Owner)) Refused) (met passed : Refused) → at < length spans → s ≡ get_or spans at s
    → hs ≡ s.headers → v ≡ Err passed → passed ≡ met → AreOwners (rows_of spans) (unit_rows at 1 hs) (Err met)
    → fault_among (rows_of spans) (rows_from at (drop at spans)) ≡ fault_among (rows_of spans) (rows_of spans) → AreAllOwners spans v
refused_here spans at s hs v (refused.At f) passed l e h a b o w =
    subst (AreAllOwners spans) (sym (a ∙ ap (λ (z : Refused). let r : Result (List (List Owner)) Refused = Err z in r) b)) (fault_here (rows_of spans) spans at s hs f _ l e h o w)
refused_here spans at s hs v refused.Memory passed l e h a b o w =
    subst (AreAllOwners spans) (sym (a ∙ ap (λ (z : Refused). let r : Result (List (List Owner)) Refused = Err z in r) b)) tt

-- ---- owners by units

pub owners_next : (all : List Row) (spans : List UnitSpan) (at : ℕ) (s : UnitSpan) (hs : List HeaderMark) (done whole : List (List Owner)) (os : List Owner) → at < length spans → s ≡ get_or spans at s
    → hs ≡ s.headers → os ≡ map (owner_in all) (unit_rows at 1 hs) → done ++ owners_by all at (drop at spans) ≡ whole → (done ++ os ∷ []) ++ owners_by all (at + 1) (drop (at + 1) spans) ≡ whole
owners_next all spans at s hs done whole os l e h o w =
    append_assoc done (os ∷ []) (owners_by all (at + 1) (drop (at + 1) spans))
    ∙ ap (λ z. done ++ z ∷ owners_by all (at + 1) (drop (at + 1) spans)) (o ∙ ap (λ z. map (owner_in all) (unit_rows at 1 z)) h)
    ∙ ap (λ z. done ++ owners_by all at z) (sym (drop_item spans at s l e)) ∙ w
