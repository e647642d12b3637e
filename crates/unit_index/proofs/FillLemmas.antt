-- Filling at one place after another: what is filled and what filling makes of the rest are what it makes of the whole.
use Rattle.std.proofs.Common.{◌≡◌, ℕ, zero, suc, ◌+◌, ◌<◌, ◌≤◌, List, [], ◌∷◌, ◌++◌, length, get_or, take, drop, slice_set, Some, refl, sym, ap, ◌∙◌, arith, subst, append_assoc, append-nil}
use Rattle.std.specs.Prelude.{slice_get}
use Rattle.std.proofs.lemmas.List.{drop-set-lt, length-set, take_all}
use Rattle.stab_symbols.specs.declared.tree.Symbol.{Symbol}
use Rattle.unit_outlines.specs.declared.outline_types.HeaderMark.{HeaderMark}
use Rattle.unit_outlines.specs.declared.outline_types.UnitSpan.{UnitSpan}
use Rattle.stab_units.specs.declared.unit.HeaderFile.{HeaderFile}
use Rattle.stab_units.specs.declared.unit.Unit.{Unit}
use Rattle.stab_units.proofs.ListLemmas.{drop_item, drop_past}
use Rattle.unit_index.specs.declared.owner.Owner.{Owner}
use Rattle.unit_index.specs.Indexes.{AsMany}
use Rattle.unit_index.specs.Filling.{taken_from, all_taken, file_with, headers_with, files_with, unit_with, units_with, AreFull, AreLists}
use Rattle.unit_index.proofs.Tests.{drop_get, take_set, set_twice}

-- ---- a list in which an item is taken out and put back

module _ {A : Type 0} (xs ys zs : List A) (at : ℕ) (blank x : A) (out : ys ≡ slice_set xs at blank) (back : zs ≡ slice_set ys at x) where
  set_back : zs ≡ slice_set xs at x
  set_back = back ∙ ap (λ (z : List A). slice_set z at x) out ∙ set_twice xs at blank x

  pub back_length : (n : ℕ) → length xs ≡ n → length zs ≡ n
  back_length n l = ap length set_back ∙ length-set xs at x ∙ l

  pub back_rest : drop (at + 1) zs ≡ drop (at + 1) xs
  back_rest = ap (drop (at + 1)) set_back ∙ drop-set-lt (at + 1) xs at x (omega arith)

  pub back_front : at < length xs → take (at + 1) zs ≡ take at xs ++ x ∷ []
  back_front l = ap (take (at + 1)) set_back ∙ take_set xs at x l

pub set_length : {A : Type 0} (xs ys : List A) (at n : ℕ) (x : A) → ys ≡ slice_set xs at x → length xs ≡ n → length ys ≡ n
set_length xs ys at n x e l = ap length e ∙ length-set xs at x ∙ l

pub set_rest : {A : Type 0} (xs ys : List A) (at : ℕ) (x : A) → ys ≡ slice_set xs at x → drop (at + 1) ys ≡ drop (at + 1) xs
set_rest xs ys at x e = ap (drop (at + 1)) e ∙ drop-set-lt (at + 1) xs at x (omega arith)

-- the place of an item is within its list
pub get_within : {A : Type 0} (xs : List A) (at : ℕ) (x : A) → slice_get xs at ≡ Some x → at < length xs
get_within [] at x e = absurd cc
get_within (y ∷ xs) zero x e = omega arith
get_within (y ∷ xs) (suc at) x e = let l = get_within xs at x e in omega (arith, l)

-- ---- the files of a unit

-- the first `at` headers are filled
abbrev pub FilledUpTo : List HeaderFile → List HeaderMark → List (List Symbol) → ℕ → List HeaderFile → Type 0
FilledUpTo files hs lists at whole = take (at + 1) files ++ headers_with (drop at hs) (drop (at + 1) files) (drop at lists) ≡ whole

pub fill_start : (files : List HeaderFile) (hs : List HeaderMark) (lists : List (List Symbol)) → length files ≡ length hs + 1 → FilledUpTo files hs lists 0 (files_with hs files lists)
fill_start [] hs lists l = absurd (omega arith)
fill_start (f ∷ files) hs lists l = refl

pub fill_end : (files : List HeaderFile) (hs : List HeaderMark) (lists : List (List Symbol)) (at : ℕ) (whole : List HeaderFile) → length files ≡ length hs + 1 → length hs ≤ at
    → FilledUpTo files hs lists at whole → files ≡ whole
fill_end files hs lists at whole l past w =
    sym (take_all (at + 1) files (omega arith)) ∙ sym (append-nil (take (at + 1) files))
    ∙ ap (λ z. take (at + 1) files ++ z) (sym (ap (λ z. headers_with z (drop (at + 1) files) (drop at lists)) (drop_past hs at past) ∙ drop_past files (at + 1) (omega arith)))
    ∙ w

pub fill_step : (whole files out back : List HeaderFile) (hs : List HeaderMark) (lists left : List (List Symbol)) (at : ℕ) (f made blank : HeaderFile) (ss none : List Symbol) (h : HeaderMark)
    → at < length hs → slice_get files (at + 1) ≡ Some f → slice_get lists at ≡ Some ss → h ≡ get_or hs at h
    → out ≡ slice_set files (at + 1) blank → back ≡ slice_set out (at + 1) made → left ≡ slice_set lists at none → made ≡ file_with h.excluded ss f
    → FilledUpTo files hs lists at whole → FilledUpTo back hs left (at + 1) whole
fill_step whole files out back hs lists left at f made blank ss none h l ef es eh eo eb el m w =
    ap (λ z. z ++ headers_with (drop (at + 1) hs) (drop (at + 1 + 1) back) (drop (at + 1) left)) (back_front files out back (at + 1) blank made eo eb (get_within files (at + 1) f ef))
    ∙ append_assoc (take (at + 1) files) (made ∷ []) (headers_with (drop (at + 1) hs) (drop (at + 1 + 1) back) (drop (at + 1) left))
    ∙ ap (λ z. take (at + 1) files ++ made ∷ headers_with (drop (at + 1) hs) z (drop (at + 1) left)) (back_rest files out back (at + 1) blank made eo eb)
    ∙ ap (λ z. take (at + 1) files ++ made ∷ headers_with (drop (at + 1) hs) (drop (at + 1 + 1) files) z) (set_rest lists left at none el)
    ∙ ap (λ z. take (at + 1) files ++ z ∷ headers_with (drop (at + 1) hs) (drop (at + 1 + 1) files) (drop (at + 1) lists)) m
    ∙ ap (λ z. take (at + 1) files ++ z)
    (sym (ap (λ z. headers_with (drop at hs) z (drop at lists)) (drop_get files (at + 1) f ef)
    ∙ ap (λ z. headers_with z (f ∷ drop (at + 1 + 1) files) (drop at lists)) (drop_item hs at h l eh)
    ∙ ap (λ z. headers_with (h ∷ drop (at + 1) hs) (f ∷ drop (at + 1 + 1) files) z) (drop_get lists at ss es)))
    ∙ w

-- ---- units

taken_length : (all : List (List Owner)) (units : List Unit) (os : List Owner) (hs : List HeaderMark) (ks : List Owner) → length ks ≡ length hs → length (taken_from all units os hs ks) ≡ length hs
taken_length all units os [] ks l = refl
taken_length all units os (h ∷ hs) [] l = absurd (omega arith)
taken_length all units os (h ∷ hs) (k ∷ ks) l = ap suc (taken_length all units os hs ks (omega arith))

pub lists_are : (all : List (List Owner)) (units : List Unit) (spans : List UnitSpan) (oss : List (List Owner)) → AsMany spans oss → AreLists spans (all_taken all units spans oss)
lists_are all units [] [] a = tt
lists_are all units [] (os ∷ oss) a = absurd a
lists_are all units (s ∷ spans) [] a = absurd a
lists_are all units (s ∷ spans) (os ∷ oss) a = (taken_length all units os s.headers os a.0, lists_are all units spans oss a.1)

pub full_length : (spans : List UnitSpan) (units : List Unit) → AreFull spans units → length units ≡ length spans
full_length [] [] a = refl
full_length [] (u ∷ units) a = absurd a
full_length (s ∷ spans) [] a = absurd a
full_length (s ∷ spans) (u ∷ units) a = ap suc (full_length spans units a.1)

pub lists_length : (spans : List UnitSpan) (lists : List (List (List Symbol))) → AreLists spans lists → length lists ≡ length spans
lists_length [] [] a = refl
lists_length [] (u ∷ lists) a = absurd a
lists_length (s ∷ spans) [] a = absurd a
lists_length (s ∷ spans) (u ∷ lists) a = ap suc (lists_length spans lists a.1)

pub full_at : (spans : List UnitSpan) (units : List Unit) (at : ℕ) (s : UnitSpan) (u : Unit) → at < length spans → s ≡ get_or spans at s → slice_get units at ≡ Some u → AreFull (drop at spans) (drop at units)
    → (length u.files ≡ length s.headers + 1) × AreFull (drop (at + 1) spans) (drop (at + 1) units)
full_at spans units at s u l e g a =
    subst (λ z. AreFull (s ∷ drop (at + 1) spans) z) (drop_get units at u g) (subst (λ z. AreFull z (drop at units)) (drop_item spans at s l e) a)

pub lists_at : (spans : List UnitSpan) (lists : List (List (List Symbol))) (at : ℕ) (s : UnitSpan) (ts : List (List Symbol)) → at < length spans → s ≡ get_or spans at s → slice_get lists at ≡ Some ts
    → AreLists (drop at spans) (drop at lists) → (length ts ≡ length s.headers) × AreLists (drop (at + 1) spans) (drop (at + 1) lists)
lists_at spans lists at s ts l e g a =
    subst (λ z. AreLists (s ∷ drop (at + 1) spans) z) (drop_get lists at ts g) (subst (λ z. AreLists z (drop at lists)) (drop_item spans at s l e) a)

-- the first `at` units are filled, and there is room for the others
pub record UnitsUpTo (units : List Unit) (spans : List UnitSpan) (lists : List (List (List Symbol))) (at : ℕ) (whole : List Unit) : Type 0 where
  pub full : AreFull (drop at spans) (drop at units)
  pub many : AreLists (drop at spans) (drop at lists)
  pub units_length : length units ≡ length spans
  pub lists_length : length lists ≡ length spans
  pub filled : take at units ++ units_with (drop at spans) (drop at units) (drop at lists) ≡ whole

pub units_start : (units : List Unit) (spans : List UnitSpan) (lists : List (List (List Symbol))) → AreFull spans units → AreLists spans lists → UnitsUpTo units spans lists 0 (units_with spans units lists)
units_start units spans lists full many = record { full = full; many = many; units_length = full_length spans units full; lists_length = lists_length spans lists many; filled = refl }

pub units_done : (units : List Unit) (spans : List UnitSpan) (lists : List (List (List Symbol))) (at : ℕ) (whole : List Unit) → length spans ≤ at → UnitsUpTo units spans lists at whole → units ≡ whole
units_done units spans lists at whole past w =
    let l = w.units_length in
    sym (take_all at units (omega (arith, l))) ∙ sym (append-nil (take at units))
    ∙ ap (λ z. take at units ++ z) (sym (ap (λ z. units_with z (drop at units) (drop at lists)) (drop_past spans at past) ∙ drop_past units at (omega (arith, l))))
    ∙ w.filled

pub units_next : (whole units out back : List Unit) (spans : List UnitSpan) (lists left : List (List (List Symbol))) (at : ℕ) (u made blank : Unit) (ts none : List (List Symbol)) (s : UnitSpan) (hs : List HeaderMark)
    → at < length spans → slice_get units at ≡ Some u → slice_get lists at ≡ Some ts → s ≡ get_or spans at s → hs ≡ s.headers
    → out ≡ slice_set units at blank → back ≡ slice_set out at made → left ≡ slice_set lists at none → made ≡ unit_with (files_with hs u.files ts) u
    → UnitsUpTo units spans lists at whole → UnitsUpTo back spans left (at + 1) whole
units_next whole units out back spans lists left at u made blank ts none s hs l eu et es eh eo eb el m w = record {
  full = subst (λ z. AreFull (drop (at + 1) spans) z) (sym (back_rest units out back at blank made eo eb)) (full_at spans units at s u l es eu w.full).1;
  many = subst (λ z. AreLists (drop (at + 1) spans) z) (sym (set_rest lists left at none el)) (lists_at spans lists at s ts l es et w.many).1;
  units_length = back_length units out back at blank made eo eb (length spans) w.units_length;
  lists_length = set_length lists left at (length spans) none el w.lists_length;
  filled = ap (λ z. z ++ units_with (drop (at + 1) spans) (drop (at + 1) back) (drop (at + 1) left)) (back_front units out back at blank made eo eb (get_within units at u eu))
      ∙ append_assoc (take at units) (made ∷ []) (units_with (drop (at + 1) spans) (drop (at + 1) back) (drop (at + 1) left))
      ∙ ap (λ z. take at units ++ made ∷ units_with (drop (at + 1) spans) z (drop (at + 1) left)) (back_rest units out back at blank made eo eb)
      ∙ ap (λ z. take at units ++ made ∷ units_with (drop (at + 1) spans) (drop (at + 1) units) z) (set_rest lists left at none el)
      ∙ ap (λ z. take at units ++ z ∷ units_with (drop (at + 1) spans) (drop (at + 1) units) (drop (at + 1) lists)) (m ∙ ap (λ z. unit_with (files_with z u.files ts) u) eh)
      ∙ ap (λ z. take at units ++ z)
      (sym (ap (λ z. units_with (drop at spans) z (drop at lists)) (drop_get units at u eu)
      ∙ ap (λ z. units_with z (u ∷ drop (at + 1) units) (drop at lists)) (drop_item spans at s l es)
      ∙ ap (λ z. units_with (s ∷ drop (at + 1) spans) (u ∷ drop (at + 1) units) z) (drop_get lists at ts et)))
      ∙ w.filled;
}
