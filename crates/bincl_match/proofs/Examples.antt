-- Worked values, by hand after "The stabs debug format": a unit `a` that includes `x`, which includes `y`; and ranges that a unit has twice.
use Rattle.std.proofs.Common.{◌≡◌, ◌≢◌, ℕ, zero, suc, ◌+◌, ◌<◌, ◌%◌, ◌^◌, true, false, Bool, List, [], ◌∷◌, decimal, codes, map, refl, sym, ap, ◌∙◌, arith, lit<}
use Rattle.std.proofs.lemmas.Fmt.{decimal_digit}
use Rattle.stab_codes.specs.declared.code.TheConstants.{N_SO, N_BINCL, N_EINCL, N_LSYM, N_SLINE}
use Rattle.stab_codes.specs.Table as table
use Rattle.nlist_codec.specs.declared.named.Named.{Named}
use Rattle.stab_symbols.specs.declared.tree.Num.{Num}
use Rattle.stab_symbols.specs.declared.tree.Num.TheVariants.{Plain, Pair}
use Rattle.stab_symbols.specs.declared.tree.Descriptor.TheVariants as descriptors
use Rattle.stab_symbols.specs.declared.tree.Symbol.{Symbol}
use Rattle.stab_symbols.specs.declared.tree.TypeTree.TheVariants.{Ref, rolls-Ref}
use Rattle.stab_symbols.specs.declared.tree.TypeTree.TheOpen.{TypeTree-F, Field-F}
use Rattle.stab_symbols.specs.declared.tree.TypeTree.TheFolds.{fold-TypeTree, fold-roll-TypeTree}
use Rattle.unit_outlines.specs.declared.outline_types.UnitSpan.{UnitSpan}
use Rattle.stab_units.specs.declared.unit.ItemText.{ItemText}
use Rattle.stab_units.specs.declared.unit.ItemText.TheVariants as texts
use Rattle.unit_outlines.specs.Outlines.{units_of}
use Rattle.stab_units.specs.Units.{Filed, Stab, stabs_of, unit_of}
use Rattle.bincl_match.specs.declared.range.RangeOf.{RangeOf}
use Rattle.bincl_match.specs.HeaderSums.{without_files}
use Rattle.bincl_match.specs.Ranges.{among, ranges_of, typed_ranges}
use Rattle.bincl_match.specs.Instances.{IsInstance, IsTaken}
use Rattle.std.specs.Prelude.{sum}

-- ---- sums

-- digits that directly follow a `(` do not count; those after the `,` and a plain number do
left_out : without_files false (codes "p:t(12,3)=*4") ≡ codes "p:t(,3)=*4"
left_out = refl

-- a digit that follows no `(` directly counts
name_counts : without_files false (codes "f1:t(0x2,3)") ≡ codes "f1:t(x2,3)"
name_counts = refl

-- 105 + 58 + 116 + 40 + 44 + 50 + 41, and not 49 more for the digit of the file
summed : sum (without_files false (codes "i:t(1,2)")) ≡ 454
summed = refl

unequal : (n : ℕ) → n ≡ 454 → n ≡ 503 → ⊥
unequal n a b = absurd (omega arith)

not_summed : sum (without_files false (codes "i:t(1,2)")) ≢ 503
not_summed e = unequal (sum (without_files false (codes "i:t(1,2)"))) summed e

-- ---- a fold at a number

module _ (A B : Type 0) (level : TypeTree-F A B → A) (item : Field-F A B → B) where
  fold-Ref : (n : Num) → fold-TypeTree A B level item (Ref n) ≡ level (TypeTree-F.Ref n)
  fold-Ref n = ap (fold-TypeTree A B level item) (sym (rolls-Ref n)) ∙ fold-roll-TypeTree A B level item (TypeTree-F.Ref n)

decimal-1 : decimal 1 ≡ codes "1"
decimal-1 = decimal_digit 1 (lit< tt)

decimal-2 : decimal 2 ≡ codes "2"
decimal-2 = decimal_digit 2 (lit< tt)

decimal-7 : decimal 7 ≡ codes "7"
decimal-7 = decimal_digit 7 (lit< tt)

ruleset printed = (fold-Ref, decimal-1, decimal-2, decimal-7)

-- ---- a unit with two headers, one inside the other

-- an entry by its kind and its name
abbrev en : ℕ → List ℕ → Named
en kind name = record { kind = kind; other = 0; desc = 0; value = 0; name = name }

abbrev entries : List Named
entries =
    en N_SO (codes "a") ∷ en N_BINCL (codes "x") ∷ en N_LSYM (codes "i:t(1,2)") ∷ en N_BINCL (codes "y") ∷ en N_LSYM (codes "j:t7") ∷ en N_SLINE [] ∷ en N_EINCL []
    ∷ en N_EINCL [] ∷ []

abbrev span : UnitSpan
span = record {
  name = codes "a";
  start = 0;
  end = 0;
  first = 0;
  past = 8;
  headers = record { name = codes "x"; first = 1; past = 8; excluded = false; value = 0 } ∷ record { name = codes "y"; first = 3; past = 7; excluded = false; value = 0 } ∷ [];
}

spans : units_of 0 entries ≡ span ∷ []
spans = refl

-- the own entries of `x` are those outside of `y`
files : map (λ (s : Stab). s.file) (stabs_of entries span) ≡ 1 ∷ 2 ∷ 2 ∷ []
unfolding table.carries_symbol
files = refl

-- a typedef of this name for a number
abbrev typedef : List ℕ → Num → Symbol
typedef name n = record { name = name; descriptor = descriptors.Typedef; tree = Ref n }

abbrev filed : ℕ → ℕ → ItemText → Filed
filed file kind text = record { file = file; item = record { kind = kind; other = 0; desc = 0; value = 0; text = text } }

-- what the stabs are read as
abbrev items : List Filed
items = filed 1 N_LSYM (texts.Symbol (typedef (codes "i") (Pair 1 2))) ∷ filed 2 N_LSYM (texts.Symbol (typedef (codes "j") (Plain 7))) ∷ filed 2 N_SLINE (texts.Raw []) ∷ []

-- `x` is a candidate
abbrev x : RangeOf
x = record { unit = 0; file = 1; name = codes "x"; shape = codes "i:t(,2)" ∷ []; numbers = 1 ∷ []; sum = 454; candidate = true }

-- `y` has a line entry; its plain number stays
abbrev y : RangeOf
y = record { unit = 0; file = 2; name = codes "y"; shape = codes "j:t7" ∷ []; numbers = []; sum = 335; candidate = false }

typed : typed_ranges 0 (unit_of span items ∷ []) (items ∷ []) ≡ x ∷ y ∷ []
typed = simp printed

ranges : ranges_of (unit_of span items ∷ []) (items ∷ []) ≡ x ∷ y ∷ []
ranges = ap (λ (z : List RangeOf). map (among z) z) typed

-- ---- candidates

-- a range of this unit and file, with a name and a shape of one text
abbrev of : ℕ → ℕ → List ℕ → List ℕ → RangeOf
of unit file name text = record { unit = unit; file = file; name = name; shape = text ∷ []; numbers = []; sum = 0; candidate = true }

abbrev candidates : List RangeOf → List Bool
candidates rs = map (λ (r : RangeOf). r.candidate) (map (among rs) rs)

-- unit 0 has `x` twice with one shape, so no range of that name and shape is a candidate, in no unit; with another shape it is one
repeated : candidates (of 0 1 (codes "x") (codes "s") ∷ of 0 2 (codes "x") (codes "s") ∷ of 1 1 (codes "x") (codes "s") ∷ of 1 2 (codes "x") (codes "t") ∷ []) ≡ false ∷ false ∷ false ∷ true ∷ []
repeated = refl

-- two units that have it once each do not matter
once_each : candidates (of 0 1 (codes "x") (codes "s") ∷ of 1 1 (codes "x") (codes "s") ∷ []) ≡ true ∷ true ∷ []
once_each = refl

-- ---- instances

abbrev twins : List RangeOf
twins = record { unit = 0; file = 1; name = codes "x"; shape = []; numbers = []; sum = 5; candidate = true } ∷ record { unit = 1; file = 1; name = codes "x"; shape = []; numbers = []; sum = 5; candidate = true } ∷ []

-- the second range of a name and sum has the next number
second : IsInstance twins (0 ∷ 1 ∷ []) (5 ∷ 6 ∷ []) 1
second = (record { unit = 1; file = 1; name = codes "x"; shape = []; numbers = []; sum = 5; candidate = true }, refl, (1, refl, not_taken, taken)) where
  not_taken : IsTaken twins (0 ∷ 1 ∷ []) (5 ∷ 6 ∷ []) 1 (codes "x") 6 → ⊥
  not_taken (zero, r, lt, is, name, kept, v) = absurd (omega (arith, v))
  not_taken (suc j, r, lt, is, name, kept, v) = absurd (omega (arith, lt))

  taken : (e : ℕ) → e < 1 → IsTaken twins (0 ∷ 1 ∷ []) (5 ∷ 6 ∷ []) 1 (codes "x") ((5 + e) % 2 ^ 32)
  taken zero lt = (0, record { unit = 0; file = 1; name = codes "x"; shape = []; numbers = []; sum = 5; candidate = true }, lit< tt, refl, refl, refl, refl)
  taken (suc e) lt = absurd (omega arith)
