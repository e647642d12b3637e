-- Worked values: a structure with a field that points to the structure itself, `(0,2)=s8val:(0,1),0,32;next:(0,3)=*(0,2),32,32;;`,
-- and the same structure where the name of the first field begins with a digit; and a typedef. The texts are written by hand.
use Rattle.std.proofs.Common.{◌≡◌, ℕ, ◌++◌, true, false, List, [], ◌∷◌, decimal, codes, refl, ap, ◌∙◌, sym, map, lit<, lit≤, All, Contains, rules}
use Rattle.std.specs.List.{IsDistinct}
use Rattle.std.proofs.lemmas.List.Elements.{All-nil, All-cons}
use Rattle.std.proofs.lemmas.Fmt.{decimal_digit, decimal_step}
use Rattle.stab_symbols.specs.declared.tree.Num.{Num}
use Rattle.stab_symbols.specs.declared.tree.Num.TheVariants.{Plain, Pair}
use Rattle.stab_symbols.specs.declared.tree.Key.{Key}
use Rattle.stab_symbols.specs.declared.tree.Field.{Field}
use Rattle.stab_symbols.specs.declared.tree.Descriptor.TheVariants as descriptors
use Rattle.stab_symbols.specs.declared.tree.Symbol.{Symbol}
use Rattle.stab_symbols.specs.declared.tree.TypeTree.{TypeTree}
use Rattle.stab_symbols.specs.declared.tree.TypeTree.TheVariants.{Ref, Def, Pointer, Struct, rolls-Ref, rolls-Def, rolls-Pointer, rolls-Struct}
use Rattle.stab_symbols.specs.declared.tree.TypeTree.TheOpen.{TypeTree-F, Field-F}
use Rattle.stab_symbols.specs.declared.tree.TypeTree.TheFolds.{fold-TypeTree, fold-Field, fold-roll-TypeTree, fold-roll-Field}
use Rattle.stab_symbols.specs.SymbolSpelling.{print_of, print_symbol}
use Rattle.stab_symbols.specs.Shape.{ok}
use Rattle.stab_symbols.specs.Surface.{same_key, surface_of, placed}
use Rattle.stab_symbols.specs.Files.{files_of, shape_of}
use Rattle.stab_symbols.specs.TypeWalks.{all_numbers, surface_numbers}

-- ---- what a fold makes of one level

module _ (A B : Type 0) (level : TypeTree-F A B → A) (item : Field-F A B → B) where
  pub fold-Ref : (n : Num) → fold-TypeTree A B level item (Ref n) ≡ level (TypeTree-F.Ref n)
  fold-Ref n = ap (fold-TypeTree A B level item) (sym (rolls-Ref n)) ∙ fold-roll-TypeTree A B level item (TypeTree-F.Ref n)

  pub fold-Def : (n : Num) (t : TypeTree) → fold-TypeTree A B level item (Def n t) ≡ level (TypeTree-F.Def n (fold-TypeTree A B level item t))
  fold-Def n t = ap (fold-TypeTree A B level item) (sym (rolls-Def n t)) ∙ fold-roll-TypeTree A B level item (TypeTree-F.Def n t)

  pub fold-Pointer : (t : TypeTree) → fold-TypeTree A B level item (Pointer t) ≡ level (TypeTree-F.Pointer (fold-TypeTree A B level item t))
  fold-Pointer t = ap (fold-TypeTree A B level item) (sym (rolls-Pointer t)) ∙ fold-roll-TypeTree A B level item (TypeTree-F.Pointer t)

  pub fold-Struct : (size : ℕ) (fields : List Field) →
      fold-TypeTree A B level item (Struct size fields) ≡ level (TypeTree-F.Struct size (map (fold-Field A B level item) fields))
  fold-Struct size fields = ap (fold-TypeTree A B level item) (sym (rolls-Struct size fields)) ∙ fold-roll-TypeTree A B level item (TypeTree-F.Struct size fields)

  pub fold-field : (name : List ℕ) (t : TypeTree) (bit bits : ℕ) →
      fold-Field A B level item (record { name = name; tree = t; bit = bit; bits = bits })
      ≡ item (record { name = name; tree = fold-TypeTree A B level item t; bit = bit; bits = bits })
  fold-field name t bit bits = fold-roll-Field A B level item (record { name = name; tree = t; bit = bit; bits = bits })

pub ruleset levels = (fold-Ref, fold-Def, fold-Pointer, fold-Struct, fold-field)

-- ---- the numbers that are printed

pub decimal-0 : decimal 0 ≡ codes "0"
decimal-0 = decimal_digit 0 (lit< tt)

pub decimal-1 : decimal 1 ≡ codes "1"
decimal-1 = decimal_digit 1 (lit< tt)

pub decimal-2 : decimal 2 ≡ codes "2"
decimal-2 = decimal_digit 2 (lit< tt)

pub decimal-3 : decimal 3 ≡ codes "3"
decimal-3 = decimal_digit 3 (lit< tt)

pub decimal-8 : decimal 8 ≡ codes "8"
decimal-8 = decimal_digit 8 (lit< tt)

pub decimal-32 : decimal 32 ≡ codes "32"
decimal-32 = decimal_step 32 (lit≤ tt) (lit< tt) ∙ ap (λ (front : List ℕ). front ++ 50 ∷ []) decimal-3

pub ruleset decimals = (decimal-0, decimal-1, decimal-2, decimal-3, decimal-8, decimal-32)

-- ---- the structure

-- the key `(0,n)`
abbrev pub key : ℕ → Key
key n = record { file = 0; number = n }

-- a field of 32 bits
abbrev field : List ℕ → TypeTree → ℕ → Field
field name t bit = record { name = name; tree = t; bit = bit; bits = 32 }

-- what stands after `(0,2)=`, with a name for the first field
abbrev structure : List ℕ → TypeTree
structure first = Struct 8 (field first (Ref (Pair 0 1)) 0 ∷ (field (codes "next") (Def (Pair 0 3) (Pointer (Ref (Pair 0 2)))) 32 ∷ []))

abbrev whole : TypeTree
whole = Def (Pair 0 2) (structure (codes "val"))

-- as a tag `node`
abbrev node : Symbol
node = record { name = codes "node"; descriptor = descriptors.Tag; tree = whole }

-- the keys of a listing
abbrev pub listed : List Key
listed = key 2 ∷ (key 1 ∷ (key 3 ∷ []))

print_of-whole : print_of whole ≡ codes "(0,2)=s8val:(0,1),0,32;next:(0,3)=*(0,2),32,32;;"
print_of-whole = simp (levels, decimals)

print_symbol-node : print_symbol node ≡ codes "node:T(0,2)=s8val:(0,1),0,32;next:(0,3)=*(0,2),32,32;;"
print_symbol-node = simp (levels, decimals)

-- the definition of a number is not gone into
surface_of-whole : surface_of whole ≡ key 2 ∷ []
surface_of-whole = simp levels

surface_of-structure : surface_of (structure (codes "val")) ≡ key 1 ∷ (key 3 ∷ [])
surface_of-structure = simp levels

placed-whole : placed listed whole ≡ codes "#0"
placed-whole = simp (levels, decimals)

placed-structure : placed listed (structure (codes "val")) ≡ codes "s8val:#1,0,32;next:#2,32,32;;"
placed-structure = simp (levels, decimals)

ok-whole : ok whole ≡ true
ok-whole = simp levels

-- the digit would be read as one of the size
ok-digit_first : ok (structure (codes "1val")) ≡ false
ok-digit_first = simp levels

-- ---- the listing

-- its keys are distinct
pub distinct-listed : (keys : List Key) → keys ≡ listed → IsDistinct same_key keys
unfolding IsDistinct
distinct-listed keys is_listed = rw is_listed (search rules)

-- those of the structure are among them
pub present-structure : (keys surface : List Key) → keys ≡ listed → surface ≡ key 1 ∷ (key 3 ∷ []) → All (Contains keys) surface
present-structure keys surface is_listed is_surface =
    let last : All (Contains listed) (key 3 ∷ []) = All-cons (Contains listed) (key 3) [] (2, lit< tt, refl) (All-nil (Contains listed)) in
    rw (is_listed, is_surface) (All-cons (Contains listed) (key 1) (key 3 ∷ []) (1, lit< tt, refl) last)

-- and that of the pointer is
pub present-pointer : (keys surface : List Key) → keys ≡ listed → surface ≡ key 3 ∷ [] → All (Contains keys) surface
present-pointer keys surface is_listed is_surface =
    rw (is_listed, is_surface) (All-cons (Contains listed) (key 3) [] (2, lit< tt, refl) (All-nil (Contains listed)))

-- ---- files and shapes

-- `int:t(0,1)=(2,8)`, an `int` that a header has given the number 8
abbrev int : Symbol
int = record { name = codes "int"; descriptor = descriptors.Typedef; tree = Def (Pair 0 1) (Ref (Pair 2 8)) }

files_of-int : files_of int ≡ 0 ∷ (2 ∷ [])
files_of-int = simp levels

shape_of-int : shape_of int ≡ codes "int:t(,1)=(,8)"
shape_of-int = simp (levels, decimals)

-- where that header is the third file in place of the second
shape_of-other_file : shape_of (record { name = codes "int"; descriptor = descriptors.Typedef; tree = Def (Pair 0 1) (Ref (Pair 3 8)) }) ≡ codes "int:t(,1)=(,8)"
shape_of-other_file = simp (levels, decimals)

-- ---- numbers

-- all numbers of a type, and those on its surface
all_numbers-int : all_numbers int.tree ≡ Pair 0 1 ∷ (Pair 2 8 ∷ [])
all_numbers-int = simp levels

surface_numbers-int : surface_numbers int.tree ≡ Pair 0 1 ∷ []
surface_numbers-int = simp levels
