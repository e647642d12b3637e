-- The files of the pairs `(file,number)` in a symbol, the symbol's shape, in which the digits of these files are left out, and the
-- symbol with other files. Two units that include one header file give it different files, so its symbols have equal shapes there.
-- After "The stabs debug format", on include files; the shape is this project's own.
use Rattle.std.specs.Prelude.{◌≡◌, ℕ, false, List, [], ◌∷◌, ◌++◌, decimal, flat_map, slice_get, unwrap_or, Result, OnOk}
use Rattle.st_base.specs.declared.fault.Memory.{Memory}
use Rattle.stab_symbols.specs.declared.files.PairFiles.{PairFiles}
use Rattle.stab_symbols.specs.declared.tree.Num.{Num}
use Rattle.stab_symbols.specs.declared.tree.Num.TheVariants.{Plain, Pair}
use Rattle.stab_symbols.specs.declared.tree.Field.{Field, roll-Field}
use Rattle.stab_symbols.specs.declared.tree.TypeTree.{TypeTree}
use Rattle.stab_symbols.specs.declared.tree.TypeTree.TheOpen.{TypeTree-F}
use Rattle.stab_symbols.specs.declared.tree.TypeTree.TheVariants.{Ref, Def, Pointer, Function, Const, Volatile, Range, Array, Struct, Union, Enum, Cross, Sized, Builtin, Real}
use Rattle.stab_symbols.specs.declared.tree.TypeTree.TheFolds.{fold-TypeTree, fold-Field}
use Rattle.stab_symbols.specs.declared.tree.Symbol.{Symbol}
use Rattle.stab_symbols.specs.declared.limits.TheConstants.{NO_FILE}
use Rattle.stab_symbols.specs.Printing.{type_text, field_text, symbol_text}
use Rattle.stab_symbols.specs.TypeWalks.{all_numbers}

-- ---- the files, in printed order

-- that of `(file,number)`; a plain number has none
abbrev pub file_in : Num → List ℕ
file_in (Plain n) = []
file_in (Pair f n) = f ∷ []

-- the files of the pairs in a type
abbrev pub files_in : TypeTree → List ℕ
files_in t = flat_map file_in (all_numbers t)

-- and in a symbol
abbrev pub files_of : Symbol → List ℕ
files_of s = files_in s.tree

-- a visit puts the file of the number at the end
abbrev pub PutsFile : PairFiles → Num → PairFiles → Result (Unit {0}) Memory → Type 0
PutsFile old num new result = OnOk result (new.files ≡ old.files ++ file_in num)

-- ---- the shape

-- `n`, or `(,number)`
abbrev pub num_shape : Num → List ℕ
num_shape (Plain n) = decimal n
num_shape (Pair f n) = 40 ∷ (44 ∷ (decimal n ++ 41 ∷ []))

-- the shape of a type: its spelling without the digits of the files
abbrev pub tree_shape : TypeTree → List ℕ
tree_shape = type_text num_shape false

-- the shape of a field
abbrev pub field_shape : Field → List ℕ
field_shape = field_text num_shape false

-- the shape of a symbol
abbrev pub shape_of : Symbol → List ℕ
shape_of = symbol_text num_shape false

-- ---- other files

module _ (change : ℕ → ℕ) where
  -- the pair with its file changed; a plain number stays
  abbrev pub num_with : Num → Num
  num_with (Plain n) = Plain n
  num_with (Pair f n) = Pair (change f) n

  -- one level of a type; all but the files stays
  abbrev pub with_step : TypeTree-F TypeTree Field → TypeTree
  with_step (TypeTree-F.Ref n) = Ref (num_with n)
  with_step (TypeTree-F.Def n t) = Def (num_with n) t
  with_step (TypeTree-F.Pointer t) = Pointer t
  with_step (TypeTree-F.Function t) = Function t
  with_step (TypeTree-F.Const t) = Const t
  with_step (TypeTree-F.Volatile t) = Volatile t
  with_step (TypeTree-F.Range t low high) = Range t low high
  with_step (TypeTree-F.Array i low high t) = Array i low high t
  with_step (TypeTree-F.Struct size fields) = Struct size fields
  with_step (TypeTree-F.Union size fields) = Union size fields
  with_step (TypeTree-F.Enum choices) = Enum choices
  with_step (TypeTree-F.Cross tag name) = Cross tag name
  with_step (TypeTree-F.Sized bits t) = Sized bits t
  with_step (TypeTree-F.Builtin n) = Builtin n
  with_step (TypeTree-F.Real a b c) = Real a b c

  -- a type, the file of each pair changed
  abbrev pub tree_with : TypeTree → TypeTree
  tree_with = fold-TypeTree TypeTree Field with_step roll-Field

  -- a field
  abbrev pub field_with : Field → Field
  field_with = fold-Field TypeTree Field with_step roll-Field

  -- a symbol, the file of each pair changed
  abbrev pub with_files : Symbol → Symbol
  with_files s = record { name = s.name; descriptor = s.descriptor; tree = tree_with s.tree }

-- item `file` of the list, or what stands for no file
abbrev pub new_file : List ℕ → ℕ → ℕ
new_file files file = unwrap_or (slice_get files file) NO_FILE

-- the symbol in which each file f is item f of the list
abbrev pub renumbered : List ℕ → Symbol → Symbol
renumbered files = with_files (new_file files)

-- ---- symbols that differ in files alone

-- 0 for each file
abbrev pub file_0 : ℕ → ℕ
file_0 f = 0

-- two symbols differ at most in the files of pairs: with 0 for each file they are one
abbrev pub DifferInFiles : Symbol → Symbol → Type 0
DifferInFiles s t = with_files file_0 s ≡ with_files file_0 t
