-- A type that is opened one level at a time, for its definitions: what stands directly inside a part of it, and how large a part is,
-- so that a walk ends. This project's own.
use Rattle.std.specs.Prelude.{◌≡◌, ℕ, ◌+◌, ◌<◌, List, [], ◌∷◌, ◌++◌, sum, map, flat_map}
use Rattle.std.specs.Borrow.{Bor}
use Rattle.stab_symbols.specs.declared.tree.Field.{Field}
use Rattle.stab_symbols.specs.declared.tree.TypeTree.{TypeTree}
use Rattle.stab_symbols.specs.declared.tree.TypeTree.TheOpen.{TypeTree-F, Field-F}
use Rattle.stab_symbols.specs.declared.tree.TypeTree.TheFolds.{fold-TypeTree, fold-Field}
use Rattle.stab_symbols.specs.declared.definitions.Opened.{Opened}
use Rattle.stab_symbols.specs.declared.definitions.Opened.TheVariants.{Nothing, One, Two, Definition as Defines}
use Rattle.stab_symbols.specs.declared.definitions.Rest.{Rest}
use Rattle.stab_symbols.specs.declared.definitions.Rest.TheVariants as rest
use Rattle.stab_symbols.specs.Definitions.{Definition, definitions_in, definitions_in_field}

-- ---- sizes

-- a field is larger than its type
abbrev pub field_size : Field-F ℕ ℕ → ℕ
field_size f = 1 + f.tree

-- one level of a type is larger than the types inside, and than its fields together
abbrev pub size_step : TypeTree-F ℕ ℕ → ℕ
size_step (TypeTree-F.Ref n) = 0
size_step (TypeTree-F.Def n t) = 1 + t
size_step (TypeTree-F.Pointer t) = 1 + t
size_step (TypeTree-F.Function t) = 1 + t
size_step (TypeTree-F.Const t) = 1 + t
size_step (TypeTree-F.Volatile t) = 1 + t
size_step (TypeTree-F.Range t low high) = 1 + t
size_step (TypeTree-F.Array i low high t) = 1 + (i + t)
size_step (TypeTree-F.Struct size fields) = 2 + sum fields
size_step (TypeTree-F.Union size fields) = 2 + sum fields
size_step (TypeTree-F.Enum choices) = 0
size_step (TypeTree-F.Cross tag name) = 0
size_step (TypeTree-F.Sized bits t) = 1 + t
size_step (TypeTree-F.Builtin n) = 0
size_step (TypeTree-F.Real a b c) = 0

-- how many types and fields stand in a type
abbrev pub tree_size : TypeTree → ℕ
tree_size = fold-TypeTree ℕ ℕ size_step field_size

-- and in a field
abbrev pub size_of_field : Field → ℕ
size_of_field = fold-Field ℕ ℕ size_step field_size

-- ---- parts

-- the type that a reference stands for
abbrev pub tree_of : Bor TypeTree → TypeTree
tree_of reference = reference.now

-- the definitions in a part
abbrev pub definitions_left : Rest → List Definition
definitions_left (rest.Tree t) = definitions_in t.now
definitions_left (rest.Fields fields) = flat_map definitions_in_field fields.now

-- how large a part is
abbrev pub size_left : Rest → ℕ
size_left (rest.Tree t) = tree_size t.now
size_left (rest.Fields fields) = 1 + sum (map size_of_field fields.now)

-- what was opened has, one after another, the definitions that the part has; and all parts in it are smaller
abbrev pub Opens : {T P : Type 0} → (T → TypeTree) → (P → List Definition) → (P → ℕ) → P → Opened T P → Type 0
Opens tree definitions size part Nothing = definitions part ≡ []
Opens tree definitions size part (One inner) = (definitions part ≡ definitions inner) × (size inner < size part)
Opens tree definitions size part (Two first second) = (definitions part ≡ definitions first ++ definitions second) × (size first < size part) × (size second < size part)
Opens tree definitions size part (Defines key t body) = (definitions part ≡ record { key = key; body = tree t } ∷ definitions body) × (size body < size part)
