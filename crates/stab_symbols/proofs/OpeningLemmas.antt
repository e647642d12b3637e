-- A definition and a structure or union, opened one level: the definitions in what stands inside, and that it is smaller.
use Rattle.std.proofs.Common.{◌≡◌, ℕ, ◌+◌, ◌<◌, List, ◌∷◌, map, sym, ap, ◌∙◌, arith}
use Rattle.std.specs.Prelude.{sum, flat_map}
use Rattle.stab_symbols.specs.declared.tree.Num.{Num}
use Rattle.stab_symbols.specs.declared.tree.Key.{Key}
use Rattle.stab_symbols.specs.declared.tree.Field.{Field}
use Rattle.stab_symbols.specs.declared.tree.TypeTree.{TypeTree}
use Rattle.stab_symbols.specs.declared.tree.TypeTree.TheVariants.{Def, Struct, Union, rolls-Def, rolls-Struct, rolls-Union}
use Rattle.stab_symbols.specs.declared.tree.TypeTree.TheOpen.{TypeTree-F}
use Rattle.stab_symbols.specs.declared.tree.TypeTree.TheFolds.{fold-roll-TypeTree}
use Rattle.stab_symbols.specs.Keys.{key_of}
use Rattle.stab_symbols.specs.Definitions.{definitions_in, definitions_in_field}
use Rattle.stab_symbols.specs.Opening.{size_step, field_size, tree_size, size_of_field}
use Rattle.stab_symbols.proofs.DefinitionLemmas.{definitions-Def, definitions-Struct, definitions-Union}

size-Def : (n : Num) (t : TypeTree) → tree_size (Def n t) ≡ 1 + tree_size t
size-Def n t = ap tree_size (sym (rolls-Def n t)) ∙ fold-roll-TypeTree ℕ ℕ size_step field_size (TypeTree-F.Def n t)

size-Struct : (size : ℕ) (fields : List Field) → tree_size (Struct size fields) ≡ 2 + sum (map size_of_field fields)
size-Struct size fields = ap tree_size (sym (rolls-Struct size fields)) ∙ fold-roll-TypeTree ℕ ℕ size_step field_size (TypeTree-F.Struct size fields)

size-Union : (size : ℕ) (fields : List Field) → tree_size (Union size fields) ≡ 2 + sum (map size_of_field fields)
size-Union size fields = ap tree_size (sym (rolls-Union size fields)) ∙ fold-roll-TypeTree ℕ ℕ size_step field_size (TypeTree-F.Union size fields)

-- a number with its definition
pub opens-Def : (tree body : TypeTree) (n : Num) (key : Key) → tree ≡ Def n body → key ≡ key_of n
    → (definitions_in tree ≡ record { key = key; body = body } ∷ definitions_in body) × (tree_size body < tree_size tree)
opens-Def tree body n key is of =
    let e : tree_size tree ≡ 1 + tree_size body = ap tree_size is ∙ size-Def n body in
    (ap definitions_in is ∙ definitions-Def n body ∙ ap (λ (k : Key). record { key = k; body = body } ∷ definitions_in body) (sym of), omega arith)

-- the fields of a structure
pub opens-Struct : (tree : TypeTree) (size : ℕ) (fields : List Field) → tree ≡ Struct size fields
    → (definitions_in tree ≡ flat_map definitions_in_field fields) × (1 + sum (map size_of_field fields) < tree_size tree)
opens-Struct tree size fields is =
    let e : tree_size tree ≡ 2 + sum (map size_of_field fields) = ap tree_size is ∙ size-Struct size fields in
    (ap definitions_in is ∙ definitions-Struct size fields, omega arith)

-- and of a union
pub opens-Union : (tree : TypeTree) (size : ℕ) (fields : List Field) → tree ≡ Union size fields
    → (definitions_in tree ≡ flat_map definitions_in_field fields) × (1 + sum (map size_of_field fields) < tree_size tree)
opens-Union tree size fields is =
    let e : tree_size tree ≡ 2 + sum (map size_of_field fields) = ap tree_size is ∙ size-Union size fields in
    (ap definitions_in is ∙ definitions-Union size fields, omega arith)
