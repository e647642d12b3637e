-- Worked values: what the numbers and names of types of small units mean, in one file and in several, what their listings are, and
-- which entries are externals. After the examples of "The stabs debug format" on structures, and this project's own.
use Rattle.std.proofs.Common.{◌≡◌, ℕ, zero, suc, List, [], ◌∷◌, refl, sym, ap, ◌∙◌, arith}
use Rattle.std.specs.Prelude.{true, false, codes, Some, None, slice_get, flat_map, Contains}
use Rattle.stab_symbols.specs.declared.tree.Num.{Num}
use Rattle.stab_symbols.specs.declared.tree.Num.TheVariants.{Pair}
use Rattle.stab_symbols.specs.declared.tree.Numeral.TheVariants.{Digits}
use Rattle.stab_symbols.specs.declared.tree.Tag.TheVariants as tags
use Rattle.stab_symbols.specs.declared.tree.Key.{Key}
use Rattle.stab_symbols.specs.declared.tree.Field.{Field}
use Rattle.stab_symbols.specs.declared.tree.TypeTree.{TypeTree}
use Rattle.stab_symbols.specs.declared.tree.TypeTree.TheVariants.{Ref, Def, Pointer, Range, Struct, Cross}
use Rattle.stab_symbols.specs.declared.tree.Descriptor.{Descriptor}
use Rattle.stab_symbols.specs.declared.tree.Descriptor.TheVariants as descriptors
use Rattle.stab_symbols.specs.declared.tree.Symbol.{Symbol}
use Rattle.stab_symbols.proofs.DefinitionLemmas.{defined, definitions-Ref, definitions-Def, definitions-Pointer, definitions-Range, definitions-Struct, definitions-Cross, definitions-field, is_cross-Ref, is_cross-Pointer, is_cross-Range, is_cross-Struct, is_cross-Cross, outer-Ref, outer-Def}
use Rattle.stab_symbols.proofs.SurfaceLemmas.{surface-Ref, surface-Def, surface-Pointer, surface-Range, surface-Struct, surface-Cross, surface-field}
use Rattle.nlist_codec.specs.declared.named.Named.{Named}
use Rattle.stab_units.specs.declared.unit.HeaderFile.{HeaderFile}
use Rattle.stab_units.specs.declared.unit.Unit.{Unit}
use Rattle.type_graph.specs.Types.{all_symbols, definitions_of, definition_of, name_of, tag_of, typedef_of}
use Rattle.type_graph.specs.Listings.{IsListing, led_to, surface_keys}
use Rattle.type_graph.specs.Worlds.{externals_of}
use Rattle.type_graph.specs.KeyLists.{has, firsts}
use Rattle.type_graph.proofs.KeyListLemmas.{has-decides}
use Rattle.type_graph.proofs.ListingLemmas.{has-at, one}
use Rattle.type_graph.proofs.WorkListLemmas.{Led}

-- ---- the parts

-- `(f,n)`
abbrev num : ℕ → ℕ → Num
num f n = Pair f n

abbrev key : ℕ → ℕ → Key
key f n = record { file = f; number = n }

-- `(0,n)` without a definition
abbrev number : ℕ → TypeTree
number n = Ref (num 0 n)

abbrev field : List ℕ → TypeTree → ℕ → ℕ → Field
field name tree bit bits = record { name = name; tree = tree; bit = bit; bits = bits }

abbrev symbol : List ℕ → Descriptor → TypeTree → Symbol
symbol name descriptor tree = record { name = name; descriptor = descriptor; tree = tree }

abbrev file_of : List ℕ → List Symbol → HeaderFile
file_of name symbols = record { name = name; symbols = symbols }

abbrev unit_with : List HeaderFile → Unit
unit_with files = record { name = codes "list.c"; start = 0; end = 0; files = files; body = [] }

-- a unit without headers
abbrev unit_of : List Symbol → Unit
unit_of symbols = unit_with (file_of (codes "list.c") symbols ∷ [])

-- the forms of types that stand here
ruleset forms = (
  definitions-Ref,
  definitions-Def,
  definitions-Pointer,
  definitions-Range,
  definitions-Struct,
  definitions-Cross,
  definitions-field,
  is_cross-Ref,
  is_cross-Pointer,
  is_cross-Range,
  is_cross-Struct,
  is_cross-Cross,
  outer-Ref,
  outer-Def,
  surface-Ref,
  surface-Def,
  surface-Pointer,
  surface-Range,
  surface-Struct,
  surface-Cross,
  surface-field,
)

-- ---- a list

-- `r(0,1);-2147483648;2147483647;`
abbrev int_range : TypeTree
int_range = Range (number 1) (Digits true (codes "2147483648")) (Digits false (codes "2147483647"))

-- `*(0,2)`
abbrev to_list : TypeTree
to_list = Pointer (number 2)

-- `s8val:(0,1),0,32;next:(0,3)=*(0,2),32,32;;`
abbrev list_struct : TypeTree
list_struct = Struct 8 (field (codes "val") (number 1) 0 32 ∷ field (codes "next") (Def (num 0 3) to_list) 32 32 ∷ [])

-- `int:t(0,1)=r(0,1);-2147483648;2147483647;` and `list:T(0,2)=s8val:(0,1),0,32;next:(0,3)=*(0,2),32,32;;`
abbrev list_unit : Unit
list_unit = unit_of (symbol (codes "int") descriptors.Typedef (Def (num 0 1) int_range) ∷ symbol (codes "list") descriptors.Tag (Def (num 0 2) list_struct) ∷ [])

-- it defines three numbers, the pointer inside the structure
list-definitions : definitions_of (all_symbols list_unit) ≡ defined (num 0 1) int_range ∷ defined (num 0 2) list_struct ∷ defined (num 0 3) to_list ∷ []
list-definitions = simp forms

-- the definition of `(0,3)` is the pointer to `(0,2)`
pub list-pointer : definition_of list_unit (key 0 3) ≡ Some to_list
list-pointer = simp forms

-- the tag `list` is `(0,2)`
pub list-tag : tag_of list_unit (codes "list") ≡ Some (key 0 2)
list-tag = simp forms

-- `int` is a typedef and no tag
pub int-tag : tag_of list_unit (codes "int") ≡ None
int-tag = refl

-- no symbol has the pointer as its outermost type
pub list-pointer-name : name_of list_unit (key 0 3) ≡ None
list-pointer-name = simp forms

-- but it is a typedef
pub int-typedef : typedef_of list_unit (codes "int") ≡ Some (key 0 1)
int-typedef = simp forms

-- and `list` is none
pub list-typedef : typedef_of list_unit (codes "list") ≡ None
list-typedef = refl

-- what its keys lead to
list-led_2 : led_to list_unit (key 0 2) ≡ key 0 1 ∷ key 0 3 ∷ []
list-led_2 = simp forms

list-led_1 : led_to list_unit (key 0 1) ≡ key 0 1 ∷ []
list-led_1 = simp forms

list-led_3 : led_to list_unit (key 0 3) ≡ key 0 2 ∷ []
list-led_3 = simp forms

-- a key that stands at a place of what a key leads to is in it
module _ (unit : Unit) (from : Key) (keys : List Key) (leads : led_to unit from ≡ keys) where
  leads-at : (place : ℕ) (key : Key) → slice_get keys place ≡ Some key → Contains (led_to unit from) key
  leads-at place key at = (has-decides (led_to unit from) key).0 (ap (λ (z : List Key). has z key) leads ∙ has-at keys place key at)

-- the listing of the list: itself, then `int` and the pointer, as they stand in its fields
pub list-listing : IsListing list_unit (key 0 2) (key 0 2 ∷ key 0 1 ∷ key 0 3 ∷ [])
list-listing = record {
  begins = refl;
  led = led;
  equation = simp (list-led_1, list-led_2, list-led_3);
} where
  led : Led list_unit (key 0 2 ∷ key 0 1 ∷ key 0 3 ∷ [])
  led zero k above at = absurd (omega arith)
  led (suc zero) k above at = (0, key 0 2, omega arith, refl, leads-at list_unit (key 0 2) (key 0 1 ∷ key 0 3 ∷ []) list-led_2 0 k at)
  led (suc (suc zero)) k above at = (0, key 0 2, omega arith, refl, leads-at list_unit (key 0 2) (key 0 1 ∷ key 0 3 ∷ []) list-led_2 1 k at)
  led (suc (suc (suc place))) k above at = absurd (cc)

-- and there is no other
pub list-listing-only : (keys : List Key) → IsListing list_unit (key 0 2) keys → keys ≡ key 0 2 ∷ key 0 1 ∷ key 0 3 ∷ []
list-listing-only keys is = one list_unit (key 0 2) keys (key 0 2 ∷ key 0 1 ∷ key 0 3 ∷ []) is list-listing

abbrev second : List Key → ℕ
second [] = 0
second (k ∷ []) = 0
second (k ∷ l ∷ keys) = l.number

-- a list in another order is none
pub list-no-listing : IsListing list_unit (key 0 2) (key 0 2 ∷ key 0 3 ∷ key 0 1 ∷ []) → ⊥
list-no-listing is = other_place (list-listing-only (key 0 2 ∷ key 0 3 ∷ key 0 1 ∷ []) is) where
  other_place : ◌≡◌ {A = List Key} (key 0 2 ∷ key 0 3 ∷ key 0 1 ∷ []) (key 0 2 ∷ key 0 1 ∷ key 0 3 ∷ []) → ⊥
  other_place e = absurd (omega (arith, ap second e))

-- ---- cross references

-- `s4a:(0,1),0,32;;`
abbrev node_struct : TypeTree
node_struct = Struct 4 (field (codes "a") (number 1) 0 32 ∷ [])

-- `p:t(0,4)=*(0,5)=xsnode:` and `node:T(0,5)=s4a:(0,1),0,32;;`
abbrev node_unit : Unit
node_unit = unit_of (symbol (codes "p") descriptors.Typedef (Def (num 0 4) (Pointer (Def (num 0 5) (Cross tags.Struct (codes "node")))))
    ∷ symbol (codes "node") descriptors.Tag (Def (num 0 5) node_struct) ∷ [])

-- a later definition counts before a cross reference
pub node-definition : definition_of node_unit (key 0 5) ≡ Some node_struct
node-definition = simp forms

-- `p:t(0,4)=*(0,5)=xsnode:` alone
abbrev cross_unit : Unit
cross_unit = unit_of (symbol (codes "p") descriptors.Typedef (Def (num 0 4) (Pointer (Def (num 0 5) (Cross tags.Struct (codes "node"))))) ∷ [])

-- a cross reference counts where there is nothing else
pub cross-definition : definition_of cross_unit (key 0 5) ≡ Some (Cross tags.Struct (codes "node"))
cross-definition = simp forms

-- ---- two that hold each other

-- `s4b:(0,7)=*(0,8),0,32;;`
abbrev a_struct : TypeTree
a_struct = Struct 4 (field (codes "b") (Def (num 0 7) (Pointer (number 8))) 0 32 ∷ [])

-- `s4a:(0,9)=*(0,6),0,32;;`
abbrev b_struct : TypeTree
b_struct = Struct 4 (field (codes "a") (Def (num 0 9) (Pointer (number 6))) 0 32 ∷ [])

-- `a:T(0,6)=s4b:(0,7)=*(0,8),0,32;;` and `b:T(0,8)=s4a:(0,9)=*(0,6),0,32;;`
abbrev pair_unit : Unit
pair_unit = unit_of (symbol (codes "a") descriptors.Tag (Def (num 0 6) a_struct) ∷ symbol (codes "b") descriptors.Tag (Def (num 0 8) b_struct) ∷ [])

pair-led_6 : led_to pair_unit (key 0 6) ≡ key 0 7 ∷ []
pair-led_6 = simp forms

pair-led_7 : led_to pair_unit (key 0 7) ≡ key 0 8 ∷ []
pair-led_7 = simp forms

pair-led_8 : led_to pair_unit (key 0 8) ≡ key 0 9 ∷ []
pair-led_8 = simp forms

pair-led_9 : led_to pair_unit (key 0 9) ≡ key 0 6 ∷ []
pair-led_9 = simp forms

-- the way from one to the other and back
pub pair-listing : IsListing pair_unit (key 0 6) (key 0 6 ∷ key 0 7 ∷ key 0 8 ∷ key 0 9 ∷ [])
pair-listing = record {
  begins = refl;
  led = led;
  equation = simp (pair-led_6, pair-led_7, pair-led_8, pair-led_9);
} where
  led : Led pair_unit (key 0 6 ∷ key 0 7 ∷ key 0 8 ∷ key 0 9 ∷ [])
  led zero k above at = absurd (omega arith)
  led (suc zero) k above at = (0, key 0 6, omega arith, refl, leads-at pair_unit (key 0 6) (key 0 7 ∷ []) pair-led_6 0 k at)
  led (suc (suc zero)) k above at = (1, key 0 7, omega arith, refl, leads-at pair_unit (key 0 7) (key 0 8 ∷ []) pair-led_7 0 k at)
  led (suc (suc (suc zero))) k above at = (2, key 0 8, omega arith, refl, leads-at pair_unit (key 0 8) (key 0 9 ∷ []) pair-led_8 0 k at)
  led (suc (suc (suc (suc place)))) k above at = absurd (cc)

-- ---- itself, and nothing

-- `void:t(0,19)=(0,19)`
abbrev void_unit : Unit
void_unit = unit_of (symbol (codes "void") descriptors.Typedef (Def (num 0 19) (number 19)) ∷ [])

-- `void` is its own definition
pub void-definition : definition_of void_unit (key 0 19) ≡ Some (number 19)
void-definition = simp forms

pub void-name : name_of void_unit (key 0 19) ≡ Some (symbol (codes "void") descriptors.Typedef (Def (num 0 19) (number 19)))
void-name = simp forms

void-led : led_to void_unit (key 0 19) ≡ key 0 19 ∷ []
void-led = simp forms

-- a list of one key is the listing of it, if it leads to itself alone or to nothing
alone : (unit : Unit) (start : Key) → start ∷ [] ≡ firsts (start ∷ flat_map (led_to unit) (start ∷ [])) → IsListing unit start (start ∷ [])
alone unit start equation = record { begins = refl; led = led; equation = equation } where
  led : Led unit (start ∷ [])
  led zero k above at = absurd (omega arith)
  led (suc place) k above at = absurd (cc)

pub void-listing : IsListing void_unit (key 0 19) (key 0 19 ∷ [])
void-listing = alone void_unit (key 0 19) (simp void-led)

-- a number that nothing defines has no definition, and is listed alone
pub no-definition : definition_of void_unit (key 0 3) ≡ None
no-definition = simp forms

pub no-definition-listing : IsListing void_unit (key 0 3) (key 0 3 ∷ [])
no-definition-listing = alone void_unit (key 0 3) (simp forms)

-- ---- several files

-- `*(0,n)`
abbrev to : ℕ → TypeTree
to n = Pointer (number n)

-- `a:t(1,1)=*(0,1)` and `b:Tt(0,2)=xsb:` in file 0, `a:t(1,1)=*(0,2)` and `b:T(0,2)=*(0,3)` in file 1
abbrev two_files : Unit
two_files = unit_with (
    file_of (codes "list.c") (symbol (codes "a") descriptors.Typedef (Def (num 1 1) (to 1)) ∷ symbol (codes "b") descriptors.TagTypedef (Def (num 0 2) (Cross tags.Struct (codes "b"))) ∷ [])
    ∷ file_of (codes "list.h") (symbol (codes "a") descriptors.Typedef (Def (num 1 1) (to 2)) ∷ symbol (codes "b") descriptors.Tag (Def (num 0 2) (to 3)) ∷ [])
    ∷ [])

abbrev front : List Key → ℕ
front [] = 0
front (k ∷ keys) = k.number

-- the key's own file comes before file 0
pub own-file : definition_of two_files (key 1 1) ≡ Some (to 2)
own-file = simp forms

-- so the one in file 0 is not its definition
pub own-file-other : definition_of two_files (key 1 1) ≡ Some (to 1) → ⊥
own-file-other is =
    let two : surface_keys (Some (to 2)) ≡ key 0 2 ∷ [] = simp forms in
    let one : surface_keys (Some (to 1)) ≡ key 0 1 ∷ [] = simp forms in
    absurd (omega (arith, ap front (sym two ∙ ap surface_keys (sym own-file ∙ is) ∙ one)))

-- a definition in another file comes before a cross reference in the own
pub other-file : definition_of two_files (key 0 2) ≡ Some (to 3)
other-file = simp forms

-- a name comes from the own file alone: that of `(0,2)` is the symbol in file 0
pub own-name : name_of two_files (key 0 2) ≡ Some (symbol (codes "b") descriptors.TagTypedef (Def (num 0 2) (Cross tags.Struct (codes "b"))))
own-name = simp forms

-- `Tt` is a tag and a typedef
pub both-tag : tag_of two_files (codes "b") ≡ Some (key 0 2)
both-tag = simp forms

pub both-typedef : typedef_of two_files (codes "b") ≡ Some (key 0 2)
both-typedef = simp forms

-- `c:t(2,5)=*(0,1)` in file 0, `c:t(2,5)=*(0,2)` and `d:t(0,9)=*(0,2)` in file 1, `d:t(0,9)=*(0,3)` in file 2
abbrev three_files : Unit
three_files = unit_with (
    file_of (codes "list.c") (symbol (codes "c") descriptors.Typedef (Def (num 2 5) (to 1)) ∷ [])
    ∷ file_of (codes "list.h") (symbol (codes "c") descriptors.Typedef (Def (num 2 5) (to 2)) ∷ symbol (codes "d") descriptors.Typedef (Def (num 0 9) (to 2)) ∷ [])
    ∷ file_of (codes "node.h") (symbol (codes "d") descriptors.Typedef (Def (num 0 9) (to 3)) ∷ [])
    ∷ [])

-- where the own file has none, file 0 comes before file 1
pub main-file : definition_of three_files (key 2 5) ≡ Some (to 1)
main-file = simp forms

-- and file 1 before file 2
pub first-header : definition_of three_files (key 0 9) ≡ Some (to 2)
first-header = simp forms

-- `a:t(1,1)=*(0,1)` in file 0, the only file
abbrev no_file_1 : Unit
no_file_1 = unit_of (symbol (codes "a") descriptors.Typedef (Def (num 1 1) (to 1)) ∷ [])

-- a key of a file that is not there has the definition that file 0 gives it
pub no-file-definition : definition_of no_file_1 (key 1 1) ≡ Some (to 1)
no-file-definition = simp forms

-- but no name
pub no-file-name : name_of no_file_1 (key 1 1) ≡ None
no-file-name = refl

-- and a typedef of file 0 gives its key
pub no-file-typedef : typedef_of no_file_1 (codes "a") ≡ Some (key 1 1)
no-file-typedef = simp forms

-- ---- externals

abbrev entry_of : ℕ → List ℕ → ℕ → Named
entry_of kind name value = record { kind = kind; other = 0; desc = 0; value = value; name = name }

-- `_main` is external text (5), `_x` local data (6), `main:F1` a stab (0x24), `_buf` external bss (9), `_printf` is undefined (1)
abbrev entries : List Named
entries = entry_of 5 (codes "_main") 16 ∷ entry_of 6 (codes "_x") 20 ∷ entry_of 36 (codes "main:F1") 16 ∷ entry_of 9 (codes "_buf") 24 ∷ entry_of 1 (codes "_printf") 0 ∷ []

pub some-externals : externals_of entries ≡ record { name = codes "_main"; value = 16 } ∷ record { name = codes "_buf"; value = 24 } ∷ []
some-externals = refl
