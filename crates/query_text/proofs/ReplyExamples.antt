-- Worked values of the lines of replies, by hand.
use Rattle.std.proofs.Common.{◌≡◌, ℕ, List, [], ◌∷◌, Some, None, refl, sym, ap, ◌∙◌, lit<}
use Rattle.std.specs.Prelude.{codes, true}
use Rattle.std.proofs.lemmas.Fmt.{decimal_digit}
use Rattle.stab_symbols.specs.declared.tree.Num.{Num}
use Rattle.stab_symbols.specs.declared.tree.Num.TheVariants.{Pair}
use Rattle.stab_symbols.specs.declared.tree.TypeTree.TheVariants.{Ref, rolls-Ref}
use Rattle.stab_symbols.specs.declared.tree.TypeTree.TheOpen.{TypeTree-F}
use Rattle.stab_symbols.specs.declared.tree.TypeTree.TheFolds.{fold-roll-TypeTree}
use Rattle.stab_symbols.specs.declared.tree.Descriptor.{Descriptor}
use Rattle.stab_symbols.specs.declared.tree.Descriptor.TheVariants as descriptors
use Rattle.stab_symbols.specs.SymbolSpelling.{num, step, field_step, print_of}
use Rattle.stab_symbols.specs.declared.tree.Symbol.{Symbol}
use Rattle.stab_symbols.specs.declared.tree.Key.{Key}
use Rattle.stab_symbols.specs.Printing.{level_text}
use Rattle.stab_symbols.specs.Surface.{placed, place_text}
use Rattle.stab_units.specs.declared.unit.Unit.{Unit as OneUnit}
use Rattle.scope_lines.specs.declared.scope.Scope.{Scope}
use Rattle.stab_units.specs.declared.unit.Item.{Item}
use Rattle.stab_units.specs.declared.unit.ItemText.TheVariants as texts
use Rattle.type_graph.specs.declared.world.External.{External}
use Rattle.type_graph.specs.declared.world.World.{World}
use Rattle.query_text.specs.declared.query.Query.TheVariants as queries
use Rattle.st_base.specs.Numerals.{hex8}
use Rattle.query_text.specs.UnitLines.{unit_line, units_text}
use Rattle.query_text.specs.Externals.{external_value}
use Rattle.query_text.specs.Vars.{var_line}
use Rattle.query_text.specs.ScopeText.{scope_text}
use Rattle.query_text.specs.ScopeText as scopes
use Rattle.query_text.specs.LineText.{line_text, line_line}
use Rattle.query_text.specs.Listed.{node_line}
use Rattle.query_text.specs.Replies.{or_none, Answers}

-- ---- numbers

some_digits : hex8 0x12a0f ≡ codes "00012a0f"
unfolding hex8
some_digits = refl

the_last : hex8 0xffffffff ≡ codes "ffffffff"
unfolding hex8
the_last = refl

not_short : hex8 0x10 ≡ codes "10" → ⊥
unfolding hex8
not_short e = absurd cc

-- ---- externals

abbrev external : List ℕ → ℕ → External
external name value = record { name = name; value = value }

-- the first of the name counts, with the `_` before it
abbrev externals : List External
externals = external (codes "total") 1 ∷ external (codes "_total") 2 ∷ external (codes "_total") 3 ∷ []

the_first : external_value externals (codes "total") ≡ Some 2
the_first = refl

none_of_it : external_value externals (codes "_total") ≡ None
none_of_it = refl

-- ---- units

abbrev unit : List ℕ → ℕ → ℕ → OneUnit
unit name start end = record { name = name; start = start; end = end; files = []; body = [] }

-- the name stands in its shown form
a_unit : units_text (unit (codes "/w/a.c") 0x1000 0x1008 ∷ unit [] 0x1008 0x100c ∷ []) ≡ codes "0 00001000 00001008 /w/a.c\n1 00001008 0000100c -\n"
unfolding unit_line hex8
a_unit = rw (decimal_digit 0 (lit< tt), decimal_digit 1 (lit< tt)) refl

-- ---- items

print-Ref : (n : Num) → print_of (Ref n) ≡ num n
print-Ref n = ap print_of (sym (rolls-Ref n)) ∙ fold-roll-TypeTree (List ℕ) (List ℕ) step field_step (TypeTree-F.Ref n)

-- `(0,1)` in digits
a_number : print_of (Ref (Pair 0 1)) ≡ codes "(0,1)"
a_number = rw (print-Ref (Pair 0 1), decimal_digit 0 (lit< tt), decimal_digit 1 (lit< tt)) refl

abbrev symbol : List ℕ → Descriptor → Symbol
symbol name descriptor = record { name = name; descriptor = descriptor; tree = Ref (Pair 0 1) }

-- a parameter has the value of its item
a_parameter : var_line (external_value externals) (symbol (codes "total") descriptors.Param) 8 ≡ codes "var p total (0,1) 00000008\n"
unfolding var_line hex8
a_parameter = rw a_number refl

-- a global variable has that of its name for other objects, or none
a_global : var_line (external_value externals) (symbol (codes "total") descriptors.Global) 8 ≡ codes "var G total (0,1) 00000002\n"
unfolding var_line hex8
a_global = rw a_number refl

no_value : var_line (external_value []) (symbol (codes "total") descriptors.Global) 8 ≡ codes "var G total (0,1) -\n"
unfolding var_line hex8
no_value = rw a_number refl

-- a variable on the stack has no letter
on_the_stack : var_line (external_value []) (symbol (codes "head") descriptors.Stack) 0xfffffffc ≡ codes "var - head (0,1) fffffffc\n"
unfolding var_line hex8
on_the_stack = rw a_number refl

-- ---- a scope

abbrev item : ℕ → Symbol → Item
item value s = record { kind = 0x80; other = 0; desc = 0; value = value; text = texts.Symbol s }

-- a function, its parameter, a variable of a block, and a global variable
abbrev body : List Item
body =
    item 0x1000 (symbol (codes "main") descriptors.GlobalFun) ∷ item 8 (symbol (codes "argc") descriptors.Param)
    ∷ item 0xfffffffc (symbol (codes "head") descriptors.Stack) ∷ item 0 (symbol (codes "total") descriptors.Global) ∷ []

abbrev main_unit : OneUnit
main_unit = record { name = codes "a.c"; start = 0x1000; end = 0x1008; files = []; body = body }

abbrev main_scope : Scope
main_scope = record {
  unit = 0;
  function = Some 0;
  own = 1 ∷ [];
  blocks = record { low = 0x1000; high = 0x1008; vars = 2 ∷ [] } ∷ record { low = 0x1004; high = 0x1008; vars = [] } ∷ [];
  statics = 3 ∷ [];
}

-- each in its place; a block without items has its line
a_scope : scope_text (external_value externals) main_unit main_scope ≡
    codes "unit 0 a.c\nfunction main 00001000\nvar p argc (0,1) 00000008\nblock 00001000 00001008\nvar - head (0,1) fffffffc\nblock 00001004 00001008\nvar G total (0,1) 00000002\n"
unfolding scopes.unit_line scopes.function_line scopes.block_line var_line hex8
a_scope = rw (a_number, decimal_digit 0 (lit< tt)) refl

-- where there is no function, the items of the unit alone are there
no_function : scope_text (external_value []) main_unit (record { unit = 0; function = None; own = []; blocks = []; statics = 3 ∷ [] })
    ≡ codes "unit 0 a.c\nvar G total (0,1) -\n"
unfolding scopes.unit_line var_line hex8
no_function = rw (a_number, decimal_digit 0 (lit< tt)) refl

-- ---- a line

-- `a.h` names the file of line 5, and no item that of line 7
abbrev lines : List Item
lines =
    record { kind = 0x84; other = 0; desc = 0; value = 0; text = texts.Raw (codes "a.h") }
    ∷ record { kind = 0x44; other = 0; desc = 5; value = 0x1004; text = texts.Raw [] } ∷ []

abbrev line_unit : OneUnit
line_unit = record { name = codes "a.c"; start = 0x1000; end = 0x1008; files = []; body = lines }

a_line : line_text line_unit (record { unit = 0; item = 1; file_item = Some 0 }) ≡ codes "a.h 5 00001004\n"
unfolding line_line hex8
a_line = rw (decimal_digit 5 (lit< tt)) refl

of_the_unit : line_text line_unit (record { unit = 0; item = 1; file_item = None }) ≡ codes "a.c 5 00001004\n"
unfolding line_line hex8
of_the_unit = rw (decimal_digit 5 (lit< tt)) refl

-- ---- a listing

-- the key of `(0,1)`, and that it is a place in a listing
abbrev key : Key
key = record { file = 0; number = 1 }

placed-Ref : (keys : List Key) (n : Num) → placed keys (Ref n) ≡ place_text keys n
placed-Ref keys n =
    ap (placed keys) (sym (rolls-Ref n)) ∙ fold-roll-TypeTree (List ℕ) (List ℕ) (level_text (place_text keys) true) field_step (TypeTree-F.Ref n)

-- a key with a name and a definition; the type stands in the listing as a place
a_key : node_line (key ∷ []) 0 (Some (symbol (codes "void") descriptors.Typedef)) (Some (Ref (Pair 0 1))) ≡ codes "0 t void #0\n"
unfolding node_line
a_key = rw (placed-Ref (key ∷ []) (Pair 0 1), decimal_digit 0 (lit< tt)) refl

-- a key without either
no_key : node_line (key ∷ []) 0 None None ≡ codes "0 - - undefined\n"
unfolding node_line
no_key = rw (decimal_digit 0 (lit< tt)) refl

-- ---- nothing there

abbrev empty_world : World
empty_world = record { units = []; externals = [] }

no_units : Answers empty_world queries.Units (codes "none\n")
no_units = ([], refl, refl)

-- a unit that is not there
no_unit : Answers empty_world (queries.TagNamed 7 (codes "list")) (codes "none\n")
no_unit = ([], refl, refl)

-- the reply is never empty
not_empty : Answers empty_world queries.Units [] → ⊥
not_empty (lines, is, text) = let none : [] ≡ or_none [] = text ∙ ap or_none is in absurd cc
