-- Worked values, by hand: functions and their items, blocks in one another and unclosed, bounds that wrap, equal values, files of lines.
use Rattle.std.proofs.Common.{◌≡◌, ◌≤◌, ◌<◌, ℕ, zero, suc, List, [], ◌∷◌, true, false, Some, None, refl, arith}
use Rattle.std.specs.Prelude.{slice_get}
use Rattle.std.proofs.lemmas.Option.{none-some}
use Rattle.stab_symbols.specs.declared.tree.Descriptor.TheVariants as descriptor
use Rattle.stab_units.specs.declared.unit.Item.{Item}
use Rattle.stab_units.specs.declared.unit.ItemText.TheVariants as text
use Rattle.stab_units.specs.declared.unit.Unit.{Unit as OneUnit}
use Rattle.type_graph.specs.declared.world.World.{World}
use Rattle.scope_lines.specs.declared.role.Role.{Role}
use Rattle.scope_lines.specs.declared.role.Role.TheVariants.{Function, Opens, Closes, Parameter, Local, Static, Other}
use Rattle.scope_lines.specs.Blocks.{end_place, end_value}
use Rattle.scope_lines.specs.Lines.{line_at, addresses}
use Rattle.scope_lines.specs.Nearest.{nearest}
use Rattle.scope_lines.specs.ListPlaces.{AreInOrder}
use Rattle.scope_lines.specs.Roles.{symbol_role}
use Rattle.scope_lines.specs.Scopes.{own_of, blocks_of, statics_of, scope_at}

-- ---- roles

role-function : symbol_role descriptor.GlobalFun true 16 ≡ Function 16
role-function = refl

-- with another code it is no function
role-other : symbol_role descriptor.GlobalFun false 16 ≡ Other
role-other = refl

-- ---- the N_RBRAC of an N_LBRAC

-- the second one closes the outer block
end-outer : end_place (Opens 0) (Opens 4 ∷ Closes 8 ∷ Local ∷ Closes 12 ∷ []) ≡ Some 4
end-outer = refl

end-inner : end_value (Opens 4) (Closes 8 ∷ Local ∷ Closes 12 ∷ []) ≡ Some 8
end-inner = refl

end-none : end_place (Opens 0) (Opens 4 ∷ Closes 8 ∷ []) ≡ None
end-none = refl

-- ---- scopes

-- a function with a parameter, a local before its block, and a global of the unit
abbrev simple : List Role
simple = Function 4096 ∷ Parameter ∷ Local ∷ Opens 0 ∷ Closes 8 ∷ Static ∷ []

simple-own : own_of (Some 0) simple ≡ 1 ∷ []
simple-own = refl

simple-blocks : blocks_of 4096 (Some 0) 4101 simple ≡ record { low = 4096; high = 4104; vars = 2 ∷ [] } ∷ []
simple-blocks = refl

-- the end of a block does not belong to it
simple-end : blocks_of 4096 (Some 0) 4104 simple ≡ []
simple-end = refl

simple-statics : statics_of simple ≡ 5 ∷ []
simple-statics = refl

-- blocks in one another: a local before an N_RBRAC or a function belongs to the function
abbrev nested : List Role
nested = Function 0 ∷ Local ∷ Opens 0 ∷ Local ∷ Parameter ∷ Opens 4 ∷ Closes 8 ∷ Local ∷ Closes 12 ∷ Local ∷ Function 16 ∷ Local ∷ []

nested-own : own_of (Some 0) nested ≡ 4 ∷ 7 ∷ 9 ∷ []
nested-own = refl

nested-blocks : blocks_of 0 (Some 0) 5 nested ≡ record { low = 0; high = 12; vars = 1 ∷ [] } ∷ record { low = 4; high = 8; vars = 3 ∷ [] } ∷ []
nested-blocks = refl

-- a local with nothing after it belongs to the last function
nested-second : own_of (Some 10) nested ≡ 11 ∷ []
nested-second = refl

-- an N_LBRAC without an end is no block, and its items belong to none
abbrev open_ended : List Role
open_ended = Function 0 ∷ Local ∷ Opens 0 ∷ Local ∷ Opens 4 ∷ Closes 8 ∷ []

open_ended-own : own_of (Some 0) open_ended ≡ []
open_ended-own = refl

open_ended-blocks : blocks_of 0 (Some 0) 5 open_ended ≡ record { low = 4; high = 8; vars = 3 ∷ [] } ∷ []
open_ended-blocks = refl

-- a block goes on after the next function; an N_RBRAC with none to close is passed over
abbrev crossing : List Role
crossing = Closes 1 ∷ Function 0 ∷ Opens 2 ∷ Function 9 ∷ Closes 6 ∷ []

crossing-blocks : blocks_of 0 (Some 1) 5 crossing ≡ record { low = 2; high = 6; vars = [] } ∷ []
crossing-blocks = refl

-- things at places in order: a list that holds 4 at place 0 and 9 at place 2
abbrev some_at : ℕ → ℕ → Type 0
some_at place thing = slice_get (Some 4 ∷ None ∷ Some 9 ∷ []) place ≡ Some (Some thing)

in_order : AreInOrder some_at 0 (4 ∷ 9 ∷ [])
in_order = (0, omega arith, refl, λ place thing low high at. absurd (omega (arith, high)), (2, omega arith, refl, one_between, none_after))
  where
    one_between : (place thing : ℕ) → 1 ≤ place → place < 2 → some_at place thing → ⊥
    one_between zero thing low high at = omega (arith, low)
    one_between (suc zero) thing low high at = absurd cc
    one_between (suc (suc place)) thing low high at = omega (arith, high)

    none_after : (place thing : ℕ) → 3 ≤ place → some_at place thing → ⊥
    none_after zero thing low at = omega (arith, low)
    none_after (suc zero) thing low at = omega (arith, low)
    none_after (suc (suc zero)) thing low at = omega (arith, low)
    none_after (suc (suc (suc place))) thing low at = none-some (Some thing) at

-- not the other way round, and none is left out
swapped : AreInOrder some_at 0 (9 ∷ 4 ∷ []) → ⊥
swapped (zero, low, at, between, after) = absurd cc
swapped (suc zero, low, at, between, after) = absurd cc
swapped (suc (suc zero), low, at, between, after) = between 0 4 (omega arith) (omega arith) refl
swapped (suc (suc (suc place)), low, at, between, after) = none-some (Some 9) at

left_out : AreInOrder some_at 0 (4 ∷ []) → ⊥
left_out (zero, low, at, between, after) = after 2 9 (omega arith) refl
left_out (suc place, low, at, between, after) = between 0 4 (omega arith) (omega arith) refl

-- without a function there are no items and no blocks
no_function : own_of None nested ≡ []
no_function = refl

-- bounds are taken modulo 2^32
wrapped : blocks_of 4294967295 (Some 0) 3 (Function 0 ∷ Opens 2 ∷ Closes 6 ∷ []) ≡ record { low = 1; high = 5; vars = [] } ∷ []
wrapped = refl

-- the greatest not above, the last of equals
nearest-equal : nearest 9 (Some 4 ∷ Some 9 ∷ None ∷ Some 9 ∷ Some 12 ∷ Some 2 ∷ []) ≡ Some 3
nearest-equal = refl

nearest-none : nearest 1 (Some 4 ∷ None ∷ []) ≡ None
nearest-none = refl

-- ---- lines

abbrev line_entry : ℕ → ℕ → Item
line_entry line value = record { kind = 68; other = 0; desc = line; value = value; text = text.Raw [] }

-- a unit `a` with a line of its own, and then lines of a file `b`
abbrev unit : OneUnit
unit = record {
  name = 97 ∷ [];
  start = 0;
  end = 16;
  files = [];
  body = line_entry 1 0 ∷ record { kind = 132; other = 0; desc = 0; value = 4; text = text.Raw (98 ∷ []) } ∷ line_entry 2 4 ∷ line_entry 3 4 ∷ line_entry 2 8 ∷ [];
}

abbrev world : World
world = record { units = unit ∷ []; externals = [] }

line-equal : line_at world 5 ≡ Some record { unit = 0; item = 3; file_item = Some 1 }
line-equal = refl

line-own : line_at world 3 ≡ Some record { unit = 0; item = 0; file_item = None }
line-own = refl

-- the end of a unit is not in it
line-end : line_at world 16 ≡ None
line-end = refl

scope-end : scope_at world 16 ≡ None
scope-end = refl

addresses-twice : addresses world (98 ∷ []) 2 ≡ record { unit = 0; value = 4 } ∷ record { unit = 0; value = 8 } ∷ []
addresses-twice = refl

-- after the N_SOL the file is another
addresses-none : addresses world (97 ∷ []) 2 ≡ []
addresses-none = refl
