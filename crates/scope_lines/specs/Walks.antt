-- What each of the walks over a body has, one item on. No contract of a public call speaks of it.
use Rattle.std.specs.Prelude.{ℕ, List, [], ◌∷◌, ◌++◌, Bool, ◌&&◌, if◌then◌else◌, nat_lt, Option, Some, None}
use Rattle.std.specs.Str.{bytes_eq}
use Rattle.stab_units.specs.declared.unit.Item.{Item}
use Rattle.scope_lines.specs.declared.role.Role.{Role}
use Rattle.scope_lines.specs.declared.role.Role.TheVariants.{Function, Opens, Closes, Local}
use Rattle.scope_lines.specs.declared.behind.Behind.{Behind}
use Rattle.scope_lines.specs.declared.scope.Block.{Block}
use Rattle.scope_lines.specs.declared.walk.Walk.{Walk}
use Rattle.scope_lines.specs.declared.walk.Asked.{Asked}
use Rattle.scope_lines.specs.Blocks.{block_at}
use Rattle.scope_lines.specs.Lines.{is_source, text_of}
use Rattle.scope_lines.specs.Scopes.{is_own, same_place, is_static}

-- ---- the nearest item

-- the nearest of some, with its value, and then one more that is not above
abbrev pub better_than : Option (ℕ × ℕ) → ℕ → ℕ → Option (ℕ × ℕ)
better_than None at v = Some (at, v)
better_than (Some p) at v = if nat_lt v p.1 then Some p else Some (at, v)

-- the same of any item of the body
abbrev pub better : ℕ → Option (ℕ × ℕ) → ℕ → Option ℕ → Option (ℕ × ℕ)
better address found at None = found
better address found at (Some v) = if nat_lt address v then found else better_than found at v

-- ---- the file of a line

-- whether the file is the one sought, after one item more
abbrev pub next_here : List ℕ → Item → Bool → Bool
next_here file item here = if is_source item then bytes_eq (text_of item) file else here

-- ---- a scope, with what stands after each item at hand

-- the last function, one item on
abbrev pub next_last : Role → ℕ → Option ℕ → Option ℕ
next_last (Function value) at last = Some at
next_last _ at last = last

-- the items that wait for an N_LBRAC, one item on
abbrev pub next_waiting : Role → ℕ → List ℕ → List ℕ
next_waiting (Function value) at vars = []
next_waiting (Opens value) at vars = []
next_waiting (Closes value) at vars = []
next_waiting Local at vars = vars ++ at ∷ []
next_waiting _ at vars = vars

-- a place where it counts
abbrev pub placed_if : Bool → ℕ → List ℕ
placed_if counts at = if counts then at ∷ [] else []

-- the block that an item begins, where it is the sought function's and holds the address
abbrev pub new_blocks : Asked → Role → Option ℕ → Option ℕ → List ℕ → List Block
new_blocks asked (Opens low) end last vars = if same_place asked.function last then block_at asked.start asked.address low end vars else []
new_blocks asked _ end last vars = []

-- the walk, one item on
abbrev pub stepped : Asked → Walk → ℕ → Role → Behind → Walk
stepped asked w at role behind = record {
  last = next_last role at w.last;
  waiting = next_waiting role at w.waiting;
  own = w.own ++ placed_if (is_own role behind.opens_next && same_place asked.function w.last) at;
  blocks = w.blocks ++ new_blocks asked role behind.end w.last w.waiting;
  statics = w.statics ++ placed_if (is_static role) at;
}
