-- The listing of a key: the key itself and then every key that its definition leads to, each once. It is this project's own,
-- and is said by an equation on the list, without a work list.
use Rattle.std.specs.Prelude.{◌≡◌, ◌<◌, ℕ, List, [], ◌∷◌, flat_map, Option, Some, None, slice_get, Contains}
use Rattle.stab_symbols.specs.declared.tree.Key.{Key}
use Rattle.stab_symbols.specs.declared.tree.TypeTree.{TypeTree}
use Rattle.stab_symbols.specs.Surface.{surface_of}
use Rattle.stab_units.specs.declared.unit.Unit.{Unit}
use Rattle.type_graph.specs.KeyLists.{firsts}
use Rattle.type_graph.specs.Types.{definition_of}

-- the keys on the surface of a definition, none where there is none
abbrev pub surface_keys : Option TypeTree → List Key
surface_keys None = []
surface_keys (Some body) = surface_of body

-- the keys that a key leads to at once: those on the surface of its definition
abbrev pub led_to : Unit → Key → List Key
led_to unit key = surface_keys (definition_of unit key)

-- the list `keys` is the listing of `start`
pub record IsListing (unit : Unit) (start : Key) (keys : List Key) : Type 0 where
  -- it begins with the key
  pub begins : slice_get keys 0 ≡ Some start
  -- every other key stands on the surface of the definition of an earlier one
  pub led : (place : ℕ) (key : Key) → 0 < place → slice_get keys place ≡ Some key
      → (earlier : ℕ) × (from : Key) × (earlier < place) × (slice_get keys earlier ≡ Some from) × Contains (led_to unit from) key
  -- it is the start and then the surfaces of the definitions of its keys, in its own order, each key at its first place
  pub equation : keys ≡ firsts (start ∷ flat_map (led_to unit) keys)
