-- The externals of an entry list, which are the names that other objects see, with their values; and the world of an object: its
-- units and its externals. After a.out(5), on `n_type` and N_EXT.
use Rattle.std.specs.Prelude.{◌≡◌, ℕ, Bool, List, map}
use Rattle.std.specs.List.{filter}
use Rattle.nlist_codec.specs.Kinds.{defines_name}
use Rattle.nlist_codec.specs.declared.named.Named.{Named}
use Rattle.stab_units.specs.ObjectUnits.{AreUnits}
use Rattle.type_graph.specs.declared.world.External.{External}
use Rattle.type_graph.specs.declared.world.World.{World}

-- the entry is external, and its value is a number, or an address of a segment
abbrev pub is_external : Named → Bool
is_external entry = defines_name entry.kind

-- its name and value
abbrev pub external_of : Named → External
external_of entry = record { name = entry.name; value = entry.value }

-- those of a list, in order
abbrev pub externals_of : List Named → List External
externals_of entries = map external_of (filter is_external entries)

-- the world of an object's entries, where text ends at this address
pub record IsWorldOf (text_end : ℕ) (entries : List Named) (world : World) : Type 0 where
  pub units : AreUnits text_end entries world.units
  pub externals : world.externals ≡ externals_of entries
