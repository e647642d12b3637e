-- The two sorts of names of types, by the descriptors of their symbols. After "The stabs debug format", on typedefs and tags.
use Rattle.std.specs.Prelude.{Bool}
use Rattle.stab_symbols.specs.declared.tree.Descriptor.{Descriptor}
use Rattle.type_graph.specs.declared.names.Sort.{Sort}
use Rattle.type_graph.specs.declared.names.Sort.TheVariants as sorts
use Rattle.type_graph.specs.Types.{is_tag_symbol, is_typedef_symbol}

-- a symbol with this descriptor is of the sort
abbrev pub is_of : Sort → Descriptor → Bool
is_of sorts.Tag descriptor = is_tag_symbol descriptor
is_of sorts.Typedef descriptor = is_typedef_symbol descriptor
