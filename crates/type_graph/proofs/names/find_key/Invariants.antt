use Rattle.std.proofs.Common.{◌≡◌, drop}
use Rattle.std.specs.Prelude.{flat_map}
use Rattle.std.specs.List.{find}
use Rattle.type_graph.specs.Sorts.{is_of}
use Rattle.type_graph.specs.Types.{all_symbols, is_named, symbols_of}
use Rattle.type_graph.proofs.names.find_key.Given as goal

-- the first symbol of the sort and name is in the files that are left
abbrev pub invariant-loop-file : goal.invariant-loop-file
invariant-loop-file l = find (is_named (is_of l.sort) l.name) (flat_map symbols_of (drop l.file-index l.files)) ≡ find (is_named (is_of l.sort) l.name) (all_symbols l.unit)
