use Rattle.std.proofs.Common.{◌≡◌, drop}
use Rattle.std.specs.List.{list_all}
use Rattle.bincl_match.specs.Owning.{names_type}
use Rattle.bincl_match.proofs.unit_ranges.all_name_types.Given as goal

-- the symbols so far name types
abbrev pub invariant-loop-symbol : goal.invariant-loop-symbol
invariant-loop-symbol l = list_all names_type (drop l.symbol-index l.symbols) ≡ list_all names_type l.symbols
