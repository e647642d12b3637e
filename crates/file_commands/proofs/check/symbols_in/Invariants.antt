use Rattle.std.proofs.Common.{◌≡◌, take}
use Rattle.std.specs.List.{sum_by}
use Rattle.file_commands.specs.Checking.{symbols_of}
use Rattle.file_commands.proofs.check.symbols_in.Given as goal

-- the symbols of the units so far are summed
abbrev pub invariant-loop-unit : goal.invariant-loop-unit
invariant-loop-unit l = l.total ≡ sum_by symbols_of (take l.unit-index l.units)
