use Rattle.std.proofs.Common.{◌≡◌, ◌++◌, drop, map}
use Rattle.stab_units.specs.Units.{header_name, names_of}
use Rattle.stab_units.specs.ReadingWalk.{blank}
use Rattle.stab_units.proofs.reading.blank_files.Given as goal

-- the files so far, and those of the headers left, are all
abbrev pub invariant-loop-header : goal.invariant-loop-header
invariant-loop-header l = l.files ++ map blank (map header_name (drop l.header-index l.header-items)) ≡ map blank (names_of l.span)
