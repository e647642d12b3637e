use Rattle.std.proofs.Common.{◌≡◌, ◌++◌, drop}
use Rattle.std.specs.Prelude.{flat_map}
use Rattle.std.specs.List.{enumerate_from}
use Rattle.query_text.specs.UnitLines as spec
use Rattle.query_text.proofs.units.files_text.Given as goal

-- the lines so far and those still to come are all lines
abbrev pub invariant-loop-number : goal.invariant-loop-number
invariant-loop-number l =
    l.text ++ flat_map (λ p. spec.file_line p.0 p.1) (enumerate_from l.number (drop l.number l.files)) ≡ spec.files_text l.files
