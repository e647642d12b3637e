use Rattle.std.proofs.Common.{◌≡◌, ◌++◌, drop}
use Rattle.std.specs.Prelude.{flat_map}
use Rattle.std.specs.List.{enumerate_from}
use Rattle.file_commands.specs.Dump as spec
use Rattle.file_commands.proofs.dump.put_entries.Given as goal

-- the lines so far and those still to come are all lines
abbrev pub invariant-loop-number : goal.invariant-loop-number
invariant-loop-number l =
    l.out ++ flat_map (λ p. spec.entry_line p.0 p.1) (enumerate_from l.number (drop l.number l.entries)) ≡ l.initial.out ++ spec.entries_text l.entries
