use Rattle.std.proofs.Common.{◌≡◌, ◌++◌, ◌+◌, ◌-◌, ◌*◌, drop}
use Rattle.file_commands.specs.Dump as spec
use Rattle.file_commands.proofs.dump.put_rows.Given as goal

-- the rows so far and those still to come are all rows
abbrev pub invariant-loop-row : goal.invariant-loop-row
invariant-loop-row l =
    l.out ++ spec.rows_from (l.row-end - l.row) (l.address + 16 * l.row) (drop (16 * l.row) l.bytes) ≡ l.initial.out ++ spec.rows_text l.address l.bytes
