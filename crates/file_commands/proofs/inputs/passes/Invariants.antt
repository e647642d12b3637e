use Rattle.std.proofs.Common.{◌≡◌, ◌+◌, length, take}
use Rattle.std.specs.List.{sum_by}
use Rattle.file_commands.proofs.inputs.passes.Given as goal

-- what is left is the total without the texts so far
abbrev pub invariant-loop-text : goal.invariant-loop-text
invariant-loop-text l = l.left + sum_by length (take l.text-index l.texts) ≡ l.total
