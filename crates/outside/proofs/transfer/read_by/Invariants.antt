use Rattle.std.proofs.Common.{◌+◌, ◌-◌, ◌≤◌, length}
use Rattle.std.specs.Io.KnownBytes.{Consumes}
use Rattle.outside.proofs.transfer.read_by.Given as goal

-- the text is what was read, and has at most one byte too many
abbrev pub invariant-loop-text : goal.invariant-loop-text
invariant-loop-text g l = record {
  read : Consumes (g.R.Read.remaining l.initial.from) (g.R.Read.remaining l.from) l.text;
  within : length l.text ≤ l.most + 1;
}

-- how many bytes may still be asked for
abbrev pub decreases-loop-text : goal.decreases-loop-text
decreases-loop-text g l = (l.most + 1) - length l.text
