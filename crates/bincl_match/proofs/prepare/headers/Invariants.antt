use Rattle.std.proofs.Common.{ℕ}
use Rattle.bincl_match.specs.Refining.{Found, look_header}
use Rattle.bincl_match.proofs.prepare.headers.Given as goal

-- the headers so far
abbrev pub invariant-loop-i : goal.invariant-loop-i
invariant-loop-i l = (unit file : ℕ) → Found l.ranges l.i unit file (look_header l.headers unit file)
