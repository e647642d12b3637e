use Rattle.std.proofs.Common.{take, drop}
use Rattle.scope_lines.specs.Roles.{roles}
use Rattle.scope_lines.proofs.WalkLemmas.{Walking}
use Rattle.scope_lines.proofs.walk.walked.Given as goal

abbrev pub invariant-loop-at : goal.invariant-loop-at
invariant-loop-at l = Walking l.asked (roles l.body) (roles (take l.at l.body)) (roles (drop l.at l.body)) l.found.items l.walk
