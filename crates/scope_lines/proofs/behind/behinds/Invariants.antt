use Rattle.std.proofs.Common.{◌≡◌, drop}
use Rattle.scope_lines.specs.Behind.{Reads, behinds}
use Rattle.scope_lines.specs.Roles.{roles}
use Rattle.scope_lines.proofs.behind.behinds.Given as goal

-- the items from here on were read
abbrev pub invariant-loop-at : goal.invariant-loop-at
invariant-loop-at l = Reads (roles (drop l.at l.body)) l.reading × (l.found.items ≡ behinds (roles (drop l.at l.body)))
