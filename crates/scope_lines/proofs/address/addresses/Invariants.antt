use Rattle.std.proofs.Common.{◌≡◌, ◌++◌, drop}
use Rattle.std.specs.Prelude.{flat_map}
use Rattle.std.specs.List.{enumerate_from}
use Rattle.scope_lines.specs.Lines.{addresses, addresses_in}
use Rattle.scope_lines.proofs.address.addresses.Given as goal

-- what was found, with what the units from here on have, is what all have
abbrev pub invariant-loop-number : goal.invariant-loop-number
invariant-loop-number l = l.found ++ flat_map (λ p. addresses_in l.file l.line p.0 p.1) (enumerate_from l.number (drop l.number l.units)) ≡ addresses l.world l.file l.line
