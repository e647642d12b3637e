use Rattle.std.proofs.Common.{◌≡◌, ◌++◌, drop}
use Rattle.query_text.specs.LineText as spec
use Rattle.query_text.proofs.line_text.addresses_text.Given as goal

-- the lines so far and those still to come are all lines
abbrev pub invariant-loop-address : goal.invariant-loop-address
invariant-loop-address l = l.text ++ spec.addresses_text (drop l.address-index l.found) ≡ spec.addresses_text l.found
