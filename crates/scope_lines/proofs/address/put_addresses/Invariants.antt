use Rattle.std.proofs.Common.{take, drop}
use Rattle.scope_lines.specs.Lines.{addresses_in}
use Rattle.scope_lines.proofs.AddressLemmas.{Addressing}
use Rattle.scope_lines.proofs.address.put_addresses.Given as goal

-- what was found, with what the items from here on have, is what the unit has
abbrev pub invariant-loop-item : goal.invariant-loop-item
invariant-loop-item l = Addressing l.file l.line l.number l.unit.name l.initial.out (addresses_in l.file l.line l.number l.unit) (take l.item-index l.body) (drop l.item-index l.body) l.here l.out
