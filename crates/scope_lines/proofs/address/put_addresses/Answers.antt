use Rattle.std.proofs.Common.{◌++◌, ◌∙◌, ap, Bool}
use Rattle.scope_lines.specs.Lines.{addresses_in, address_if}
use Rattle.scope_lines.proofs.AddressLemmas.{Addressing_more}
use Rattle.scope_lines.proofs.address.put_addresses.Goals as goal

-- one item on
pub loop-item-preserved : goal.loop-item-preserved
loop-item-preserved c = Addressing_more c.args.file.now c.args.line c.args.number c.args.unit.now.name c.args.out.now (addresses_in c.args.file.now c.args.line c.args.number c.args.unit.now)
    c.items-body.result.now c.loop-item.item-index c.item-item.result c.loop-item.here c.next_here-here.result c.loop-item.out c.put_address.new.out
    c.loop-item-test.true c.item-item.is c.next_here-here.ensures
    (c.in_ok-put_address.ensures ∙ ap (λ (b : Bool). c.loop-item.out ++ address_if b c.args.number c.item-item.result.value) c.counts.ensures) c.loop-item.invariant
