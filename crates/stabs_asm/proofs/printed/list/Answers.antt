use Rattle.stabs_asm.proofs.PrintLemmas.{listing_joined}
use Rattle.stabs_asm.proofs.printed.list.Goals as goal

-- each call has put its part after those before it
pub returns : goal.returns
returns c =
    let parts = c.parts-parts.ensures.value in
    listing_joined c.args.object.now c.new-out.result c.put_machine.new.out c.put_address.new.out c.put_bss.new.out c.extend.new.self c.put_rows.new.out c.extend-2.new.self c.put_rows-2.new.out c.put_rels.new.out c.put_rels-2.new.out c.put_entries.new.out
    c.new-out.ensures (rw parts at c.in_ok-put_machine.ensures) (rw parts at c.in_ok-put_address.ensures) (rw parts at c.in_ok-put_bss.ensures)
    c.in_ok-extend.ensures.ok (rw (c.bytes.ensures, parts) at c.in_ok-put_rows.ensures) c.in_ok-extend-2.ensures.ok (rw (c.bytes-2.ensures, parts) at c.in_ok-put_rows-2.ensures)
    (rw (c.items.ensures, parts) at c.in_ok-put_rels.ensures) (rw (c.items-2.ensures, parts) at c.in_ok-put_rels-2.ensures)
    (rw (c.bytes-3.ensures, c.strings.ensures, c.items-3.ensures, c.entries.ensures) at c.in_ok-put_entries.ensures)
