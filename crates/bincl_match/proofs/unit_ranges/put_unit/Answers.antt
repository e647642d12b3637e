use Rattle.std.proofs.Common.{◌+◌, length, ap, ◌∙◌, sym, arith}
use Rattle.stab_units.specs.Units.{stabs_of}
use Rattle.bincl_match.proofs.ReadLemmas.{flags_are, unit_files, unit_put}
use Rattle.bincl_match.proofs.unit_ranges.put_unit.Goals as goal

-- a flag for each file
pub put_headers-requires-clause-count : goal.put_headers-requires-clause-count
put_headers-requires-clause-count c =
    ap length c.items-2.ensures ∙ (c.in_ok-ready.ensures (c.args.span.now.first + 1)).count ∙ c.len.ensures ∙ sym (ap length c.items.ensures)

-- one file more than headers
pub put_headers-requires-clause-few : goal.put_headers-requires-clause-few
put_headers-requires-clause-few c =
    let e = unit_files (stabs_of c.args.entries.now c.args.span.now) c.args.span.now c.args.unit.now c.requires.read in
    let f = ap length c.items.ensures in
    let h = c.requires.headers in omega arith

-- the ranges of the unit
pub returns : goal.returns
returns c =
    unit_put (stabs_of c.args.entries.now c.args.span.now) c.args.span.now c.args.unit.now c.args.number c.in_ok-ready.ready c.items-2.result.now c.items.result.now c.args.out.now c.put_headers.new.out
    c.requires.read
    (flags_are c.args.entries.now c.args.span.now c.len.result (length c.args.unit.now.files) c.in_ok-ready.ready c.len.ensures (c.in_ok-ready.ensures (c.args.span.now.first + 1)))
    c.items-2.ensures c.items.ensures c.in_ok-put_headers.ensures
