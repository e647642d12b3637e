use Rattle.asm_statements.proofs.ScanLemmas.{string_next, shorter_next}
use Rattle.asm_statements.proofs.scan.string_at.Goals as goal

pub loop-rest-preserved : goal.loop-rest-preserved
loop-rest-preserved c = record {
  read = string_next c.loop-rest.text c.step.new.text c.loop-rest.quoted c.in-Some.next c.in_ok-next.field-0 c.loop-rest.rest.now c.args.bytes.now c.loop-rest.invariant.read
      c.in_ok-next.ensures c.in-Some.is c.in-len1-up.len_at_least;
  shorter = shorter_next c.loop-rest.rest.now _ c.loop-rest.invariant.shorter;
}
