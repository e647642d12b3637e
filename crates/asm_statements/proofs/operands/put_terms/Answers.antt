use Rattle.asm_statements.proofs.OperandLemmas.{terms_next, room_next}
use Rattle.asm_statements.proofs.operands.put_terms.Goals as goal

pub loop-rest-preserved : goal.loop-rest-preserved
loop-rest-preserved c = record {
  read = terms_next c.loop-rest.sum c.put_signed.new.sum c.mark-item.result c.token-item.result c.loop-rest.rest.now _ c.loop-rest.invariant.read c.in-len2-up.len_at_least c.mark-item.is c.token-item.is c.in_ok-put_signed.ensures.read;
  more = room_next c.loop-rest.sum.more _ _ c.loop-rest.rest.now c.in_ok-put_signed.ensures.grows.more c.in-len2-up.len_at_least c.loop-rest.invariant.more;
  less = room_next c.loop-rest.sum.less _ _ c.loop-rest.rest.now c.in_ok-put_signed.ensures.grows.less c.in-len2-up.len_at_least c.loop-rest.invariant.less;
  added = c.in_ok-put_signed.ensures.grows.added c.loop-rest.invariant.added;
}
