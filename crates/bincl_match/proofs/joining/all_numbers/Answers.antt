use Rattle.bincl_match.proofs.FoundLemmas.{numbers_step}
use Rattle.bincl_match.proofs.joining.all_numbers.Goals as goal

-- one span more
pub loop-number-preserved : goal.loop-number-preserved
loop-number-preserved c =
    numbers_step c.loop-number.out c.put_number.new.out _ c.args.spans.now c.items.result.now c.loop-number.number c.index-spans-number.result c.loop-number-test.true c.index-spans-number.is
    c.items.ensures c.in_ok-put_number.ensures c.loop-number.invariant
