use Rattle.std.proofs.Common.{refl}
use Rattle.stabs_asm.proofs.PrintLemmas.{rows_next}
use Rattle.stabs_asm.proofs.printed.put_rows.Goals as goal

pub loop-rest-preserved : goal.loop-rest-preserved
loop-rest-preserved c =
    rows_next c.args.out.now c.loop-rest.out c.put_row.new.out c.loop-rest.rest.now c.split_row.result.0.now c.split_row.result.1.now _ _ c.loop-rest.invariant c.in-len1-up.len_at_least refl
    c.split_row.ensures.front c.split_row.ensures.back c.in_ok-put_row.ensures
