-- Where the limits hold the numbers fit, and where they do not the fault is that of the object.
use Rattle.std.proofs.lemmas.Result.{err_from_is_err_and}
use Rattle.aout_object.proofs.AnswerLemmas.{unless-ok, unless-err}
use Rattle.asm_objects.proofs.MakeLemmas.{passed_within, passed_over}
use Rattle.asm_objects.proofs.assembling.make_object.Goals as goal

pub returns-in_err-check_limits : goal.returns-in_err-check_limits
returns-in_err-check_limits c =
    let p = err_from_is_err_and c.from_residual-in_err-check_limits.result c.from_residual-in_err-check_limits.ensures.1 in
    rw (p.1, p.2) (passed_over c.args.order c.args.statements c.args.table c.in_ok-undefined.undefined
    (record { table = c.requires.table; names = rw c.items.ensures.value at c.in_ok-undefined.ensures; left = c.requires.left }) c.len.result _ c.len.ensures (unless-err _ _ _ c.in_err-check_limits.ensures))

pub make_within-requires-clause-within : goal.make_within-requires-clause-within
make_within-requires-clause-within c =
    passed_within c.args.order c.args.statements c.args.table c.in_ok-undefined.undefined
    (record { table = c.requires.table; names = rw c.items.ensures.value at c.in_ok-undefined.ensures; left = c.requires.left }) c.len.result c.len.ensures (unless-ok _ _ _ c.in_ok-check_limits.ensures)
