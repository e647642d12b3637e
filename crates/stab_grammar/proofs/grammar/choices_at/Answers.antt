use Rattle.std.proofs.Common.{length, ◌+◌, ◌-◌, sym, ◌∙◌, arith}
use Rattle.std.proofs.lemmas.Result.{err_from_is_err_and}
use Rattle.stab_grammar.specs.Grammar as spec
use Rattle.readers.proofs.Turns.{up_to_step, up_to_stop, up_to_err, passes_on}
use Rattle.stab_grammar.proofs.grammar.choices_at.Goals as goal

pub loop-preserved : goal.loop-preserved
loop-preserved c =
    let e = up_to_step 59 spec.choice_at (length c.args.bytes.now - c.loop.counter) (length c.args.bytes.now - (c.loop.counter + 1)) c.loop.choices c.loop.rest.now _ _ (omega arith) c.in-len1-up.len_at_least c.if-b-eq59.false c.in_ok-choice-in-len1-up.ensures in
    rw c.in_ok-push-in-len1-up.ensures.ok (sym e ∙ c.loop.invariant)

pub returns-then-b-eq59 : goal.returns-then-b-eq59
returns-then-b-eq59 c = sym c.loop.invariant ∙ up_to_stop 59 spec.choice_at (length c.args.bytes.now - c.loop.counter) (length c.args.bytes.now - (c.loop.counter + 1)) c.loop.choices c.loop.rest.now (omega arith) c.in-len1-up.len_at_least c.if-b-eq59.true

pub returns-in_err-choice-in-len1-up : goal.returns-in_err-choice-in-len1-up
returns-in_err-choice-in-len1-up c =
    let p = err_from_is_err_and c.from_residual.result c.from_residual.ensures.1 in
    rw (p.1, p.2) (passes_on _ _ _ c.in_err-choice-in-len1-up.ensures (λ d h. sym c.loop.invariant ∙ up_to_err 59 spec.choice_at (length c.args.bytes.now - c.loop.counter) (length c.args.bytes.now - (c.loop.counter + 1)) c.loop.choices c.loop.rest.now d (omega arith) c.in-len1-up.len_at_least c.if-b-eq59.false h))
