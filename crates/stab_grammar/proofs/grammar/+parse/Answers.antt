use Rattle.std.proofs.Common.{length, ◌+◌, ◌-◌, sym, ◌∙◌, arith}
use Rattle.std.proofs.lemmas.Result.{err_from_is_err_and}
use Rattle.stab_grammar.specs.Grammar as spec
use Rattle.readers.proofs.Turns.{up_to_step, up_to_stop, up_to_err, passes_on}
use Rattle.stab_grammar.proofs.grammar.+parse.Goals as goal

pub fields_at-loop-preserved : goal.fields_at-loop-preserved
fields_at-loop-preserved t c =
    let e = up_to_step 59 (spec.field_at (spec.type_at c.args.depth)) (length c.args.bytes.now - c.loop.counter) (length c.args.bytes.now - (c.loop.counter + 1)) c.loop.fields c.loop.rest.now _ _ (omega arith) c.in-len1-up.len_at_least c.if-b-eq59.false c.in_ok-field-in-len1-up.ensures in
    rw c.in_ok-push-in-len1-up.ensures.ok (sym e ∙ c.loop.invariant)

pub fields_at-returns-then-b-eq59 : goal.fields_at-returns-then-b-eq59
fields_at-returns-then-b-eq59 t c = sym c.loop.invariant ∙ up_to_stop 59 (spec.field_at (spec.type_at c.args.depth)) (length c.args.bytes.now - c.loop.counter) (length c.args.bytes.now - (c.loop.counter + 1)) c.loop.fields c.loop.rest.now (omega arith) c.in-len1-up.len_at_least c.if-b-eq59.true

pub fields_at-returns-in_err-field-in-len1-up : goal.fields_at-returns-in_err-field-in-len1-up
fields_at-returns-in_err-field-in-len1-up t c =
    let p = err_from_is_err_and c.from_residual.result c.from_residual.ensures.1 in
    rw (p.1, p.2) (passes_on _ _ _ c.in_err-field-in-len1-up.ensures (λ d h. sym c.loop.invariant ∙ up_to_err 59 (spec.field_at (spec.type_at c.args.depth)) (length c.args.bytes.now - c.loop.counter) (length c.args.bytes.now - (c.loop.counter + 1)) c.loop.fields c.loop.rest.now d (omega arith) c.in-len1-up.len_at_least c.if-b-eq59.false h))
