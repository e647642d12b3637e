use Rattle.std.proofs.Common.{ap, ◌∙◌, sym}
use Rattle.asm_statements.specs.SourceLines as spec
use Rattle.asm_statements.specs.Scanning.{with_whats}
use Rattle.asm_statements.proofs.LineLemmas.{short_rest, label_next, label_err, puts_through}
use Rattle.asm_statements.proofs.lines.put_statements.Goals as goal

pub loop-rest-preserved : goal.loop-rest-preserved
loop-rest-preserved c =
    label_next c.loop-rest.rest.now c.token-item.result c.mark-item.result c.is_colon.result c.in-Ok.name c.loop-rest.out c.put.new.self _ c.loop-rest.invariant c.in-len2-up.len_at_least
    c.token-item.is c.mark-item.is c.is_colon.ensures c.if-not-is_colon.false c.in-Ok.ensures.read c.in_ok-put-in-Ok.ensures.value

pub returns : goal.returns
returns c =
    puts_through c.put_rest-2.result c.loop-rest.out c.put_rest-2.new.out c.args.out.now (spec.rest_of c.loop-rest.rest.now) (spec.statements_of c.args.tokens.now) c.put_rest-2.ensures
    (ap (with_whats c.loop-rest.out) (sym (short_rest c.loop-rest.rest.now c.in_default.len_below)) ∙ c.loop-rest.invariant)

pub returns-in-Err : goal.returns-in-Err
returns-in-Err c =
    label_err c.in-Err.bad c.loop-rest.rest.now c.token-item.result c.mark-item.result c.is_colon.result c.loop-rest.out c.loop-rest.out c.args.tokens.now c.args.out.now c.loop-rest.invariant c.in-len2-up.len_at_least
    c.token-item.is c.mark-item.is c.is_colon.ensures c.if-not-is_colon.false c.in-Err.ensures.read
