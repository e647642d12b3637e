use Rattle.std.proofs.Common.{ap, arith}
use Rattle.std.specs.Option.{option_copied}
use Rattle.asm_statements.proofs.LineLemmas.{number_stays, source_next, source_last, source_bad}
use Rattle.asm_statements.proofs.lines.read_source.Goals as goal

pub returns-in-Err-Form : goal.returns-in-Err-Form
returns-in-Err-Form c = (
  c.loop-tokens.out.number,
  source_bad c.loop-tokens.out c.loop-tokens.rest.now c.cut_line.result.0.now (option_copied c.cut_line.result.1) _ c.loop-tokens.invariant.read
      c.cut_line.ensures.value (rw c.in-Err-Form.field-0-is at c.in-Err-Form.ensures),
  c.syntax_fault.ensures,
)

pub returns-in-None : goal.returns-in-None
returns-in-None c =
    source_last c.loop-tokens.out c.read_line.new.out c.loop-tokens.rest.now c.cut_line.result.0.now (option_copied c.cut_line.result.1) _ c.loop-tokens.invariant.read
    c.cut_line.ensures.value (ap option_copied c.in-None.is) c.in-Ok.ensures

pub overflow_add-out : goal.overflow_add-out
overflow_add-out c =
    let e = number_stays c.loop-tokens.out c.read_line.new.out _ c.in-Ok.ensures in
    let b = rw c.in-Some.is at c.cut_line.ensures.behind in
    omega (arith, e, b, c.loop-tokens.invariant.within)

pub loop-tokens-preserved : goal.loop-tokens-preserved
loop-tokens-preserved c =
    let e = number_stays c.loop-tokens.out c.read_line.new.out _ c.in-Ok.ensures in
    record {
      read = source_next c.loop-tokens.out c.read_line.new.out c.loop-tokens.rest.now c.cut_line.result.0.now c.in-Some.more.now (option_copied c.cut_line.result.1) _
          c.loop-tokens.invariant.read c.cut_line.ensures.value (ap option_copied c.in-Some.is) c.in-Ok.ensures;
      within = let b = rw c.in-Some.is at c.cut_line.ensures.behind in omega (arith, e, b, c.loop-tokens.invariant.within);
    }
