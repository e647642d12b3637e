use Rattle.std.proofs.Common.{Err}
use Rattle.std.proofs.lemmas.Result.{err_from_is_err_and}
use Rattle.stab_symbols.specs.TypeWalks.{all_of_them, numbers_in, numbers_in_field}
use Rattle.stab_symbols.proofs.NumberLemmas.{numbers-Array}
use Rattle.stab_symbols.proofs.WalkLemmas.{visited_both, visited_stopped, visited_end, visited_next, visited_last}
use Rattle.stab_symbols.proofs.walk.+numbers.Goals as goal

pub walk-returns-in_err-walk-in-Array : goal.walk-returns-in_err-walk-in-Array
walk-returns-in_err-walk-in-Array g t c =
    let p = err_from_is_err_and c.from_residual-in_err-walk-in-Array.result c.from_residual-in_err-walk-in-Array.ensures.1 in
    rw (p.1, p.2, c.in-Array.is, numbers-Array, ← c.get-in-Array.ensures) (visited_stopped g.V.NumberVisitor.visits c.args.visitor.now c.walk-in-Array.new.visitor (numbers_in c.args.entered c.get-in-Array.result.now) (numbers_in c.args.entered c.in-Array.item) c.in_err-walk-in-Array.field-0.0 c.in_err-walk-in-Array.ensures)

pub walk-returns-in_ok-walk-in-Array : goal.walk-returns-in_ok-walk-in-Array
walk-returns-in_ok-walk-in-Array g t c =
    rw (c.in-Array.is, numbers-Array, ← c.get-in-Array.ensures, ← c.get-in-Array-2.ensures)
    (visited_both g.V.NumberVisitor.visits _ _ _ _ _ _ c.in_ok-walk-in-Array.ensures c.walk-in-Array-2.ensures)

pub walk_fields-returns-in_err-walk_field : goal.walk_fields-returns-in_err-walk_field
walk_fields-returns-in_err-walk_field g t c =
    let p = err_from_is_err_and c.from_residual.result c.from_residual.ensures.1 in
    rw (p.1, p.2) (c.loop-field.invariant c.walk_field.new.visitor (Err c.in_err-walk_field.field-0.0)
    (visited_last g.V.NumberVisitor.visits all_of_them (numbers_in_field c.args.entered) c.args.fields.now c.loop-field.field-index c.field-item.result c.loop-field-test.true c.field-item.is _ _ _ c.in_err-walk_field.ensures))

pub walk_fields-loop-field-preserved : goal.walk_fields-loop-field-preserved
walk_fields-loop-field-preserved g t c = λ new result rest. c.loop-field.invariant new result
    (visited_next g.V.NumberVisitor.visits all_of_them (numbers_in_field c.args.entered) c.args.fields.now c.loop-field.field-index c.field-item.result c.loop-field-test.true c.field-item.is _ _ new result c.in_ok-walk_field.ensures rest)

pub walk_fields-returns : goal.walk_fields-returns
walk_fields-returns g t c = c.loop-field.invariant _ _ (visited_end g.V.NumberVisitor.visits all_of_them (numbers_in_field c.args.entered) c.args.fields.now c.loop-field.field-index _ c.loop-field-test.false)
