use Rattle.std.proofs.Common.{◌+◌}
use Rattle.std.proofs.lemmas.Result.{err_from_is_err_and}
use Rattle.file_commands.proofs.LoadLemmas.{called_next}
use Rattle.file_commands.proofs.inputs.load_all.Goals as goal

-- the name here is loaded last, and no text of it is kept
pub returns-in_err-push-in-Bytes-clause-called : goal.returns-in_err-push-in-Bytes-clause-called
returns-in_err-push-in-Bytes-clause-called g c =
    let p = err_from_is_err_and c.from_residual-in_err-push-in-Bytes.result c.from_residual-in_err-push-in-Bytes.ensures.1 in
    rw p.1 (
      c.loop-at.at + 1,
      called_next c.args.most c.args.names.now c.loop-at.at c.index-names-at.result _ c.loop-at-test.true c.index-names-at.is c.in_ok-copy.ensures _ _ _ c.loop-at.invariant.called c.in-Bytes.ensures.called,
    )

pub returns-in-Memory-clause-called : goal.returns-in-Memory-clause-called
returns-in-Memory-clause-called g c = (
  c.loop-at.at + 1,
  called_next c.args.most c.args.names.now c.loop-at.at c.index-names-at.result _ c.loop-at-test.true c.index-names-at.is c.in_ok-copy.ensures _ _ _ c.loop-at.invariant.called c.in-Memory.ensures.called,
)
