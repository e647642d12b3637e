use Rattle.std.proofs.Common.{◌+◌, ◌-◌, sym, ◌∙◌, arith}
use Rattle.readers.specs.Words as words
use Rattle.readers.proofs.Turns.{run_step, run_full, run_end, run_stop}
use Rattle.readers.proofs.read.digits_at.Goals as goal
use Rattle.readers.proofs.read.digits_at.Goals.{then-loop-at-test+then-at-bytes+else-is_digit, then-loop-at-test+else-at-bytes, else-loop-at-test}

-- one more digit belongs to the run
pub loop-at-preserved : goal.loop-at-preserved
loop-at-preserved c =
    let step = run_step words.is_digit (c.args.more + 1 - c.loop-at.at) (c.args.more + 1 - (c.loop-at.at + 1)) c.loop-at.at c.args.bytes.now (omega arith) (omega arith) (sym c.is_digit-then-at-bytes.ensures ∙ c.if-is_digit.true) in
    record { some = omega arith; few = omega arith; within = omega arith; same = sym step ∙ c.loop-at.invariant.same }

-- the run stops at another byte, at the end of the text, or where it is full
pub returns-after-loop-at : goal.returns-after-loop-at
returns-after-loop-at c = sym c.loop-at.invariant.same ∙ (elim c.loop-at-test.branch [
  | then-loop-at-test+then-at-bytes+else-is_digit w ↦ run_stop words.is_digit (c.args.more + 1 - c.loop-at.at) c.loop-at.at c.args.bytes.now (omega arith) (sym w.is_digit-then-at-bytes.ensures ∙ w.if-is_digit.false)
  | then-loop-at-test+else-at-bytes w ↦ run_end words.is_digit (c.args.more + 1 - c.loop-at.at) c.loop-at.at c.args.bytes.now (omega arith)
  | else-loop-at-test w ↦ run_full words.is_digit (c.args.more + 1 - c.loop-at.at) c.loop-at.at c.args.bytes.now (omega arith) (omega arith)
])
