use Rattle.std.proofs.Common.{◌+◌, drop}
use Rattle.bincl_match.proofs.ListLemmas.{drop_item, drop_past}
use Rattle.bincl_match.proofs.OwnLemmas.{none_left, unit_ends, walk_end}
use Rattle.bincl_match.proofs.owning.walk.Goals as goal

-- the entry ends the unit
pub returns-then-entry-eq-N_SO : goal.returns-then-entry-eq-N_SO
returns-then-entry-eq-N_SO c = λ all files was.
    walk_end all files (drop c.loop-at.at c.args.rest.now) c.loop-at.owners
    (λ back p. unit_ends back p (drop c.loop-at.at c.args.rest.now) c.index-rest-at.result (drop (c.loop-at.at + 1) c.args.rest.now)
    (drop_item c.args.rest.now c.loop-at.at c.index-rest-at.result c.loop-at-test.true c.index-rest-at.is) c.if-entry-eq-N_SO.true)
    (c.loop-at.invariant.walked all files was)

-- no entry is left
pub returns : goal.returns
returns c = λ all files was.
    walk_end all files (drop c.loop-at.at c.args.rest.now) c.loop-at.owners
    (λ back p. none_left back p (drop c.loop-at.at c.args.rest.now) (drop_past c.args.rest.now c.loop-at.at c.loop-at-test.false)) (c.loop-at.invariant.walked all files was)
