use Rattle.std.proofs.Common.{◌+◌, List, drop, subst}
use Rattle.nlist_codec.specs.declared.named.Named.{Named}
use Rattle.stab_units.specs.ReadingWalk.{HasRead}
use Rattle.stab_units.proofs.ListLemmas.{drop_item, drop_item_slice, drop_past}
use Rattle.stab_units.proofs.ReadingLemmas.{end_of_list, end_of_unit}
use Rattle.stab_units.proofs.reading.read_inside.Goals as goal

-- the entry ends the unit
pub returns-then-entry-eq-N_SO-clause-found : goal.returns-then-entry-eq-N_SO-clause-found
returns-then-entry-eq-N_SO-clause-found g c = λ all names start was. record {
  place = c.loop-at.place;
  left = drop c.loop-at.at c.args.rest.now;
  read = c.loop-at.invariant.read all names start was;
  none = λ back. end_of_unit back c.loop-at.place (drop c.loop-at.at c.args.rest.now) c.index-rest-at.result (drop (c.loop-at.at + 1) c.args.rest.now)
      (drop_item c.args.rest.now c.loop-at.at c.index-rest-at.result c.loop-at-test.true c.index-rest-at.is) c.if-entry-eq-N_SO.true;
}

-- the string of the entry has the fault
pub returns-in-Err-clause-stopped : goal.returns-in-Err-clause-stopped
returns-in-Err-clause-stopped g c = λ f is all names start was.
    c.in-Err.ensures.stopped f is all names start (subst (λ (z : List Named). HasRead all names start c.loop-at.place z c.loop-at.reader c.loop-at.steps)
    (drop_item_slice c.args.rest.now c.loop-at.at c.index-rest-at.result c.loop-at-test.true c.index-rest-at.is) (c.loop-at.invariant.read all names start was))

-- no entry is left
pub returns-clause-found : goal.returns-clause-found
returns-clause-found g c = λ all names start was. record {
  place = c.loop-at.place;
  left = drop c.loop-at.at c.args.rest.now;
  read = c.loop-at.invariant.read all names start was;
  none = λ back. end_of_list back c.loop-at.place (drop c.loop-at.at c.args.rest.now) (drop_past c.args.rest.now c.loop-at.at c.loop-at-test.false);
}
