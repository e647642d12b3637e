use Rattle.std.proofs.Common.{length}
use Rattle.bincl_match.proofs.ReadLemmas.{flag_length, beside_step}
use Rattle.bincl_match.proofs.beside.all_changed.Goals as goal

-- one range more
pub loop-at-preserved : goal.loop-at-preserved
loop-at-preserved g c =
    let inv = c.loop-at.invariant in
    record {
      count = flag_length c.loop-at.ranges c.replace-range.new.self c.loop-at.at (length c.args.changes.now) c.blank.result c.replace-range.ensures.new inv.count;
      whole = beside_step g.B.Beside.changes c.loop-at.out c.push.new.self _ c.loop-at.ranges c.replace-range.new.self c.args.changes.now c.loop-at.at c.replace-range.result c.change.result
          c.blank.result _ c.loop-at-test.true c.replace-range.ensures.old c.index-changes-at.is c.replace-range.ensures.new c.change.ensures c.in_ok-push.ensures.ok inv.whole;
    }
