use Rattle.std.proofs.Common.{◌≡◌, ℕ, length, arith, subst}
use Rattle.bincl_match.specs.Refining.{Found, look_header}
use Rattle.bincl_match.proofs.PrepareLemmas.{found_more}
use Rattle.bincl_match.proofs.prepare.headers.Goals as goal

-- one range more
pub loop-i-preserved : goal.loop-i-preserved
loop-i-preserved c = λ unit file.
    found_more c.args.ranges.now c.loop-i.i unit file c.index-ranges-i.result (look_header c.loop-i.headers unit file) (look_header c.insert.new.self unit file) c.loop-i-test.true c.index-ranges-i.is
    (c.in_ok-insert.ensures.updates.0 (unit, file)) (c.loop-i.invariant unit file)

-- all ranges
pub returns : goal.returns
returns c = λ unit file.
    let e : c.loop-i.i ≡ length c.args.ranges.now = omega arith in
    subst (λ (n : ℕ). Found c.args.ranges.now n unit file (look_header c.loop-i.headers unit file)) e (c.loop-i.invariant unit file)
