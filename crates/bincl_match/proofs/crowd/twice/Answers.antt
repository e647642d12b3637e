use Rattle.std.proofs.Common.{◌≡◌, ◌&&◌, refl, sym, ap, ◌∙◌, ℕ, List, length, Bool, Some, get_or, arith, subst, cond, true}
use Rattle.std.specs.Prelude.{slice_get, nat_eq}
use Rattle.std.specs.List.{list_any}
use Rattle.std.proofs.lemmas.Option.{slice_get_read}
use Rattle.bincl_match.specs.declared.range.RangeOf.{RangeOf}
use Rattle.bincl_match.specs.Crowding.{has_pair, Tells, Twice}
use Rattle.bincl_match.proofs.CrowdLemmas.{met_again, met_new, start_crowd}
use Rattle.bincl_match.proofs.crowd.twice.Goals as goal

-- no pair was met
pub loop-i-init : goal.loop-i-init
loop-i-init c =
    start_crowd c.args.ranges.now c.args.groups.now (λ u k. has_pair c.new-met.result u k) c.in_ok-bad.bad (λ u k. ap (λ (z : List (ℕ × ℕ)). list_any (λ p. nat_eq u p.0 && nat_eq k p.1) z) c.new-met.ensures.empty) c.in_ok-bad.ensures.length c.in_ok-bad.ensures.none

-- a pair that was met before
pub loop-i-preserved-then-contains : goal.loop-i-preserved-then-contains
loop-i-preserved-then-contains c =
    let x = c.index-ranges-i.result in
    met_again c.args.ranges.now c.args.groups.now c.loop-i.i x
    (slice_get_read c.args.ranges.now (length c.args.ranges.now) c.loop-i.i x refl c.loop-i-test.true c.index-ranges-i.is)
    (λ u k. has_pair c.loop-i.met u k) c.loop-i.bad c.replace-old.new.self (c.requires.groups.low c.loop-i.i c.loop-i-test.true)
    (ap (λ z. has_pair c.loop-i.met z (get_or c.args.groups.now c.loop-i.i 0)) (ap (λ (z : RangeOf). z.unit) c.index-ranges-i.is) ∙ sym c.contains.ensures ∙ c.if-contains.true) c.replace-old.ensures.new c.loop-i.invariant

-- one that was not
pub loop-i-preserved : goal.loop-i-preserved
loop-i-preserved c =
    let x = c.index-ranges-i.result in
    met_new c.args.ranges.now c.args.groups.now c.loop-i.i x
    (slice_get_read c.args.ranges.now (length c.args.ranges.now) c.loop-i.i x refl c.loop-i-test.true c.index-ranges-i.is)
    (λ u k. has_pair c.loop-i.met u k) (λ u k. has_pair c.insert.new.self u k) c.loop-i.bad
    (ap (λ z. has_pair c.loop-i.met z (get_or c.args.groups.now c.loop-i.i 0)) (ap (λ (z : RangeOf). z.unit) c.index-ranges-i.is) ∙ sym c.contains.ensures ∙ c.if-contains.false)
    (λ u k. c.in_ok-insert.ensures.updates.0 (u, k) ∙ ap (λ z. cond (nat_eq z u && nat_eq (get_or c.args.groups.now c.loop-i.i 0) k) true (has_pair c.loop-i.met u k)) (ap (λ (z : RangeOf). z.unit) (sym c.index-ranges-i.is))) c.loop-i.invariant

-- all ranges were looked at
pub returns-clause-tells : goal.returns-clause-tells
returns-clause-tells c =
    let e : c.loop-i.i ≡ length c.args.ranges.now = omega arith in
    let P : ℕ → Type 0 = λ n. (k : ℕ) (b : Bool) → slice_get c.loop-i.bad k ≡ Some b → Tells b (Twice c.args.ranges.now c.args.groups.now n k) in
    subst P e c.loop-i.invariant.bad_is
