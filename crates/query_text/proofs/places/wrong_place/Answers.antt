use Rattle.std.proofs.Common.{◌≡◌, length, sym, ◌∙◌, arith, Option, Some, None}
use Rattle.std.specs.Option.{MatchOption}
use Rattle.query_text.proofs.PlaceLemmas.{wrong_from-missing, wrong_from-many}
use Rattle.query_text.proofs.places.wrong_place.Goals as goal

-- of what is not there, the first case holds
none : {A : Type 0} (P : Type 0) (Q : A → Type 0) (o : Option A) → o ≡ None → MatchOption o P Q → P
none P Q (Some x) e h = absurd cc
none P Q None e h = h

pub returns-in-None-clause-place : goal.returns-in-None-clause-place
returns-in-None-clause-place g c =
    sym (wrong_from-missing g.W.Wanted.wants c.args.places.now c.args.words.now c.loop-at.at c.loop-at-test.true
    (none _ _ _ c.in-None.is c.get.ensures.lookup.3)) ∙ c.loop-at.invariant.same

pub returns-then-places-words-clause-place : goal.returns-then-places-words-clause-place
returns-then-places-words-clause-place g c =
    let all : c.loop-at.at ≡ length c.args.places.now = omega arith in
    let many = wrong_from-many g.W.Wanted.wants c.args.places.now c.args.words.now c.if-places-words.true in
    sym many ∙ (rw (← all) c.loop-at.invariant.same)
