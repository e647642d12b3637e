use Rattle.std.proofs.Common.{◌≡◌, ◌≤◌, length, drop}
use Rattle.query_text.specs.WordPlaces as spec
use Rattle.query_text.proofs.places.wrong_place.Given as goal

-- the places and words from here on go wrong where all of them do
abbrev pub invariant-loop-at : goal.invariant-loop-at
invariant-loop-at g l = record {
  same : spec.wrong_from g.W.Wanted.wants l.at (drop l.at l.places) (drop l.at l.words) ≡ spec.wrong_place g.W.Wanted.wants l.places l.words;
  within : l.at ≤ length l.words;
}
