use Rattle.std.proofs.Common.{◌≡◌, ◌≤◌, ◌∷◌, ◌++◌, length, take}
use Rattle.std.specs.Prelude.{true}
use Rattle.c_tokens.specs.Scanning as spec
use Rattle.c_tokens.specs.Words.{basic_type}
use Rattle.c_tokens.proofs.pieces.Pieces.basic_type.Given as goal

abbrev pub invariant-loop-word : goal.invariant-loop-word
invariant-loop-word l = record {
  value : basic_type (take l.count l.words ++ spec.words l.self) ≡ basic_type (l.fn.first ∷ spec.words l.initial.self);
  told : spec.merged true l.self ≡ spec.merged true l.initial.self;
  count : l.count ≤ 5;
  room : length l.words ≡ 5;
}

abbrev pub decreases-loop-word : goal.decreases-loop-word
decreases-loop-word l = length l.self
