use Rattle.std.proofs.Common.{◌≡◌, ◌+◌, drop}
use Rattle.std.specs.Prelude.{option_map, false}
use Rattle.c_tokens.specs.Fronts as spec
use Rattle.c_tokens.proofs.front.comment_end.Given as goal

abbrev pub invariant-loop-at : goal.invariant-loop-at
invariant-loop-at l = option_map (λ n. l.at + n) (spec.comment_end l.star (drop l.at l.bytes)) ≡ spec.comment_end false l.bytes
