use Rattle.std.proofs.Common.{◌≡◌, ◌++◌, replicate}
use Rattle.c_types.proofs.lines.put_stars.Given as goal

abbrev pub invariant-loop-star : goal.invariant-loop-star
invariant-loop-star l = l.out ≡ l.initial.out ++ replicate l._star 42
