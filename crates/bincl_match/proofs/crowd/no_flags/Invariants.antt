use Rattle.std.proofs.Common.{◌≡◌, length, Bool, false, Some, ℕ}
use Rattle.std.specs.Prelude.{slice_get}
use Rattle.bincl_match.proofs.crowd.no_flags.Given as goal

abbrev pub invariant-loop-made : goal.invariant-loop-made
invariant-loop-made l = (length l.out ≡ l.made) × ((k : ℕ) (b : Bool) → slice_get l.out k ≡ Some b → b ≡ false)
