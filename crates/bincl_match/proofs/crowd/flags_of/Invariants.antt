use Rattle.std.proofs.Common.{◌≡◌, length, Bool, Some, ℕ, get_or}
use Rattle.std.specs.Prelude.{slice_get}
use Rattle.bincl_match.proofs.crowd.flags_of.Given as goal

abbrev pub invariant-loop-i : goal.invariant-loop-i
invariant-loop-i l = (length l.out ≡ l.i) × ((j : ℕ) (b : Bool) → slice_get l.out j ≡ Some b → slice_get l.bad (get_or l.groups j 0) ≡ Some b)
