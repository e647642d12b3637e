use Rattle.std.proofs.Common.{◌≤◌, ℕ, Bool, drop}
use Rattle.bincl_match.specs.Owning.{HasWalked}
use Rattle.bincl_match.proofs.owning.walk.Given as goal

-- the entries before the place are walked over
abbrev pub invariant-loop-at : goal.invariant-loop-at
invariant-loop-at l = record {
  headers : l.owners.nest.headers ≤ l.at;
  walked : (all : ℕ → Bool) (files : ℕ) → HasWalked all files l.rest l.fn.owners → HasWalked all files (drop l.at l.rest) l.owners;
}
