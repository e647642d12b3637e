use Rattle.std.proofs.Common.{◌≡◌, ◌+◌, ◌≤◌, drop}
use Rattle.aout_link.specs.Linking.{kept_from}
use Rattle.aout_link.proofs.linking.count_kept.Given as goal

-- those so far, and those that are left
abbrev pub invariant-loop-place : goal.invariant-loop-place
invariant-loop-place l = record {
  sum : l.count + kept_from l.place (drop l.place l.kept) ≡ kept_from 0 l.kept;
  bound : l.count ≤ l.place;
}
