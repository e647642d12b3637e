use Rattle.std.proofs.Common.{List, ℕ}
use Rattle.std.specs.HashMap.{hash_map_len}
use Rattle.bincl_match.specs.Crowding.{Numbering, look}
use Rattle.bincl_match.proofs.KeyLemmas.{KeyAt, Keyed}
use Rattle.bincl_match.proofs.groups.keys_of.Given as goal

-- the keys so far
abbrev pub invariant-loop-i : goal.invariant-loop-i
invariant-loop-i l = record {
  numbering : Numbering (λ (t : List ℕ). look l.seen t) (hash_map_len l.seen);
  keyed : Keyed (KeyAt l.ranges (λ (t : List ℕ). look l.seen t)) l.i l.keys;
}
