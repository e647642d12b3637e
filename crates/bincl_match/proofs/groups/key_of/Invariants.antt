use Rattle.std.proofs.Common.{List, ℕ, ◌∷◌, take}
use Rattle.std.specs.HashMap.{hash_map_len}
use Rattle.bincl_match.specs.Crowding.{Grows, Numbered, Numbering, look}
use Rattle.bincl_match.proofs.groups.key_of.Given as goal

-- the texts so far have their numbers
abbrev pub invariant-loop-text : goal.invariant-loop-text
invariant-loop-text l = record {
  numbering : Numbering (λ (t : List ℕ). look l.seen t) (hash_map_len l.seen);
  grows : Grows (λ (t : List ℕ). look l.fn.seen t) (λ (t : List ℕ). look l.seen t);
  numbered : Numbered (λ (t : List ℕ). look l.seen t) (l.range.name ∷ take l.text-index l.range.shape) l.key;
}
