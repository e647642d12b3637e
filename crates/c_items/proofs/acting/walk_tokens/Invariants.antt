use Rattle.std.proofs.Common.{◌≡◌, ◌≤◌, ◌+◌, length}
use Rattle.c_items.specs.Steps.{start}
use Rattle.c_items.specs.Acting.{all_acted, acts_from}
use Rattle.c_items.proofs.acting.walk_tokens.Given as goal

-- what is left makes of the actor as it is what all makes of it as it was; no more is open than tokens are read
abbrev pub invariant-loop-token : goal.invariant-loop-token
invariant-loop-token g l = record {
  whole : all_acted g.A.Actor.acts (acts_from l.state l.left) l.actor ≡ all_acted g.A.Actor.acts (acts_from start l.from) l.initial.actor;
  bodies : l.state.bodies + length l.left ≤ length l.from;
  blocks : l.state.blocks + length l.left ≤ length l.from;
}

abbrev pub decreases-loop-token : goal.decreases-loop-token
decreases-loop-token g l = length l.left
