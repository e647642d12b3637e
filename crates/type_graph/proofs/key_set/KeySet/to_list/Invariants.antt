use Rattle.std.proofs.Common.{◌≡◌, ◌++◌, drop}
use Rattle.type_graph.proofs.key_set.KeySet.to_list.Given as goal

-- the keys so far and those that are left are all
abbrev pub invariant-loop-key : goal.invariant-loop-key
invariant-loop-key l = l.keys ++ drop l.key-index l.key-items ≡ l.self
