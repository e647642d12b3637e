use Rattle.std.proofs.Common.{◌≡◌, ◌++◌, drop}
use Rattle.query_text.specs.Listed.{node_lines}
use Rattle.query_text.proofs.listed.put_nodes.Given as goal

-- the lines so far and those still to come are all lines
abbrev pub invariant-loop-place : goal.invariant-loop-place
invariant-loop-place l = l.out ++ node_lines l.index l.keys l.place (drop l.place l.keys) ≡ l.initial.out ++ node_lines l.index l.keys 0 l.keys
