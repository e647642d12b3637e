use Rattle.std.proofs.Common.{◌≡◌, ◌++◌, drop}
use Rattle.type_graph.specs.Worlds.{externals_of}
use Rattle.type_graph.proofs.world.externals.Given as goal

-- what is found, and what is found in the entries that are left
abbrev pub invariant-loop-entry : goal.invariant-loop-entry
invariant-loop-entry l = l.externals ++ externals_of (drop l.entry-index l.entries) ≡ externals_of l.fn.entries
