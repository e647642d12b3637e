use Rattle.std.proofs.Common.{◌-◌, length}
use Rattle.type_graph.proofs.WorkListLemmas.{Listed, all_there_are}
use Rattle.type_graph.proofs.listings.listed.Given as goal

-- the keys are the start and what those that are done with lead to
abbrev pub invariant-loop-done : goal.invariant-loop-done
invariant-loop-done l = Listed l.index l.fn.key l.found l.done

-- each key is one of all that there are
abbrev pub decreases-loop-done : goal.decreases-loop-done
decreases-loop-done l = length (all_there_are l.index l.fn.key) - l.done
