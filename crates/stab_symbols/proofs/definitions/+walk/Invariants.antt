use Rattle.std.proofs.Common.{◌≤◌}
use Rattle.std.specs.Prelude.{Result}
use Rattle.stab_symbols.specs.TypeWalks.{Visited}
use Rattle.stab_symbols.proofs.definitions.+walk.Given as goal

-- each walk is over a smaller part, or over less of it

abbrev pub decreases-walk : goal.decreases-walk
decreases-walk g l = g.P.Part.size l.part

abbrev pub decreases-loop-inner : goal.decreases-loop-inner
decreases-loop-inner g l = g.P.Part.size l.left

-- a visit of what is left is a visit of all
abbrev pub invariant-loop-inner : goal.invariant-loop-inner
invariant-loop-inner g l = record {
  smaller : g.P.Part.size l.left ≤ g.P.Part.size l.fn.part;
  all : (new : _) (result : Result (Unit {0}) _)
      → Visited g.V.DefinitionVisitor.visits l.visitor (g.P.Part.definitions l.left) new result
      → Visited g.V.DefinitionVisitor.visits l.initial.visitor (g.P.Part.definitions l.fn.part) new result;
}
