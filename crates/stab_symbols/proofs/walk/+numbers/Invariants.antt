use Rattle.std.proofs.Common.{drop, map}
use Rattle.std.specs.Prelude.{Result, flat_map}
use Rattle.stab_symbols.specs.TypeWalks.{Visited, all_of_them, numbers_in_field}
use Rattle.stab_symbols.proofs.walk.+numbers.Given as goal

-- a visit of the fields that are left is a visit of all
abbrev pub invariant-walk_fields-loop-field : goal.invariant-walk_fields-loop-field
invariant-walk_fields-loop-field g l = (new : _) (result : Result (Unit {0}) _)
    → Visited g.V.NumberVisitor.visits l.visitor (flat_map all_of_them (map (numbers_in_field l.entered) (drop l.field-index l.fields))) new result
    → Visited g.V.NumberVisitor.visits l.initial.visitor (flat_map all_of_them (map (numbers_in_field l.entered) l.fields)) new result
