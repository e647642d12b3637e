use Rattle.std.proofs.Common.{◌≡◌, drop, length}
use Rattle.asm_statements.specs.Fits.{AllFit}
use Rattle.asm_objects.specs.Layout as layout
use Rattle.asm_objects.specs.Meaning as spec
use Rattle.asm_objects.proofs.check.first_fault.Given as goal

abbrev pub invariant-loop-statement : goal.invariant-loop-statement
invariant-loop-statement l = record {
  first : spec.earlier l.first (spec.faults l.table l.places (drop l.statement-index l.statements)) ≡ spec.faults l.table layout.start l.statements;
  room : layout.Room l.places (length (drop l.statement-index l.statements));
  fits : AllFit (drop l.statement-index l.statements);
}
