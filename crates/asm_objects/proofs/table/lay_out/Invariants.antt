use Rattle.std.proofs.Common.{◌≡◌, drop, fold, [], length}
use Rattle.asm_objects.specs.Emitting.{OffsetsFit}
use Rattle.asm_objects.specs.Layout as spec
use Rattle.std.specs.Str.{bytes_eq}
use Rattle.st_base.specs.FirstUses.{used}
use Rattle.asm_objects.specs.DefinedNames.{same_name}
use Rattle.asm_objects.proofs.table.lay_out.Given as goal

abbrev pub invariant-loop-statement : goal.invariant-loop-statement
invariant-loop-statement l = record {
  names : fold (used same_name) l.names (spec.each spec.defined l.places (drop l.statement-index l.statements)) ≡ fold (used same_name) [] (spec.each spec.defined spec.start l.statements);
  globals : fold (used bytes_eq) l.globals (spec.each (λ p. spec.global) l.places (drop l.statement-index l.statements)) ≡ fold (used bytes_eq) [] (spec.each (λ p. spec.global) spec.start l.statements);
  end : spec.end_of l.places (drop l.statement-index l.statements) ≡ spec.end_of spec.start l.statements;
  entry : fold spec.last l.entry (spec.each (λ p. spec.entry_word) l.places (drop l.statement-index l.statements)) ≡ fold spec.last 0 (spec.each (λ p. spec.entry_word) spec.start l.statements);
  machine : fold spec.last l.machine (spec.each (λ p. spec.machine_word) l.places (drop l.statement-index l.statements)) ≡ fold spec.last 0 (spec.each (λ p. spec.machine_word) spec.start l.statements);
  bsize : fold spec.last l.bsize (spec.each (λ p. spec.bss_size) l.places (drop l.statement-index l.statements)) ≡ fold spec.last 0 (spec.each (λ p. spec.bss_size) spec.start l.statements);
  room : spec.Room l.places (length (drop l.statement-index l.statements));
  fits : OffsetsFit l.names;
}
