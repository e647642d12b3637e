use Rattle.std.proofs.Common.{◌≡◌, ◌++◌, drop}
use Rattle.stab_symbols.specs.Printing.{Grows, fields_text}
use Rattle.stab_symbols.proofs.printing.+print.Given as goal

abbrev pub invariant-put_fields-loop-field : goal.invariant-put_fields-loop-field
invariant-put_fields-loop-field g l = record {
  text : l.out ++ fields_text (g.W.NumberWriter.number l.writer) (g.W.NumberWriter.hides l.writer) (drop l.field-index l.fields)
      ≡ l.initial.out ++ fields_text (g.W.NumberWriter.number l.writer) (g.W.NumberWriter.hides l.writer) l.fields;
  grows : Grows l.initial.out l.out;
}
