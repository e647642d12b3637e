use Rattle.std.proofs.Common.{sym}
use Rattle.unit_outlines.specs.declared.outline_types.Marks.TheVariants.{Image}
use Rattle.query_tests.proofs.outlines.unit_of.Goals as goal

-- the span is one of the outline
pub read_counted-requires-clause-outlined : goal.read_counted-requires-clause-outlined
read_counted-requires-clause-outlined c = record {
  marks = Image;
  text_end = c.args.text_end;
  number = c.args.number;
  no_fault = c.in_ok-spans.ensures.found.0;
  is = rw (sym c.in_ok-spans.ensures.found.1) (sym c.in-Some.ensures.value);
}
