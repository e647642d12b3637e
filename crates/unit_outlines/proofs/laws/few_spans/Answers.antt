use Rattle.unit_outlines.proofs.FewSpans.{few_spans}
use Rattle.unit_outlines.proofs.laws.few_spans.Goals as goal

pub returns : goal.returns
returns c = few_spans
