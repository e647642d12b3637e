use Rattle.bincl_match.proofs.SpanLemmas.{outlined_headers, outlined_within}
use Rattle.bincl_match.proofs.reading.put_span.Goals as goal

-- the span begins at an entry
pub put_unit-requires-clause-within : goal.put_unit-requires-clause-within
put_unit-requires-clause-within g c = outlined_within c.args.entries.now c.items.result.now c.args.span.now c.items.ensures c.requires.outlined

-- it has no more headers than there are entries
pub put_unit-requires-clause-headers : goal.put_unit-requires-clause-headers
put_unit-requires-clause-headers g c = outlined_headers c.args.entries.now c.items.result.now c.args.span.now c.items.ensures c.requires.outlined
