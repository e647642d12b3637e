use Rattle.std.proofs.Common.{refl}
use Rattle.unit_outlines.proofs.SpanLemmas.{closed_start}
use Rattle.unit_outlines.proofs.closings.range_ends.Goals as goal

-- behind the last entry nothing was read
pub loop-at-init : goal.loop-at-init
loop-at-init c = record { counted = refl; closed = closed_start _ c.args.entries.now c.new-closings.result c.new-closings.ensures }
