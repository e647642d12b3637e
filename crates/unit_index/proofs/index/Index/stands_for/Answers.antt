use Rattle.std.proofs.Common.{ap}
use Rattle.unit_index.specs.Indexes.{Indexed}
use Rattle.unit_index.proofs.IndexLaws.{stands_for_none}
use Rattle.unit_index.proofs.index.Index.stands_for.Goals as goal

-- in the index there are as many owners as headers
pub returns-clause-none : goal.returns-clause-none
returns-clause-none c =
    stands_for_none c.args.self.now c.self.inside.outlines c.self.inside.owners (ap (λ (z : Indexed). z.outlines) c.self.view_is) (ap (λ (z : Indexed). z.owners) c.self.view_is)
    c.self.invariant.0 c.self.invariant.1 c.args.unit c.args.file c.opener_among.result c.opener_among.ensures
