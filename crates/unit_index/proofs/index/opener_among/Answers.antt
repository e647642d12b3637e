use Rattle.std.proofs.Common.{◌-◌, ap, sym, ◌∙◌}
use Rattle.std.specs.Prelude.{slice_get}
use Rattle.unit_index.specs.Filling.{owners_at}
use Rattle.unit_index.proofs.PlaceLemmas.{stands_zero, stands_found, stands_nowhere}
use Rattle.unit_index.proofs.index.opener_among.Goals as goal

-- the main source
pub returns-then-file-eq0 : goal.returns-then-file-eq0
returns-then-file-eq0 c = stands_zero c.args.all.now c.requires c.args.unit c.args.file c.if-file-eq0.true

-- a header, if there is such a one
pub returns-else-file-eq0 : goal.returns-else-file-eq0
returns-else-file-eq0 c =
    stands_found c.args.all.now c.requires c.args.unit c.args.file _ _ c.if-file-eq0.false
    (c.get-else-file-eq0.ensures.value ∙ ap (λ z. slice_get (owners_at z) (c.args.file - 1)) c.in-Some.ensures.value) c.opener_of.ensures

-- no unit
pub returns-in-None : goal.returns-in-None
returns-in-None c = stands_nowhere c.args.all.now c.requires c.args.unit c.args.file (sym c.in-None.ensures.value)
