use Rattle.std.proofs.Common.{Some, sym, ap, ◌∙◌}
use Rattle.unit_index.specs.Owners.{row_at, rows_of}
use Rattle.unit_index.specs.LookingUp.{look}
use Rattle.unit_index.proofs.SeenLemmas.{told_none, told_more, told_one}
use Rattle.unit_index.proofs.index.owner_of.Goals as goal

-- two or more are like it
pub returns-then-found : goal.returns-then-found
returns-then-found c =
    told_more (rows_of c.args._outlines.now) (row_at c.args.unit c.args.file c.args.header.now) (look c.args.seen.now c.args.header.now.name c.args.header.now.value) c.in-Some.found.now
    c.if-not-header.false (c.requires c.args.header.now.name c.args.header.now.value) (ap (λ z. look c.args.seen.now z c.args.header.now.value) (sym c.bytes.ensures) ∙ sym c.in-Some.ensures.value) c.if-found.true ∙ ap Some (sym c.at.ensures)

-- one is
pub returns-else-found : goal.returns-else-found
returns-else-found c =
    told_one (rows_of c.args._outlines.now) (row_at c.args.unit c.args.file c.args.header.now) (look c.args.seen.now c.args.header.now.name c.args.header.now.value) c.in-Some.found.now
    c.if-not-header.false (c.requires c.args.header.now.name c.args.header.now.value) (ap (λ z. look c.args.seen.now z c.args.header.now.value) (sym c.bytes.ensures) ∙ sym c.in-Some.ensures.value) c.if-found.false

-- none is
pub returns-in-None : goal.returns-in-None
returns-in-None c =
    told_none (rows_of c.args._outlines.now) (row_at c.args.unit c.args.file c.args.header.now) (look c.args.seen.now c.args.header.now.name c.args.header.now.value)
    c.if-not-header.false (c.requires c.args.header.now.name c.args.header.now.value) (ap (λ z. look c.args.seen.now z c.args.header.now.value) (sym c.bytes.ensures) ∙ sym c.in-None.ensures.value)
    ∙ ap Some (sym c.at-in-None.ensures)
