use Rattle.std.proofs.Common.{◌∙◌, sym}
use Rattle.aout_link.specs.Answering.{listed}
use Rattle.aout_link.proofs.DefinitionLemmas.{define_note, define_skip, define_end}
use Rattle.aout_link.proofs.definitions.define_all.Goals as goal

pub returns : goal.returns
returns c = λ before tells. define_end before c.args.object c.args.moves.now c.args.named.now c.loop-at.at (listed c.args.table.now.entries) (listed c.loop-at.table.entries) c.loop-at-test.false (c.loop-at.invariant before tells)

pub loop-at-preserved-then-not-defines_name : goal.loop-at-preserved-then-not-defines_name
loop-at-preserved-then-not-defines_name c = λ before tells.
    define_skip before c.args.object c.args.moves.now c.args.named.now c.loop-at.at c.index-named-at.result (listed c.args.table.now.entries) (listed c.loop-at.table.entries)
    c.loop-at-test.true c.index-named-at.is (sym c.defines_name.ensures ∙ c.if-not-defines_name.true) (c.loop-at.invariant before tells)

pub loop-at-preserved : goal.loop-at-preserved
loop-at-preserved c = λ before tells.
    define_note before c.args.object c.args.moves.now c.args.named.now c.loop-at.at c.index-named-at.result (listed c.args.table.now.entries) (listed c.loop-at.table.entries)
    (listed c.define.new.table.entries) c.in_ok-fresh.fresh c.moved_value.result c.bytes.result.now c.loop-at-test.true c.index-named-at.is (sym c.defines_name.ensures ∙ c.if-not-defines_name.false)
    c.bytes.ensures c.if-not-fresh.false c.in_ok-fresh.ensures.fresh c.moved_value.ensures c.in_ok-fresh.ensures.noted (c.loop-at.invariant before tells)
