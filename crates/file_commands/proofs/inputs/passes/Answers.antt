use Rattle.std.proofs.Common.{◌≡◌, ◌<◌, length, get_or, arith, sym, ap, ◌∙◌}
use Rattle.std.specs.List.{sum_by}
use Rattle.std.proofs.lemmas.Bool.{lt-ltb}
use Rattle.std.proofs.lemmas.List.Sums.{sum_by_more_le}
use Rattle.file_commands.proofs.inputs.passes.Goals as goal

pub returns-then-left-count : goal.returns-then-left-count
returns-then-left-count c =
    let more = sum_by_more_le length c.args.texts.now c.loop-text.text-index c.text-item.result c.loop-text-test.true in
    let same : length (c.bytes.result.now) ≡ length (get_or c.args.texts.now c.loop-text.text-index c.text-item.result) = ap length (c.bytes.ensures ∙ c.text-item.is) in
    let past : c.args.total < sum_by length c.args.texts.now = omega (arith, more, same, c.if-left-count.true, c.loop-text.invariant) in
    sym (lt-ltb _ _ past)
