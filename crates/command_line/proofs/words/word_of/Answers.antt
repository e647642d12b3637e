use Rattle.std.proofs.Common.{◌∙◌, sym}
use Rattle.command_line.specs.declared.words.Keyword.TheVariants.{Query}
use Rattle.command_line.specs.declared.words.Want.TheVariants.{This}
use Rattle.command_line.proofs.WordLemmas.{word_of-past}
use Rattle.command_line.proofs.words.word_of.Goals as goal

pub loop-at-preserved : goal.loop-at-preserved
loop-at-preserved c =
    word_of-past c.args.places.now c.args.words.now c.loop-at.at (This Query) c.loop-at-test.true c.args.operand
    (sym c.is_operand.ensures ∙ c.if-is_operand.false) ∙ c.loop-at.invariant
