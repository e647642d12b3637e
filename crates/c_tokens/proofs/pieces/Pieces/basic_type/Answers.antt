use Rattle.std.proofs.Common.{arith, length-set, ◌∙◌}
use Rattle.c_tokens.proofs.WordLemmas.{word_put, word_left_out, run_goes_on, run_ends}
use Rattle.c_tokens.proofs.pieces.Pieces.basic_type.Goals as goal

-- a word more is put behind the others
pub loop-word-preserved-then-count-lt-MOST_WORDS :
    goal.loop-word-preserved-then-count-lt-MOST_WORDS
loop-word-preserved-then-count-lt-MOST_WORDS c = record {
  value = word_put c.loop-word.words c.loop-word.count c.in-Some.word c.loop-word.self c.word.new.self _ _ (omega arith) c.loop-word.invariant.value c.in-Some.ensures.1;
  told = run_goes_on c.in-Some.word c.loop-word.self c.word.new.self _ _ c.loop-word.invariant.told c.in-Some.ensures.1;
  count = omega arith;
  room = length-set c.loop-word.words c.loop-word.count c.in-Some.word ∙ c.loop-word.invariant.room;
}

-- behind five words it changes nothing
pub loop-word-preserved : goal.loop-word-preserved
loop-word-preserved c = record {
  value =
      word_left_out c.loop-word.words c.loop-word.count c.in-Some.word c.loop-word.self c.word.new.self _ _ c.loop-word.invariant.room (omega arith) c.loop-word.invariant.value c.in-Some.ensures.1;
  told = run_goes_on c.in-Some.word c.loop-word.self c.word.new.self _ _ c.loop-word.invariant.told c.in-Some.ensures.1;
  count = c.loop-word.invariant.count;
  room = c.loop-word.invariant.room;
}

-- no word stands behind those that were taken
pub returns-clause-behind : goal.returns-clause-behind
returns-clause-behind c = run_ends c.loop-word.self c.word.new.self _ c.loop-word.invariant.told c.in_default.ensures
