use Rattle.aout_object.proofs.AnswerLemmas.{one_object, one_file, one_fault, object_or_fault, not_both}
use Rattle.aout_object.proofs.laws.object_laws.Goals as goal

pub returns : goal.returns
returns c = record {
  one_object = λ first other bytes are_bytes spells spells_other. one_object first other bytes are_bytes spells spells_other;
  one_file = λ object first other spells spells_other. one_file object first other spells spells_other;
  one_fault = λ bytes first other is is_other. one_fault bytes first other is is_other;
  object_or_fault = λ bytes are_bytes. object_or_fault bytes are_bytes;
  not_both = λ bytes object fault are_bytes spells is. not_both bytes object fault are_bytes spells is;
}
