use Rattle.std.proofs.Common.{◌≡◌, ◌++◌, drop}
use Rattle.stab_symbols.specs.Printing.{Grows, choices_text}
use Rattle.stab_symbols.proofs.printing.put_choices.Given as goal

abbrev pub invariant-loop-choice : goal.invariant-loop-choice
invariant-loop-choice l = record {
  text : l.out ++ choices_text (drop l.choice-index l.choices) ≡ l.initial.out ++ choices_text l.choices;
  grows : Grows l.initial.out l.out;
}
