use Rattle.std.proofs.Common.{◌≡◌, ◌++◌, drop}
use Rattle.stab_symbols.proofs.copy.copy_choices.Given as goal

-- the choices so far, and those that are left, are all
abbrev pub invariant-loop-choice : goal.invariant-loop-choice
invariant-loop-choice l = l.copied ++ drop l.choice-index l.choices ≡ l.choices
