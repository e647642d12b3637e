use Rattle.std.proofs.Common.{◌≡◌, ◌-◌}
use Rattle.readers.specs.Readers as readers
use Rattle.stab_grammar.specs.Grammar as spec
use Rattle.stab_grammar.proofs.grammar.choices_at.Given as goal

abbrev pub invariant-loop : goal.invariant-loop
invariant-loop l = readers.with_front l.choices (readers.up_to 59 spec.choice_at (l.end - l.counter) l.rest) ≡ readers.many 59 spec.choice_at l.bytes
