use Rattle.std.proofs.Common.{◌∙◌}
use Rattle.stab_units.proofs.ReadingLemmas.{one_step, same_fault}
use Rattle.stab_units.proofs.reader.read_stab.Goals as goal

-- the fault of the string that an entry lends
pub returns-in-Some-clause-refused : goal.returns-in-Some-clause-refused
returns-in-Some-clause-refused g c = λ f is. same_fault _ _ _ _ _ f c.carries_symbol-carries.ensures c.in-Some.ensures (c.read_text.ensures.refused f is)

-- which was parsed
pub returns-in-Some-clause-stopped : goal.returns-in-Some-clause-stopped
returns-in-Some-clause-stopped g c = λ f is. one_step _ _ _ f _ _ (c.read_text.ensures.refused f is) c.read_text.ensures.ticks

-- the fault of the string that was joined
pub returns-in-Ok-clause-refused : goal.returns-in-Ok-clause-refused
returns-in-Ok-clause-refused g c = λ f is. same_fault _ _ _ _ _ f c.carries_symbol-carries.ensures (c.bytes.ensures ∙ c.in-Ok.ensures) (c.read_text-in-Ok.ensures.refused f is)

-- which was parsed
pub returns-in-Ok-clause-stopped : goal.returns-in-Ok-clause-stopped
returns-in-Ok-clause-stopped g c = λ f is. one_step _ _ _ f _ _ (c.read_text-in-Ok.ensures.refused f is) c.read_text-in-Ok.ensures.ticks
