-- A new map has no entries, and the table is a text of four zero bytes.
use Rattle.strtab.proofs.BuilderLemmas.{IsIndexed-nil}
use Rattle.strtab.proofs.builder.Builder.new.Goals as goal

pub invariant_of-result : goal.invariant_of-result
invariant_of-result c = IsIndexed-nil _ _ c.new.ensures.empty c.in_ok-of.ensures
