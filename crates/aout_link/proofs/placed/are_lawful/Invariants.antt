use Rattle.std.proofs.Common.{ℕ, ◌<◌, get_or}
use Rattle.aout_link.specs.Sources.{Source, IsLawful}
use Rattle.aout_link.proofs.placed.are_lawful.Given as goal

-- those so far
abbrev pub invariant-loop-object : goal.invariant-loop-object
invariant-loop-object l = (k : ℕ) (d : Source) → k < l.object-index → IsLawful (get_or l.objects k d)
