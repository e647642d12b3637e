use Rattle.std.proofs.Common.{ℕ, ◌<◌, ◌^◌, get_or}
use Rattle.reloc.specs.declared.reloc.Reloc.{Reloc}
use Rattle.aout_object.proofs.make.addresses_are_words.Given as goal

-- those so far
abbrev pub invariant-loop-reloc : goal.invariant-loop-reloc
invariant-loop-reloc l = (k : ℕ) (d : Reloc) → k < l.reloc-index → (get_or l.relocs k d).address < 2 ^ 32
