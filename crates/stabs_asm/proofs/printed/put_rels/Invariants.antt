use Rattle.std.proofs.Common.{◌≡◌, ◌++◌, ◌∷◌, [], drop}
use Rattle.std.specs.Prelude.{flat_map}
use Rattle.stabs_asm.specs.Listing as spec
use Rattle.stabs_asm.proofs.printed.put_rels.Given as goal

abbrev pub invariant-loop-reloc : goal.invariant-loop-reloc
invariant-loop-reloc l = l.out ++ flat_map (λ r. spec.rel_line l.part r ++ 10 ∷ []) (drop l.reloc-index l.relocs) ≡ l.initial.out ++ flat_map (λ r. spec.rel_line l.part r ++ 10 ∷ []) l.relocs
