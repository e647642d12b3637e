use Rattle.std.proofs.Common.{◌≡◌, ◌++◌, ◌∷◌, [], drop}
use Rattle.std.specs.Prelude.{flat_map}
use Rattle.aout_object.specs.Objects.{named_entry}
use Rattle.stabs_asm.specs.Listing as spec
use Rattle.stabs_asm.proofs.printed.put_entries.Given as goal

abbrev pub invariant-loop-entry : goal.invariant-loop-entry
invariant-loop-entry l =
    l.out ++ flat_map (λ e. spec.entry_line (named_entry l.strings e) ++ 10 ∷ []) (drop l.entry-index l.entries)
    ≡ l.initial.out ++ flat_map (λ e. spec.entry_line (named_entry l.strings e) ++ 10 ∷ []) l.entries
