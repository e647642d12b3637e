use Rattle.std.proofs.Common.{◌≡◌, drop, fold, []}
use Rattle.std.specs.Prelude.{flat_map}
use Rattle.asm_objects.specs.Meaning as spec
use Rattle.std.specs.Str.{bytes_eq}
use Rattle.st_base.specs.FirstUses.{used}
use Rattle.asm_objects.proofs.undefined.undefined_names.Given as goal

abbrev pub invariant-loop-statement : goal.invariant-loop-statement
invariant-loop-statement l =
    fold (used bytes_eq) l.words (flat_map (λ s. spec.outer l.table s.what) (drop l.statement-index l.statements)) ≡ fold (used bytes_eq) [] (flat_map (λ s. spec.outer l.table s.what) l.statements)
