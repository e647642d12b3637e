use Rattle.std.proofs.Common.{◌≡◌, ◌++◌, drop}
use Rattle.std.specs.Prelude.{flat_map}
use Rattle.stabs_asm.specs.Listing as spec
use Rattle.stabs_asm.proofs.printed.put_string.Given as goal

abbrev pub invariant-loop-b : goal.invariant-loop-b
invariant-loop-b l = l.out ++ flat_map spec.escaped (drop l.b-index l.bytes) ≡ l.initial.out ++ flat_map spec.escaped l.bytes
