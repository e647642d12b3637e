use Rattle.std.proofs.Common.{◌≡◌, ◌++◌, drop}
use Rattle.stabs_asm.specs.Listing as spec
use Rattle.stabs_asm.proofs.printed.put_bytes_on.Given as goal

abbrev pub invariant-loop-b : goal.invariant-loop-b
invariant-loop-b l = l.out ++ spec.bytes_on (drop l.b-index l.bytes) ≡ l.initial.out ++ spec.bytes_on l.bytes
