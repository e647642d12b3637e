use Rattle.std.proofs.Common.{◌≡◌, ◌++◌, drop}
use Rattle.c_types.specs.Types.{arrays_text}
use Rattle.c_types.proofs.lines.put_arrays.Given as goal

abbrev pub invariant-loop-length : goal.invariant-loop-length
invariant-loop-length l = l.out ++ arrays_text (drop l.length-index l.lengths) ≡ l.initial.out ++ arrays_text l.lengths
