use Rattle.std.proofs.Common.{◌≡◌, drop}
use Rattle.c_types.specs.Sizes.{array_extent}
use Rattle.c_types.proofs.sizes.array_extent.Given as goal

abbrev pub invariant-loop-at : goal.invariant-loop-at
invariant-loop-at l = l.extent ≡ array_extent (drop l.at l.lengths) l.fn.item
