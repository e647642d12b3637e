use Rattle.std.proofs.Common.{◌≡◌, length, arith}
use Rattle.unit_index.proofs.FileLemmas.{as_many_length}
use Rattle.unit_index.proofs.taking.all_taken.Goals as goal

pub bounds-all-unit : goal.bounds-all-unit
bounds-all-unit c = let same : length c.args.all.now ≡ length c.args.outlines.now = as_many_length c.args.outlines.now c.args.all.now c.requires in omega (arith, same)
