use Rattle.std.proofs.Common.{◌≤◌, arith, refl}
use Rattle.outside.specs.Causes.{Rose}
use Rattle.stabs_tool.proofs.laws.run_surely.Goals as goal

-- a count that stands at 0 did not rise
never : Rose 0 0 → ⊥
never rose = let k : 1 ≤ 0 = rose in omega arith

pub returns : goal.returns
returns c = c.run.ensures.promise.complete c.args.files.now.contents refl never never never
