use Rattle.std.proofs.Common.{refl}
use Rattle.asm_objects.proofs.ZeroLemmas.{zeros_step, zeros_last}
use Rattle.asm_objects.proofs.making.put_zeros_of.Goals as goal

pub loop-left-preserved : goal.loop-left-preserved
loop-left-preserved c =
    zeros_step c.loop-left.out c.extend.new.self c.args.zeros.now _ c.loop-left.left c.requires c.loop-left-test.true c.loop-left.invariant c.in_ok-extend.ensures.ok

pub returns : goal.returns
returns c =
    zeros_last c.loop-left.out c.extend-2.new.self c.args.zeros.now _ _ c.loop-left.left c.requires c.loop-left-test.false c.loop-left.invariant refl c.in_ok-extend-2.ensures.ok
