use Rattle.asm_objects.specs.Meaning as spec
use Rattle.asm_objects.proofs.NameLemmas.{taken_step}
use Rattle.asm_objects.proofs.making.put_undefined.Goals as goal

pub loop-at-preserved : goal.loop-at-preserved
loop-at-preserved c =
    taken_step spec.undefined_entry c.args.undefined.now c.loop-at.out c.put_entry.new.out _ c.loop-at.at c.in_ok-name.name c.loop-at.invariant c.in_ok-name.ensures c.in_ok-put_entry.ensures
