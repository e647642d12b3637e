-- What the last pass made is the object, and can be made into one.
use Rattle.asm_objects.proofs.MakeLemmas.{passed_names, passed_relocs, passed_machine, passed_made}
use Rattle.asm_objects.proofs.assembling.make_within.Goals as goal

pub make-requires-clause-names : goal.make-requires-clause-names
make-requires-clause-names c =
    passed_names c.args.order c.args.statements c.args.table c.args.undefined c.requires.passed _ c.in_ok-parts.ensures.named

pub make-requires-clause-text_relocs : goal.make-requires-clause-text_relocs
make-requires-clause-text_relocs c =
    (passed_relocs c.args.order c.args.statements c.args.table c.args.undefined c.requires.passed _ c.in_ok-parts.ensures.parts c.requires.within).0

pub make-requires-clause-data_relocs : goal.make-requires-clause-data_relocs
make-requires-clause-data_relocs c =
    (passed_relocs c.args.order c.args.statements c.args.table c.args.undefined c.requires.passed _ c.in_ok-parts.ensures.parts c.requires.within).1

pub make-requires-clause-machine : goal.make-requires-clause-machine
make-requires-clause-machine c =
    passed_machine c.args.order c.args.statements c.args.table c.args.undefined c.requires.passed _ c.in_ok-parts.ensures.parts c.requires.within

pub returns : goal.returns
returns c =
    passed_made c.args.order c.args.statements c.args.table c.args.undefined c.requires.passed
    c.make.result _ _ c.in_ok-parts.ensures.parts c.in_ok-parts.ensures.named c.make.ensures.made
