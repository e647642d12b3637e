use Rattle.std.proofs.Common.{subst, sym}
use Rattle.bincl_match.specs.Refining.{IsMarkFor, look_header}
use Rattle.bincl_match.proofs.PrepareLemmas.{mark_found}
use Rattle.bincl_match.proofs.prepare.mark_for.Goals as goal

pub returns-in-Some : goal.returns-in-Some
returns-in-Some c = λ ranges are.
    subst (IsMarkFor ranges c.args.unit c.args.number) (sym c.in-Some.ensures.value) (mark_found ranges c.args.unit c.args.number (look_header c.args.headers.now c.args.unit c.args.number) c.if-number-eq0.false (are c.args.unit c.args.number))

pub returns-in-None : goal.returns-in-None
returns-in-None c = λ ranges are.
    subst (IsMarkFor ranges c.args.unit c.args.number) (sym c.in-None.ensures.value) (mark_found ranges c.args.unit c.args.number (look_header c.args.headers.now c.args.unit c.args.number) c.if-number-eq0.false (are c.args.unit c.args.number))
