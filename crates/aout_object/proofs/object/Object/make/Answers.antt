-- The first fault of the three steps is that of the checks in their order, and the object that was made has the named entries.
use Rattle.std.proofs.Common.{◌≡◌, ◌∙◌, List, [], ◌∷◌, length, ap, subst, sym}
use Rattle.std.specs.Prelude.{Option, None}
use Rattle.std.proofs.lemmas.Result.{err_from_is_err_and}
use Rattle.st_base.specs.Faults.{first_fault}
use Rattle.st_base.specs.declared.fault.Fault.{Fault}
use Rattle.nlist_codec.specs.declared.named.Named.{Named}
use Rattle.aout_object.specs.Objects.{file_of}
use Rattle.aout_object.specs.Making.{made, kinds_checks, size_check}
use Rattle.aout_object.specs.Decoding.{Answers}
use Rattle.aout_object.proofs.AnswerLemmas.{unless-ok, unless-err}
use Rattle.aout_object.proofs.MakeLemmas.{make-addresses, make-kinds, make-size, named-answered}
use Rattle.aout_object.proofs.object.Object.make.Goals as goal

pub returns-in_err-check_kinds-clause-made : goal.returns-in_err-check_kinds-clause-made
returns-in_err-check_kinds-clause-made c =
    let p = err_from_is_err_and c.from_residual.result c.from_residual.ensures.1 in
    let found = ap (λ (x : List Named). first_fault (kinds_checks 0 x)) (sym c.items.ensures) ∙ unless-err _ _ _ c.in_err-check_kinds.ensures in
    rw (p.1, p.2) (make-kinds c.args.parts c.args.named.now _ found)

pub returns-in_err-check_addresses-clause-made : goal.returns-in_err-check_addresses-clause-made
returns-in_err-check_addresses-clause-made c =
    let p = err_from_is_err_and c.from_residual-in_err-check_addresses.result c.from_residual-in_err-check_addresses.ensures.1 in
    let kinds = ap (λ (x : List Named). first_fault (kinds_checks 0 x)) (sym c.items.ensures) ∙ unless-ok _ _ _ c.in_ok-check_kinds.ensures in
    rw (p.1, p.2) (make-addresses c.args.parts c.args.named.now _ kinds (unless-err _ _ _ c.in_err-check_addresses.ensures))

-- what the making answers, of the entries that were handed in
answered : (c : goal.After-make_checked) → Answers c.make_checked.result (first_fault (size_check (length (file_of (made c.args.parts c.args.named.now))) ∷ [])) (made c.args.parts c.args.named.now)
answered c =
    subst (λ (x : List Named). Answers c.make_checked.result (first_fault (size_check (length (file_of (made c.args.parts x))) ∷ [])) (made c.args.parts x)) c.items-2.ensures c.make_checked.ensures

pub returns-clause-made : goal.returns-clause-made
returns-clause-made c =
    let kinds : first_fault (kinds_checks 0 c.args.named.now) ≡ None =
    ap (λ (x : List Named). first_fault (kinds_checks 0 x)) (sym c.items.ensures) ∙ unless-ok _ _ _ c.in_ok-check_kinds.ensures in
    let size = make-size c.args.parts c.args.named.now kinds (unless-ok _ _ _ c.in_ok-check_addresses.ensures) in
    subst (λ (f : Option Fault). Answers c.make_checked.result f (made c.args.parts c.args.named.now)) (sym size) (answered c)

pub returns-clause-named : goal.returns-clause-named
returns-clause-named c = named-answered c.args.parts c.args.named.now c.make_checked.result _ c.requires.names (answered c)
