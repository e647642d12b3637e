use Rattle.std.proofs.Common.{◌≡◌, Err, ap, rules, true}
use Rattle.st_base.specs.declared.fault.Refused.{Refused}
use Rattle.stab_units.proofs.ReadingLemmas.{stopped, taken}
use Rattle.stab_units.proofs.reader.take_stab.Goals as goal

-- the stab is one item
pub returns-in-Ok-file_item-clause-found : goal.returns-in-Ok-file_item-clause-found
returns-in-Ok-file_item-clause-found g c =
    let begins : c.args.begins ≡ true = search rules in
    taken c.args.begins _ _ _ _ _ _ _ _ c.in-Ok.text begins c.in-Ok.ensures.found c.in-Ok-file_item.ensures.files c.in-Ok-file_item.ensures.body

-- its string has the fault
pub returns-in-Err-clause-stopped : goal.returns-in-Err-clause-stopped
returns-in-Err-clause-stopped g c = λ f is.
    let begins : c.args.begins ≡ true = search rules in
    let same : c.in-Err.refusal ≡ Refused.At f = cc in
    stopped c.args.begins _ _ _ _ f _ _ begins (c.in-Err.ensures.refused f (ap Err same)) (c.in-Err.ensures.stopped f (ap Err same))
