use Rattle.std.proofs.Common.{arith, ◌≡◌, ap, Err}
use Rattle.st_base.specs.declared.fault.Refused.TheVariants as Refused
use Rattle.st_base.proofs.BytesLemmas.{IsBytes-items}
use Rattle.file_commands.proofs.objects.read_object.Goals as goal

-- the bytes of a slice are bytes

pub returns-in-Ok-clause-found : goal.returns-in-Ok-clause-found
returns-in-Ok-clause-found c = (IsBytes-items c.args.bytes.now (λ k. omega (arith, c.type_inv.bytes k)), c.in-Ok.ensures.found)

pub returns-in-Err-clause-refused : goal.returns-in-Err-clause-refused
returns-in-Err-clause-refused c = λ f told.
    let same : c.in-Err.why ≡ Refused.At f = cc in
    (IsBytes-items c.args.bytes.now (λ k. omega (arith, c.type_inv.bytes k)), c.in-Err.ensures.fault f (ap Err same))
