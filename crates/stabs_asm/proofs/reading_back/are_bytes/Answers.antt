use Rattle.std.proofs.Common.{arith}
use Rattle.st_base.proofs.BytesLemmas.{IsBytes-items}
use Rattle.stabs_asm.proofs.reading_back.are_bytes.Goals as goal

pub returns : goal.returns
returns c = IsBytes-items c.args.bytes.now (λ k. omega (arith, c.type_inv.bytes k))
