use Rattle.std.proofs.Common.{arith}
use Rattle.st_base.specs.Number.{IsBytes}
use Rattle.st_base.proofs.BytesLemmas.{IsBytes-items}
use Rattle.aout_object.proofs.AnswerLemmas.{decodes-only, decodes-first}
use Rattle.aout_object.proofs.read.decode.Goals as goal

-- the bytes of a slice are bytes
pub returns-clause-only : goal.returns-clause-only
returns-clause-only c =
    let are_bytes : IsBytes c.args.bytes.now = IsBytes-items c.args.bytes.now (λ k. omega (arith, c.type_inv.bytes k)) in
    decodes-only c.args.bytes.now c.decode_whole.result are_bytes c.decode_whole.ensures

pub returns-clause-first : goal.returns-clause-first
returns-clause-first c =
    let are_bytes : IsBytes c.args.bytes.now = IsBytes-items c.args.bytes.now (λ k. omega (arith, c.type_inv.bytes k)) in
    decodes-first c.args.bytes.now c.decode_whole.result are_bytes c.decode_whole.ensures
