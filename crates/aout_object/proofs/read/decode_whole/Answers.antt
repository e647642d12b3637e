-- The sizes passed, and the rest is what the parts answer.
use Rattle.std.proofs.Common.{arith, sym}
use Rattle.st_base.specs.Number.{IsBytes}
use Rattle.st_base.proofs.BytesLemmas.{IsBytes-items}
use Rattle.aout_object.proofs.AnswerLemmas.{decodes-parts, unless-ok}
use Rattle.aout_object.proofs.read.decode_whole.Goals as goal

pub returns : goal.returns
returns c =
    let are_bytes : IsBytes c.args.bytes.now = IsBytes-items c.args.bytes.now (λ k. omega (arith, c.type_inv.bytes k)) in
    decodes-parts c.args.bytes.now c.in_ok-header.header c.read_object.result are_bytes (sym c.in_ok-header.ensures) (unless-ok _ _ _ c.in_ok-check_places.ensures) c.read_object.ensures
