use Rattle.std.proofs.Common.{◌++◌, take, refl}
use Rattle.outside.proofs.TransferLemmas.{Appends-more, rest-more}
use Rattle.outside.proofs.transfer.write_whole.Goals as goal

-- the front has grown by what the writer took
pub loop-rest-preserved : goal.loop-rest-preserved
loop-rest-preserved g c =
    let written = c.loop-rest.invariant in
    let rest = c.loop-rest.rest.now in
    let count = c.in-Ok.count in
    let whole = rest-more c.args.bytes.now written.0 rest count _ written.1 refl in
    (written.0 ++ take count rest, whole, Appends-more _ _ _ _ _ written.2 c.in-Ok.ensures.bytes)
