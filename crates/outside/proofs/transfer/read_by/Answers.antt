use Rattle.std.proofs.Common.{ℕ, ◌+◌, ◌≤◌, length, take, ap, arith, length-take}
use Rattle.outside.proofs.TransferLemmas.{TakesAtMost-more, ReadsWhole-stopped}
use Rattle.outside.proofs.transfer.read_by.Goals as goal

-- what was read before, and what this read took: it asked for as many bytes as may still come, and one more
pub returns-in-Stops-clause-asked : goal.returns-in-Stops-clause-asked
returns-in-Stops-clause-asked g c =
    let within : length c.loop-text.text + length (take c.min-asked.result c.loop-text.room) ≤ c.args.most + 1 =
    omega (arith, length-take {A = ℕ}, ap length c.bytes.ensures, ap length c.bytes-in-loop-text.ensures) in
    TakesAtMost-more _ _ _ (g.R.Read.remaining c.loop-text.from) _ c.loop-text.text c.loop-text.invariant.read c.in-Stops.ensures.asked within

-- at most `most` bytes were read before it, and a read that failed gave none
pub returns-in-Stops-clause-read : goal.returns-in-Stops-clause-read
returns-in-Stops-clause-read g c =
    let within : length c.loop-text.text ≤ c.args.most = omega (arith, ap length c.bytes.ensures, ap length c.bytes-in-loop-text.ensures) in
    ReadsWhole-stopped _ _ _ (g.R.Read.remaining c.loop-text.from) _ c.loop-text.text _ c.in-Stops.why _ c.stopped.ensures c.loop-text.invariant.read c.in-Stops.ensures.read within
