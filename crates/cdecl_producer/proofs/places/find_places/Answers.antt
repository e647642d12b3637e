use Rattle.std.proofs.Common.{arith, ◌-◌}
use Rattle.cdecl_producer.specs.Files.{listed}
use Rattle.cdecl_producer.proofs.PlaceLemmas.{place_put}
use Rattle.cdecl_producer.proofs.places.find_places.Goals as goal

-- one more file is put
pub loop-at-preserved : goal.loop-at-preserved
loop-at-preserved c =
    λ name. place_put c.args.files.now c.loop-at.at (c.loop-at.at - 1) c.index-files-at.result (listed c.loop-at.places.entries)
    (listed c.put_place.new.places.entries) c.bytes.result.now name (omega (arith, c.loop-at-test.true))
    (omega (arith, c.loop-at-test.true, c.loop-at.auto.at)) c.index-files-at.is c.bytes.ensures c.in_ok-put_place.ensures (c.loop-at.invariant name)
