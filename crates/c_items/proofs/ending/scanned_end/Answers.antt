use Rattle.std.proofs.Common.{◌≡◌, length}
use Rattle.c_items.specs.Ends.{behind}
use Rattle.c_items.specs.Steps.{scan, start, step}
use Rattle.c_items.specs.declared.state.Next.TheVariants.{Go}
use Rattle.c_items.proofs.EndLemmas.{room_goes, scan_goes, taken_token}
use Rattle.c_items.proofs.ending.scanned_end.Goals as goal

-- the item goes on with the token
pub loop-token-preserved : goal.loop-token-preserved
loop-token-preserved c =
    let taken = taken_token c.next.result c.in-Some.token c.loop-token.left c.next.new.self c.in-Some.is c.next.ensures in
    let goes : step c.loop-token.state c.in-Some.token.0 ≡ Go c.in-Go.field-0 c.in-Go.next = cc in
    let room = room_goes c.loop-token.state c.in-Go.next c.in-Go.field-0 c.in-Some.token c.next.new.self c.loop-token.left
    (length c.args.from.now) taken goes c.loop-token.invariant.bodies c.loop-token.invariant.blocks in
    record {
      whole = scan_goes c.loop-token.state c.in-Go.next c.in-Go.field-0 c.in-Some.token c.next.new.self c.loop-token.left
          (behind (scan start c.args.from.now)) taken goes c.loop-token.invariant.whole;
      bodies = room.0;
      blocks = room.1;
    }
