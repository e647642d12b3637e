use Rattle.std.proofs.Common.{◌≡◌, length}
use Rattle.c_items.specs.Acting.{acts_from, all_acted}
use Rattle.c_items.specs.Steps.{start, step}
use Rattle.c_items.specs.declared.state.Next.TheVariants.{Go}
use Rattle.c_items.proofs.ActLemmas.{acts_go}
use Rattle.c_items.proofs.EndLemmas.{room_goes, taken_token}
use Rattle.c_items.proofs.acting.walk_tokens.Goals as goal

-- the token is carried out, and the item goes on
pub loop-token-preserved : goal.loop-token-preserved
loop-token-preserved g c =
    let taken = taken_token c.next.result c.in-Some.token c.loop-token.left c.next.new.self c.in-Some.is c.next.ensures in
    let goes : step c.loop-token.state c.in-Some.token.0 ≡ Go c.in-Go.role c.in-Go.next = cc in
    let room = room_goes c.loop-token.state c.in-Go.next c.in-Go.role c.in-Some.token c.next.new.self c.loop-token.left
    (length c.args.from.now) taken goes c.loop-token.invariant.bodies c.loop-token.invariant.blocks in
    record {
      whole = acts_go g.A.Actor.acts c.loop-token.state c.in-Go.next c.in-Go.role c.in-Some.token c.next.new.self c.loop-token.left
          c.loop-token.actor c.act-in-Go.new.self (all_acted g.A.Actor.acts (acts_from start c.args.from.now) c.args.actor.now) taken goes
          c.in_ok-act-in-Go.ensures c.loop-token.invariant.whole;
      bodies = room.0;
      blocks = room.1;
    }
