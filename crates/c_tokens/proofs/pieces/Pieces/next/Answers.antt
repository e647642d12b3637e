use Rattle.std.proofs.Common.{sym, arith}
use Rattle.c_tokens.proofs.PieceLemmas.{cut_off}
use Rattle.c_tokens.proofs.pieces.Pieces.next.Goals as goal

-- the front that is cut off gives this piece
pub returns-in-Some : goal.returns-in-Some
returns-in-Some c =
    cut_off _ _ _ _ c.loop-self.self-inside.rest.now _ _ _ _ _ _ c.loop-self.invariant.value (omega arith) c.front-size.ensures.front c.split_at.ensures.front
    c.split_at.ensures.back c.line_feeds.ensures.value c.is_fresh_behind-self-inside.ensures c.in-Some.is

-- it gives none
pub loop-self-preserved : goal.loop-self-preserved
loop-self-preserved c = record {
  value =
      sym (cut_off _ _ _ _ c.loop-self.self-inside.rest.now _ _ _ _ _ _ c.loop-self.invariant.value (omega arith) c.front-size.ensures.front c.split_at.ensures.front
      c.split_at.ensures.back c.line_feeds.ensures.value c.is_fresh_behind-self-inside.ensures c.in_default.is);
  room = record { lines = omega arith; bytes = omega arith };
}
