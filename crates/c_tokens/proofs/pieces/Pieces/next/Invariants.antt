use Rattle.std.proofs.Common.{◌≡◌, length}
use Rattle.c_tokens.specs.Scanning.{pieces, HasRoom}
use Rattle.c_tokens.proofs.pieces.Pieces.next.Given as goal

abbrev pub invariant-loop-self : goal.invariant-loop-self
invariant-loop-self l = record {
  value : pieces 0 l.self-inside.fresh l.self-inside.line l.self-inside.rest.now ≡ l.fn.self;
  room : HasRoom l.self-inside.line (length l.self-inside.rest.now);
}

abbrev pub decreases-loop-self : goal.decreases-loop-self
decreases-loop-self l = length l.self-inside.rest.now
