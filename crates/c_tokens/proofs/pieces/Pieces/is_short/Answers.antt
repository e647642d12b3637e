use Rattle.c_tokens.proofs.ShortLemmas.{short_pieces}
use Rattle.c_tokens.proofs.pieces.Pieces.is_short.Goals as goal

-- there are no more pieces than bytes
pub returns : goal.returns
returns c = short_pieces _ _ c.self.inside.rest.now _ c.self.invariant.bytes c.self.view_is
