use Rattle.c_tokens.proofs.ShortLemmas.{short_tokens}
use Rattle.c_tokens.proofs.cursor.Cursor.is_short.Goals as goal

-- there are no more tokens than pieces
pub returns : goal.returns
returns c = short_tokens c.self.inside.pieces _ c.is_short.ensures c.self.view_is
