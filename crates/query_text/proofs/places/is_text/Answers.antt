use Rattle.std.proofs.Common.{ap, ◌∙◌}
use Rattle.std.specs.Str.{is_utf8}
use Rattle.query_text.proofs.TextLemmas.{read_as_text}
use Rattle.query_text.proofs.places.is_text.Goals as goal

pub returns : goal.returns
returns c = let read = read_as_text _ _ _ _ c.from_utf8.ensures.cases in c.is_ok.ensures.value ∙ read ∙ ap is_utf8 c.bytes.ensures
