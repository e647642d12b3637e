use Rattle.std.proofs.Common.{◌∙◌}
use Rattle.c_items.specs.Steps.{start}
use Rattle.c_items.proofs.OnceLemmas.{behind_shorter, item_stands, none_stands}
use Rattle.c_items.proofs.ending.item_end.Goals as goal

-- what the machine finds is behind an item
pub returns-clause-found : goal.returns-clause-found
returns-clause-found c = λ rest e. item_stands c.args.from.now rest (c.scanned_end.ensures ∙ e)

-- where it finds none, none stands
pub returns-clause-none : goal.returns-clause-none
returns-clause-none c = λ e. none_stands c.args.from.now (c.scanned_end.ensures ∙ e)

-- an item has a token at least
pub returns-clause-shorter : goal.returns-clause-shorter
returns-clause-shorter c = λ rest e. behind_shorter c.args.from.now rest start (c.scanned_end.ensures ∙ e)
