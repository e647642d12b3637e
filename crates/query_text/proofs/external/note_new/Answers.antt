use Rattle.std.proofs.Common.{sym, ◌∙◌}
use Rattle.std.proofs.lemmas.Map.Text.{btree_map_updates_str}
use Rattle.query_text.specs.Externals as spec
use Rattle.query_text.proofs.ExternalLemmas.{new_known}
use Rattle.query_text.proofs.external.note_new.Goals as goal

pub returns-in_ok-insert : goal.returns-in_ok-insert
returns-in_ok-insert c =
    λ other. new_known (spec.look c.args.values.now) c.args.name.now c.args.value other (spec.look c.insert.new.self other)
    (sym c.contains_key.ensures ∙ c.if-not-contains_key.true)
    (btree_map_updates_str c.args.name.now c.args.values.now c.insert.new.self _ c.in_ok-insert.ensures.updates other)
