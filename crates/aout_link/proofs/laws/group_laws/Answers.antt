use Rattle.std.proofs.Common.{◌∙◌, ap, append-nil, List, []}
use Rattle.aout_link.specs.Sources.{Source}
use Rattle.aout_link.specs.Moves.{moves_after}
use Rattle.aout_link.specs.NameTables.{moved_all}
use Rattle.aout_link.proofs.GroupLemmas.{in_groups, moves_at_once, entries_at_once, padded_total}
use Rattle.aout_link.proofs.laws.group_laws.Goals as goal

pub returns-clause-together : goal.returns-clause-together
returns-clause-together c = in_groups

pub returns-clause-moves : goal.returns-clause-moves
returns-clause-moves c = moves_at_once

pub returns-clause-sizes : goal.returns-clause-sizes
returns-clause-sizes c = padded_total

pub returns-clause-entries : goal.returns-clause-entries
returns-clause-entries c = λ base group s out w.
    entries_at_once base group s out [] group w ∙ ap (λ (b : List Source). moved_all (moves_after s b group) group) (append-nil out)
