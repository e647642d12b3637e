use Rattle.std.proofs.Common.{ℕ, ◌+◌, List, length, subst}
use Rattle.header_merge.specs.Merged.{merged}
use Rattle.aout_link.specs.Linking.{KeepsWorld}
use Rattle.aout_link.proofs.UnitLemmas.{ranges_placed}
use Rattle.aout_link.proofs.linking.group_placed.Goals as goal

-- the ranges of the objects are those of what is placed
pub group-requires-clause-found : goal.group-requires-clause-found
group-requires-clause-found c =
    ranges_placed c.found_laws.ensures.more c.found_laws.ensures.like c.found_laws.ensures.none c.args.base c.args.objects.now c.args.placed.now (c.args.placed.now.entry + length c.bytes.result.now)
    c.in_ok-found.found c.in_ok-found.ensures c.requires.placed

-- text ends where that of the placed objects does
pub returns-in-Ok-clause-world : goal.returns-in-Ok-clause-world
returns-in-Ok-clause-world c =
    let placed = c.args.placed.now in
    subst (λ (text : List ℕ). KeepsWorld (placed.entry + length text) placed.named (merged c.in-Ok.grouping placed.named)) c.bytes.ensures c.in-Ok.ensures.world
