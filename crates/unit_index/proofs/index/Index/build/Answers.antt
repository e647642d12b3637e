use Rattle.std.proofs.Common.{◌<◌, ◌^◌, List, length, subst, sym, ◌∙◌}
use Rattle.unit_outlines.specs.declared.outline_types.UnitSpan.{UnitSpan}
use Rattle.unit_index.specs.declared.owner.Owner.{Owner}
use Rattle.unit_index.specs.Owners.{rows_of}
use Rattle.unit_index.specs.Indexes.{AreInPlace, AsMany}
use Rattle.unit_index.specs.LookingUp.{AreFew}
use Rattle.unit_index.proofs.FewLemmas.{few_headers, few_units}
use Rattle.unit_index.proofs.PlaceLemmas.{owners_in_place, as_many_by}
use Rattle.unit_index.proofs.IndexLaws.{index_is}
use Rattle.unit_index.proofs.index.Index.build.Goals as goal

-- a list has no more units than entries
pub owners_of-requires-clause-short : goal.owners_of-requires-clause-short
owners_of-requires-clause-short c =
    subst (λ (z : List UnitSpan). length z < 2 ^ 32) (sym (c.items.ensures ∙ c.in-Ok.ensures.found.1)) (few_units c.args.text_end c.args.entries.now c.requires)

-- and none of them more headers
pub owners_of-requires-clause-few : goal.owners_of-requires-clause-few
owners_of-requires-clause-few c = subst AreFew (sym (c.items.ensures ∙ c.in-Ok.ensures.found.1)) (few_headers c.args.text_end c.args.entries.now c.requires)

-- each owner stands at its place, and there are as many as headers
pub invariant_of-result : goal.invariant_of-result
invariant_of-result c = (
  subst (λ (z : List (List Owner)). AreInPlace 0 z) (sym c.in-Ok-owners_of.ensures.1) (owners_in_place (rows_of c.items.result.now) 0 c.items.result.now),
  subst (λ (z : List UnitSpan). AsMany z c.in-Ok-owners_of.owners) c.items.ensures
      (subst (λ (z : List (List Owner)). AsMany c.items.result.now z) (sym c.in-Ok-owners_of.ensures.1) (as_many_by (rows_of c.items.result.now) 0 c.items.result.now)),
)

-- the index of the image
pub returns-in-Ok-owners_of-clause-found : goal.returns-in-Ok-owners_of-clause-found
returns-in-Ok-owners_of-clause-found c =
    index_is c.args.text_end c.args.entries.now c.items.result.now c.in-Ok.outlines c.in-Ok-owners_of.owners c.in-Ok.ensures.found.0 c.items.ensures c.in-Ok.ensures.found.1
    c.in-Ok-owners_of.ensures.0 c.in-Ok-owners_of.ensures.1
