use Rattle.unit_index.proofs.OneLaws.{some_world, one_world, one_world_fault, world_not_both, world_count, world_count_one}
use Rattle.unit_index.proofs.laws.one_expansion.Goals as goal

pub returns-clause-some : goal.returns-clause-some
returns-clause-some c = some_world c.one_index.ensures.some c.one_index.ensures.one c.one_spans.ensures.some c.one_spans.ensures.one c.one_spans.ensures.one_fault c.one_spans.ensures.not_both

pub returns-clause-one : goal.returns-clause-one
returns-clause-one c = one_world c.one_index.ensures.some c.one_index.ensures.one c.one_spans.ensures.some c.one_spans.ensures.one c.one_spans.ensures.one_fault c.one_spans.ensures.not_both

pub returns-clause-one_fault : goal.returns-clause-one_fault
returns-clause-one_fault c = one_world_fault c.one_index.ensures.some c.one_index.ensures.one c.one_spans.ensures.some c.one_spans.ensures.one c.one_spans.ensures.one_fault c.one_spans.ensures.not_both

pub returns-clause-not_both : goal.returns-clause-not_both
returns-clause-not_both c = world_not_both c.one_index.ensures.some c.one_index.ensures.one c.one_spans.ensures.some c.one_spans.ensures.one c.one_spans.ensures.one_fault c.one_spans.ensures.not_both

pub returns-clause-counted : goal.returns-clause-counted
returns-clause-counted c = world_count

pub returns-clause-one_count : goal.returns-clause-one_count
returns-clause-one_count c = world_count_one c.one_index.ensures.one c.one_spans.ensures.one_count
