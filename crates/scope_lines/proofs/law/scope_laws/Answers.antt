use Rattle.scope_lines.proofs.BelongLemmas.{block_is, own_is, statics_are, waiting_is}
use Rattle.scope_lines.proofs.EndLemmas.{end_is}
use Rattle.scope_lines.proofs.NoneLemmas.{no_function}
use Rattle.scope_lines.proofs.OrderLemmas.{all_ascend, blocks_in_order}
use Rattle.scope_lines.proofs.UnitLemmas.{unit_is}
use Rattle.scope_lines.proofs.law.scope_laws.Goals as goal

pub returns-clause-unit : goal.returns-clause-unit
returns-clause-unit c = unit_is

pub returns-clause-closed : goal.returns-clause-closed
returns-clause-closed c = end_is

pub returns-clause-own : goal.returns-clause-own
returns-clause-own c = own_is

pub returns-clause-vars : goal.returns-clause-vars
returns-clause-vars c = waiting_is

pub returns-clause-blocks : goal.returns-clause-blocks
returns-clause-blocks c = block_is

pub returns-clause-blocks_order : goal.returns-clause-blocks_order
returns-clause-blocks_order c = blocks_in_order

pub returns-clause-statics : goal.returns-clause-statics
returns-clause-statics c = statics_are

pub returns-clause-alone : goal.returns-clause-alone
returns-clause-alone c = no_function

pub returns-clause-order : goal.returns-clause-order
returns-clause-order c = all_ascend
