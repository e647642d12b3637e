use Rattle.std.proofs.Common.{refl}
use Rattle.stabs_tool.proofs.CallLemmas.{calls_of, calls_of_nothing}
use Rattle.stabs_tool.proofs.HeadlineLemmas.{headline_of}
use Rattle.stabs_tool.proofs.Promises.{promise_of, promise_of_nothing}
use Rattle.stabs_tool.proofs.top.run.Goals as goal

-- out of memory before anything was decided
pub returns-in-Err-clause-promise : goal.returns-in-Err-clause-promise
returns-in-Err-clause-promise g c = promise_of_nothing _ _ _ _ (c.one_outcome.ensures _) _ _ c.in-Err.ensures.held c.in-Err.ensures.stores _ _ _ refl

pub returns-in-Ok-clause-promise : goal.returns-in-Ok-clause-promise
returns-in-Ok-clause-promise g c =
    promise_of _ _ _ _ (c.one_outcome.ensures _) _ _ c.in-Ok.ensures.held c.in-Ok.ensures.stores c.in-Ok.outcome c.in-Ok.ensures.answer _ _ _ _ _ _ c.carry_out.ensures.carried

-- what is promised of every command is promised of linking and asking
pub returns-in-Err-clause-linked : goal.returns-in-Err-clause-linked
returns-in-Err-clause-linked g c =
    headline_of c.one_outcome.ensures c.linking_laws.ensures.accepted c.linking_laws.ensures.stored c.linking_laws.ensures.answered c.linking_laws.ensures.told _ _ _ _ _ _ _ _ _ _ _ (returns-in-Err-clause-promise g c)

pub returns-in-Ok-clause-linked : goal.returns-in-Ok-clause-linked
returns-in-Ok-clause-linked g c =
    headline_of c.one_outcome.ensures c.linking_laws.ensures.accepted c.linking_laws.ensures.stored c.linking_laws.ensures.answered c.linking_laws.ensures.told _ _ _ _ _ _ _ _ _ _ _ (returns-in-Ok-clause-promise g c)

-- what was called until the outcome was decided on, and what carrying it out called
pub returns-in-Err-clause-called : goal.returns-in-Err-clause-called
returns-in-Err-clause-called g c = calls_of_nothing _ _ _ _ _ _ c.in-Err.ensures.called

pub returns-in-Ok-clause-called : goal.returns-in-Ok-clause-called
returns-in-Ok-clause-called g c =
    let carried = c.carry_out.ensures.carried in
    calls_of _ _ _ _ _ c.in-Ok.outcome carried.0 carried.2 _ _ _ _ _ c.in-Ok.ensures.called c.carry_out.ensures.called
