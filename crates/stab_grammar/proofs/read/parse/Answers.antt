use Rattle.stab_grammar.proofs.Whole.{told_fault}
use Rattle.stab_grammar.proofs.read.parse.Goals as goal

-- the fault that is reported has the place of the first
pub returns-in-Err-At-clause-fault : goal.returns-in-Err-At-clause-fault
returns-in-Err-At-clause-fault g c f e = told_fault c.args.text.now c.in-Err-At.fault c.fault_of.result f (c.in-Err-At.ensures.fault c.in-Err-At.fault cc) c.fault_of.ensures cc
