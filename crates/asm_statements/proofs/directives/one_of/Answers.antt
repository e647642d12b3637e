use Rattle.std.proofs.Common.{ap}
use Rattle.std.specs.Option.{option_copied}
use Rattle.asm_statements.proofs.OperandLemmas.{one_refused}
use Rattle.asm_statements.proofs.directives.one_of.Goals as goal

pub returns-in_default-Some-clause-refused : goal.returns-in_default-Some-clause-refused
returns-in_default-Some-clause-refused c = one_refused c.args.tokens.now c.cut.result.0.now (option_copied c.cut.result.1) c.in_default-Some.field-0-1.now c.cut.ensures.value (ap option_copied c.in_default-Some.is-1)
