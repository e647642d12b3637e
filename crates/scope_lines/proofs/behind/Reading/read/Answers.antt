use Rattle.scope_lines.proofs.BehindLemmas.{read_open}
use Rattle.scope_lines.proofs.behind.Reading.read.Goals as goal

pub returns-in-Opens : goal.returns-in-Opens
returns-in-Opens c = λ xs was. read_open xs c.args.role c.in-Opens.field-0 c.args.self.now _ c.last_taken-end.result c.in-Opens.is was c.last_taken-end.ensures
