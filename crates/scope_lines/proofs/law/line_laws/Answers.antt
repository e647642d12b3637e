use Rattle.scope_lines.proofs.LawLemmas.{last_place_is, nearest_is}
use Rattle.scope_lines.proofs.LineLemmas.{address_is}
use Rattle.scope_lines.specs.Lines.{is_source}
use Rattle.scope_lines.proofs.law.line_laws.Goals as goal

pub returns-clause-greatest : goal.returns-clause-greatest
returns-clause-greatest c = nearest_is

pub returns-clause-source : goal.returns-clause-source
returns-clause-source c = last_place_is is_source

pub returns-clause-addresses : goal.returns-clause-addresses
returns-clause-addresses c = address_is
