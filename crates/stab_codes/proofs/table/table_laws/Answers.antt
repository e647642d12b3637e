use Rattle.stab_codes.proofs.TableLemmas.{code_of-code_name, code_name-code_of, codes_apart, names_apart}
use Rattle.stab_codes.proofs.table.table_laws.Goals as goal

pub returns-clause-inverse : goal.returns-clause-inverse
returns-clause-inverse c code name = (code_of-code_name code name, code_name-code_of code name)

pub returns-clause-codes : goal.returns-clause-codes
returns-clause-codes c = codes_apart

pub returns-clause-names : goal.returns-clause-names
returns-clause-names c = names_apart
