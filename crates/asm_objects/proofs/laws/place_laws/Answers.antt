use Rattle.asm_objects.proofs.DefinitionLemmas.{table_is}
use Rattle.asm_objects.proofs.PositionLemmas.{placed}
use Rattle.asm_objects.proofs.UniqueLemmas.{one_definition, one_lookup, one_place}
use Rattle.asm_objects.proofs.laws.place_laws.Goals as goal

pub returns-clause-places : goal.returns-clause-places
returns-clause-places c = placed

pub returns-clause-table : goal.returns-clause-table
returns-clause-table c = table_is

pub returns-clause-one_place : goal.returns-clause-one_place
returns-clause-one_place c = one_place

pub returns-clause-one_definition : goal.returns-clause-one_definition
returns-clause-one_definition c = one_definition

pub returns-clause-one_lookup : goal.returns-clause-one_lookup
returns-clause-one_lookup c = one_lookup
