use Rattle.std.proofs.Common.{◌≡◌, ◌+◌, ◌-◌, ◌*◌}
use Rattle.readers.specs.Readers as readers
use Rattle.stab_grammar.specs.Grammar as spec
use Rattle.stab_grammar.proofs.grammar.+parse.Given as goal

-- ---- each call goes one type deeper, or to a function below

abbrev pub decreases-type_at : goal.decreases-type_at
decreases-type_at l = 10 * l.depth

abbrev pub decreases-boxed_at : goal.decreases-boxed_at
decreases-boxed_at l = 10 * l.depth + 1

abbrev pub decreases-boxed_and : goal.decreases-boxed_and
decreases-boxed_and l = 10 * l.depth + 2

abbrev pub decreases-field_at : goal.decreases-field_at
decreases-field_at l = 10 * l.depth + 2

abbrev pub decreases-fields_at : goal.decreases-fields_at
decreases-fields_at l = 10 * l.depth + 3

abbrev pub decreases-body_at : goal.decreases-body_at
decreases-body_at l = 10 * l.depth + 4

abbrev pub decreases-range_at : goal.decreases-range_at
decreases-range_at l = 10 * l.depth + 3

abbrev pub decreases-array_at : goal.decreases-array_at
decreases-array_at l = 10 * l.depth + 3

abbrev pub decreases-sized_at : goal.decreases-sized_at
decreases-sized_at l = 10 * l.depth + 3

abbrev pub decreases-numbered_at : goal.decreases-numbered_at
decreases-numbered_at l = 10 * l.depth + 3

abbrev pub decreases-pointer_at : goal.decreases-pointer_at
decreases-pointer_at l = 10 * l.depth + 3

abbrev pub decreases-function_at : goal.decreases-function_at
decreases-function_at l = 10 * l.depth + 3

abbrev pub decreases-const_at : goal.decreases-const_at
decreases-const_at l = 10 * l.depth + 3

abbrev pub decreases-volatile_at : goal.decreases-volatile_at
decreases-volatile_at l = 10 * l.depth + 3

abbrev pub decreases-struct_at : goal.decreases-struct_at
decreases-struct_at l = 10 * l.depth + 5

abbrev pub decreases-union_at : goal.decreases-union_at
decreases-union_at l = 10 * l.depth + 5

abbrev pub decreases-level : goal.decreases-level
decreases-level l = 10 * l.depth + 6

-- ---- the fields that were read, before those still to be read, are those of the whole text

abbrev pub invariant-fields_at-loop : goal.invariant-fields_at-loop
invariant-fields_at-loop l = readers.with_front l.fields (readers.up_to 59 (spec.field_at (spec.type_at l.depth)) (l.end - l.counter) l.rest) ≡ readers.many 59 (spec.field_at (spec.type_at l.depth)) l.bytes
