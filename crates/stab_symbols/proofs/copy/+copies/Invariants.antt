use Rattle.std.proofs.Common.{◌≡◌, ◌++◌, drop}
use Rattle.stab_symbols.proofs.copy.+copies.Given as goal

-- the fields so far, and those that are left, are all
abbrev pub invariant-copy_fields-loop-field : goal.invariant-copy_fields-loop-field
invariant-copy_fields-loop-field l = l.copied ++ drop l.field-index l.fields ≡ l.fields
