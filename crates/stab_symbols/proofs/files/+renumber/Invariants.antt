use Rattle.std.proofs.Common.{◌≡◌, ◌++◌, drop, map}
use Rattle.stab_symbols.specs.Files.{field_with, new_file}
use Rattle.stab_symbols.proofs.files.+renumber.Given as goal

-- the fields so far, and the renumbered ones that are left, are all
abbrev pub invariant-renumber_fields-loop-field : goal.invariant-renumber_fields-loop-field
invariant-renumber_fields-loop-field l = l.made ++ map (field_with (new_file l.files)) (drop l.field-index l.fields) ≡ map (field_with (new_file l.files)) l.fields
