-- What is told of the rows of a table that fail. This is this project's own.
use Rattle.std.specs.Prelude.{◌≡◌, ◌≢◌, ◌⊎◌, true, []}
use Rattle.test_tables.specs.declared.table.Told.{Told}

-- something is told
abbrev pub IsTold : Told → Type 0
IsTold told = (told.lost ≡ true) ⊎ (told.text ≢ [])
