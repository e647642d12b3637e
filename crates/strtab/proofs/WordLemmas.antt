-- The length word of a table: it is read as the number that its four bytes spell, and that is the table's length.
use Rattle.std.proofs.Common.{◌≡◌, ℕ, ◌+◌, ◌<◌, ◌^◌, Bool, List, length, sym, ap, ◌∙◌, arith, length-append}
use Rattle.std.proofs.lemmas.List.{take_at}
use Rattle.st_base.specs.Number.{number, number_at, bytes_of}
use Rattle.st_base.proofs.BytesLemmas.{length-bytes_of, number-bytes_of}
use Rattle.strtab.specs.StringTable.{HasOwnLength}
use Rattle.strtab.specs.Names.{spelled, size_of, table_of}

-- the length of a table
pub length-table_of : (big : Bool) (names : List (List ℕ)) → length (table_of big names) ≡ size_of names
length-table_of big names =
    length-append (bytes_of big 4 (size_of names)) (spelled names) ∙ ap (λ (n : ℕ). n + length (spelled names)) (length-bytes_of big 4 (size_of names))

-- the word of a table is read as the size of its names
number_at-table_of : (big : Bool) (names : List (List ℕ)) → size_of names < 2 ^ 32 → number_at big (table_of big names) 0 4 ≡ size_of names
number_at-table_of big names fits =
    ap (number big) (take_at (bytes_of big 4 (size_of names)) (spelled names) 4 (length-bytes_of big 4 (size_of names)))
    ∙ number-bytes_of big 4 (size_of names) fits

-- the table of a list of names begins with its own length
pub HasOwnLength-table_of : (big : Bool) (names : List (List ℕ)) → size_of names < 2 ^ 32 → HasOwnLength big (table_of big names)
HasOwnLength-table_of big names fits =
    let size = length-table_of big names in
    record { word = omega (arith, size); counts = number_at-table_of big names fits ∙ sym size }
