-- What was read of an entry is written as the same twelve bytes.
use Rattle.std.proofs.Common.{◌≡◌, ℕ, ◌≤◌, Bool, List, length, arith}
use Rattle.st_base.specs.Number.{IsBytes}
use Rattle.st_base.proofs.FieldLemmas.{field_then, field_last}
use Rattle.st_base.specs.declared.sizes.TheConstants.{ENTRY_SIZE}
use Rattle.nlist_codec.specs.Entries.{entry_of, entry_bytes}

-- field by field from the last: each is written as the bytes at its place
pub read-write : (big : Bool) (bytes : List ℕ) → IsBytes bytes → length bytes ≡ ENTRY_SIZE → entry_bytes big (entry_of big bytes) ≡ bytes
read-write big bytes are_bytes whole =
    let strx : 4 ≤ length bytes = omega (arith, whole) in
    let kind : 5 ≤ length bytes = omega (arith, whole) in
    let other : 6 ≤ length bytes = omega (arith, whole) in
    let desc : 8 ≤ length bytes = omega (arith, whole) in
    let value : 12 ≡ length bytes = omega (arith, whole) in
    field_then big bytes 0 4 _ are_bytes strx
    (field_then big bytes 4 1 _ are_bytes kind
    (field_then big bytes 5 1 _ are_bytes other
    (field_then big bytes 6 2 _ are_bytes desc (field_last big bytes 8 4 are_bytes value))))
