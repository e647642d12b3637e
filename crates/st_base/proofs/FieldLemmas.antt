-- The laws of a field of a record: set and then read it is the number, read and then set it leaves the record, and a
-- field that lies apart stays.
use Rattle.std.proofs.Common.{◌≡◌, ℕ, ◌+◌, ◌-◌, ◌^◌, ◌<◌, ◌≤◌, Bool, List, ◌++◌, length, take, drop, refl, sym, ap, ◌∙◌, arith, length-drop, take-append-drop}
use Rattle.std.proofs.lemmas.List.{length-take-le, take_at, drop_at, drop-drop, take_all, take-append-le, drop-append-le, drop-take, take-take}
use Rattle.std.proofs.lemmas.Slice.{drop-put_mid}
use Rattle.st_base.specs.Number.{number, number_at, bytes_of, with_number_at, IsBytes}
use Rattle.st_base.proofs.BytesLemmas.{length-bytes_of, number-bytes_of, bytes_of-number, IsBytes-take, IsBytes-drop}

-- a field that lies in the record has as many bytes as asked for
length-field : (bytes : List ℕ) (at size : ℕ) → at + size ≤ length bytes → length (take size (drop at bytes)) ≡ size
length-field bytes at size within = length-take-le size (drop at bytes) (let e = length-drop at bytes in omega (arith, e, within))

-- a field and what lies after it are what lies from its place on
field-behind : (bytes : List ℕ) (at size : ℕ) → take size (drop at bytes) ++ drop (at + size) bytes ≡ drop at bytes
field-behind bytes at size = ap (λ (x : List ℕ). take size (drop at bytes) ++ x) (sym (drop-drop size at bytes)) ∙ take-append-drop size (drop at bytes)

-- a field that is set is read as the number that it was set to
pub number_at-with_number_at : (big : Bool) (bytes : List ℕ) (at size value : ℕ) → at ≤ length bytes → value < 256 ^ size → number_at big (with_number_at big bytes at size value) at size ≡ value
number_at-with_number_at big bytes at size value within fits =
    ap (λ (x : List ℕ). number big (take size x)) (drop_at (take at bytes) _ at (length-take-le at bytes within))
    ∙ ap (number big) (take_at (bytes_of big size value) _ size (length-bytes_of big size value))
    ∙ number-bytes_of big size value fits

-- ---- a record written field by field

-- the bytes of a field that was read are those of the record
bytes_of-number_at : (big : Bool) (bytes : List ℕ) (at size : ℕ) → IsBytes bytes → at + size ≤ length bytes → bytes_of big size (number_at big bytes at size) ≡ take size (drop at bytes)
bytes_of-number_at big bytes at size are_bytes within =
    let field : List ℕ = take size (drop at bytes) in
    ap (λ (n : ℕ). bytes_of big n (number big field)) (sym (length-field bytes at size within))
    ∙ bytes_of-number big field (IsBytes-take size (drop at bytes) (IsBytes-drop at bytes are_bytes))

-- a field that was read, and after it what the record has after that field, are what the record has from the field on
pub field_then : (big : Bool) (bytes : List ℕ) (at size : ℕ) (rest : List ℕ) → IsBytes bytes → at + size ≤ length bytes → rest ≡ drop (at + size) bytes → bytes_of big size (number_at big bytes at size) ++ rest ≡ drop at bytes
field_then big bytes at size rest are_bytes within behind =
    ap (λ (x : List ℕ). x ++ rest) (bytes_of-number_at big bytes at size are_bytes within)
    ∙ ap (λ (x : List ℕ). take size (drop at bytes) ++ x) behind
    ∙ field-behind bytes at size

-- the last field that was read is what the record has from it on
pub field_last : (big : Bool) (bytes : List ℕ) (at size : ℕ) → IsBytes bytes → at + size ≡ length bytes → bytes_of big size (number_at big bytes at size) ≡ drop at bytes
field_last big bytes at size are_bytes whole =
    bytes_of-number_at big bytes at size are_bytes (omega (arith, whole))
    ∙ take_all size (drop at bytes) (let e = length-drop at bytes in omega (arith, e, whole))

-- ---- a field that is read and set again

-- a field that is read and set to what was read leaves the record
pub with_number_at-number_at : (big : Bool) (bytes : List ℕ) (at size : ℕ) → IsBytes bytes → at + size ≤ length bytes → with_number_at big bytes at size (number_at big bytes at size) ≡ bytes
with_number_at-number_at big bytes at size are_bytes within =
    ap (λ (x : List ℕ). take at bytes ++ x) (field_then big bytes at size (drop (at + size) bytes) are_bytes within refl)
    ∙ take-append-drop at bytes

-- ---- the fields that are not set

-- a field that lies before the one that is set stays
pub number_at-before : (big : Bool) (bytes : List ℕ) (at size value other other_size : ℕ) → at ≤ length bytes → other + other_size ≤ at → number_at big (with_number_at big bytes at size value) other other_size ≡ number_at big bytes other other_size
number_at-before big bytes at size value other other_size within apart =
    let front : length (take at bytes) ≡ at = length-take-le at bytes within in
    let long : length (drop other (take at bytes)) ≡ length (take at bytes) - other = length-drop other (take at bytes) in
    let cut : drop other (take (other + (at - other)) bytes) ≡ take (at - other) (drop other bytes) = drop-take other (at - other) bytes in
    let whole : other + (at - other) ≡ at = omega (arith, apart) in
    let fits : other_size ≤ at - other = omega (arith, apart) in
    ap (λ (x : List ℕ). number big (take other_size x)) (drop-append-le other (take at bytes) _ (omega (arith, front, apart)))
    ∙ ap (number big) (take-append-le other_size (drop other (take at bytes)) _ (omega (arith, front, long, apart)))
    ∙ ap (λ (n : ℕ). number big (take other_size (drop other (take n bytes)))) (sym whole)
    ∙ ap (λ (x : List ℕ). number big (take other_size x)) cut
    ∙ ap (number big) (take-take other_size (at - other) (drop other bytes) fits)

-- what lies after the field that is set stays
pub drop-with_number_at : (big : Bool) (bytes : List ℕ) (at size value place : ℕ) → at ≤ length bytes → at + size ≤ place → drop place (with_number_at big bytes at size value) ≡ drop place bytes
drop-with_number_at big bytes at size value place within apart =
    ap (λ (x : List ℕ). drop place (take at bytes ++ (bytes_of big size value ++ x))) (sym (drop-drop size at bytes))
    ∙ drop-put_mid at size bytes (bytes_of big size value) place apart within (length-bytes_of big size value)

-- a field that lies after the one that is set stays
pub number_at-behind : (big : Bool) (bytes : List ℕ) (at size value other other_size : ℕ) → at ≤ length bytes → at + size ≤ other → number_at big (with_number_at big bytes at size value) other other_size ≡ number_at big bytes other other_size
number_at-behind big bytes at size value other other_size within apart =
    ap (λ (x : List ℕ). number big (take other_size x)) (drop-with_number_at big bytes at size value other within apart)
