-- The bytes of a number, `bytes_of`: how many there are, that they are bytes, that their number is the number again, and
-- that the bytes of a number read are those bytes again.
use Rattle.std.proofs.Common.{◌≡◌, ℕ, zero, suc, ◌+◌, ◌*◌, ◌^◌, ◌/◌, ◌%◌, ◌<◌, ◌≤◌, Bool, true, false, List, [], ◌∷◌, ◌++◌, length, take, drop, get_or, refl, sym, ap, ◌∙◌, arith}
use Rattle.std.proofs.Math.Nat.{add-mul, add_assoc, div-add-mod', div-div-eq-div-mul, div-one, mod-eq_of_lt, mod-lt, mul-add-mod_self_right, mul-le-mul_right, mul_assoc, one-le-pow, pow-suc, pow-succ'}
use Rattle.std.specs.Int.{byte_at}
use Rattle.st_base.specs.Number.{big_after, little, number, bytes_from, bytes_of, IsBytes}
use Rattle.st_base.proofs.NumberLemmas.{one}

-- ---- lists of bytes

-- a list whose items are all below 256, as a slice of bytes is
pub IsBytes-items : (xs : List ℕ) → ((k : ℕ) → get_or xs k 0 < 256) → IsBytes xs
IsBytes-items [] below = tt
IsBytes-items (b ∷ xs) below = (below 0, IsBytes-items xs (λ k. below (suc k)))

-- the first bytes
pub IsBytes-take : (n : ℕ) (xs : List ℕ) → IsBytes xs → IsBytes (take n xs)
IsBytes-take zero xs bytes = tt
IsBytes-take (suc n) [] bytes = tt
IsBytes-take (suc n) (b ∷ xs) bytes = (bytes.0, IsBytes-take n xs bytes.1)

-- all but the first bytes
pub IsBytes-drop : (n : ℕ) (xs : List ℕ) → IsBytes xs → IsBytes (drop n xs)
IsBytes-drop zero xs bytes = bytes
IsBytes-drop (suc n) [] bytes = tt
IsBytes-drop (suc n) (b ∷ xs) bytes = IsBytes-drop n xs bytes.1

-- bytes after bytes
pub IsBytes-append : (xs ys : List ℕ) → IsBytes xs → IsBytes ys → IsBytes (xs ++ ys)
IsBytes-append [] ys front behind = behind
IsBytes-append (b ∷ xs) ys front behind = (front.0, IsBytes-append xs ys front.1 behind)

-- ---- the bytes of a number

-- there are as many as asked for
length-bytes_from : (big : Bool) (before behind value : ℕ) → length (bytes_from big before behind value) ≡ behind
length-bytes_from big before zero value = refl
length-bytes_from big before (suc behind) value = let e = length-bytes_from big (suc before) behind value in omega (arith, e)

-- there are as many as asked for
pub length-bytes_of : (big : Bool) (size value : ℕ) → length (bytes_of big size value) ≡ size
length-bytes_of big size value = length-bytes_from big 0 size value

-- a byte of a number is below 256
byte_at-lt : (k value : ℕ) → byte_at k value < 256
byte_at-lt zero value = omega arith
byte_at-lt (suc k) value = mod-lt (value / 256 ^ suc k) (omega arith)

-- each of them is a byte
IsBytes-bytes_from : (big : Bool) (before behind value : ℕ) → IsBytes (bytes_from big before behind value)
IsBytes-bytes_from big before zero value = tt
IsBytes-bytes_from big before (suc behind) value = (byte_at-lt _ value, IsBytes-bytes_from big (suc before) behind value)

-- each of them is a byte
pub IsBytes-bytes_of : (big : Bool) (size value : ℕ) → IsBytes (bytes_of big size value)
IsBytes-bytes_of big size value = IsBytes-bytes_from big 0 size value

-- ---- the number of those bytes

-- the two low digits of a number, to the bases c and then m
mod-split : (n : ℕ) {m c : ℕ} → zero < m → zero < c → n % (m * c) ≡ (n / c % m) * c + n % c
mod-split n {m} {c} above_m above_c =
    let a = mod-lt (n / c) above_m in
    let b = mod-lt n above_c in
    let top : (n / c % m + 1) * c ≤ m * c = mul-le-mul_right c (omega arith) in
    let expand : (n / c % m + 1) * c ≡ n / c % m * c + 1 * c = add-mul (n / c % m) 1 c in
    let split : n ≡ n / c / m * (m * c) + (n / c % m * c + n % c) =
    sym (div-add-mod' n c)
    ∙ ap (λ (x : ℕ). x * c + n % c) (sym (div-add-mod' (n / c) m))
    ∙ ap (λ (x : ℕ). x + n % c) (add-mul (n / c / m * m) (n / c % m) c ∙ ap (λ (x : ℕ). x + n / c % m * c) (mul_assoc (n / c / m) m c))
    ∙ add_assoc (n / c / m * (m * c)) (n / c % m * c) (n % c) in
    ap (λ (x : ℕ). x % (m * c)) split ∙ mul-add-mod_self_right (n / c / m) (m * c) (n / c % m * c + n % c) ∙ mod-eq_of_lt (omega arith)

-- a byte of a number, by what it is worth
byte_at-pow : (k value : ℕ) → byte_at k value ≡ value / 256 ^ k % 256
byte_at-pow zero value = ap (λ (y : ℕ). y % 256) (sym (div-one value))
byte_at-pow (suc k) value = refl

-- what a byte is worth is above zero
pow256_pos : (n : ℕ) → zero < 256 ^ n
pow256_pos n = let h = one-le-pow n 256 (omega arith) in omega arith

-- the most significant first, after a number that stands before them
big_after-bytes_from : (front before size value : ℕ) → big_after front (bytes_from true before size value) ≡ front * 256 ^ size + value % 256 ^ size
big_after-bytes_from front before zero value = omega arith
big_after-bytes_from front before (suc size) value =
    let rest = big_after-bytes_from (256 * front + byte_at size value) (suc before) size value in
    let split = mod-split value {m = 256} {c = 256 ^ size} (omega arith) (pow256_pos size) in
    let moved : (256 * front + byte_at size value) * 256 ^ size ≡ 256 * front * 256 ^ size + byte_at size value * 256 ^ size =
    add-mul (256 * front) (byte_at size value) (256 ^ size) in
    let byte : byte_at size value * 256 ^ size ≡ value / 256 ^ size % 256 * 256 ^ size = ap (λ (x : ℕ). x * 256 ^ size) (byte_at-pow size value) in
    let power : 256 ^ suc size ≡ 256 * 256 ^ size = pow-succ' 256 size in
    rw (power, split, rest) (omega arith)

-- the most significant last, from a byte on
little-bytes_from : (before size value : ℕ) → little (bytes_from false before size value) ≡ value / 256 ^ before % 256 ^ size
little-bytes_from before zero value = omega arith
little-bytes_from before (suc size) value =
    let rest = little-bytes_from (suc before) size value in
    let shift : value / 256 ^ suc before ≡ value / 256 ^ before / 256 = ap (λ (p : ℕ). value / p) (pow-suc 256 before) ∙ sym (div-div-eq-div-mul value (256 ^ before) 256) in
    let split = mod-split (value / 256 ^ before) {m = 256 ^ size} {c = 256} (pow256_pos size) (omega arith) in
    rw (pow-suc 256 size, split, byte_at-pow before value, rest, shift) (omega arith)

-- a number is the number of its bytes, where it fits in them
pub number-bytes_of : (big : Bool) (size value : ℕ) → value < 256 ^ size → number big (bytes_of big size value) ≡ value
number-bytes_of true size value fits =
    let number = big_after-bytes_from 0 0 size value in
    let whole : value % 256 ^ size ≡ value = mod-eq_of_lt fits in
    omega (arith, number, whole)
number-bytes_of false size value fits = little-bytes_from 0 size value ∙ ap (λ (x : ℕ). x % 256 ^ size) (div-one value) ∙ mod-eq_of_lt fits

-- ---- the bytes of a number read

-- a number of n bytes after a front is below the next front
big_after-lt : (front : ℕ) (xs : List ℕ) → IsBytes xs → big_after front xs < (front + 1) * 256 ^ length xs
big_after-lt front [] bytes = omega arith
big_after-lt front (b ∷ xs) bytes =
    let rest = big_after-lt (256 * front + b) xs bytes.1 in
    let power : 256 ^ suc (length xs) ≡ 256 * 256 ^ length xs = pow-succ' 256 (length xs) in
    let room : (256 * front + b + 1) * 256 ^ length xs ≤ (front + 1) * 256 * 256 ^ length xs = mul-le-mul_right (256 ^ length xs) (omega (arith, bytes.0)) in
    rw power (omega (arith, rest, room))

-- a number of n bytes is below 256 ^ n
little-lt : (xs : List ℕ) → IsBytes xs → little xs < 256 ^ length xs
little-lt [] bytes = omega arith
little-lt (b ∷ xs) bytes =
    let rest = little-lt xs bytes.1 in
    let power : 256 ^ suc (length xs) ≡ 256 * 256 ^ length xs = pow-succ' 256 (length xs) in
    rw power (omega (arith, rest, bytes.0))

-- a number of n bytes is below 256 ^ n
pub number-lt : (big : Bool) (xs : List ℕ) → IsBytes xs → number big xs < 256 ^ length xs
number-lt true xs bytes = let below = big_after-lt 0 xs bytes in omega (arith, below)
number-lt false xs bytes = little-lt xs bytes

-- the bytes of a number read are those bytes again
pub bytes_of-number : (big : Bool) (xs : List ℕ) → IsBytes xs → bytes_of big (length xs) (number big xs) ≡ xs
bytes_of-number big xs bytes =
    one big _ xs (IsBytes-bytes_of big (length xs) (number big xs)) bytes (length-bytes_of big (length xs) (number big xs))
    (number-bytes_of big (length xs) (number big xs) (number-lt big xs bytes))
