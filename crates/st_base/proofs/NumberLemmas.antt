-- byteorder's numbers of the first bytes of a list are this crate's numbers of those bytes, and a number has one spelling
-- in so many bytes.
use Rattle.std.proofs.Common.{◌≡◌, ℕ, ◌+◌, ◌*◌, ◌≤◌, Bool, true, false, List, [], ◌∷◌, length, take, refl, arith}
use Rattle.byteorder.specs.Endian.{big_number, little_number}
use Rattle.st_base.specs.Number.{big_after, little, number, IsBytes}

-- ---- byteorder's numbers

-- two bytes, the most significant first
pub big_2 : (xs : List ℕ) → 2 ≤ length xs → big_number 2 xs ≡ number true (take 2 xs)
big_2 [] h = absurd (omega (arith, h))
big_2 (a ∷ []) h = absurd (omega (arith, h))
big_2 (a ∷ b ∷ xs) h = omega arith

-- two bytes, the most significant last
pub little_2 : (xs : List ℕ) → 2 ≤ length xs → little_number 2 xs ≡ number false (take 2 xs)
little_2 [] h = absurd (omega (arith, h))
little_2 (a ∷ []) h = absurd (omega (arith, h))
little_2 (a ∷ b ∷ xs) h = omega arith

-- four bytes, the most significant first
pub big_4 : (xs : List ℕ) → 4 ≤ length xs → big_number 4 xs ≡ number true (take 4 xs)
big_4 [] h = absurd (omega (arith, h))
big_4 (a ∷ []) h = absurd (omega (arith, h))
big_4 (a ∷ b ∷ []) h = absurd (omega (arith, h))
big_4 (a ∷ b ∷ c ∷ []) h = absurd (omega (arith, h))
big_4 (a ∷ b ∷ c ∷ d ∷ xs) h = omega arith

-- three bytes, the most significant first
pub big_3 : (xs : List ℕ) → 3 ≤ length xs → big_number 3 xs ≡ number true (take 3 xs)
big_3 [] h = absurd (omega (arith, h))
big_3 (a ∷ []) h = absurd (omega (arith, h))
big_3 (a ∷ b ∷ []) h = absurd (omega (arith, h))
big_3 (a ∷ b ∷ c ∷ xs) h = omega arith

-- three bytes, the most significant last
pub little_3 : (xs : List ℕ) → 3 ≤ length xs → little_number 3 xs ≡ number false (take 3 xs)
little_3 [] h = absurd (omega (arith, h))
little_3 (a ∷ []) h = absurd (omega (arith, h))
little_3 (a ∷ b ∷ []) h = absurd (omega (arith, h))
little_3 (a ∷ b ∷ c ∷ xs) h = omega arith

-- four bytes, the most significant last
pub little_4 : (xs : List ℕ) → 4 ≤ length xs → little_number 4 xs ≡ number false (take 4 xs)
little_4 [] h = absurd (omega (arith, h))
little_4 (a ∷ []) h = absurd (omega (arith, h))
little_4 (a ∷ b ∷ []) h = absurd (omega (arith, h))
little_4 (a ∷ b ∷ c ∷ []) h = absurd (omega (arith, h))
little_4 (a ∷ b ∷ c ∷ d ∷ xs) h = omega arith

-- what a read by byteorder gives, as a number of this crate
pub ruleset reads = (big_2, little_2, big_3, little_3, big_4, little_4)

-- ---- one spelling

-- one spelling of a number with its most significant byte last
little_one : (x y : List ℕ) → IsBytes x → IsBytes y → length x ≡ length y → little x ≡ little y → x ≡ y
little_one [] [] p q l e = refl
little_one [] (b ∷ y) p q l e = absurd (omega arith)
little_one (a ∷ x) [] p q l e = absurd (omega arith)
little_one (a ∷ x) (b ∷ y) p q l e =
    let first : a ≡ b = omega (arith, p.0, q.0) in
    let rest : x ≡ y = little_one x y p.1 q.1 (omega arith) (omega (arith, p.0, q.0)) in
    cc

-- one spelling of a number with its most significant byte first, after what stands before it
big_one : (v w : ℕ) (x y : List ℕ) → IsBytes x → IsBytes y → length x ≡ length y → big_after v x ≡ big_after w y → (v ≡ w) × (x ≡ y)
big_one v w [] [] p q l e = (e, refl)
big_one v w [] (b ∷ y) p q l e = absurd (omega arith)
big_one v w (a ∷ x) [] p q l e = absurd (omega arith)
big_one v w (a ∷ x) (b ∷ y) p q l e =
    let rest = big_one (256 * v + a) (256 * w + b) x y p.1 q.1 (omega arith) e in
    let first : a ≡ b = omega (arith, p.0, q.0, rest.0) in
    let tail : x ≡ y = rest.1 in
    (omega (arith, p.0, q.0, rest.0), cc)

-- one spelling in either order
pub one : (o : Bool) (x y : List ℕ) → IsBytes x → IsBytes y → length x ≡ length y → number o x ≡ number o y → x ≡ y
one true x y p q l e = (big_one 0 0 x y p q l e).1
one false x y p q l e = little_one x y p q l e
