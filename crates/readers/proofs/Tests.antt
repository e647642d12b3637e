-- Shapes that are given by tests which compute, in place of facts; and the leaves with such shapes.
use Rattle.std.proofs.Common.{◌≡◌, ℕ, suc, ◌^◌, ◌≤◌, ◌<◌, inl, inr, Bool, true, false, not, eqb, List, [], ◌∷◌, ◌++◌, length, refl, subst}
use Rattle.std.specs.Prelude.{decimal, nat_le}
use Rattle.std.proofs.lemmas.Bool.{le-leb, leb-true, eqb-true, not-true, not_from_false, both_ways, and_parts, and_from}
use Rattle.readers.specs.Spelling.{all_of}
use Rattle.readers.specs.Words.{is_digit, number_at, name_at, run_at}
use Rattle.readers.proofs.Cases.{which}
use Rattle.readers.proofs.Cuts.{any}
use Rattle.readers.proofs.Laws.{Laws, leaf}
use Rattle.readers.proofs.Recast.{reshape_laws}
use Rattle.readers.proofs.Choose.{Apart}
use Rattle.readers.proofs.Many.{Each}
use Rattle.readers.proofs.Starts.{Starts}
use Rattle.readers.proofs.Numbers.{no_digit, number_laws}
use Rattle.readers.proofs.Names.{IsName, name_laws}
use Rattle.readers.proofs.Runs.{IsSome, run_laws}
use Rattle.readers.specs.Words.{in_name, is_name, is_digits}

-- all pass, so each does
pub each_from : {A : Type 0} (test : A → Bool) (xs : List A) → all_of test xs ≡ true → Each (λ x. test x ≡ true) xs
each_from test [] e = tt
each_from test (x ∷ xs) e = let k = and_parts (test x) (all_of test xs) e in (k.0, each_from test xs k.1)

-- each passes, so all do
pub each_to : {A : Type 0} (test : A → Bool) (xs : List A) → Each (λ x. test x ≡ true) xs → all_of test xs ≡ true
each_to test [] e = refl
each_to test (x ∷ xs) e = and_from (test x) (all_of test xs) e.0 (each_to test xs e.1)

-- ---- numbers, names and digits

-- a name, as a test
name_to : (refused : ℕ → Bool) (end : ℕ) (name : List ℕ) → IsName refused end name → is_name refused end name ≡ true
name_to refused end [] f = refl
name_to refused end (b ∷ name) f = and_from (in_name refused end b) (is_name refused end name) (and_from (not (eqb b end)) (not (refused b)) (not_from_false (eqb b end) f.0.0) (not_from_false (refused b) f.0.1)) (name_to refused end name f.1)

-- the test tells a name
name_from : (refused : ℕ → Bool) (end : ℕ) (name : List ℕ) → is_name refused end name ≡ true → IsName refused end name
name_from refused end [] e = tt
name_from refused end (b ∷ name) e =
    let k = and_parts (in_name refused end b) (is_name refused end name) e in
    let m = and_parts (not (eqb b end)) (not (refused b)) k.0 in
    ((not-true (eqb b end) m.0, not-true (refused b) m.1), name_from refused end name k.1)

-- the laws of a number up to the limit
pub number_part : (n limit : ℕ) → 9 ≤ limit → limit < 2 ^ 64 → Laws n (number_at limit) (leaf decimal (λ k. nat_le k limit ≡ true)) no_digit
number_part n limit nine small = reshape_laws n (number_at limit) _ no_digit (number_laws limit nine small n) (λ k. nat_le k limit ≡ true) no_digit (λ k le. le-leb k limit le) (λ k e. leb-true k limit e) (λ c e. e)

-- the laws of a name and the byte after it
pub name_part : (n : ℕ) (refused : ℕ → Bool) (end : ℕ) → Laws n (name_at refused end) (leaf (λ name. name ++ (end ∷ [])) (λ name. is_name refused end name ≡ true)) any
name_part n refused end = reshape_laws n (name_at refused end) _ any (name_laws refused end n) (λ name. is_name refused end name ≡ true) any (name_to refused end) (name_from refused end) (λ c e. e)

-- 1 to k + 1 digits
abbrev IsDigits : ℕ → List ℕ → Type 0
IsDigits k = IsSome is_digit k 48 refl

-- digits, as a test
digits_to : (k : ℕ) (ds : List ℕ) → IsDigits k ds → is_digits (suc k) ds ≡ true
digits_to k ds f = and_from (nat_le 1 (length ds)) _ (le-leb 1 (length ds) f.0) (and_from (all_of is_digit ds) (nat_le (length ds) (suc k)) (each_to is_digit ds f.1.0) (le-leb (length ds) (suc k) f.1.1))

-- the test tells digits
digits_from : (k : ℕ) (ds : List ℕ) → is_digits (suc k) ds ≡ true → IsDigits k ds
digits_from k ds e =
    let m = and_parts (nat_le 1 (length ds)) _ e in
    let l = and_parts (all_of is_digit ds) (nat_le (length ds) (suc k)) m.1 in
    (leb-true 1 (length ds) m.0, (each_from is_digit ds l.0, leb-true (length ds) (suc k) l.1))

-- the laws of 1 to k + 1 digits
pub digits_part : (n k : ℕ) → Laws n (run_at is_digit k) (leaf (λ ds. ds) (λ ds. is_digits (suc k) ds ≡ true)) no_digit
digits_part n k = reshape_laws n (run_at is_digit k) _ no_digit (run_laws is_digit k 48 refl n) (λ ds. is_digits (suc k) ds ≡ true) no_digit (digits_to k) (digits_from k) (λ c e. e)

-- digits begin with a digit
pub starts_digits : (most : ℕ) (ds : List ℕ) → is_digits most ds ≡ true → Starts is_digit ds
starts_digits most [] e = absurd cc
starts_digits most (d ∷ ds) e = (and_parts (is_digit d) (all_of is_digit ds) (and_parts (all_of is_digit (d ∷ ds)) (nat_le (length (d ∷ ds)) most) (and_parts (nat_le 1 (length (d ∷ ds))) _ e).1).0).0

-- a name and the byte after it begin with no byte that a name refuses
pub name_apart : (refused : ℕ → Bool) (end c : ℕ) → eqb end c ≡ false → refused c ≡ true → (name rest : List ℕ) → is_name refused end name ≡ true → Apart c ((name ++ end ∷ []) ++ rest)
name_apart refused end c other bar [] rest e = other
name_apart refused end c other bar (b ∷ name) rest e =
    let k = and_parts (in_name refused end b) (is_name refused end name) e in
    let m = and_parts (not (eqb b end)) (not (refused b)) k.0 in
    elim (which (eqb b c)) [
      | inl h ↦ absurd (both_ways (refused c) (subst (λ (z : ℕ). refused z ≡ false) (eqb-true b c h) (not-true (refused b) m.1)) bar)
      | inr h ↦ h
    ]
