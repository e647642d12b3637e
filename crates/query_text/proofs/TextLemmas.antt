-- Whether bytes are UTF-8: by what reading them as text answers, and where all of them are ASCII.
use Rattle.std.proofs.Common.{◌≡◌, ◌<◌, Bool, true, false, ◌&&◌, ℕ, zero, suc, List, [], ◌∷◌, sym, refl, lit<, ◌⊎◌, inl, inr, ⊎_elim}
use Rattle.std.specs.Prelude.{Result, Ok, Err, nat_lt, slice_index}
use Rattle.std.specs.Result.{is_ok, MatchResult}
use Rattle.std.specs.Str.{IsUtf8, is_utf8}
use Rattle.std.proofs.lemmas.Bool.{ltb-true, and_parts}
use Rattle.std.proofs.lemmas.Str.{IsUtf8-from_ascii, IsUtf8-from_is_utf8, is_utf8-from_IsUtf8}

which : (b : Bool) → (b ≡ true) ⊎ (b ≡ false)
which true = inl refl
which false = inr refl

fails : (bytes : List ℕ) → (IsUtf8 bytes → ⊥) → is_utf8 bytes ≡ false
fails bytes none = ⊎_elim (λ yes. absurd (none (IsUtf8-from_is_utf8 bytes yes))) (λ no. no) (which (is_utf8 bytes))

-- reading succeeds exactly where they are
pub read_as_text : {T E : Type 0} (r : Result T E) (bytes : List ℕ) (P : T → Type 0) (Q : E → Type 0)
    → MatchResult r (λ x. P x × IsUtf8 bytes) (λ e. (IsUtf8 bytes → ⊥) × Q e) → is_ok r ≡ is_utf8 bytes
read_as_text (Ok x) bytes P Q answer = sym (is_utf8-from_IsUtf8 bytes answer.1)
read_as_text (Err e) bytes P Q answer = sym (fails bytes answer.0)

-- ---- texts of ASCII

-- each byte is one of ASCII
abbrev pub all_ascii : List ℕ → Bool
all_ascii [] = true
all_ascii (b ∷ bytes) = nat_lt b 128 && all_ascii bytes

below : (bytes : List ℕ) → all_ascii bytes ≡ true → (at : ℕ) → slice_index bytes at < 128
below [] e at = lit< tt
below (b ∷ bytes) e zero = ltb-true b 128 (and_parts (nat_lt b 128) (all_ascii bytes) e).0
below (b ∷ bytes) e (suc at) = below bytes (and_parts (nat_lt b 128) (all_ascii bytes) e).1 at

-- so they are UTF-8
pub ascii_text : (bytes : List ℕ) → all_ascii bytes ≡ true → is_utf8 bytes ≡ true
ascii_text bytes e = is_utf8-from_IsUtf8 bytes (IsUtf8-from_ascii bytes (below bytes e))
