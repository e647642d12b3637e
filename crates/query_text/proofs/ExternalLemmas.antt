-- What a map of externals has for a name, as it grows by a name that it had not.
use Rattle.std.proofs.Common.{◌≡◌, ℕ, List, Bool, true, false, cond, Option, Some, None, refl, sym, ap, ◌∙◌}
use Rattle.std.specs.Prelude.{is_some}
use Rattle.std.specs.Option.{option_or}
use Rattle.std.specs.Str.{bytes_eq}
use Rattle.std.proofs.lemmas.Slice.Eq.{bytes_eq-Decides}
use Rattle.query_text.specs.Externals.{value_if}

option_or-none : (o : Option ℕ) → option_or o None ≡ o
option_or-none None = refl
option_or-none (Some v) = refl

-- a new one is noted, and all others stay
pub new_known : (find : List ℕ → Option ℕ) (key : List ℕ) (value : ℕ) (q : List ℕ) (n : Option ℕ) → is_some (find key) ≡ false
    → n ≡ cond (bytes_eq key q) (Some value) (find q) → n ≡ option_or (find q) (value_if (bytes_eq key q) value)
new_known find key value q n unknown is =
    is ∙ pick (find q) (bytes_eq key q) (λ e. ap (λ z. is_some (find z)) (sym ((bytes_eq-Decides key q).0 e)) ∙ unknown)
  where
    pick : (o : Option ℕ) (b : Bool) → (b ≡ true → is_some o ≡ false) → cond b (Some value) o ≡ option_or o (value_if b value)
    pick None true k = refl
    pick (Some v) true k = absurd (let e : true ≡ false = k refl in cc)
    pick o false k = sym (option_or-none o)
