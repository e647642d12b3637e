-- Keys: the test of two keys decides whether they are one.
use Rattle.std.proofs.Common.{◌≡◌, ℕ, Bool, true, false, refl, ap, ◌∙◌, ◌⊎◌, inl, inr}
use Rattle.std.specs.Prelude.{◌==◌}
use Rattle.std.specs.Bool.{Decides}
use Rattle.std.specs.Cmp.{IsEquivalence, decided}
use Rattle.std.proofs.lemmas.Bool.Decides.{Decides-eqb, Decides-and, Decides-like}
use Rattle.stab_symbols.specs.declared.tree.Key.{Key}
use Rattle.stab_symbols.specs.Surface.{same_key}

-- a test answers yes or no
pub which : (b : Bool) → (b ≡ true) ⊎ (b ≡ false)
which true = inl refl
which false = inr refl

-- keys with the same parts are one
from_parts : (k l : Key) → (k.file ≡ l.file) × (k.number ≡ l.number) → k ≡ l
from_parts k l same =
    let made = λ (file number : ℕ). let key : Key = record { file = file; number = number } in key in
    ap (λ (z : ℕ). made z k.number) same.0 ∙ ap (λ (z : ℕ). made l.file z) same.1

to_parts : (k l : Key) → k ≡ l → (k.file ≡ l.file) × (k.number ≡ l.number)
to_parts k l e = (ap (λ (z : Key). z.file) e, ap (λ (z : Key). z.number) e)

pub same_key-decides : (k l : Key) → Decides (same_key k l) (k ≡ l)
same_key-decides k l = Decides-like (same_key k l) (from_parts k l) (to_parts k l)
    (Decides-and (k.file == l.file) (k.number == l.number) (Decides-eqb k.file l.file) (Decides-eqb k.number l.number))

pub same_key-laws : IsEquivalence same_key
same_key-laws = decided same_key same_key-decides
