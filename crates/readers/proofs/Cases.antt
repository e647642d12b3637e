-- Cases on tests and on what was read.
use Rattle.std.proofs.Common.{◌≡◌, ℕ, suc, ◌⊎◌, inl, inr, Bool, true, false, eqb, List, Result, Ok, Err, Option, None, Some, refl, ap, arith}
use Rattle.std.proofs.lemmas.Bool.{eqb-false, ne_eqb}
use Rattle.readers.specs.declared.stop.Stop.{Stop}
use Rattle.readers.specs.Readers.{Outcome, ◌>>=◌, remade}

-- a test holds or does not
pub which : (v : Bool) → (v ≡ true) ⊎ (v ≡ false)
which true = inl refl
which false = inr refl

-- there is a value or none
pub which_option : {X : Type 0} (o : Option X) → (o ≡ None) ⊎ ((x : X) × (o ≡ Some x))
which_option None = inl refl
which_option (Some x) = inr (x, refl)

-- a number is itself
pub eqb_self : (n : ℕ) → eqb n n ≡ true
eqb_self n = elim (which (eqb n n)) [ inl h ↦ h | inr h ↦ absurd (eqb-false n n h refl) ]

-- zero is no successor
pub zero_not : (n : ℕ) → eqb 0 (suc n) ≡ false
zero_not n = ne_eqb 0 (suc n) (λ h. absurd (omega (arith, h)))

-- ---- reading on

-- both steps of what was read were read
pub bind_ok : {A B : Type 0} (r : Result A Stop) (f : A → Result B Stop) (y : B) → (r >>= f) ≡ Ok y → (x : A) × (r ≡ Ok x) × (f x ≡ Ok y)
bind_ok (Ok x) f y e = (x, refl, e)
bind_ok (Err d) f y e = absurd cc

-- the first step stopped, or the second
pub bind_err : {A B : Type 0} (r : Result A Stop) (f : A → Result B Stop) (s : Stop) → (r >>= f) ≡ Err s → (r ≡ Err s) ⊎ ((x : A) × (r ≡ Ok x) × (f x ≡ Err s))
bind_err (Ok x) f s e = inr (x, refl, e)
bind_err (Err d) f s e = inl cc

-- two ways to say what was read agree
pub ok_is : {X : Type 0} (x y : Result X Stop) (a b : X) → x ≡ Ok a → y ≡ Ok b → x ≡ y → a ≡ b
ok_is x y a b p q e = cc

-- and agree in the value and in the rest
pub ok_parts : {A : Type 0} (v w : Outcome A) (a b : A) (s t : List ℕ) → v ≡ Ok (a, s) → w ≡ Ok (b, t) → v ≡ w → (a ≡ b) × (s ≡ t)
ok_parts {A = A} v w a b s t e f g =
    let x : A × List ℕ = (a, s) in
    let y : A × List ℕ = (b, t) in
    let p : x ≡ y = ok_is v w x y e f g in
    (ap (λ (z : A × List ℕ). z.0) p, ap (λ (z : A × List ℕ). z.1) p)

-- something was read, or reading stopped
pub which_outcome : {A : Type 0} (v : Outcome A) → ((x : A × List ℕ) × (v ≡ Ok x)) ⊎ ((d : Stop) × (v ≡ Err d))
which_outcome (Ok x) = inl (x, refl)
which_outcome (Err d) = inr (d, refl)

-- what was made came from what was read
pub made_ok : {A B : Type 0} (make : A → B) (v : Outcome A) (t : B) (rest : List ℕ) → (v >>= remade make) ≡ Ok (t, rest) → (a : A) × (v ≡ Ok (a, rest)) × (make a ≡ t)
made_ok {B = B} make (Ok x) t rest e =
    let pair : B × List ℕ = (make x.0, x.1) in
    let p : pair ≡ (t, rest) = ok_is _ _ pair (t, rest) refl refl e in
    (x.0, ap (λ (z : B × List ℕ). Ok (x.0, z.1)) p, ap (λ (z : B × List ℕ). z.0) p)
made_ok make (Err d) t rest e = absurd cc

-- making stops nothing
pub made_err : {A B : Type 0} (make : A → B) (v : Outcome A) (d : Stop) → (v >>= remade make) ≡ Err d → v ≡ Err d
made_err make (Ok x) d e = absurd cc
made_err make (Err d') d e = cc
