-- Nothing more, one byte, and a value with a byte after it keep the laws.
use Rattle.std.proofs.Common.{◌≡◌, ℕ, Bool, true, List, [], ◌∷◌, ◌++◌, Ok, refl, ap, subst}
use Rattle.readers.specs.Spelling.{Form}
use Rattle.readers.specs.Readers.{Reader, seq, done, byte_at, closed}
use Rattle.readers.proofs.Cases.{ok_is}
use Rattle.readers.proofs.Cuts.{any}
use Rattle.readers.proofs.Laws.{Laws}
use Rattle.readers.proofs.Seq.{seq_form, seq_laws}
use Rattle.readers.proofs.Made.{Of, made_laws}
use Rattle.readers.proofs.Recast.{reshape_laws}
use Rattle.readers.proofs.Behind.{behind_form, behind_laws}

-- nothing
abbrev pub empty_form : Form (Unit {0})
empty_form = record { print = λ x. []; depths = λ x. []; shaped = λ x. Unit {0} }

-- nothing more keeps the laws
pub done_laws : (n : ℕ) → Laws n done empty_form any
done_laws n = record {
  takes = λ bytes a rest e. (rest_is bytes rest a e, tt, tt);
  long = λ a f e. refl;
  again = λ a rest f e after. refl;
  dives = λ a front b other f e. absurd cc;
  holds = λ bytes a b more other e. refl;
  bad = λ bytes left e. absurd cc;
  deep = λ bytes left e. absurd cc;
  ending = λ bytes e. absurd cc;
}
  where
    rest_is : (x y : List ℕ) (a : Unit {0}) → done x ≡ Ok (a, y) → x ≡ y
    rest_is x y a e =
        let p : Unit {0} × List ℕ = (tt, x) in
        let q : Unit {0} × List ℕ = (a, y) in
        ap (λ (z : Unit {0} × List ℕ). z.1) (ok_is (done x) (done x) p q refl e refl)

-- one byte
abbrev pub byte_form : ℕ → Form (Unit {0})
byte_form b = behind_form b empty_form

-- one byte keeps the laws
pub byte_laws : (n b : ℕ) → Laws n (byte_at b) (byte_form b) any
byte_laws n b = behind_laws n done empty_form any (done_laws n) b tt tt

-- ---- a value and then a byte

-- a byte after each spelling
abbrev pub closed_form : {A : Type 0} → Form A → ℕ → Form A
closed_form F b = record { print = λ a. F.print a ++ (b ∷ []); depths = λ a. F.depths a ++ (0 ∷ []); shaped = F.shaped }

-- a byte after keeps the laws
pub closed_laws : (n : ℕ) {A : Type 0} (r : Reader A) (F : Form A) (follows : ℕ → Bool) → Laws n r F follows → (b : ℕ) → follows b ≡ true → Laws n (closed r b) (closed_form F b) any
closed_laws n {A = A} r F follows laws b may =
    let both = seq_laws n r F follows laws (byte_at b) (byte_form b) any (byte_laws n b) (λ u rest f after. may) tt tt in
    let first : A × Unit {0} → A = λ p. p.0 in
    let one = made_laws n (seq r (byte_at b)) (seq_form F (byte_form b)) any both first (λ a. F.print a ++ (b ∷ [])) (λ a. F.depths a ++ (0 ∷ [])) (λ p f. refl) (λ p f. refl) in
    let to : (a : A) → Of first (λ p. F.shaped p.0 × Unit {0}) a → F.shaped a = λ a f. subst (λ (z : A). F.shaped z) f.2 f.1.0 in
    let from : (a : A) → F.shaped a → Of first (λ p. F.shaped p.0 × Unit {0}) a = λ a f. ((a, tt), (f, tt), refl) in
    reshape_laws n (closed r b) _ any one F.shaped any to from (λ c e. e)
