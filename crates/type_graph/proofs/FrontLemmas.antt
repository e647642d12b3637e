-- The symbols of a file among the first files of a unit: none before its turn comes, and all of them afterwards.
use Rattle.std.proofs.Common.{◌≡◌, ℕ, zero, suc, ◌+◌, ◌<◌, length, take, get_or, true, false, List, [], ◌∷◌, refl, sym, ap, ◌∙◌, add-one}
use Rattle.std.specs.Prelude.{◌==◌, Some, None, slice_get}
use Rattle.std.proofs.lemmas.Bool.{eqb-true}
use Rattle.std.proofs.lemmas.Bool.Decides.{Decides-eqb}
use Rattle.std.proofs.lemmas.Option.{slice_get-get_or}
use Rattle.stab_symbols.specs.declared.tree.Symbol.{Symbol}
use Rattle.stab_units.specs.declared.unit.HeaderFile.{HeaderFile}
use Rattle.type_graph.specs.Types.{symbols_in}

-- ---- places in the front of a list

at-front : {X : Type 0} (xs : List X) (at : ℕ) (x : X) → slice_get xs at ≡ Some x → slice_get (take (suc at) xs) at ≡ Some x
at-front [] at x e = absurd (cc)
at-front (y ∷ xs) zero x e = e
at-front (y ∷ xs) (suc at) x e = at-front xs at x e

past-front : {X : Type 0} (xs : List X) (at : ℕ) → slice_get (take at xs) at ≡ None
past-front xs zero = refl
past-front [] (suc at) = refl
past-front (y ∷ xs) (suc at) = past-front xs at

other-front : {X : Type 0} (xs : List X) (at n : ℕ) → (n ≡ at → ⊥) → slice_get (take (suc at) xs) n ≡ slice_get (take at xs) n
other-front [] zero n other = refl
other-front [] (suc at) n other = refl
other-front (y ∷ xs) zero zero other = absurd (other refl)
other-front (y ∷ xs) zero (suc n) other = refl
other-front (y ∷ xs) (suc at) zero other = refl
other-front (y ∷ xs) (suc at) (suc n) other = other-front xs at n (λ e. other (ap suc e))

apart : (m n : ℕ) → (m == n) ≡ false → m ≡ n → ⊥
apart m n e same = absurd (cc (e, (Decides-eqb m n).1 same))

-- ---- the symbols of a file

-- those of the file with this number, if it is among the first n
abbrev pub front_symbols : List HeaderFile → ℕ → ℕ → List Symbol
front_symbols files n file = symbols_in (slice_get (take n files) file)

module _ (files : List HeaderFile) (at : ℕ) (f : HeaderFile) (within : at < length files) (is : f ≡ get_or files at f) where
  -- before its turn
  pub front-none : (file : ℕ) → (file == at) ≡ true → front_symbols files at file ≡ []
  front-none file same = ap (λ (n : ℕ). front_symbols files at n) (eqb-true file at same) ∙ ap symbols_in (past-front files at)

  -- at its turn
  pub front-here : (file : ℕ) → (file == at) ≡ true → front_symbols files (at + 1) file ≡ f.symbols
  front-here file same =
      ap (λ (n : ℕ). front_symbols files (at + 1) n) (eqb-true file at same)
      ∙ ap (λ (n : ℕ). front_symbols files n at) (add-one at)
      ∙ ap symbols_in (at-front files at (get_or files at f) (slice_get-get_or files at f within))
      ∙ ap (λ (g : HeaderFile). g.symbols) (sym is)

  -- at the turn of another
  pub front-other : (file : ℕ) → (file == at) ≡ false → front_symbols files (at + 1) file ≡ front_symbols files at file
  front-other file other =
      ap (λ (n : ℕ). front_symbols files n file) (add-one at) ∙ ap symbols_in (other-front files at file (apart file at other))
