-- What a whole text that is read as a number spells.
use Rattle.std.proofs.Common.{◌≡◌, ℕ, ◌≤◌, ◌<◌, ◌^◌, List, Result, Ok, Err, Option, refl, sym, ◌∙◌}
use Rattle.std.specs.Prelude.{decimal, IfSome, IfNone}
use Rattle.std.specs.Result.{result_ok}
use Rattle.readers.specs.declared.stop.Stop.{Stop}
use Rattle.readers.specs.Readers.{whole_of}
use Rattle.readers.specs.Words.{number_at}
use Rattle.readers.proofs.Laws.{leaf}
use Rattle.readers.proofs.Numbers.{number_laws, no_digit}
use Rattle.readers.proofs.Cuts.{within_none}
use Rattle.readers.proofs.First as first

module _ (limit : ℕ) (nine : 9 ≤ limit) (small : limit < 2 ^ 64) (text : List ℕ) where
  -- what is read is at most the limit, and is spelled so
  found : (v : Result ℕ Stop) → whole_of (number_at limit) text ≡ v → IfSome (result_ok v) (λ n. (n ≤ limit) × (text ≡ decimal n))
  found (Ok n) e =
      let k = first.found 1 (number_at limit) (leaf decimal (λ k. k ≤ limit)) no_digit (number_laws limit nine small 1) text n e in
      (k.0, k.2)
  found (Err s) e = tt

  -- where nothing is read, no number is spelled so
  none : (v : Result ℕ Stop) → whole_of (number_at limit) text ≡ v → IfNone (result_ok v) ((n : ℕ) → n ≤ limit → text ≡ decimal n → ⊥)
  none (Ok n) e = tt
  none (Err s) e = λ n le spelled.
      let f = first.only 1 (number_at limit) (leaf decimal (λ k. k ≤ limit)) no_digit (number_laws limit nine small 1) text n le (within_none 1 (decimal n)) spelled in
      let g = sym e ∙ f in absurd cc

  pub found_of : (o : Option ℕ) → o ≡ result_ok (whole_of (number_at limit) text) → IfSome o (λ n. (n ≤ limit) × (text ≡ decimal n))
  found_of o e = rw e (found (whole_of (number_at limit) text) refl)

  pub none_of : (o : Option ℕ) → o ≡ result_ok (whole_of (number_at limit) text) → IfNone o ((n : ℕ) → n ≤ limit → text ≡ decimal n → ⊥)
  none_of o e = rw e (none (whole_of (number_at limit) text) refl)
