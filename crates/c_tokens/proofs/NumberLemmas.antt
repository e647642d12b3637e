-- A number that is over the largest one stays so, whatever digits stand behind it.
use Rattle.std.proofs.Common.{◌≡◌, ℕ, suc, ◌+◌, ◌-◌, ◌*◌, ◌<◌, ◌≤◌, List, [], ◌∷◌, length, drop, get_or, None, sym, ap, ◌∙◌, arith, drop-cons}
use Rattle.std.proofs.lemmas.Bool.Decides.{nat_tests}
use Rattle.c_tokens.specs.Fronts.{number_after, small_number}

-- digits behind a number make it no smaller
grows : (n : ℕ) (digits : List ℕ) → n ≤ number_after n digits
grows n [] = omega arith
grows n (d ∷ digits) = let rest = grows (10 * n + (d - 48)) digits in omega (arith, rest)

over : (n : ℕ) → 2147483647 < n → small_number n ≡ None
over n h = grind (arith, nat_tests)

-- a number that is over the largest one with its next digit
pub over_here : (n at whole : ℕ) (digits : List ℕ) → number_after n (drop at digits) ≡ whole → at < length digits
    → 2147483647 < 10 * n + (get_or digits at 0 - 48) → None ≡ small_number whole
over_here n at whole digits is within h =
    let rest = grows (10 * n + (get_or digits at 0 - 48)) (drop (suc at) digits) in
    let same : number_after n (get_or digits at 0 ∷ drop (suc at) digits) ≡ whole = ap (number_after n) (sym (drop-cons digits at 0 within)) ∙ is in
    sym (over whole (omega (arith, rest, same)))
