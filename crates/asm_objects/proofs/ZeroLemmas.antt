-- Zeros that are appended 256 at a time.
use Rattle.std.proofs.Common.{◌≡◌, ℕ, ◌+◌, ◌-◌, ◌<◌, ◌≤◌, List, ◌++◌, replicate, take, ap, ◌∙◌, arith, append_assoc}
use Rattle.std.proofs.lemmas.List.{replicate-append-replicate, take-replicate}

-- 256 more are there
pub zeros_step : (out next zeros whole : List ℕ) (n : ℕ) → zeros ≡ replicate 256 0 → 256 ≤ n → out ++ replicate n 0 ≡ whole → next ≡ out ++ zeros → next ++ replicate (n - 256) 0 ≡ whole
zeros_step out next zeros whole n are enough invariant is =
    let all : 256 + (n - 256) ≡ n = omega arith in
    rw (is, are)
    (append_assoc out (replicate 256 0) (replicate (n - 256) 0) ∙ ap (λ (l : List ℕ). out ++ l) (replicate-append-replicate 256 (n - 256) 0 ∙ ap (λ k. replicate k 0) all) ∙ invariant)

-- the last are there
pub zeros_last : (out next zeros some whole : List ℕ) (n : ℕ) → zeros ≡ replicate 256 0 → n < 256 → out ++ replicate n 0 ≡ whole → some ≡ take n zeros → next ≡ out ++ some → next ≡ whole
zeros_last out next zeros some whole n are fewer invariant is appended =
    appended ∙ ap (λ (l : List ℕ). out ++ l) (is ∙ ap (take n) are ∙ take-replicate n 256 0 (omega arith)) ∙ invariant
