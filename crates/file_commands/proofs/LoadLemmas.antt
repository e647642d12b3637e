-- The calls of a loop that loads names one after another.
use Rattle.std.proofs.Common.{◌≡◌, ℕ, ◌+◌, ◌<◌, List, [], ◌∷◌, ◌++◌, length, get_or, take, sym, ap, ◌∙◌, append_assoc}
use Rattle.std.proofs.lemmas.List.{take_more, map-append}
use Rattle.outside.specs.Calls.{Call, load_of, then_call, loads_of}
use Rattle.file_commands.specs.Inputs.{HasCalled}

module _ (most : ℕ) (names : List (List ℕ)) (at : ℕ) (item name : List ℕ) (within : at < length names) (there : item ≡ get_or names at item) (same : name ≡ item) where
  -- the name at a place is loaded behind those before it
  pub called_next : (before now after : List Call) → HasCalled most (take at names) before now → after ≡ then_call now (load_of name most)
      → HasCalled most (take (at + 1) names) before after
  called_next before now after called step =
      step ∙ ap (λ (calls : List Call). calls ++ load_of name most ∷ []) called
      ∙ append_assoc before (loads_of most (take at names)) (load_of name most ∷ [])
      ∙ ap (λ (calls : List Call). before ++ calls) (sym (map-append (λ (n : List ℕ). load_of n most) (take at names) (name ∷ []))
      ∙ ap (loads_of most) (ap (λ (n : List ℕ). take at names ++ n ∷ []) (same ∙ there) ∙ sym (take_more names at item within)))
