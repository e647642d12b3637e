-- Names in order of first use: each once, with its first definition or alone.
use Rattle.std.specs.Prelude.{ℕ, Bool, List, map, Vec}
use Rattle.std.specs.Str.{bytes_eq}

-- the names of a map's entries with their values, in order
abbrev pub pairs_in : {A V : Type 0} → List (Vec ℕ A × V) → List (List ℕ × V)
pairs_in entries = map (λ e. (e.0.items, e.1)) entries

-- the names of a set, in order
abbrev pub words_in : {A : Type 0} → List (Vec ℕ A) → List (List ℕ)
words_in keys = map (λ k. k.items) keys

-- two names are the same, whatever stands beside them
abbrev pub same_name : {V : Type 0} → List ℕ × V → List ℕ × V → Bool
same_name a b = bytes_eq a.0 b.0
