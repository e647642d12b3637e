-- Names in order of first use, and what is found by a name.
use Rattle.std.specs.Prelude.{ℕ, Bool, if◌then◌else◌, List, [], Option, Some, None, Result, Ok, Err, map, slice_get, Vec}
use Rattle.std.specs.List.{list_any}
use Rattle.std.specs.Str.{bytes_eq}
use Rattle.st_base.specs.FirstUses.{used}
use Rattle.st_base.specs.declared.fault.Fault.{Fault}

-- the names of a set, in order
abbrev pub words_in : {A : Type 0} → List (Vec ℕ A) → List (List ℕ)
words_in keys = map (λ k. k.items) keys

-- the names of a map's entries with their values, in order
abbrev pub pairs_in : {A V : Type 0} → List (Vec ℕ A × V) → List (List ℕ × V)
pairs_in entries = map (λ e. (e.0.items, e.1)) entries

-- two names are the same, whatever stands beside them
abbrev pub same_name : {V : Type 0} → List ℕ × V → List ℕ × V → Bool
same_name a b = bytes_eq a.0 b.0

-- a name, or no bytes where there is none
abbrev pub or_empty : Option (List ℕ) → List ℕ
or_empty None = []
or_empty (Some name) = name

-- the name at a place, counted from 0; no bytes where there is none
abbrev pub name_at : List (List ℕ) → ℕ → List ℕ
name_at names at = or_empty (slice_get names at)

-- the names of a scope after one more is given in it; a fault where it was given before
abbrev pub given : Fault → List ℕ → List (List ℕ) → Result (List (List ℕ)) Fault
given fault name names = if list_any (bytes_eq name) names then Err fault else Ok (used bytes_eq names name)
