-- The calls of files, in the order in which they were made: a name, and whether its content was loaded or stored. A trait has such a
-- list, so that a program over any files can promise what it calls, also where files do not tell their contents. This is this
-- project's own.
use Rattle.std.specs.Prelude.{ℕ, List, [], ◌∷◌, ◌++◌, map, Option, Some, None}
use Rattle.outside.specs.declared.call.Access.{Access}
use Rattle.outside.specs.declared.call.Access.TheVariants.{Load, Store}

-- a call: the name, and what was done with its content
abbrev pub Call : Type 0
Call = List ℕ × Access

-- the load of a name for at most `most` bytes
abbrev pub load_of : List ℕ → ℕ → Call
load_of name most = (name, Load most)

-- the store of a name
abbrev pub store_of : List ℕ → Call
store_of name = (name, Store)

-- the calls after one more
abbrev pub then_call : List Call → Call → List Call
then_call calls call = calls ++ call ∷ []

-- the loads of these names in order, each for at most `most` bytes
abbrev pub loads_of : ℕ → List (List ℕ) → List Call
loads_of most names = map (λ name. load_of name most) names

-- the one store of a name, or none
abbrev pub stores_of : Option (List ℕ) → List Call
stores_of None = []
stores_of (Some name) = store_of name ∷ []
