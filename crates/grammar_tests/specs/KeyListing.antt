-- What a visitor of numbers does that stops at the first one whose key is not in its list.
use Rattle.std.specs.Prelude.{◌≡◌, List, Contains, Result, OnOk}
use Rattle.stab_symbols.specs.declared.tree.Num.{Num}
use Rattle.stab_symbols.specs.declared.tree.Key.{Key}
use Rattle.stab_symbols.specs.Keys.{key_of}

-- it stays as it is, and goes on only at a number whose key is in the list that it has
abbrev pub GoesOnAtListed : {V E : Type 0} → (V → List Key) → V → Num → V → Result (Unit {0}) E → Type 0
GoesOnAtListed keys old n new result = (new ≡ old) × OnOk result (Contains (keys old) (key_of n))
