-- Lists in which each key stands once, as they grow: a key that stands there already is not put there again. This project's own.
use Rattle.std.specs.Prelude.{◌≡◌, Bool, List, Result, OnOk, fold}
use Rattle.std.specs.Set.{is_member}
use Rattle.st_base.specs.declared.fault.Memory.{Memory}
use Rattle.st_base.specs.FirstUses.{used, first_uses}
use Rattle.stab_symbols.specs.declared.tree.Key.{Key}
use Rattle.stab_symbols.specs.declared.tree.Num.{Num}
use Rattle.stab_symbols.specs.Keys.{key_of}
use Rattle.stab_symbols.specs.Surface.{same_key}

-- the key stands in the list
abbrev pub has : List Key → Key → Bool
has keys key = is_member same_key keys key

-- the list with the key at its end, unless it stands there already
abbrev pub added : List Key → Key → List Key
added keys key = used same_key keys key

-- the list with more keys, one after another
abbrev pub joined : List Key → List Key → List Key
joined keys more = fold added keys more

-- each key of a list once, at its first place
abbrev pub firsts : List Key → List Key
firsts keys = first_uses same_key keys

-- adding the key of a number, unless out of memory
abbrev pub Adds : List Key → Num → List Key → Result (Unit {0}) Memory → Type 0
Adds old num new result = OnOk result (new ≡ added old (key_of num))
