-- The key of a type number: what it names within one unit. After "The stabs debug format", on type numbers and include files.
use Rattle.stab_symbols.specs.declared.tree.Num.{Num}
use Rattle.stab_symbols.specs.declared.tree.Num.TheVariants.{Plain, Pair}
use Rattle.stab_symbols.specs.declared.tree.Key.{Key}

-- a plain number `n` means `(0,n)`
abbrev pub key_of : Num → Key
key_of (Plain n) = record { file = 0; number = n }
key_of (Pair f n) = record { file = f; number = n }
