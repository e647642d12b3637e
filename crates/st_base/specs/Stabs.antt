-- Which entries of a symbol table are stabs. After a.out(5) and "The stabs debug format".
use Rattle.std.specs.Prelude.{ℕ, Bool, nat_le}
use Rattle.st_base.specs.declared.sizes.TheConstants.{LEAST_STAB}

-- the kind of a stab has one of the bits 0xe0, and so it is at least this number
abbrev pub is_stab : ℕ → Bool
is_stab kind = nat_le LEAST_STAB kind
