-- A token: what it is, and what it says. The forms of declarations go by what tokens are alone.
use Rattle.std.specs.Prelude.{ℕ, List}
use Rattle.c_tokens.specs.declared.kind.Kind.{Kind}

-- the bytes of a name or of an include's file, the number, and the line, counted from 1
pub record Info : Type 0 where
  pub text : List ℕ
  pub number : ℕ
  pub line : ℕ

-- what a token is, and what it says
abbrev pub Token : Type 0
Token = Kind × Info
