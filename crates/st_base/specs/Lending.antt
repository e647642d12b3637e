use Rattle.std.specs.Prelude.{List, ℕ, length, take, drop, ◌++◌}
use Rattle.std.specs.Borrow.{Lends, MutBor, Fml, Array, u8}
use Rattle.st_base.specs.contracts.text.Text.{the_row}

-- w over the first items of a list, whose length stays
abbrev pub over : List ℕ → List ℕ → List ℕ
over old w = take (length old) (w ++ drop (length w) old)

-- the text ends as what the reference r holds last
abbrev pub LendsBytes : MutBor (List ℕ) → MutBor (List ℕ) → Fml
LendsBytes s r = Lends the_row (Array u8 0) s r (over s.now)
