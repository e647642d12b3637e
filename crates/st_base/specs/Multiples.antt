-- Multiples of four. That segments and commons begin at them is this project's own.
use Rattle.std.specs.Prelude.{ℕ, ◌+◌, ◌*◌, ◌/◌}

-- the next multiple of four: the number itself where it is one
abbrev pub aligned : ℕ → ℕ
aligned n = (n + 3) / 4 * 4
