-- Marks that nest inside each unit: the ranges of headers, from N_BINCL to N_EINCL, and blocks, from N_LBRAC to N_RBRAC. Nothing
-- is closed past an N_SO. After "The stabs debug format", on include files and on block structure.
use Rattle.std.specs.Prelude.{ℕ, zero, suc, ◌+◌, ◌-◌, ◌==◌, Bool, true, false, cond, Option, Some, None, is_some, List, [], ◌∷◌}
use Rattle.stab_codes.specs.declared.code.TheConstants.{N_SO, N_BINCL, N_EINCL, N_LBRAC, N_RBRAC}
use Rattle.nlist_codec.specs.declared.named.Named.{Named}
use Rattle.unit_outlines.specs.declared.kinds.Nesting.{Nesting}
use Rattle.unit_outlines.specs.declared.kinds.Nesting.TheVariants.{Opens, Closes, Parts, Other}
use Rattle.unit_outlines.specs.Firsts.{Telling}

-- what an entry is to marks that begin and end with these kinds
abbrev pub nesting_of : ℕ → ℕ → ℕ → Nesting
nesting_of begin end kind = cond (kind == begin) Opens (cond (kind == end) Closes (cond (kind == N_SO) Parts Other))

-- to the ranges of headers
abbrev pub in_headers : Named → Nesting
in_headers e = nesting_of N_BINCL N_EINCL e.kind

-- to blocks
abbrev pub in_blocks : Named → Nesting
in_blocks e = nesting_of N_LBRAC N_RBRAC e.kind

abbrev pub one_more : Option ℕ → Option ℕ
one_more None = None
one_more (Some n) = Some (suc n)

abbrev pub closing_step : Nesting → ℕ → (ℕ → Option ℕ) → Option ℕ
closing_step Opens n rest = one_more (rest (suc n))
closing_step Closes zero rest = Some 1
closing_step Closes (suc n) rest = one_more (rest n)
closing_step Parts n rest = None
closing_step Other n rest = one_more (rest n)

abbrev pub level_step : Nesting → ℕ → ℕ
level_step Opens n = n + 1
level_step Closes n = n - 1
level_step Parts n = 0
level_step Other n = n

module _ {E : Type 0} (role : E → Nesting) where
  -- how many entries up to and with the one that closes a mark, where n more are open inside it; none where nothing closes it
  abbrev pub closing : List E → ℕ → Option ℕ
  closing [] n = None
  closing (e ∷ es) n = closing_step (role e) n (closing es)

  -- how many are open behind these entries, nearest first
  abbrev pub level : List E → ℕ
  level [] = 0
  level (e ∷ back) = level_step (role e) (level back)

  module _ (unclosed unopened : ℕ) where
    abbrev pub nest_step : Nesting → Bool → ℕ → Option ℕ
    nest_step Opens true l = None
    nest_step Opens false l = Some unclosed
    nest_step Closes c zero = Some unopened
    nest_step Closes c (suc l) = None
    nest_step Parts c l = None
    nest_step Other c l = None

    -- one number at a mark that is not closed, the other at one that closes nothing
    abbrev pub nest_tell : Telling E
    nest_tell back e es = nest_step (role e) (is_some (closing es 0)) (level back)
