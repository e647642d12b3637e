-- Worked values of what several inputs come to, and of the lines of a link, by hand.
use Rattle.std.proofs.Common.{◌≡◌, ℕ, ◌+◌, [], ◌∷◌, inl, inr, refl, lit<, lit≤}
use Rattle.std.specs.Prelude.{codes, decimal, replicate}
use Rattle.std.proofs.lemmas.Fmt.{decimal_digit, decimal_step}
use Rattle.outside.specs.Causes.{Contents}
use Rattle.st_base.specs.Faults.{fault_at}
use Rattle.st_base.specs.declared.fault.Fault.{Fault}
use Rattle.st_base.specs.declared.fault.TheConstants.{UNDEFINED, TOO_LARGE, OVERFLOW}
use Rattle.nlist_codec.specs.declared.named.Named.{Named}
use Rattle.aout_object.specs.declared.parts.Parts.{Parts}
use Rattle.aout_link.specs.Sources.{Source}
use Rattle.aout_link.specs.Refusals.{fault_in}
use Rattle.file_commands.specs.declared.inputs.Inputs.TheVariants.{TooMany}
use Rattle.file_commands.specs.Inputs.{loaded_inputs}
use Rattle.file_commands.specs.Outcomes.{limit, list_refused, list_refused_at}
use Rattle.file_commands.specs.InputObjects.{Each, FirstFault}
use Rattle.file_commands.specs.LinkOutcomes.{list_outcome}

-- ---- too many names

too_many : (m : Contents) (most total : ℕ) → loaded_inputs m most total (replicate 1025 (codes "a")) ≡ TooMany
too_many m most total = refl

-- ---- one behind the other

-- a number comes to the one behind it, and its fault has its number
abbrev Next : ℕ → ℕ → Type 0
Next x y = y ≡ x + 1

abbrev Bad : ℕ → Fault → Type 0
Bad x f = f.number ≡ x

all_next : Each Next (4 ∷ 7 ∷ []) (5 ∷ 8 ∷ [])
all_next = (refl, (refl, tt))

not_next : Each Next (4 ∷ 7 ∷ []) (5 ∷ []) → ⊥
not_next h = h.1

-- the second of three
second_bad : FirstFault Next Bad 0 (4 ∷ 7 ∷ 9 ∷ []) 1 (fault_at 7 0)
second_bad = inr (((5, refl), inl ((refl, refl))))

-- ---- lines of a list

module _ (parts : Parts) (n : Named) where
  abbrev lone : Source
  lone = record { object = record { parts = parts; entries = []; strings = [] }; parts = parts; named = n ∷ [] }

  -- fault 92 tells the name of entry 0 of object 1
  a_name : list_outcome (lone ∷ lone ∷ []) (fault_in UNDEFINED 1 0) ≡ list_refused_at (fault_in UNDEFINED 1 0) n.name
  a_name = refl

  -- fault 25 tells none
  no_name : list_outcome (lone ∷ []) (fault_in OVERFLOW 0 3) ≡ list_refused (fault_in OVERFLOW 0 3)
  no_name = refl

  -- a size is told by its limit
  a_limit : list_outcome (lone ∷ []) (fault_at TOO_LARGE 134217728) ≡ limit 134217728
  a_limit = refl

-- `list 25 0 3`
a_line : (list_refused (fault_in OVERFLOW 0 3)).text ≡ codes "list 25 0 3\n"
unfolding list_refused
a_line = rw (in_digits, decimal_digit 0 (lit< tt), decimal_digit 3 (lit< tt)) refl where
  in_digits : decimal 25 ≡ codes "25"
  in_digits = rw (decimal_step 25 (lit≤ tt) (lit< tt), decimal_digit 2 (lit< tt)) refl
