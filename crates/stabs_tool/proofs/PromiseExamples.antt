-- Worked values of what a run promises, by hand.
use Rattle.std.proofs.Common.{◌≡◌, ℕ, List, [], ◌∷◌, Some, None, refl, sym, ◌∙◌}
use Rattle.std.specs.Prelude.{codes}
use Rattle.std.specs.FinMap.{insert, empty}
use Rattle.outside.specs.Causes.{Contents}
use Rattle.command_line.specs.Commands.{asked, IsRead, IsWritten, IsWrong}
use Rattle.file_commands.specs.Outcomes.{usage}
use Rattle.file_commands.specs.RunCauses.{seen, Gained}
use Rattle.stabs_tool.specs.Promise.{Promise}
use Rattle.file_commands.specs.QueryOutcomes.{IsOutcome}
use Rattle.stabs_tool.proofs.Promises.{promise_of_nothing}

-- the files hold `a`, of three bytes
abbrev files : Contents
files = insert empty (codes "a") (1 ∷ 2 ∷ 3 ∷ [])

-- a run with no words, of files that hold `a` and do not change, and of a sink that held 7: its bytes then, and the status
abbrev Runs : List ℕ → ℕ → Type 0
Runs now status =
    Promise (IsOutcome []) (IsRead (asked [])) (IsWritten (asked [])) (IsWrong (asked [])) (seen (Some files) 0 0 None) (seen (Some files) 0 0 None)
    (Some (7 ∷ [])) (Some now) 0 0 status

-- out of memory is promised at any time, before anything is printed
out_of_memory : Runs (7 ∷ []) 8
out_of_memory = promise_of_nothing (IsOutcome []) (IsRead (asked [])) (IsWritten (asked [])) (IsWrong (asked []))
    (λ m o other p q. p ∙ sym q) (seen (Some files) 0 0 None) (seen (Some files) 0 0 None) refl refl (Some (7 ∷ [])) (Some (7 ∷ [])) 0 refl

-- no file is absent where no words name one
not_absent : (now : List ℕ) → Runs now 5 → ⊥
not_absent now p = (p.absent_told refl).1

-- and nothing but the usage is printed
not_silent : Runs (7 ∷ []) 2 → ⊥
unfolding usage
not_silent p = by_told (p.usage_told refl) where
  by_told : (at : ℕ) × (at ≡ 0) × Gained (Some (7 ∷ [])) (Some (7 ∷ [])) (usage at).text → ⊥
  by_told (at, is, gained) = absurd cc
