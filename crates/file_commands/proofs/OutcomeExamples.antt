-- Worked values of outcomes, of what inputs come to, and of what causes and sinks tell, by hand.
use Rattle.std.proofs.Common.{◌≡◌, ℕ, true, false, List, [], ◌∷◌, Some, None, refl, ap, ◌∙◌, ◌≤◌, lit≤, lit<, arith}
use Rattle.std.specs.Prelude.{codes, decimal}
use Rattle.std.specs.Cmp.Lexicographic.{nat_list_cmp_total}
use Rattle.std.specs.FinMap.{get, insert, empty, get-insert, get-empty}
use Rattle.std.proofs.lemmas.Fmt.{decimal_digit, decimal_step}
use Rattle.outside.specs.Causes.{Contents}
use Rattle.st_base.specs.Faults.{fault_at}
use Rattle.st_base.specs.declared.fault.TheConstants.{TRUNCATED}
use Rattle.query_text.specs.declared.query.Query.TheVariants.{TagNamed}
use Rattle.command_line.specs.declared.command.Command.TheVariants as commands
use Rattle.command_line.specs.declared.command.Asked.{Asked}
use Rattle.command_line.specs.declared.command.Asked.TheVariants as asks
use Rattle.file_commands.specs.declared.inputs.Cause.TheVariants as cause
use Rattle.file_commands.specs.declared.inputs.Inputs.TheVariants.{All, Fault, TooMuch}
use Rattle.file_commands.specs.declared.outcome.Outcome.{Outcome}
use Rattle.file_commands.specs.Outcomes.{printed, usage, absent, limit, refused, is_status}
use Rattle.file_commands.specs.RunCauses.{Gained, GainedFront, Lacks}
use Rattle.file_commands.specs.Inputs.{loaded_inputs}
use Rattle.file_commands.specs.QueryOutcomes.{IsOutcome, Means}

-- ---- statuses and lines

seven : is_status 7 ≡ true
seven = refl

-- no run ends with 1
one : is_status 1 ≡ false
one = refl

a_usage : usage 3 ≡ printed 2 (codes "usage: word 3\n")
unfolding usage
a_usage = rw (decimal_digit 3 (lit< tt)) refl

-- the name stands in its shown form
an_absence : absent (codes "a b") ≡ printed 5 (codes "absent a\\x20b\n")
unfolding absent
an_absence = refl

-- 172 in digits
in_digits : decimal 172 ≡ codes "172"
in_digits = rw (decimal_step 172 (lit≤ tt) (lit< tt), decimal_step 17 (lit≤ tt) (lit< tt), decimal_digit 1 (lit< tt)) refl

a_refusal : refused (codes "a.o") (fault_at TRUNCATED 172) ≡ printed 3 (codes "refused a.o 5 172 0\n")
unfolding refused
a_refusal = rw (decimal_digit 5 (lit< tt), in_digits, decimal_digit 0 (lit< tt)) refl

a_limit : limit 172 ≡ printed 9 (codes "limit 172\n")
unfolding limit
a_limit = rw in_digits refl

-- ---- inputs

-- the files hold `a`, of three bytes
abbrev files : Contents
files = insert empty (codes "a") (1 ∷ 2 ∷ 3 ∷ [])

has_a : get files (codes "a") ≡ Some (1 ∷ 2 ∷ 3 ∷ [])
has_a = get-insert nat_list_cmp_total empty (codes "a") (1 ∷ 2 ∷ 3 ∷ []) (codes "a")

lacks_b : get files (codes "b") ≡ None
lacks_b = get-insert nat_list_cmp_total empty (codes "a") (1 ∷ 2 ∷ 3 ∷ []) (codes "b") ∙ get-empty _ (codes "b")

-- its content, where three bytes may come; it is long where two may
loaded : loaded_inputs files 3 9 (codes "a" ∷ []) ≡ All ((1 ∷ 2 ∷ 3 ∷ []) ∷ [])
loaded = rw has_a refl

long : loaded_inputs files 2 9 (codes "a" ∷ []) ≡ Fault 0 cause.Long
long = rw has_a refl

-- the second of two names is absent
second : loaded_inputs files 3 9 (codes "a" ∷ codes "b" ∷ []) ≡ Fault 1 cause.Absent
second = rw (has_a, lacks_b) refl

-- two contents of three bytes are more than five bytes together, and not more than six
too_much : loaded_inputs files 3 5 (codes "a" ∷ codes "a" ∷ []) ≡ TooMuch
too_much = rw has_a refl

enough : loaded_inputs files 3 6 (codes "a" ∷ codes "a" ∷ []) ≡ All ((1 ∷ 2 ∷ 3 ∷ []) ∷ (1 ∷ 2 ∷ 3 ∷ []) ∷ [])
enough = rw has_a refl

-- ---- causes

-- files that tell lack `b`, and not `a`
lacking : Lacks (Some files) 0 0 None (codes "b")
lacking = lacks_b

not_lacking : ¬ (Lacks (Some files) 0 0 None (codes "a"))
not_lacking e = let held = has_a in absurd cc

-- files that do not tell lack what failed last, where the count rose
untold : Lacks None 4 5 (Some (codes "a")) (codes "a")
untold = (lit≤ tt, refl)

not_risen : ¬ (Lacks None 5 5 (Some (codes "a")) (codes "a"))
not_risen e = let rose : 6 ≤ 5 = e.0 in absurd (omega arith)

-- ---- the sink

-- a sink that held 7 has gained 8 and 9, and a front of 8, 9 and 10
gained : Gained (Some (7 ∷ [])) (Some (7 ∷ 8 ∷ 9 ∷ [])) (8 ∷ 9 ∷ [])
gained = refl

front : GainedFront (Some (7 ∷ [])) (Some (7 ∷ 8 ∷ 9 ∷ [])) (8 ∷ 9 ∷ 10 ∷ [])
front = (8 ∷ 9 ∷ [], 10 ∷ [], refl, refl)

not_gained : ¬ (Gained (Some (7 ∷ [])) (Some (7 ∷ 8 ∷ [])) (8 ∷ 9 ∷ []))
not_gained e = absurd cc

-- ---- outcomes of words

-- no words are no command, and nothing else is said of them
no_words : IsOutcome [] files (usage 0)
no_words = refl

not_none : IsOutcome [] files (printed 0 (codes "none\n")) → ⊥
unfolding usage
not_none e = let status : ◌≡◌ {A = ℕ} 0 2 = ap (λ (o : Outcome). o.status) e in absurd cc

-- a question about the tag `t` of a file
abbrev question : List ℕ → Asked
question file = asks.Command (commands.Query file (TagNamed 0 (codes "t")))

-- the files lack `b`, so it is told to be absent
b_is_absent : Means (question (codes "b")) files (absent (codes "b"))
b_is_absent = rw lacks_b refl
