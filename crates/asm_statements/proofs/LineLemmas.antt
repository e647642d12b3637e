-- Steps of the readers of lines: one label more, and one line more.
use Rattle.std.proofs.Common.{◌≡◌, ℕ, suc, ◌+◌, ◌-◌, ◌<◌, ◌≤◌, Bool, true, List, [], ◌∷◌, ◌++◌, length, take, drop, Option, None, Some, Result, Ok, Err, map, refl, sym, ap, ◌∙◌, inl, inr, arith, append_assoc, append-nil, get_or}
use Rattle.std.specs.Prelude.{nat_lt, not, position}
use Rattle.std.specs.List.{prefix_len}
use Rattle.std.proofs.lemmas.Option.{none-some}
use Rattle.std.proofs.lemmas.Bool.{cases_Bool, ltb-true, ltb-false}
use Rattle.std.proofs.lemmas.List.{take_all, length-drop}
use Rattle.asm_statements.specs.SourceLines.{read_lines, line_of, with_line, at_line, is_feed, lines_of, statements_of, rest_of, is_colon}
use Rattle.asm_statements.specs.Operands.{◌>>=◌, name_in}
use Rattle.asm_statements.specs.Scanning.{Reads, Puts, with_what, with_whats, with_statements, lines_behind}
use Rattle.asm_statements.specs.Tokens.{Token}
use Rattle.asm_statements.specs.declared.out.Out.{Out}
use Rattle.asm_statements.specs.declared.scan.Bad.{Bad}
use Rattle.asm_statements.specs.declared.scan.Bad.TheVariants as bad
use Rattle.asm_statements.specs.declared.statement.What.{What}
use Rattle.asm_statements.specs.declared.statement.What.TheVariants as what
use Rattle.asm_statements.specs.declared.statement.Statement.{Statement}

-- ---- labels

whats_none : (old : Out) (read : Option (List What)) → with_whats old read ≡ None → read ≡ None
whats_none old None e = refl
whats_none old (Some ws) e = absurd cc

-- a statement put before others that are read
pub whats_push : (old : Out) (w : What) (read : Option (List What)) → with_whats (with_what old w) read ≡ with_whats old (read >>= λ ws. Some (w ∷ ws))
whats_push old w None = refl
whats_push old w (Some ws) = ap (λ l. Some (record old { statements = l })) (append_assoc old.statements (at_line old.number w ∷ []) (map (at_line old.number) ws))

-- fewer than two tokens have no label
pub short_rest : (ts : List Token) → length ts < 2 → statements_of ts ≡ rest_of ts
short_rest [] h = refl
short_rest (t ∷ []) h = refl
short_rest (t ∷ u ∷ ts) h = absurd (omega arith)

-- one label more
pub label_next : (ts : List Token) (a b : Token) (t : Bool) (w : List ℕ) (out next : Out) (whole : Option Out) → with_whats out (statements_of ts) ≡ whole
    → 2 ≤ length ts → a ≡ get_or ts 0 a → b ≡ get_or ts 1 b → t ≡ is_colon b → t ≡ true → name_in a ≡ Some w → next ≡ with_what out (what.Label w)
    → with_whats next (statements_of (take (length ts - 2) (drop 2 ts))) ≡ whole
label_next [] a b t w out next whole was two x y told yes' named puts = absurd (omega arith)
label_next (c ∷ []) a b t w out next whole was two x y told yes' named puts = absurd (omega arith)
label_next (c ∷ d ∷ ts) a b t w out next whole was two x y told yes' named puts =
    let all : take (length (c ∷ d ∷ ts) - 2) ts ≡ ts = take_all (length (c ∷ d ∷ ts) - 2) ts (omega arith) in
    let e : is_colon d ≡ true = ap is_colon (sym y) ∙ sym told ∙ yes' in
    let n : name_in c ≡ Some w = ap name_in (sym x) ∙ named in
    ap (λ l. with_whats next (statements_of l)) all ∙ ap (λ l. with_whats l (statements_of ts)) puts ∙ whats_push out (what.Label w) (statements_of ts) ∙ (rw (e, n) at was)

-- a label that is no name
label_refused : (ts : List Token) (a b : Token) (t : Bool) (out : Out) (whole : List Token) (old : Out) → with_whats out (statements_of ts) ≡ with_whats old (statements_of whole)
    → 2 ≤ length ts → a ≡ get_or ts 0 a → b ≡ get_or ts 1 b → t ≡ is_colon b → t ≡ true → name_in a ≡ None → statements_of whole ≡ None
label_refused [] a b t out whole old was two x y told yes' named = absurd (omega arith)
label_refused (c ∷ []) a b t out whole old was two x y told yes' named = absurd (omega arith)
label_refused (c ∷ d ∷ ts) a b t out whole old was two x y told yes' named =
    let e : is_colon d ≡ true = ap is_colon (sym y) ∙ sym told ∙ yes' in
    let n : name_in c ≡ None = ap name_in (sym x) ∙ named in
    whats_none old (statements_of whole) (sym (rw (e, n) at was))

-- what is put after what was put before
pub puts_through : (r : Result (Unit {0}) Bad) (out new old : Out) (read whole : Option (List What)) → Puts r out new read → with_whats out read ≡ with_whats old whole → Puts r old new whole
puts_through (Ok u) out new old read whole puts was = sym was ∙ puts
puts_through (Err bad.Form) out new old read whole puts was = whats_none old whole (sym was ∙ ap (with_whats out) puts)
puts_through (Err bad.Memory) out new old read whole puts was = tt

-- the same for a refusal of either kind
pub label_err : (e : Bad) (ts : List Token) (a b : Token) (t : Bool) (out new : Out) (whole : List Token) (old : Out) → with_whats out (statements_of ts) ≡ with_whats old (statements_of whole)
    → 2 ≤ length ts → a ≡ get_or ts 0 a → b ≡ get_or ts 1 b → t ≡ is_colon b → t ≡ true → Reads {X = List ℕ} (λ w. w) (Err e) (name_in a) → Puts (Err e) old new (statements_of whole)
label_err bad.Form ts a b t out new whole old was two x y told yes' named = label_refused ts a b t out whole old was two x y told yes' named
label_err bad.Memory ts a b t out new whole old was two x y told yes' named = tt

-- ---- lines

abbrev before_feed : List ℕ → ℕ
before_feed ts = prefix_len (λ t. not (is_feed t)) ts

feed_cut : (ts : List ℕ) → before_feed ts < length ts → lines_of ts ≡ take (before_feed ts) ts ∷ lines_of (drop (before_feed ts + 1) ts)
feed_cut [] h = absurd (omega arith)
feed_cut (t ∷ ts) h =
    elim (cases_Bool (is_feed t)) [
      | inl e ↦ rw e refl
      | inr e ↦
          let k : 1 + before_feed ts < length (t ∷ ts) = rw e at h in
          let a : 1 + before_feed ts ≡ suc (before_feed ts) = omega arith in
          let b : suc (before_feed ts) + 1 ≡ suc (before_feed ts + 1) = omega arith in
          rw (e, feed_cut ts (omega arith), a, b) refl
    ]

feed_none : (ts : List ℕ) → length ts ≤ before_feed ts → lines_of ts ≡ ts ∷ []
feed_none [] h = refl
feed_none (t ∷ ts) h =
    elim (cases_Bool (is_feed t)) [
      | inl e ↦ let k : length (t ∷ ts) ≤ 0 = rw e at h in absurd (omega arith)
      | inr e ↦ let k : length (t ∷ ts) ≤ 1 + before_feed ts = rw e at h in rw (e, feed_none ts (omega arith)) refl
    ]

-- the lines by the first line feed
pub no_feed : (ts : List ℕ) → None ≡ position is_feed ts → lines_of ts ≡ ts ∷ []
no_feed ts h =
    elim (cases_Bool (nat_lt (before_feed ts) (length ts))) [
      | inl e ↦ absurd (none-some (before_feed ts) (h ∙ rw e refl))
      | inr e ↦ feed_none ts (ltb-false (before_feed ts) (length ts) e)
    ]

pub at_feed : (ts : List ℕ) (i : ℕ) → Some i ≡ position is_feed ts → lines_of ts ≡ take i ts ∷ lines_of (take (length ts - (i + 1)) (drop (i + 1) ts))
at_feed ts i h =
    elim (cases_Bool (nat_lt (before_feed ts) (length ts))) [
      | inl e ↦
          let k : Some i ≡ Some (before_feed ts) = h ∙ rw e refl in
          let same : before_feed ts ≡ i = cc in
          let all : take (length ts - (i + 1)) (drop (i + 1) ts) ≡ drop (i + 1) ts = take_all (length ts - (i + 1)) (drop (i + 1) ts) (omega (arith, length-drop (i + 1) ts)) in
          feed_cut ts (ltb-true (before_feed ts) (length ts) e) ∙ rw (same, all) refl
      | inr e ↦ absurd (none-some i (sym (h ∙ rw e refl)))
    ]

-- what was put, where something was read
record Put (out new : Out) (read : Option (List What)) : Type 0 where
  whats : List What
  is : read ≡ Some whats
  puts : new ≡ record out { statements = out.statements ++ map (at_line out.number) whats }

put_of : (out new : Out) (read : Option (List What)) → with_whats out read ≡ Some new → Put out new read
put_of out new None e = absurd cc
put_of out new (Some ws) e = record { whats = ws; is = refl; puts = cc }

pub number_stays : (out new : Out) (read : Option (List What)) → with_whats out read ≡ Some new → new.number ≡ out.number
number_stays out new read e = let p = put_of out new read e in ap (λ (o : Out). o.number) p.puts

with_more : (front : List Statement) (n : ℕ) (ws : List What) (r : Result (List Statement) ℕ) → with_statements (front ++ map (at_line n) ws) r ≡ with_statements front (with_line n ws r)
with_more front n ws (Ok ss) = ap Ok (append_assoc front (map (at_line n) ws) ss)
with_more front n ws (Err m) = refl

-- one line more
pub source_next : (out new : Out) (rest line more : List ℕ) (o : Option (List ℕ)) (whole : Result (List Statement) ℕ)
    → with_statements out.statements (read_lines out.number (lines_of rest)) ≡ whole → lines_of rest ≡ line ∷ lines_behind o → o ≡ Some more → with_whats out (line_of line) ≡ Some new
    → with_statements new.statements (read_lines (new.number + 1) (lines_of more)) ≡ whole
source_next out new rest line more o whole was is some puts =
    let p = put_of out new (line_of line) puts in
    let lines : lines_of rest ≡ line ∷ lines_of more = is ∙ ap (λ z. line ∷ lines_behind z) some in
    let step : with_statements out.statements (with_line out.number p.whats (read_lines (out.number + 1) (lines_of more))) ≡ whole = rw p.is at (rw lines at was) in
    rw p.puts (with_more out.statements out.number p.whats (read_lines (out.number + 1) (lines_of more)) ∙ step)

-- the last line
pub source_last : (out new : Out) (rest line : List ℕ) (o : Option (List ℕ)) (whole : Result (List Statement) ℕ)
    → with_statements out.statements (read_lines out.number (lines_of rest)) ≡ whole → lines_of rest ≡ line ∷ lines_behind o → o ≡ None → with_whats out (line_of line) ≡ Some new
    → whole ≡ Ok new.statements
source_last out new rest line o whole was is none puts =
    let p = put_of out new (line_of line) puts in
    let lines : lines_of rest ≡ line ∷ [] = is ∙ ap (λ z. line ∷ lines_behind z) none in
    let step : with_statements out.statements (with_line out.number p.whats (Ok [])) ≡ whole = rw p.is at (rw lines at was) in
    sym step ∙ ap (λ l. Ok (out.statements ++ l)) (append-nil (map (at_line out.number) p.whats)) ∙ ap (λ (u : Out). Ok u.statements) (sym p.puts)

-- a line that does not parse
pub source_bad : (out : Out) (rest line : List ℕ) (o : Option (List ℕ)) (whole : Result (List Statement) ℕ)
    → with_statements out.statements (read_lines out.number (lines_of rest)) ≡ whole → lines_of rest ≡ line ∷ lines_behind o → line_of line ≡ None → whole ≡ Err out.number
source_bad out rest line o whole was is bad' = sym (rw bad' at (rw is at was))
