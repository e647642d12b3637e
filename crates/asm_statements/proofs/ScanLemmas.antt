-- The code's steps through a string, and what it takes off the front of a line.
use Rattle.std.proofs.Common.{◌≡◌, ℕ, suc, ◌+◌, ◌-◌, ◌*◌, ◌<◌, ◌≤◌, Bool, true, false, not, List, [], ◌∷◌, ◌++◌, length, take, drop, Option, None, Some, refl, sym, ap, ◌∙◌, subst, inl, inr, arith, append_assoc, append-nil, get_or, add-one}
use Rattle.std.proofs.lemmas.List.{take_all, take-append-drop, length-take, length-drop}
use Rattle.std.specs.Prelude.{nat_le, ◌||◌, ◌==◌}
use Rattle.std.specs.List.{prefix_len}
use Rattle.std.proofs.lemmas.Bool.{cases_Bool, le-ltb}
use Rattle.strtab.specs.StringTable.{HasNoZero, is_zero}
use Rattle.asm_statements.specs.Scanning.{with_text, step, step_inside, step_done}
use Rattle.asm_statements.specs.Tokens.{Token, in_word, is_octal, is_blank, begins_word, glue, with_token, read_in, tokens, inside, within, comment, put, put_octal, give_inside, next_inside}
use Rattle.asm_statements.specs.Tokens.Token.{Word, Str, Mark}
use Rattle.std.proofs.lemmas.Bool.Decides.{nat_tests}
use Rattle.asm_statements.specs.declared.token.Quoted.{Quoted}
use Rattle.asm_statements.specs.declared.token.Quoted.TheVariants.{Inside, Escaped, One, Two}

-- all bytes pass a test
abbrev pub Each : (ℕ → Bool) → List ℕ → Type 0
Each test [] = Unit {0}
Each test (b ∷ bs) = (test b ≡ true) × Each test bs

-- ---- words

-- a byte of a word is no blank, no `"` and no `#`
no_blank : (b : ℕ) → in_word b ≡ true → is_blank b ≡ false
no_blank b h = grind (arith, nat_tests)

no_quote : (b : ℕ) → in_word b ≡ true → (b == 34) ≡ false
no_quote b h = grind (arith, nat_tests)

no_hash : (b : ℕ) → in_word b ≡ true → (b == 35) ≡ false
no_hash b h = grind (arith, nat_tests)

-- a byte before a word that goes on
word_more : (b c : ℕ) (w : List ℕ) (ts : Option (List Token)) → glue b true (with_token (Word (c ∷ w)) ts) ≡ with_token (Word (b ∷ c ∷ w)) ts
word_more b c w None = refl
word_more b c w (Some ts) = refl

-- a byte that is a word alone
word_last : (b : ℕ) (ts : Option (List Token)) → glue b false ts ≡ with_token (Word (b ∷ [])) ts
word_last b None = refl
word_last b (Some []) = refl
word_last b (Some (Word w ∷ ts)) = refl
word_last b (Some (Str s ∷ ts)) = refl
word_last b (Some (Mark m ∷ ts)) = refl

-- a byte of a word is glued to what is read after it
word_step : (b : ℕ) (rest : List ℕ) → in_word b ≡ true → tokens (b ∷ rest) ≡ glue b (begins_word rest) (tokens rest)
word_step b rest h = rw (no_quote b h, no_hash b h, no_blank b h, h) refl

-- the same where the rest is read so
glue_more : (b c : ℕ) (w : List ℕ) (more : Bool) (read ts : Option (List Token)) → more ≡ true → read ≡ with_token (Word (c ∷ w)) ts → glue b more read ≡ with_token (Word (b ∷ c ∷ w)) ts
glue_more b c w more read ts e f = rw (e, f) (word_more b c w ts)

glue_last : (b : ℕ) (more : Bool) (ts : Option (List Token)) → more ≡ false → glue b more ts ≡ with_token (Word (b ∷ [])) ts
glue_last b more ts e = rw e (word_last b ts)

-- the bytes of a word up to one that is not of a word are its token
pub word_read : (b : ℕ) (w rest : List ℕ) → in_word b ≡ true → Each in_word w → begins_word rest ≡ false → tokens (b ∷ (w ++ rest)) ≡ with_token (Word (b ∷ w)) (tokens rest)
word_read b [] rest h each stops = word_step b rest h ∙ glue_last b (begins_word rest) (tokens rest) stops
word_read b (c ∷ w) rest h each stops =
    word_step b (c ∷ (w ++ rest)) h ∙ glue_more b c w (in_word c) (tokens (c ∷ (w ++ rest))) (tokens rest) each.0 (word_read c w rest each.0 each.1 stops)

-- ---- strings

text_put : (s : List ℕ) (b : ℕ) (read : Option (List Token)) → with_text s (put b read) ≡ with_text (s ++ b ∷ []) read
text_put s b None = refl
text_put s b (Some []) = refl
text_put s b (Some (Word w ∷ ts)) = refl
text_put s b (Some (Str t ∷ ts)) = ap (λ u. Some (Str u ∷ ts)) (sym (append_assoc s (b ∷ []) t))
text_put s b (Some (Mark m ∷ ts)) = refl

text_close : (s : List ℕ) (read : Option (List Token)) → with_text s (with_token (Str []) read) ≡ with_token (Str s) read
text_close s None = refl
text_close s (Some ts) = ap (λ u. Some (Str u ∷ ts)) (append-nil s)

-- what a step says of what is read from its byte on
abbrev Then : List ℕ → (List ℕ → Option (List Token)) → Option (Option Quoted × List ℕ) → Type 0
Then s read None = (rest : List ℕ) → with_text s (read rest) ≡ None
Then s read (Some (None, t)) = (rest : List ℕ) → with_text s (read rest) ≡ with_token (Str t) (tokens rest)
Then s read (Some (Some m, t)) = (rest : List ℕ) → with_text s (read rest) ≡ with_text t (read_in (within m) rest)

inside_steps : (s : List ℕ) (b : ℕ) → Then s (λ rest. give_inside b (read_in (next_inside b) rest)) (step_inside b s)
inside_steps s b =
    elim (cases_Bool (b == 34)) [
      | inl h ↦ rw h (λ rest. text_close s (tokens rest))
      | inr h ↦ elim (cases_Bool (b == 92)) [
        | inl k ↦ rw (h, k) (λ rest. refl)
        | inr k ↦ rw (h, k) (λ rest. text_put s b (read_in inside rest))
      ]
    ]

done_steps : (s : List ℕ) (v b : ℕ) → Then s (λ rest. put_octal v (give_inside b (read_in (next_inside b) rest))) (step_done v b s)
done_steps s v b =
    elim (cases_Bool (nat_le v 255)) [
      | inl h ↦ rw h (through (step_inside b (s ++ v ∷ [])) (inside_steps (s ++ v ∷ []) b))
      | inr h ↦ rw h (λ rest. refl)
    ]
  where
    through : (r : Option (Option Quoted × List ℕ)) → Then (s ++ v ∷ []) (λ rest. give_inside b (read_in (next_inside b) rest)) r
        → Then s (λ rest. put v (give_inside b (read_in (next_inside b) rest))) r
    through None h = λ rest. text_put s v (give_inside b (read_in (next_inside b) rest)) ∙ h rest
    through (Some (None, u)) h = λ rest. text_put s v (give_inside b (read_in (next_inside b) rest)) ∙ h rest
    through (Some (Some m, u)) h = λ rest. text_put s v (give_inside b (read_in (next_inside b) rest)) ∙ h rest

-- each step is right
step_is : (q : Quoted) (b : ℕ) (s : List ℕ) → Then s (λ rest. read_in (within q) (b ∷ rest)) (step q b s)
step_is Inside b s = inside_steps s b
step_is Escaped b s =
    elim (cases_Bool (is_octal b)) [
      | inl h ↦ rw h (λ rest. refl)
      | inr h ↦ elim (cases_Bool (b == 110)) [
        | inl k ↦ rw (h, k) (λ rest. text_put s 10 (read_in inside rest))
        | inr k ↦ elim (cases_Bool (b == 116)) [
          | inl l ↦ rw (h, k, l) (λ rest. text_put s 9 (read_in inside rest))
          | inr l ↦ elim (cases_Bool (b == 92 || b == 34)) [
            | inl m ↦ rw (h, k, l, m) (λ rest. text_put s b (read_in inside rest))
            | inr m ↦ rw (h, k, l, m) (λ rest. refl)
          ]
        ]
      ]
    ]
step_is (One v) b s =
    elim (cases_Bool (is_octal b)) [
      | inl h ↦ rw h (λ rest. refl)
      | inr h ↦ rw h (done_steps s v b)
    ]
step_is (Two v) b s =
    elim (cases_Bool (is_octal b)) [
      | inl h ↦ elim (cases_Bool (nat_le (8 * v + (b - 48)) 255)) [
        | inl k ↦ rw (h, k) (λ rest. text_put s (8 * v + (b - 48)) (read_in inside rest))
        | inr k ↦ rw (h, k) (λ rest. refl)
      ]
      | inr h ↦ rw h (done_steps s v b)
    ]

-- the rest of a list without its first item, as a slice pattern shows it
behind_first : (b : ℕ) (more : List ℕ) → take (length (b ∷ more) - 1) more ≡ more
behind_first b more = take_all (length (b ∷ more) - 1) more (omega arith)

-- one byte of a string more
pub string_next : (s t : List ℕ) (q m : Quoted) (o : Option Quoted) (rest whole : List ℕ) → with_text s (read_in (within q) rest) ≡ read_in inside whole
    → step q (get_or rest 0 0) s ≡ Some (o, t) → o ≡ Some m → 1 ≤ length rest
    → with_text t (read_in (within m) (take (length rest - 1) (drop 1 rest))) ≡ read_in inside whole
string_next s t q m o [] whole is stepped next some = absurd (omega arith)
string_next s t q m o (b ∷ more) whole is stepped next some =
    let steps : Then s (λ rest. read_in (within q) (b ∷ rest)) (Some (Some m, t)) =
    subst (λ r. Then s (λ rest. read_in (within q) (b ∷ rest)) r) (stepped ∙ ap (λ p. Some (p, t)) next) (step_is q b s) in
    ap (λ l. with_text t (read_in (within m) l)) (behind_first b more) ∙ sym (steps more) ∙ is

-- ---- comments and words

comment_read : (rest : List ℕ) → read_in comment rest ≡ Some []
comment_read [] = refl
comment_read (b ∷ rest) = comment_read rest

-- a line that is a comment has no tokens
pub comment_taken : (bytes : List ℕ) → 0 < length bytes → get_or bytes 0 0 ≡ 35 → tokens bytes ≡ Some []
comment_taken [] some is = absurd (omega arith)
comment_taken (b ∷ bytes) some is = let e : b ≡ 35 = is in rw e (comment_read bytes)

-- the bytes up to the first that is not of a word
prefix_each : (more : List ℕ) → Each in_word (take (prefix_len in_word more) more)
prefix_each [] = tt
prefix_each (b ∷ more) =
    elim (cases_Bool (in_word b)) [
      | inl h ↦ let e : 1 + prefix_len in_word more ≡ suc (prefix_len in_word more) = omega arith in rw (h, e) (h, prefix_each more)
      | inr h ↦ rw h tt
    ]

prefix_ends : (more : List ℕ) → begins_word (drop (prefix_len in_word more) more) ≡ false
prefix_ends [] = refl
prefix_ends (b ∷ more) =
    elim (cases_Bool (in_word b)) [
      | inl h ↦ let e : 1 + prefix_len in_word more ≡ suc (prefix_len in_word more) = omega arith in rw (h, e) (prefix_ends more)
      | inr h ↦ rw h h
    ]

-- what is cut off where the bytes of a word end, given by the place of the end as the code has it
record Cut (b : ℕ) (more word behind : List ℕ) : Type 0 where
  end : ℕ
  ends : end ≡ prefix_len in_word more
  front : word ≡ b ∷ take end more
  back : behind ≡ drop end more

cut_of : (b : ℕ) (more word behind : List ℕ) (n : ℕ) → n ≡ prefix_len in_word (take (length (b ∷ more) - 1) (drop 1 (b ∷ more))) → word ≡ take (n + 1) (b ∷ more)
    → behind ≡ drop (n + 1) (b ∷ more) → Cut b more word behind
cut_of b more word behind n end front back = record {
  end = n;
  ends = end ∙ ap (prefix_len in_word) (behind_first b more);
  front = front ∙ ap (λ k. take k (b ∷ more)) (add-one n);
  back = back ∙ ap (λ k. drop k (b ∷ more)) (add-one n);
}

-- a word in front is its token
pub word_taken : (bytes word behind : List ℕ) (n : ℕ) (t : Bool) → 0 < length bytes → t ≡ in_word (get_or bytes 0 0) → t ≡ true
    → n ≡ prefix_len in_word (take (length bytes - 1) (drop 1 bytes)) → word ≡ take (n + 1) bytes → behind ≡ drop (n + 1) bytes
    → tokens bytes ≡ with_token (Word word) (tokens behind)
word_taken [] word behind n t some is yes' end front back = absurd (omega arith)
word_taken (b ∷ more) word behind n t some is yes' end front back =
    let u = cut_of b more word behind n end front back in
    let each : Each in_word (take u.end more) = subst (λ k. Each in_word (take k more)) (sym u.ends) (prefix_each more) in
    let stops : begins_word (drop u.end more) ≡ false = subst (λ k. begins_word (drop k more) ≡ false) (sym u.ends) (prefix_ends more) in
    ap (λ l. tokens (b ∷ l)) (sym (take-append-drop u.end more)) ∙ word_read b (take u.end more) (drop u.end more) (sym is ∙ yes') each stops
    ∙ ap (λ l. with_token (Word l) (tokens (drop u.end more))) (sym u.front) ∙ ap (λ l. with_token (Word word) (tokens l)) (sym u.back)

-- a byte of a word is not zero
not_zero : (b : ℕ) → in_word b ≡ true → is_zero b ≡ false
not_zero b h = grind (arith, nat_tests)

up_to_zero : (word : List ℕ) → Each in_word word → prefix_len (λ b. not (is_zero b)) word ≡ length word
up_to_zero [] each = refl
up_to_zero (b ∷ word) each = rw (not_zero b each.0, up_to_zero word each.1) (omega arith)

no_zero : (word : List ℕ) → Each in_word word → HasNoZero word
no_zero word each = rw (up_to_zero word each, le-ltb (length word) (length word) (omega arith)) refl

-- and has no zero byte
pub word_fits : (bytes word behind : List ℕ) (n : ℕ) (t : Bool) → 0 < length bytes → t ≡ in_word (get_or bytes 0 0) → t ≡ true
    → n ≡ prefix_len in_word (take (length bytes - 1) (drop 1 bytes)) → word ≡ take (n + 1) bytes → behind ≡ drop (n + 1) bytes → HasNoZero word
word_fits [] word behind n t some is yes' end front back = absurd (omega arith)
word_fits (b ∷ more) word behind n t some is yes' end front back =
    let u = cut_of b more word behind n end front back in
    let each : Each in_word (take u.end more) = subst (λ k. Each in_word (take k more)) (sym u.ends) (prefix_each more) in
    subst HasNoZero (sym u.front) (no_zero (b ∷ take u.end more) (sym is ∙ yes', each))

-- what is left after a byte is no longer
pub shorter_next : (rest : List ℕ) (n : ℕ) → length rest ≤ n → length (take (length rest - 1) (drop 1 rest)) ≤ n
shorter_next rest n h = simp (length-take, length-drop) (omega arith)
