-- A run of words of basic types: its first five words decide, since no type is spelled by so many.
use Rattle.std.proofs.Common.{◌≡◌, ℕ, ◌+◌, ◌<◌, ◌≤◌, true, false, List, [], ◌∷◌, ◌++◌, length, take, Option, None, refl, sym, ap, ◌∙◌, arith, append_assoc}
use Rattle.std.specs.Prelude.{slice_set}
use Rattle.std.proofs.lemmas.List.{take_all, take_more_set}
use Rattle.c_tokens.specs.declared.words.BasicWord.{BasicWord}
use Rattle.c_tokens.specs.declared.words.BasicWord.TheVariants.{Int, Char, Short, Long, Signed, Unsigned}
use Rattle.c_tokens.specs.Tokens.{Token}
use Rattle.c_tokens.specs.Words.{basic_type}
use Rattle.c_tokens.specs.Words.Piece.{word, plain}
use Rattle.c_tokens.specs.Scanning.{Placed, words, merged}

-- no type is spelled by five words or more
over_long : (a b c d e : BasicWord) (ws : List BasicWord) → basic_type (a ∷ b ∷ c ∷ d ∷ e ∷ ws) ≡ None
over_long Int b c d e ws = refl
over_long Char b c d e ws = refl
over_long Signed Char c d e ws = refl
over_long Signed b c d e ws = refl
over_long Short Int c d e ws = refl
over_long Short b c d e ws = refl
over_long Long Int c d e ws = refl
over_long Long Long Int d e ws = refl
over_long Long Long c d e ws = refl
over_long Long b c d e ws = refl
over_long Unsigned Int c d e ws = refl
over_long Unsigned Char c d e ws = refl
over_long Unsigned Short Int d e ws = refl
over_long Unsigned Short c d e ws = refl
over_long Unsigned Long Int d e ws = refl
over_long Unsigned Long Long Int e ws = refl
over_long Unsigned Long Long d e ws = refl
over_long Unsigned Long c d e ws = refl
over_long Unsigned b c d e ws = refl

-- behind five words nothing changes
pub five_decide : (front behind : List BasicWord) (w : BasicWord) → length front ≡ 5 → basic_type (front ++ w ∷ behind) ≡ basic_type (front ++ behind)
five_decide (a ∷ b ∷ c ∷ d ∷ e ∷ []) behind w is = over_long a b c d e (w ∷ behind) ∙ sym (over_long a b c d e behind)
five_decide front behind w is = absurd (omega arith)

-- where no word stands in front, it does not matter whether a run was told
pub none_told : (ps : List Placed) → words ps ≡ [] → merged true ps ≡ merged false ps
none_told [] none = refl
none_told ((plain k text n, line) ∷ ps) none = refl
none_told ((word w, line) ∷ ps) none = absurd (cc)

-- ---- one word more, as the code takes it

-- it is put behind those that were taken
pub word_put : (taken : List BasicWord) (n : ℕ) (w : BasicWord) (ps rest : List Placed) (line : ℕ) (type : Option ℕ) → n < length taken
    → basic_type (take n taken ++ words ps) ≡ type → ps ≡ (word w, line) ∷ rest → basic_type (take (n + 1) (slice_set taken n w) ++ words rest) ≡ type
word_put taken n w ps rest line type room is front =
    ap (λ l. basic_type (l ++ words rest)) (take_more_set taken n w room) ∙ ap basic_type (append_assoc (take n taken) (w ∷ []) (words rest))
    ∙ ap (λ l. basic_type (take n taken ++ words l)) (sym front) ∙ is

-- it is left out behind five
pub word_left_out : (taken : List BasicWord) (n : ℕ) (w : BasicWord) (ps rest : List Placed) (line : ℕ) (type : Option ℕ) → length taken ≡ 5 → 5 ≤ n
    → basic_type (take n taken ++ words ps) ≡ type → ps ≡ (word w, line) ∷ rest → basic_type (take n taken ++ words rest) ≡ type
word_left_out taken n w ps rest line type five full is front =
    let all : take n taken ≡ taken = take_all n taken (omega arith) in
    let here : basic_type (take n taken ++ words rest) ≡ basic_type (taken ++ words rest) = ap (λ l. basic_type (l ++ words rest)) all in
    here ∙ sym (five_decide taken (words rest) w five) ∙ ap (λ l. basic_type (taken ++ words l)) (sym front) ∙ ap (λ l. basic_type (l ++ words ps)) (sym all) ∙ is

-- the run goes on
pub run_goes_on : (w : BasicWord) (ps rest : List Placed) (line : ℕ) (ts : List Token) → merged true ps ≡ ts → ps ≡ (word w, line) ∷ rest → merged true rest ≡ ts
run_goes_on w ps rest line ts is front = ap (merged true) (sym front) ∙ is

-- the run ends
pub run_ends : (old new : List Placed) (ts : List Token) → merged true old ≡ ts → (words old ≡ []) × (new ≡ old) → ts ≡ merged false new
run_ends old new ts is end = sym is ∙ none_told old end.0 ∙ ap (merged false) (sym end.1)
