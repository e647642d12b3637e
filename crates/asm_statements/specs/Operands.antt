-- The operands of a directive: numbers, names, strings and expressions, by the tokens between commas.
use Rattle.std.specs.Prelude.{ℕ, suc, ◌+◌, ◌*◌, ◌==◌, nat_le, min, Bool, true, false, if◌then◌else◌, List, [], ◌∷◌, ◌++◌, Option, Some, None, unwrap_or}
use Rattle.std.specs.Str.{bytes_eq}
use Rattle.st_base.specs.Numerals.{digit_value as digit_of}
use Rattle.asm_statements.specs.Tokens.{Token, begins_name}
use Rattle.asm_statements.specs.Tokens.Token.{Word, Str, Mark}
use Rattle.asm_statements.specs.declared.statement.Name.{Name}
use Rattle.asm_statements.specs.declared.statement.Name.TheVariants.{Here, Named}
use Rattle.asm_statements.specs.declared.statement.Sum.{Sum}
use Rattle.asm_statements.specs.declared.statement.Plain.{Plain}

-- go on with what is there
infixl 10 ◌>>=◌
abbrev pub ◌>>=◌ : {A B : Type 0} → Option A → (A → Option B) → Option B
None >>= f = None
(Some x) >>= f = f x

-- ---- numbers; one over 4,294,967,295 counts as 4,294,967,296

abbrev pub limit : ℕ
limit = 4294967296

-- the value of a digit of either case; 99 for any other byte
abbrev pub digit_value : ℕ → ℕ
digit_value b = unwrap_or (digit_of b) 99

abbrev pub value_on : ℕ → ℕ → List ℕ → Option ℕ
value_on base v [] = Some v
value_on base v (b ∷ ds) = if nat_le (suc (digit_value b)) base then value_on base (min limit (base * v + digit_value b)) ds else None

-- after `0x`
abbrev pub hex_value : List ℕ → Option ℕ
hex_value [] = None
hex_value (b ∷ ds) = value_on 16 0 (b ∷ ds)

-- after `0`
abbrev pub zero_value : List ℕ → Option ℕ
zero_value [] = Some 0
zero_value (b ∷ ds) = if b == 120 then hex_value ds else value_on 8 0 (b ∷ ds)

abbrev pub number_of : List ℕ → Option ℕ
number_of [] = None
number_of (b ∷ ds) = if b == 48 then zero_value ds else value_on 10 0 (b ∷ ds)

-- ---- names

abbrev pub is_name : List ℕ → Bool
is_name [] = false
is_name (b ∷ bytes) = begins_name b

abbrev pub is_dot : List ℕ → Bool
is_dot w = bytes_eq w (46 ∷ [])

-- ---- expressions

abbrev pub nothing : Sum
nothing = record { added = []; taken = []; more = 0; less = 0; over = false }

abbrev pub with_number : Bool → ℕ → Sum → Sum
with_number minus n s =
    if nat_le limit n then record s { over = true } else (if minus then record s { less = s.less + n } else record s { more = s.more + n })

abbrev pub with_name : Bool → Name → Sum → Sum
with_name minus x s = if minus then record s { taken = s.taken ++ x ∷ [] } else record s { added = s.added ++ x ∷ [] }

-- the value of a word in an expression
abbrev pub with_word : Bool → List ℕ → Sum → Option Sum
with_word minus w s =
    if is_name w then Some (with_name minus (Named w) s)
    else (if is_dot w then Some (with_name minus Here s) else (number_of w >>= λ n. Some (with_number minus n s)))

-- one term more
abbrev pub with_term : Bool → Token → Sum → Option Sum
with_term minus (Word w) s = with_word minus w s
with_term minus (Str t) s = None
with_term minus (Mark b) s = None

-- whether a sign subtracts
abbrev pub sign : Token → Option Bool
sign (Mark m) = if m == 43 then Some false else (if m == 45 then Some true else None)
sign (Word w) = None
sign (Str t) = None

abbrev pub is_minus : Token → Bool
is_minus (Mark m) = m == 45
is_minus (Word w) = false
is_minus (Str t) = false

-- one term with its sign more
abbrev pub with_signed : Token → Token → Sum → Option Sum
with_signed a t s = sign a >>= λ minus. with_term minus t s

-- the terms after the first, each with its sign
abbrev pub terms : Sum → List Token → Option Sum
terms s [] = Some s
terms s (a ∷ []) = None
terms s (a ∷ t ∷ ts) = with_signed a t s >>= λ r. terms r ts

-- the first term and those after it
abbrev pub sum_from : Bool → List Token → Option Sum
sum_from minus [] = None
sum_from minus (t ∷ ts) = with_term minus t nothing >>= λ r. terms r ts

-- the expression that these tokens are
abbrev pub sum_of : List Token → Option Sum
sum_of [] = None
sum_of (t ∷ ts) = if is_minus t then sum_from true ts else sum_from false (t ∷ ts)

-- the number that a token is
abbrev pub number_in : Token → Option ℕ
number_in (Word w) = number_of w
number_in (Str t) = None
number_in (Mark m) = None

abbrev pub plain_with : Bool → ℕ → Plain
plain_with true n = record { more = 0; less = n }
plain_with false n = record { more = n; less = 0 }

-- the number that these tokens are, perhaps with a leading `-`
abbrev pub plain_of : List Token → Option Plain
plain_of [] = None
plain_of (t ∷ []) = number_in t >>= λ n. Some (plain_with false n)
plain_of (a ∷ t ∷ []) = if is_minus a then (number_in t >>= λ n. Some (plain_with true n)) else None
plain_of (a ∷ b ∷ c ∷ ts) = None

abbrev pub size_of : List Token → Option ℕ
size_of [] = None
size_of (t ∷ []) = number_in t
size_of (t ∷ u ∷ ts) = None

abbrev pub name_in : Token → Option (List ℕ)
name_in (Word w) = if is_name w then Some w else None
name_in (Str t) = None
name_in (Mark m) = None

abbrev pub name_of : List Token → Option (List ℕ)
name_of [] = None
name_of (t ∷ []) = name_in t
name_of (t ∷ u ∷ ts) = None

abbrev pub string_in : Token → Option (List ℕ)
string_in (Word w) = None
string_in (Str s) = Some s
string_in (Mark m) = None

abbrev pub string_of : List Token → Option (List ℕ)
string_of [] = None
string_of (t ∷ []) = string_in t
string_of (t ∷ u ∷ ts) = None

-- ---- operands: the tokens between commas

abbrev pub put_piece : Token → List (List Token) → List (List Token)
put_piece t [] = (t ∷ []) ∷ []
put_piece t (p ∷ ps) = (t ∷ p) ∷ ps

abbrev pub is_comma : Token → Bool
is_comma (Mark m) = m == 44
is_comma (Word w) = false
is_comma (Str s) = false

abbrev pub pieces : List Token → List (List Token)
pieces [] = [] ∷ []
pieces (t ∷ ts) = if is_comma t then [] ∷ pieces ts else put_piece t (pieces ts)
