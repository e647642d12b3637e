-- The laws of the parts of a type that hold no type: numbers, numerals, choices, tags.
use Rattle.std.proofs.Common.{◌≡◌, ℕ, ◌⊎◌, inl, inr, true, false, eqb, List, [], ◌∷◌, ◌++◌, refl, ap, subst, ◌∙◌, arith}
use Rattle.std.specs.Prelude.{decimal, nat_le, ◌||◌}
use Rattle.std.proofs.lemmas.Bool.{leb-true, and_parts, and_from, or_right}
use Rattle.readers.specs.Spelling.{none, ended, all_of}
use Rattle.readers.specs.Readers.{seq, made, choose, done, byte_at, closed, many}
use Rattle.readers.specs.Words.{is_digit, number_at, name_at, is_name, is_digits}
use Rattle.readers.proofs.Cuts.{any, any_after, none-append}
use Rattle.readers.proofs.Laws.{Laws, leaf}
use Rattle.readers.proofs.Seq.{seq_laws}
use Rattle.readers.proofs.Made.{Of, made_laws}
use Rattle.readers.proofs.Recast.{reshape_laws, leafed}
use Rattle.readers.proofs.Choose.{Apart, choose_laws}
use Rattle.readers.proofs.Closed.{empty_form, byte_form, byte_laws, done_laws, closed_form, closed_laws}
use Rattle.readers.proofs.Many.{many_laws}
use Rattle.readers.proofs.Numbers.{no_digit}
use Rattle.readers.proofs.Starts.{Starts, apart_of, starts_as, starts_decimal}
use Rattle.readers.proofs.Tests.{each_from, each_to, number_part, name_part, digits_part, starts_digits, name_apart}
use Rattle.stab_symbols.specs.declared.limits.TheConstants.{GREATEST_FILE, GREATEST_NUMBER, MOST_DIGITS}
use Rattle.stab_symbols.specs.declared.tree.Num.{Num}
use Rattle.stab_symbols.specs.declared.tree.Num.TheVariants.{Plain, Pair}
use Rattle.stab_symbols.specs.declared.tree.Numeral.{Numeral}
use Rattle.stab_symbols.specs.declared.tree.Numeral.TheVariants.{Unbounded, Digits}
use Rattle.stab_symbols.specs.declared.tree.Tag.{Tag}
use Rattle.stab_symbols.specs.declared.tree.Tag.TheVariants as tags
use Rattle.stab_symbols.specs.declared.tree.Choice.{Choice}
use Rattle.stab_symbols.specs.SymbolSpelling.{num, numeral, tag_letter, choice}
use Rattle.stab_symbols.specs.Shape.{refused, refused_item, num_ok, numeral_ok, value_ok, choice_ok}
use Rattle.stab_grammar.specs.Grammar.{plain_number, a_pair, num_at, unbounded, digits_at, value_at, numeral_at, a_choice, choice_at, a_struct_tag, a_union_tag, an_enum_tag, tag_at, cross_at, real_at}

-- ---- numbers

-- at most the greatest number
abbrev pub NumberOk : ℕ → Type 0
NumberOk k = nat_le k GREATEST_NUMBER ≡ true

-- at most the greatest file
abbrev pub FileOk : ℕ → Type 0
FileOk k = nat_le k GREATEST_FILE ≡ true

-- a number, a size, a bit position
pub plain_part : (n : ℕ) → Laws n plain_number (leaf decimal NumberOk) no_digit
plain_part n = number_part n GREATEST_NUMBER (omega arith) (omega arith)

-- a number begins with a digit
pub starts_number : (k : ℕ) → NumberOk k → Starts is_digit (decimal k)
starts_number k e = let le = leb-true k GREATEST_NUMBER e in starts_decimal k (omega (arith, le))

-- a number and the byte after it
pub number_and_part : (n b : ℕ) → no_digit b ≡ true → Laws n (closed plain_number b) (closed_form (leaf decimal NumberOk) b) any
number_and_part n b other = closed_laws n plain_number _ no_digit (plain_part n) b other

-- ---- type numbers

-- where types begin in a type number: nowhere
abbrev num_depths : Num → List ℕ
num_depths (Plain k) = none (decimal k)
num_depths (Pair f k) = 0 ∷ ((none (decimal f) ++ (0 ∷ [])) ++ (none (decimal k) ++ (0 ∷ [])))

-- no type begins in a type number
num_plain : (t : Num) → none (num t) ≡ num_depths t
num_plain (Plain k) = refl
num_plain (Pair f k) = ap (λ (z : List ℕ). 0 ∷ z) (none-append (decimal f ++ 44 ∷ []) (decimal k ++ 41 ∷ []) ∙ ap (λ (z : List ℕ). z ++ none (decimal k ++ 41 ∷ [])) (none-append (decimal f) (44 ∷ [])) ∙ ap (λ (z : List ℕ). (none (decimal f) ++ (0 ∷ [])) ++ z) (none-append (decimal k) (41 ∷ [])))

-- a number alone
abbrev PlainNumber : Num → Type 0
PlainNumber = Of Plain NumberOk

-- a file and a number
abbrev PairParts : ℕ × ℕ → Type 0
PairParts p = FileOk p.0 × NumberOk p.1

-- a type number with a spelling
abbrev pub NumOk : Num → Type 0
NumOk t = num_ok t ≡ true

-- either is one
num_to : (t : Num) → Of a_pair PairParts t ⊎ PlainNumber t → NumOk t
num_to t (inl f) = let w : NumOk (a_pair f.0) = and_from (nat_le f.0.0 GREATEST_FILE) (nat_le f.0.1 GREATEST_NUMBER) f.1.0 f.1.1 in subst NumOk f.2 w
num_to t (inr f) = let w : NumOk (Plain f.0) = f.1 in subst NumOk f.2 w

-- and each is one of the two
num_from : (t : Num) → NumOk t → Of a_pair PairParts t ⊎ PlainNumber t
num_from (Plain k) e = inr (k, e, refl)
num_from (Pair f k) e = let m = and_parts (nat_le f GREATEST_FILE) (nat_le k GREATEST_NUMBER) e in inl ((f, k), (m.0, m.1), refl)

-- a plain number doesn't begin with `(`
plain_apart : (t : Num) → PlainNumber t → Apart 40 (num t)
plain_apart t f = let w : Apart 40 (num (Plain f.0)) = apart_of is_digit 40 refl (decimal f.0) (starts_number f.0 f.1) in subst (λ (z : Num). Apart 40 (num z)) f.2 w

-- a type number keeps the laws
pub num_part : (n : ℕ) → Laws n num_at (leaf num NumOk) no_digit
unfolding num_at
num_part n =
    let small = number_part n GREATEST_FILE (omega arith) (omega arith) in
    let first = closed_laws n (number_at GREATEST_FILE) _ no_digit small 44 refl in
    let both = seq_laws n (closed (number_at GREATEST_FILE) 44) _ any first (closed plain_number 41) _ any (number_and_part n 41 refl) (λ k rest f after. any_after _) 0 refl in
    let pairs = reshape_laws n (seq (closed (number_at GREATEST_FILE) 44) (closed plain_number 41)) _ any both PairParts no_digit (λ p f. f) (λ p f. f) (λ c e. refl) in
    let plains = made_laws n plain_number _ no_digit (plain_part n) Plain num num_depths (λ k f. refl) (λ k f. refl) in
    let all = choose_laws n (seq (closed (number_at GREATEST_FILE) 44) (closed plain_number 41)) _ no_digit pairs a_pair 40 num num_depths (λ p. refl) (λ p. refl) (made Plain plain_number) PlainNumber plains plain_apart (0, 0) (refl, refl) in
    leafed n num_at _ no_digit all num_plain NumOk no_digit num_to num_from (λ c e. e)

-- a type number begins with `(` or a digit
pub starts_num : (t : Num) → NumOk t → Starts (λ b. eqb b 40 || is_digit b) (num t)
starts_num (Plain k) e = starts_as is_digit (λ b. eqb b 40 || is_digit b) (λ b h. or_right (eqb b 40) (is_digit b) h) (decimal k) (starts_number k e)
starts_num (Pair f k) e = refl

-- ---- numerals

-- 1 to 40 digits
abbrev DigitsOk : List ℕ → Type 0
DigitsOk ds = is_digits MOST_DIGITS ds ≡ true

-- they keep the laws
digits : (n : ℕ) → Laws n digits_at (leaf (λ ds. ds) DigitsOk) no_digit
digits n = digits_part n 39

-- a value with a spelling
abbrev pub ValueOk : Numeral → Type 0
ValueOk t = value_ok t ≡ true

-- with or without `-`
value_to : (t : Numeral) → Of (Digits true) DigitsOk t ⊎ Of (Digits false) DigitsOk t → ValueOk t
value_to t (inl f) = let w : ValueOk (Digits true f.0) = f.1 in subst ValueOk f.2 w
value_to t (inr f) = let w : ValueOk (Digits false f.0) = f.1 in subst ValueOk f.2 w

-- it is one of the two
value_from : (t : Numeral) → ValueOk t → Of (Digits true) DigitsOk t ⊎ Of (Digits false) DigitsOk t
value_from Unbounded e = absurd cc
value_from (Digits true ds) e = inl (ds, e, refl)
value_from (Digits false ds) e = inr (ds, e, refl)

-- digits don't begin with `-`
minus_apart : (t : Numeral) → Of (Digits false) DigitsOk t → Apart 45 (numeral t)
minus_apart t f = let w : Apart 45 (numeral (Digits false f.0)) = apart_of is_digit 45 refl f.0 (starts_digits 40 f.0 f.1) in subst (λ (z : Numeral). Apart 45 (numeral z)) f.2 w

-- no type begins in a numeral
abbrev numeral_depths : Numeral → List ℕ
numeral_depths t = none (numeral t)

-- a value keeps the laws
pub value_part : (n : ℕ) → Laws n value_at (leaf numeral ValueOk) no_digit
unfolding value_at
value_part n =
    let plus = made_laws n digits_at _ no_digit (digits n) (Digits false) numeral numeral_depths (λ ds f. refl) (λ ds f. refl) in
    let all = choose_laws n digits_at _ no_digit (digits n) (Digits true) 45 numeral numeral_depths (λ ds. refl) (λ ds. refl) (made (Digits false) digits_at) (Of (Digits false) DigitsOk) plus minus_apart (48 ∷ []) refl in
    reshape_laws n value_at _ no_digit all ValueOk no_digit value_to value_from (λ c e. e)

-- a numeral with a spelling
abbrev pub NumeralOk : Numeral → Type 0
NumeralOk t = numeral_ok t ≡ true

-- `J` or a value is one
numeral_to : (t : Numeral) → Of unbounded (λ u. Unit {0}) t ⊎ ValueOk t → NumeralOk t
numeral_to t (inl f) = let w : NumeralOk Unbounded = refl in subst NumeralOk f.2 w
numeral_to Unbounded (inr e) = refl
numeral_to (Digits negative ds) (inr e) = e

-- and each is one of the two
numeral_from : (t : Numeral) → NumeralOk t → Of unbounded (λ u. Unit {0}) t ⊎ ValueOk t
numeral_from Unbounded e = inl (tt, tt, refl)
numeral_from (Digits negative ds) e = inr e

-- a value doesn't begin with `J`
value_apart : (t : Numeral) → ValueOk t → Apart 74 (numeral t)
value_apart Unbounded e = absurd cc
value_apart (Digits true ds) e = refl
value_apart (Digits false ds) e = apart_of is_digit 74 refl ds (starts_digits 40 ds e)

-- a numeral keeps the laws
pub numeral_part : (n : ℕ) → Laws n numeral_at (leaf numeral NumeralOk) no_digit
unfolding numeral_at
numeral_part n =
    let end = reshape_laws n done _ any (done_laws n) (λ u. Unit {0}) no_digit (λ u f. f) (λ u f. f) (λ c e. refl) in
    let all = choose_laws n done _ no_digit end unbounded 74 numeral numeral_depths (λ u. refl) (λ u. refl) value_at ValueOk (value_part n) value_apart tt tt in
    reshape_laws n numeral_at _ no_digit all NumeralOk no_digit numeral_to numeral_from (λ c e. e)

-- a numeral and `;`
pub numeral_and_part : (n : ℕ) → Laws n (closed numeral_at 59) (closed_form (leaf numeral NumeralOk) 59) any
numeral_and_part n = closed_laws n numeral_at _ no_digit (numeral_part n) 59 refl

-- ---- choices

-- a choice with a spelling
abbrev pub ChoiceOk : Choice → Type 0
ChoiceOk c = choice_ok c ≡ true

-- where types begin in a choice: nowhere
abbrev choice_depths : Choice → List ℕ
choice_depths c = none (c.name ++ 58 ∷ []) ++ (none (numeral c.number) ++ (0 ∷ []))

-- no type begins in a choice
choice_plain : (c : Choice) → none (choice c) ≡ choice_depths c
choice_plain c = none-append (c.name ++ 58 ∷ []) (numeral c.number ++ 44 ∷ []) ∙ ap (λ (z : List ℕ). none (c.name ++ 58 ∷ []) ++ z) (none-append (numeral c.number) (44 ∷ []))

-- a name of a field or choice
abbrev pub ItemNameOk : List ℕ → Type 0
ItemNameOk name = is_name refused_item 58 name ≡ true

-- the name of a field or choice, and `:`
pub item_name_part : (n : ℕ) → Laws n (name_at refused_item 58) (leaf (λ name. name ++ (58 ∷ [])) ItemNameOk) any
item_name_part n = name_part n refused_item 58

-- no field and no choice begins with `;`
pub item_apart : (name rest : List ℕ) → ItemNameOk name → Apart 59 ((name ++ 58 ∷ []) ++ rest)
item_apart = name_apart refused_item 58 59 refl refl

-- a name and a value
abbrev ChoiceParts : List ℕ × Numeral → Type 0
ChoiceParts p = ItemNameOk p.0 × ValueOk p.1

-- they make a choice with a spelling
choice_to : (c : Choice) → Of a_choice ChoiceParts c → ChoiceOk c
choice_to c f = let w : ChoiceOk (a_choice f.0) = and_from (is_name refused_item 58 f.0.0) (value_ok f.0.1) f.1.0 f.1.1 in subst ChoiceOk f.2 w

-- and each is made so
choice_from : (c : Choice) → ChoiceOk c → Of a_choice ChoiceParts c
choice_from c e = ((c.name, c.number), and_parts (is_name refused_item 58 c.name) (value_ok c.number) e, refl)

-- a choice keeps the laws
pub choice_part : (n : ℕ) → Laws n choice_at (leaf choice ChoiceOk) any
unfolding choice_at
choice_part n =
    let value = closed_laws n value_at _ no_digit (value_part n) 44 refl in
    let both = seq_laws n (name_at refused_item 58) _ any (item_name_part n) (closed value_at 44) _ any value (λ v rest f after. any_after _) (Digits false (48 ∷ [])) refl in
    let all = made_laws n (seq (name_at refused_item 58) (closed value_at 44)) _ any both a_choice choice choice_depths (λ p f. refl) (λ p f. refl) in
    leafed n choice_at _ any all choice_plain ChoiceOk any choice_to choice_from (λ c e. e)

-- choices with spellings
abbrev pub ChoicesOk : List Choice → Type 0
ChoicesOk cs = all_of choice_ok cs ≡ true

-- no type begins in choices
choices_plain : (cs : List Choice) → none (ended choice (59 ∷ []) cs) ≡ ended (λ c. none (choice c)) (0 ∷ []) cs
choices_plain [] = refl
choices_plain (c ∷ cs) = none-append (choice c) (ended choice (59 ∷ []) cs) ∙ ap (λ (z : List ℕ). none (choice c) ++ z) (choices_plain cs)

-- choices and `;` keep the laws
pub choices_part : (n : ℕ) → Laws n (many 59 choice_at) (leaf (ended choice (59 ∷ [])) ChoicesOk) any
choices_part n =
    let all = many_laws n choice_at _ (choice_part n) 59 (λ c e. item_apart c.name (numeral c.number ++ 44 ∷ []) (and_parts (is_name refused_item 58 c.name) (value_ok c.number) e).0) in
    leafed n (many 59 choice_at) _ any all choices_plain ChoicesOk any (λ cs e. each_to choice_ok cs e) (λ cs e. each_from choice_ok cs e) (λ c e. e)

-- ---- cross references

-- the letter of a tag
abbrev tag_print : Tag → List ℕ
tag_print t = tag_letter t ∷ []

-- no type begins there
abbrev tag_depths : Tag → List ℕ
tag_depths t = 0 ∷ []

-- whatever it is
abbrev Always : Unit {0} → Type 0
Always u = Unit {0}

-- each tag has a letter
tag_from : (t : Tag) → Unit {0} → Of a_struct_tag Always t ⊎ (Of a_union_tag Always t ⊎ Of an_enum_tag Always t)
tag_from tags.Struct u = inl (tt, tt, refl)
tag_from tags.Union u = inr (inl (tt, tt, refl))
tag_from tags.Enum u = inr (inr (tt, tt, refl))

-- `e` is not `u`
enum_apart : (t : Tag) → Of an_enum_tag Always t → Apart 117 (tag_print t)
enum_apart t f = let w : Apart 117 (tag_print tags.Enum) = refl in subst (λ (z : Tag). Apart 117 (tag_print z)) f.2 w

-- nor are `u` and `e` `s`
others_apart : (t : Tag) → Of a_union_tag Always t ⊎ Of an_enum_tag Always t → Apart 115 (tag_print t)
others_apart t (inl f) = let w : Apart 115 (tag_print tags.Union) = refl in subst (λ (z : Tag). Apart 115 (tag_print z)) f.2 w
others_apart t (inr f) = let w : Apart 115 (tag_print tags.Enum) = refl in subst (λ (z : Tag). Apart 115 (tag_print z)) f.2 w

-- a tag keeps the laws
tag_part : (n : ℕ) → Laws n tag_at (leaf tag_print (λ t. Unit {0})) any
unfolding tag_at
tag_part n =
    let enums = made_laws n (byte_at 101) (byte_form 101) any (byte_laws n 101) an_enum_tag tag_print tag_depths (λ u f. refl) (λ u f. refl) in
    let unions = choose_laws n done empty_form any (done_laws n) a_union_tag 117 tag_print tag_depths (λ u. refl) (λ u. refl) (made an_enum_tag (byte_at 101)) _ enums enum_apart tt tt in
    let all = choose_laws n done empty_form any (done_laws n) a_struct_tag 115 tag_print tag_depths (λ u. refl) (λ u. refl) (choose 117 (made a_union_tag done) (made an_enum_tag (byte_at 101))) _ unions others_apart tt tt in
    leafed n tag_at _ any all (λ t. refl) (λ t. Unit {0}) any (λ t f. tt) tag_from (λ c e. e)

-- a name of a symbol or of a cross reference
abbrev pub NameOk : List ℕ → Type 0
NameOk name = is_name refused 58 name ≡ true

-- the name of a symbol or of a cross reference, and `:`
pub symbol_name_part : (n : ℕ) → Laws n (name_at refused 58) (leaf (λ name. name ++ (58 ∷ [])) NameOk) any
symbol_name_part n = name_part n refused 58

-- a tag and a name
abbrev pub CrossParts : Tag × List ℕ → Type 0
CrossParts p = Unit {0} × NameOk p.1

-- they keep the laws
pub cross_part : (n : ℕ) → Laws n cross_at (record { print = λ p. tag_letter p.0 ∷ (p.1 ++ 58 ∷ []); depths = λ p. 0 ∷ none (p.1 ++ 58 ∷ []); shaped = CrossParts }) any
unfolding cross_at
cross_part n = seq_laws n tag_at _ any (tag_part n) (name_at refused 58) _ any (symbol_name_part n) (λ name rest f after. any_after _) [] refl

-- ---- floating point types

-- three numbers
abbrev pub RealParts : ℕ × (ℕ × ℕ) → Type 0
RealParts p = NumberOk p.0 × (NumberOk p.1.0 × NumberOk p.1.1)

-- they keep the laws
pub real_part : (n : ℕ) → Laws n real_at (record { print = λ p. (decimal p.0 ++ 59 ∷ []) ++ ((decimal p.1.0 ++ 59 ∷ []) ++ (decimal p.1.1 ++ 59 ∷ [])); depths = λ p. (none (decimal p.0) ++ 0 ∷ []) ++ ((none (decimal p.1.0) ++ 0 ∷ []) ++ (none (decimal p.1.1) ++ 0 ∷ [])); shaped = RealParts }) any
unfolding real_at
real_part n =
    let one = number_and_part n 59 refl in
    let two = seq_laws n (closed plain_number 59) _ any one (closed plain_number 59) _ any one (λ k rest f after. any_after _) 0 refl in
    seq_laws n (closed plain_number 59) _ any one (seq (closed plain_number 59) (closed plain_number 59)) _ any two (λ k rest f after. any_after _) (0, 0) (refl, refl)
