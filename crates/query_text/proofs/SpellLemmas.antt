-- The words that ask a query spell it.
use Rattle.std.proofs.Common.{◌≡◌, ◌≤◌, ◌<◌, ◌^◌, ℕ, ◌+◌, Bool, true, false, cond, List, [], ◌∷◌, Option, Some, None, refl, sym, ap, ◌∙◌, subst, arith}
use Rattle.std.specs.Prelude.{Result, Ok, Err, codes, decimal, is_some, unwrap_or, IfSome, IfOk}
use Rattle.std.proofs.lemmas.Bool.{and_parts}
use Rattle.std.proofs.lemmas.Slice.Eq.{bytes_eq-Decides}
use Rattle.readers.proofs.WholeNumbers.{found_of}
use Rattle.st_base.specs.declared.fault.Refused.{Refused}
use Rattle.query_text.specs.declared.query.Query.{Query}
use Rattle.query_text.specs.declared.want.TheConstants.{GREATEST_NUMBER, GREATEST_LINE}
use Rattle.query_text.specs.declared.want.Keyword.{Keyword}
use Rattle.query_text.specs.declared.want.Keyword.TheVariants as keywords
use Rattle.query_text.specs.declared.want.Want.{Want}
use Rattle.query_text.specs.declared.want.Want.TheVariants as wants
use Rattle.query_text.specs.WordPlaces.{holds, is_text, wrong_from, wrong_place}
use Rattle.query_text.specs.QueryWords.{is_wanted, keyword_text, spelled_number, number_of, line_of, spelled_address, address_of}
use Rattle.query_text.specs.Queries.{places_of, query_of, form_from, go_on, form_of, asked, asked_by, all_keywords, Spell, Reads}

-- ---- a word that is wanted

-- the place of a query holds what it wants
abbrev Holds : Want → List ℕ → Type 0
Holds want word = holds is_wanted want word ≡ true

keyword : (k : Keyword) (word : List ℕ) → Holds (wants.This k) word → word ≡ keyword_text k
keyword k word e = (bytes_eq-Decides word (keyword_text k)).0 (and_parts (is_text word) (is_wanted (wants.This k) word) e).1

spelled : (most : ℕ) (o : Option ℕ) (word : List ℕ) → is_some o ≡ true → IfSome o (λ n. (n ≤ most) × (word ≡ decimal n)) → (word ≡ decimal (unwrap_or o 0)) × (unwrap_or o 0 ≤ most)
spelled most None word e h = absurd cc
spelled most (Some n) word e h = (h.1, h.0)

number : (word : List ℕ) → Holds wants.Number word → (word ≡ decimal (number_of word)) × (number_of word ≤ GREATEST_NUMBER)
number word e =
    let nine : 9 ≤ GREATEST_NUMBER = omega arith in
    let small : GREATEST_NUMBER < 2 ^ 64 = omega arith in
    spelled GREATEST_NUMBER (spelled_number GREATEST_NUMBER word) word (and_parts (is_text word) (is_wanted wants.Number word) e).1
    (found_of GREATEST_NUMBER nine small word (spelled_number GREATEST_NUMBER word) refl)

line : (word : List ℕ) → Holds wants.Line word → (word ≡ decimal (line_of word)) × (line_of word ≤ GREATEST_LINE)
line word e =
    let nine : 9 ≤ GREATEST_LINE = omega arith in
    let small : GREATEST_LINE < 2 ^ 64 = omega arith in
    spelled GREATEST_LINE (spelled_number GREATEST_LINE word) word (and_parts (is_text word) (is_wanted wants.Line word) e).1
    (found_of GREATEST_LINE nine small word (spelled_number GREATEST_LINE word) refl)

any : (word : List ℕ) → Holds wants.Any word → is_text word ≡ true
any word e = (and_parts (is_text word) (is_wanted wants.Any word) e).0

there : (o : Option ℕ) → is_some o ≡ true → o ≡ Some (unwrap_or o 0)
there None e = absurd cc
there (Some n) e = refl

address : (word : List ℕ) → Holds wants.Address word → spelled_address word ≡ Some (address_of word)
address word e = there (spelled_address word) (and_parts (is_text word) (is_wanted wants.Address word) e).1

-- ---- words that are what places want

module _ (P : List (List ℕ) → Type 0) where
  none : (at : ℕ) → P [] → (words : List (List ℕ)) → wrong_from is_wanted at [] words ≡ None → P words
  none at p [] e = p
  none at p (word ∷ words) e = absurd cc

module _ (P : List (List ℕ) → Type 0) (at : ℕ) (want : Want) (places : List Want)
    (each : (word : List ℕ) → Holds want word → (words : List (List ℕ)) → wrong_from is_wanted (at + 1) places words ≡ None → P (word ∷ words)) where
  more : (words : List (List ℕ)) → wrong_from is_wanted at (want ∷ places) words ≡ None → P words
  more [] e = absurd cc
  more (word ∷ words) e = by_test (holds is_wanted want word) refl e where
    by_test : (b : Bool) → holds is_wanted want word ≡ b → cond b (wrong_from is_wanted (at + 1) places words) (Some at) ≡ None → P (word ∷ words)
    by_test true h e = each word h words e
    by_test false h e = absurd cc

-- what holds of one, two, three or four words that places want holds of all words that they want
one : (P : List (List ℕ) → Type 0) (p : Want) → ((a : List ℕ) → Holds p a → P (a ∷ [])) → (words : List (List ℕ)) → wrong_place is_wanted (p ∷ []) words ≡ None → P words
one P p each = more P 0 p [] (λ a h. none (λ ws. P (a ∷ ws)) 1 (each a h))

two : (P : List (List ℕ) → Type 0) (p q : Want) → ((a b : List ℕ) → Holds p a → Holds q b → P (a ∷ b ∷ []))
    → (words : List (List ℕ)) → wrong_place is_wanted (p ∷ q ∷ []) words ≡ None → P words
two P p q each =
    more P 0 p (q ∷ []) (λ a h. more (λ ws. P (a ∷ ws)) 1 q [] (λ b i. none (λ ws. P (a ∷ b ∷ ws)) 2 (each a b h i)))

three : (P : List (List ℕ) → Type 0) (p q r : Want) → ((a b c : List ℕ) → Holds p a → Holds q b → Holds r c → P (a ∷ b ∷ c ∷ []))
    → (words : List (List ℕ)) → wrong_place is_wanted (p ∷ q ∷ r ∷ []) words ≡ None → P words
three P p q r each =
    more P 0 p (q ∷ r ∷ []) (λ a h. more (λ ws. P (a ∷ ws)) 1 q (r ∷ []) (λ b i. more (λ ws. P (a ∷ b ∷ ws)) 2 r []
    (λ c j. none (λ ws. P (a ∷ b ∷ c ∷ ws)) 3 (each a b c h i j))))

four : (P : List (List ℕ) → Type 0) (p q r s : Want)
    → ((a b c d : List ℕ) → Holds p a → Holds q b → Holds r c → Holds s d → P (a ∷ b ∷ c ∷ d ∷ []))
    → (words : List (List ℕ)) → wrong_place is_wanted (p ∷ q ∷ r ∷ s ∷ []) words ≡ None → P words
four P p q r s each =
    more P 0 p (q ∷ r ∷ s ∷ []) (λ a h. more (λ ws. P (a ∷ ws)) 1 q (r ∷ s ∷ []) (λ b i. more (λ ws. P (a ∷ b ∷ ws)) 2 r (s ∷ [])
    (λ c j. more (λ ws. P (a ∷ b ∷ c ∷ ws)) 3 s [] (λ d k. none (λ ws. P (a ∷ b ∷ c ∷ d ∷ ws)) 4 (each a b c d h i j k)))))

-- ---- the words of each form

abbrev Spells : Keyword → List (List ℕ) → Type 0
Spells k words = Spell words (query_of k words)

-- lists of equal words
same_1 : (a a2 : List ℕ) → a ≡ a2 → ◌≡◌ {A = List (List ℕ)} (a ∷ []) (a2 ∷ [])
same_1 a a2 e = cc

same_2 : (a a2 b b2 : List ℕ) → a ≡ a2 → b ≡ b2 → ◌≡◌ {A = List (List ℕ)} (a ∷ b ∷ []) (a2 ∷ b2 ∷ [])
same_2 a a2 b b2 e f = cc

same_3 : (a a2 b b2 c : List ℕ) → a ≡ a2 → b ≡ b2 → ◌≡◌ {A = List (List ℕ)} (a ∷ b ∷ c ∷ []) (a2 ∷ b2 ∷ c ∷ [])
same_3 a a2 b b2 c e f = cc

same_4 : (a a2 b b2 c c2 d d2 : List ℕ) → a ≡ a2 → b ≡ b2 → c ≡ c2 → d ≡ d2
    → ◌≡◌ {A = List (List ℕ)} (a ∷ b ∷ c ∷ d ∷ []) (a2 ∷ b2 ∷ c2 ∷ d2 ∷ [])
same_4 a a2 b b2 c c2 d d2 e f g h = cc

pub spell : (k : Keyword) (words : List (List ℕ)) → wrong_place is_wanted (places_of k) words ≡ None → Spells k words
spell keywords.Units =
    one (Spells keywords.Units) (wants.This keywords.Units) (λ a e. same_1 a (codes "units") (keyword keywords.Units a e))
spell keywords.Files =
    two (Spells keywords.Files) (wants.This keywords.Files) wants.Number
    (λ a b e f. (same_2 a (codes "files") b (decimal (number_of b)) (keyword keywords.Files a e) (number b f).0, (number b f).1))
spell keywords.Tag =
    three (Spells keywords.Tag) (wants.This keywords.Tag) wants.Number wants.Any
    (λ a b c e f g. (same_3 a (codes "tag") b (decimal (number_of b)) c (keyword keywords.Tag a e) (number b f).0, (number b f).1, any c g))
spell keywords.Type =
    three (Spells keywords.Type) (wants.This keywords.Type) wants.Number wants.Any
    (λ a b c e f g. (same_3 a (codes "type") b (decimal (number_of b)) c (keyword keywords.Type a e) (number b f).0, (number b f).1, any c g))
spell keywords.Number =
    four (Spells keywords.Number) (wants.This keywords.Number) wants.Number wants.Number wants.Number
    (λ a b c d e f g h. (
      same_4 a (codes "number") b (decimal (number_of b)) c (decimal (number_of c)) d (decimal (number_of d))
          (keyword keywords.Number a e) (number b f).0 (number c g).0 (number d h).0,
      (number b f).1,
      (number c g).1,
      (number d h).1,
    ))
spell keywords.Scope =
    two (Spells keywords.Scope) (wants.This keywords.Scope) wants.Address
    (λ a b e f. (b, same_2 a (codes "scope") b b (keyword keywords.Scope a e) refl, address b f))
spell keywords.Line =
    two (Spells keywords.Line) (wants.This keywords.Line) wants.Address
    (λ a b e f. (b, same_2 a (codes "line") b b (keyword keywords.Line a e) refl, address b f))
spell keywords.Addresses =
    three (Spells keywords.Addresses) (wants.This keywords.Addresses) wants.Any wants.Line
    (λ a b c e f g. (same_addresses a b c (keyword keywords.Addresses a e) (line c g).0, any b f, (line c g).1))
  where
    same_addresses : (a b c : List ℕ) → a ≡ codes "addresses" → c ≡ decimal (line_of c)
        → ◌≡◌ {A = List (List ℕ)} (a ∷ b ∷ c ∷ []) (codes "addresses" ∷ b ∷ decimal (line_of c) ∷ [])
    same_addresses a b c e f = cc

-- ---- the form that is found

pub right : (keywords : List Keyword) (words : List (List ℕ)) (furthest : ℕ) (k : Keyword) → form_from keywords words furthest ≡ Ok k
    → wrong_place is_wanted (places_of k) words ≡ None
unfolding form_from
right [] words furthest k e = absurd cc
right (first ∷ others) words furthest k e =
    by_place (wrong_place is_wanted (places_of first) words) refl e (λ wrong. right others words wrong k) where
      by_place : (o : Option ℕ) → wrong_place is_wanted (places_of first) words ≡ o → go_on first furthest (form_from others words) o ≡ Ok k
          → ((wrong : ℕ) → form_from others words wrong ≡ Ok k → wrong_place is_wanted (places_of k) words ≡ None) → wrong_place is_wanted (places_of k) words ≡ None
      by_place None is e later = let same : first ≡ k = cc in ap (λ (z : Keyword). wrong_place is_wanted (places_of z) words) (sym same) ∙ is
      by_place (Some at) is e later = later _ e

-- what words ask they spell
pub asked-spell : (words : List (List ℕ)) (query : Query) → asked words ≡ Ok query → Spell words query
asked-spell words query e = by_form (form_of words) refl e where
  by_form : (r : Result Keyword ℕ) → form_of words ≡ r → asked_by r words ≡ Ok query → Spell words query
  by_form (Ok k) is e =
      let same : query_of k words ≡ query = cc in subst (Spell words) same (spell k words (right all_keywords words 0 k is))
  by_form (Err wrong) is e = absurd cc

-- a query that is read is spelled by its words
pub read-spell : (from : ℕ) (words : List (List ℕ)) (result : Result Query Refused) → Reads from result (asked words) → IfOk result (λ query. Spell words query)
read-spell from words (Ok query) reads = asked-spell words query reads
read-spell from words (Err refusal) reads = tt
