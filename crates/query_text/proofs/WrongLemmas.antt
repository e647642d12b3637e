-- The wrong place of words that ask no query: the words before it begin a query, and with the word at it they begin none.
use Rattle.std.proofs.Common.{◌≡◌, ◌≤◌, ◌<◌, ℕ, zero, suc, ◌+◌, Bool, true, false, cond, List, [], ◌∷◌, ◌++◌, length, take, drop, map, max, Option, Some, None, refl, sym, ap, ◌∙◌, subst, arith, ◌⊎◌, inl, inr, ⊎_elim}
use Rattle.std.specs.Prelude.{Result, Ok, Err, codes}
use Rattle.std.specs.Str.{is_utf8}
use Rattle.std.proofs.lemmas.Bool.{cases_lt}
use Rattle.std.proofs.lemmas.Option.{same_Some}
use Rattle.query_text.specs.declared.query.Query.{Query}
use Rattle.query_text.specs.declared.query.Query.TheVariants as queries
use Rattle.query_text.specs.declared.want.Keyword.{Keyword}
use Rattle.query_text.specs.declared.want.Keyword.TheVariants as keywords
use Rattle.query_text.specs.declared.want.Want.{Want}
use Rattle.query_text.specs.declared.want.Want.TheVariants as wants
use Rattle.query_text.specs.WordPlaces.{holds, wrong_from, wrong_place}
use Rattle.query_text.specs.QueryWords.{is_wanted, keyword_text}
use Rattle.query_text.specs.Queries.{places_of, query_of, form_from, form_of, go_on, asked, asked_by, all_keywords, Begin, IsWrong}
use Rattle.query_text.proofs.ReadLemmas.{spell-asked}
use Rattle.query_text.proofs.SpellLemmas.{spell, right}
use Rattle.query_text.proofs.TextLemmas.{ascii_text}
use Rattle.readers.specs.Words.{number_at, digits_on}

-- ---- words that places want

-- a word that a place wants
abbrev sample : Want → List ℕ
sample (wants.This keyword) = keyword_text keyword
sample wants.Any = []
sample wants.Number = codes "0"
sample wants.Line = codes "0"
sample wants.Address = codes "0x0"

zero_text : is_utf8 (codes "0") ≡ true
zero_text = ascii_text (codes "0") refl

sample_keyword : (k : Keyword) → holds is_wanted (wants.This k) (keyword_text k) ≡ true
sample_keyword keywords.Units = rw (ascii_text (codes "units") refl) refl
sample_keyword keywords.Files = rw (ascii_text (codes "files") refl) refl
sample_keyword keywords.Tag = rw (ascii_text (codes "tag") refl) refl
sample_keyword keywords.Type = rw (ascii_text (codes "type") refl) refl
sample_keyword keywords.Number = rw (ascii_text (codes "number") refl) refl
sample_keyword keywords.Scope = rw (ascii_text (codes "scope") refl) refl
sample_keyword keywords.Line = rw (ascii_text (codes "line") refl) refl
sample_keyword keywords.Addresses = rw (ascii_text (codes "addresses") refl) refl

sample_holds : (want : Want) → holds is_wanted want (sample want) ≡ true
unfolding number_at digits_on
sample_holds (wants.This k) = sample_keyword k
sample_holds wants.Any = rw (ascii_text [] refl) refl
sample_holds wants.Number = rw zero_text refl
sample_holds wants.Line = rw zero_text refl
sample_holds wants.Address = rw (ascii_text (codes "0x0") refl) refl

samples_fit : (at : ℕ) (places : List Want) → wrong_from is_wanted at places (map sample places) ≡ None
samples_fit at [] = refl
samples_fit at (want ∷ places) =
    ap (λ (b : Bool). cond b (wrong_from is_wanted (at + 1) places (map sample places)) (Some at)) (sample_holds want) ∙ samples_fit (at + 1) places

-- ---- one form

-- a wrong place is none before the first
not_before : (at : ℕ) (places : List Want) (words : List (List ℕ)) (wrong : ℕ) → wrong_from is_wanted at places words ≡ Some wrong → (at ≤ wrong) × (wrong ≤ at + length words)
not_before at [] [] wrong e = absurd cc
not_before at [] (word ∷ words) wrong e = let same : at ≡ wrong = same_Some at wrong e in (omega (arith, same), omega (arith, same))
not_before at (want ∷ places) [] wrong e = let same : at ≡ wrong = same_Some at wrong e in (omega (arith, same), omega (arith, same))
not_before at (want ∷ places) (word ∷ words) wrong e = by_test (holds is_wanted want word) e (not_before (at + 1) places words wrong)
  where
    by_test : (b : Bool) → cond b (wrong_from is_wanted (at + 1) places words) (Some at) ≡ Some wrong
        → (wrong_from is_wanted (at + 1) places words ≡ Some wrong → (at + 1 ≤ wrong) × (wrong ≤ at + 1 + length words)) → (at ≤ wrong) × (wrong ≤ at + suc (length words))
    by_test true e later = let l = later e in let low : at + 1 ≤ wrong = l.0 in let high : wrong ≤ at + 1 + length words = l.1 in (omega (arith, low), omega (arith, high))
    by_test false e later = let same : at ≡ wrong = same_Some at wrong e in (omega (arith, same), omega (arith, same))

-- the words before a wrong place, and then some, are what the places want
front_fits : (j at : ℕ) (places : List Want) (words : List (List ℕ)) (wrong : ℕ) → wrong ≡ at + j → wrong_from is_wanted at places words ≡ Some wrong
    → wrong_from is_wanted at places (take j words ++ map sample (drop j places)) ≡ None
front_fits zero at places words wrong is e = samples_fit at places
front_fits (suc j) at [] [] wrong is e = absurd cc
front_fits (suc j) at [] (word ∷ words) wrong is e = absurd (let same : at ≡ wrong = same_Some at wrong e in omega (arith, same, is))
front_fits (suc j) at (want ∷ places) [] wrong is e = absurd (let same : at ≡ wrong = same_Some at wrong e in omega (arith, same, is))
front_fits (suc j) at (want ∷ places) (word ∷ words) wrong is e = by_test (holds is_wanted want word) e (front_fits j (at + 1) places words wrong (omega (arith, is)))
  where
    by_test : (b : Bool) → cond b (wrong_from is_wanted (at + 1) places words) (Some at) ≡ Some wrong
        → (wrong_from is_wanted (at + 1) places words ≡ Some wrong → wrong_from is_wanted (at + 1) places (take j words ++ map sample (drop j places)) ≡ None)
        → cond b (wrong_from is_wanted (at + 1) places (take j words ++ map sample (drop j places))) (Some at) ≡ None
    by_test true e later = later e
    by_test false e later = absurd (let same : at ≡ wrong = same_Some at wrong e in omega (arith, same, is))

-- where words with another end are what the places want, the wrong place is not among those that are kept
front_holds : (n at : ℕ) (places : List Want) (words more : List (List ℕ)) (wrong : ℕ) → n ≤ length words → wrong_from is_wanted at places (take n words ++ more) ≡ None
    → wrong_from is_wanted at places words ≡ Some wrong → at + n ≤ wrong
front_holds zero at places words more wrong within fits e = let low : at ≤ wrong = (not_before at places words wrong e).0 in omega (arith, low)
front_holds (suc n) at places [] more wrong within fits e = absurd (let low : suc n ≤ 0 = within in omega (arith, low))
front_holds (suc n) at [] (word ∷ words) more wrong within fits e = absurd cc
front_holds (suc n) at (want ∷ places) (word ∷ words) more wrong within fits e =
    by_test (holds is_wanted want word) fits e (front_holds n (at + 1) places words more wrong (let w : suc n ≤ suc (length words) = within in omega (arith, w)))
  where
    by_test : (b : Bool) → cond b (wrong_from is_wanted (at + 1) places (take n words ++ more)) (Some at) ≡ None → cond b (wrong_from is_wanted (at + 1) places words) (Some at) ≡ Some wrong
        → (wrong_from is_wanted (at + 1) places (take n words ++ more) ≡ None → wrong_from is_wanted (at + 1) places words ≡ Some wrong → at + 1 + n ≤ wrong) → at + suc n ≤ wrong
    by_test true fits e later = let high : at + 1 + n ≤ wrong = later fits e in omega (arith, high)
    by_test false fits e later = absurd cc

-- ---- all forms

-- the place that is answered is not before the furthest so far
not_less : (ks : List Keyword) (words : List (List ℕ)) (furthest at : ℕ) → form_from ks words furthest ≡ Err at → furthest ≤ at
unfolding form_from
not_less [] words furthest at e = let same : furthest ≡ at = cc in omega (arith, same)
not_less (k ∷ ks) words furthest at e = by_place (wrong_place is_wanted (places_of k) words) e (λ wrong. not_less ks words (max furthest wrong) at)
  where
    by_place : (o : Option ℕ) → go_on k furthest (form_from ks words) o ≡ Err at → ((wrong : ℕ) → form_from ks words (max furthest wrong) ≡ Err at → max furthest wrong ≤ at) → furthest ≤ at
    by_place None e later = absurd cc
    by_place (Some wrong) e later = let high : max furthest wrong ≤ at = later wrong e in omega (arith, high)

-- it is that of a form
of_a_form : (ks : List Keyword) (words : List (List ℕ)) (furthest at : ℕ) → form_from ks words furthest ≡ Err at
    → (at ≡ furthest) ⊎ ((k : Keyword) × (wrong_place is_wanted (places_of k) words ≡ Some at))
unfolding form_from
of_a_form [] words furthest at e = inl (let same : at ≡ furthest = cc in same)
of_a_form (k ∷ ks) words furthest at e = by_place (wrong_place is_wanted (places_of k) words) refl e (λ wrong. of_a_form ks words (max furthest wrong) at)
  where
    by_place : (o : Option ℕ) → wrong_place is_wanted (places_of k) words ≡ o → go_on k furthest (form_from ks words) o ≡ Err at
        → ((wrong : ℕ) → form_from ks words (max furthest wrong) ≡ Err at → (at ≡ max furthest wrong) ⊎ ((l : Keyword) × (wrong_place is_wanted (places_of l) words ≡ Some at)))
        → (at ≡ furthest) ⊎ ((l : Keyword) × (wrong_place is_wanted (places_of l) words ≡ Some at))
    by_place None is e later = absurd cc
    by_place (Some wrong) is e later = ⊎_elim
        (λ (same : at ≡ max furthest wrong). ⊎_elim
        (λ (less : furthest < wrong). inr (k, is ∙ ap (λ (z : ℕ). Some z) (let z : wrong ≡ at = omega (arith, same, less) in z)))
        (λ (more : wrong ≤ furthest). inl (let z : at ≡ furthest = omega (arith, same, more) in z))
        (cases_lt furthest wrong))
        (λ found. inr found)
        (later wrong e)

-- the form that other words are of has no later one
no_later : (ks : List Keyword) (words others : List (List ℕ)) (furthest far at : ℕ) (k : Keyword) → form_from ks words furthest ≡ Err at → form_from ks others far ≡ Ok k
    → (wrong : ℕ) × (wrong_place is_wanted (places_of k) words ≡ Some wrong) × (wrong ≤ at)
unfolding form_from
no_later [] words others furthest far at k e f = absurd cc
no_later (first ∷ ks) words others furthest far at k e f =
    by_place (wrong_place is_wanted (places_of first) words) (wrong_place is_wanted (places_of first) others) refl e f
    (λ wrong other. no_later ks words others (max furthest wrong) (max far other) at k) (λ wrong. not_less ks words (max furthest wrong) at)
  where
    by_place : (o p : Option ℕ) → wrong_place is_wanted (places_of first) words ≡ o → go_on first furthest (form_from ks words) o ≡ Err at → go_on first far (form_from ks others) p ≡ Ok k
        → ((wrong other : ℕ) → form_from ks words (max furthest wrong) ≡ Err at → form_from ks others (max far other) ≡ Ok k
        → (w : ℕ) × (wrong_place is_wanted (places_of k) words ≡ Some w) × (w ≤ at))
        → ((wrong : ℕ) → form_from ks words (max furthest wrong) ≡ Err at → max furthest wrong ≤ at) → (w : ℕ) × (wrong_place is_wanted (places_of k) words ≡ Some w) × (w ≤ at)
    by_place None p is e f later low = absurd cc
    by_place (Some wrong) None is e f later low =
        let same : first ≡ k = cc in
        let high : max furthest wrong ≤ at = low wrong e in
        (wrong, ap (λ (z : Keyword). wrong_place is_wanted (places_of z) words) (sym same) ∙ is, omega (arith, high))
    by_place (Some wrong) (Some other) is e f later low = later wrong other e f

-- ---- the wrong place

form_is : (words : List (List ℕ)) (at : ℕ) → asked words ≡ Err at → form_of words ≡ Err at
form_is words at e = by_form (form_of words) e
  where
    by_form : (r : Result Keyword ℕ) → asked_by r words ≡ Err at → r ≡ Err at
    by_form (Ok k) e = absurd cc
    by_form (Err wrong) e = let same : wrong ≡ at = cc in ap (λ (z : ℕ). Err z) same

asked_form : (words : List (List ℕ)) (query : Query) → asked words ≡ Ok query → (k : Keyword) × (form_of words ≡ Ok k)
asked_form words query e = by_form (form_of words) refl e
  where
    by_form : (r : Result Keyword ℕ) → form_of words ≡ r → asked_by r words ≡ Ok query → (k : Keyword) × (form_of words ≡ Ok k)
    by_form (Ok k) is e = (k, is)
    by_form (Err wrong) is e = absurd cc

module _ (words : List (List ℕ)) (at : ℕ) (e : asked words ≡ Err at) where
  begun : Begin (take at words)
  begun = ⊎_elim
      (λ (first : at ≡ 0). subst (λ (n : ℕ). Begin (take n words)) (sym first) (codes "units" ∷ [], queries.Units, refl))
      (λ found.
      let k : Keyword = found.0 in
      let more : List (List ℕ) = map sample (drop at (places_of k)) in
      let here : at ≡ 0 + at = omega arith in
      (more, query_of k (take at words ++ more), spell k (take at words ++ more) (front_fits at 0 (places_of k) words at here found.1)))
      (of_a_form all_keywords words 0 at (form_is words at e))

  within : at ≤ length words
  within = ⊎_elim
      (λ (first : at ≡ 0). omega (arith, first))
      (λ found. let high : at ≤ 0 + length words = (not_before 0 (places_of found.0) words at found.1).1 in omega (arith, high))
      (of_a_form all_keywords words 0 at (form_is words at e))

  ends : at < length words → Begin (take (at + 1) words) → ⊥
  ends inside starts =
      let all : List (List ℕ) = take (at + 1) words ++ starts.0 in
      let form = asked_form all starts.1 (spell-asked all starts.1 starts.2) in
      let later = no_later all_keywords words all 0 0 at form.0 (form_is words at e) form.1 in
      let low : 0 + (at + 1) ≤ later.0 = front_holds (at + 1) 0 (places_of form.0) words starts.0 later.0 (omega (arith, inside)) (right all_keywords all 0 form.0 form.1) later.1 in
      let high : later.0 ≤ at = later.2 in omega (arith, low, high)

  pub is_wrong : IsWrong words at
  is_wrong = record { within = within; begun = begun; ends = ends }
