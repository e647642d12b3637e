-- Which form words are of, as one form after another is tried.
use Rattle.std.proofs.Common.{◌≡◌, ◌<◌, ℕ, ◌+◌, List, ◌∷◌, length, drop, get_or, Some, None, sym, ap, ◌∙◌, add-one}
use Rattle.std.specs.Prelude.{Ok, Err, max}
use Rattle.std.proofs.Math.Seq.{drop-cons, drop-length}
use Rattle.query_text.specs.declared.want.Keyword.{Keyword}
use Rattle.query_text.specs.WordPlaces.{wrong_place}
use Rattle.query_text.specs.QueryWords.{is_wanted}
use Rattle.query_text.specs.Queries.{places_of, form_from, go_on}

module _ (keywords : List Keyword) (words : List (List ℕ)) (at furthest : ℕ) (d : Keyword) (within : at < length keywords) where
  step : form_from (drop at keywords) words furthest
      ≡ go_on (get_or keywords at d) furthest (form_from (drop (at + 1) keywords) words) (wrong_place is_wanted (places_of (get_or keywords at d)) words)
  unfolding form_from
  step =
      ap (λ (ks : List Keyword). form_from ks words furthest)
      (drop-cons keywords at d within ∙ ap (λ (n : ℕ). get_or keywords at d ∷ drop n keywords) (sym (add-one at)))

  -- where the words are of the form, it is found
  pub form_from-found : wrong_place is_wanted (places_of (get_or keywords at d)) words ≡ None → form_from (drop at keywords) words furthest ≡ Ok (get_or keywords at d)
  form_from-found right = step ∙ ap (go_on (get_or keywords at d) furthest (form_from (drop (at + 1) keywords) words)) right

  -- where they are not, the others are tried
  pub form_from-past : (wrong : ℕ) → wrong_place is_wanted (places_of (get_or keywords at d)) words ≡ Some wrong
      → form_from (drop (at + 1) keywords) words (max furthest wrong) ≡ form_from (drop at keywords) words furthest
  form_from-past wrong is = sym (step ∙ ap (go_on (get_or keywords at d) furthest (form_from (drop (at + 1) keywords) words)) is)

-- where none is left, the furthest place is answered
pub form_from-end : (keywords : List Keyword) (words : List (List ℕ)) (furthest : ℕ) → form_from (drop (length keywords) keywords) words furthest ≡ Err furthest
unfolding form_from
form_from-end keywords words furthest = ap (λ (ks : List Keyword). form_from ks words furthest) (drop-length keywords)
