-- The owners of all headers by units, beside the outlines, are the index of an image; where it has no owner for a header.
use Rattle.std.proofs.Common.{◌≡◌, ◌<◌, ◌≤◌, ℕ, zero, suc, List, [], ◌∷◌, length, Bool, true, false, Option, Some, None, refl, sym, ap, ◌∙◌, subst, arith}
use Rattle.std.specs.Prelude.{◌↔◌, slice_get, is_some, IsNone}
use Rattle.std.specs.Option.{option_map}
use Rattle.std.proofs.lemmas.Bool.{false_from_ne_true}
use Rattle.std.proofs.lemmas.Option.{same_Some, none-some}
use Rattle.nlist_codec.specs.declared.named.Named.{Named}
use Rattle.unit_outlines.specs.declared.outline_types.UnitSpan.{UnitSpan}
use Rattle.unit_outlines.specs.declared.outline_types.Marks.TheVariants.{Image}
use Rattle.unit_outlines.specs.Outlines.{OutlineFault, units_of}
use Rattle.unit_index.specs.declared.owner.Owner.{Owner}
use Rattle.unit_index.specs.declared.owner.HeaderAt.{HeaderAt}
use Rattle.unit_index.specs.Owners.{rows_of, index_fault, stands_for}
use Rattle.unit_index.specs.Indexes.{Indexed, all_owners, AreInPlace, AsMany, HasHeader, owners_by, opener, IsIndex}
use Rattle.unit_index.specs.Filling.{owners_at}
use Rattle.unit_index.proofs.PlaceLemmas.{all_by_units, none_zero, stands_at}

pub index_is : (t : ℕ) (entries : List Named) (seen spans : List UnitSpan) (owners : List (List Owner)) → OutlineFault Image entries None → seen ≡ spans → spans ≡ units_of t entries
    → index_fault (rows_of seen) ≡ None → owners ≡ owners_by (rows_of seen) 0 seen → IsIndex t entries (record { outlines = spans; owners = owners })
index_is t entries seen spans owners outline same is none by = let whole = same ∙ is in record {
  no_fault = (outline, ap (λ z. index_fault (rows_of z)) (sym whole) ∙ none);
  outlines = is;
  by_unit = by ∙ ap (λ z. owners_by (rows_of z) 0 z) whole;
  all = ap all_owners (by ∙ ap (λ z. owners_by (rows_of z) 0 z) whole) ∙ all_by_units (rows_of (units_of t entries)) 0 (units_of t entries);
}

-- ---- where a unit has no such header

-- a unit that was outlined has an owner for each header
owners_there : (spans : List UnitSpan) (oss : List (List Owner)) (unit : ℕ) (span : UnitSpan) → AsMany spans oss → slice_get spans unit ≡ Some span
    → (os : List Owner) × (slice_get oss unit ≡ Some os) × (length os ≡ length span.headers)
owners_there [] oss unit span many at = absurd (none-some span at)
owners_there (s ∷ spans) [] unit span many at = absurd many
owners_there (s ∷ spans) (os ∷ oss) zero span many at = (os, refl, many.0 ∙ ap (λ (z : UnitSpan). length z.headers) (same_Some s span at))
owners_there (s ∷ spans) (os ∷ oss) (suc unit) span many at = owners_there spans oss unit span many.1 at

-- and owners are those of a unit that was
span_there : (spans : List UnitSpan) (oss : List (List Owner)) (unit : ℕ) (os : List Owner) → AsMany spans oss → slice_get oss unit ≡ Some os
    → (span : UnitSpan) × (slice_get spans unit ≡ Some span) × (length os ≡ length span.headers)
span_there [] [] unit os many at = absurd (none-some os at)
span_there [] (qs ∷ oss) unit os many at = absurd many
span_there (s ∷ spans) [] unit os many at = absurd many
span_there (s ∷ spans) (qs ∷ oss) zero os many at = (s, refl, ap length (sym (same_Some qs os at)) ∙ many.0)
span_there (s ∷ spans) (qs ∷ oss) (suc unit) os many at = span_there spans oss unit os many.1 at

is_some_within : (os : List Owner) (g : ℕ) → g < length os → is_some (slice_get os g) ≡ true
is_some_within [] g within = absurd (omega (arith, within))
is_some_within (o ∷ os) zero within = refl
is_some_within (o ∷ os) (suc g) within = is_some_within os g (omega (arith, within))

within_is_some : (os : List Owner) (g : ℕ) → is_some (slice_get os g) ≡ true → g < length os
within_is_some [] g some = absurd cc
within_is_some (o ∷ os) zero some = omega arith
within_is_some (o ∷ os) (suc g) some = let within = within_is_some os g some in omega (arith, within)

module _ (spans : List UnitSpan) (oss : List (List Owner)) (place : AreInPlace 0 oss) (many : AsMany spans oss) (unit : ℕ) where
  -- a header has an owner
  header_stands : (file : ℕ) → HasHeader spans unit file → is_some (stands_for (all_owners oss) unit file) ≡ true
  header_stands zero has = absurd (let low : 1 ≤ 0 = has.low in omega (arith, low))
  header_stands (suc g) has =
      let owners = owners_there spans oss unit has.span many has.there in
      let within : g < length owners.0 = let high : suc g ≤ length has.span.headers = has.high in let same : length owners.0 ≡ length has.span.headers = owners.2 in omega (arith, high, same) in
      ap is_some (stands_at oss place unit g ∙ ap (λ z. slice_get (owners_at z) g) owners.1)
      ∙ is_some_within owners.0 g within

  -- the owner of a header with this number is there
  stands_header : (file : ℕ) → is_some (stands_for (all_owners oss) unit file) ≡ true → HasHeader spans unit file
  stands_header zero some = absurd (let t : false ≡ true = sym (ap is_some (none_zero oss place unit)) ∙ some in cc)
  stands_header (suc g) some = by_unit (slice_get oss unit) refl (sym (ap is_some (stands_at oss place unit g)) ∙ some)
    where
      by_unit : (o : Option (List Owner)) → slice_get oss unit ≡ o → is_some (slice_get (owners_at o) g) ≡ true → HasHeader spans unit (suc g)
      by_unit None is t = absurd cc
      by_unit (Some os) is t =
          let there = span_there spans oss unit os many is in
          let within : g < length os = within_is_some os g t in record {
            span = there.0;
            there = there.1;
            low = omega arith;
            high = let same : length os ≡ length there.0.headers = there.2 in omega (arith, within, same);
          }

  -- none stands exactly where there is no such header
  none_is : (file : ℕ) → IsNone (stands_for (all_owners oss) unit file) ↔ (HasHeader spans unit file → ⊥)
  none_is file = (
    λ none has. let t : true ≡ false = sym (header_stands file has) ∙ none in cc,
    λ no. false_from_ne_true (is_some (stands_for (all_owners oss) unit file)) (λ some. no (stands_header file some)),
  )

-- in an index that is seen as its outlines and owners
pub stands_for_none : (index : Indexed) (spans : List UnitSpan) (oss : List (List Owner)) → spans ≡ index.outlines → oss ≡ index.owners → AreInPlace 0 oss → AsMany spans oss
    → (unit file : ℕ) (found : Option HeaderAt) → found ≡ option_map opener (stands_for (all_owners oss) unit file) → IsNone found ↔ (HasHeader index.outlines unit file → ⊥)
stands_for_none index spans oss outlined owned place many unit file found is =
    subst (λ (z : List UnitSpan). IsNone found ↔ (HasHeader z unit file → ⊥)) outlined
    (subst (λ (b : Bool). (b ≡ false) ↔ (HasHeader spans unit file → ⊥)) (sym (ap is_some is ∙ is_some-map (stands_for (all_owners oss) unit file))) (none_is spans oss place many unit file))
  where
    is_some-map : (o : Option Owner) → is_some (option_map opener o) ≡ is_some o
    is_some-map None = refl
    is_some-map (Some o) = refl
