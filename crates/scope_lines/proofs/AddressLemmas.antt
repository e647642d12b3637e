-- The addresses of a line: the file's name as it goes on from item to item.
use Rattle.std.proofs.Common.{◌≡◌, ℕ, zero, suc, ◌+◌, ◌<◌, List, [], ◌∷◌, ◌++◌, length, take, drop, get_or, Bool, true, false, cond, Option, Some, None, refl, sym, ap, ◌∙◌, arith}
use Rattle.std.specs.Prelude.{slice_get, option_and_then, ◌&&◌}
use Rattle.std.specs.Option.{option_map_or}
use Rattle.std.specs.Str.{bytes_eq}
use Rattle.std.proofs.lemmas.List.{drop_more, take_more}
use Rattle.stab_units.specs.declared.unit.Item.{Item}
use Rattle.scope_lines.specs.declared.scope.AddressOf.{AddressOf}
use Rattle.scope_lines.specs.ListPlaces.{each, last_place}
use Rattle.scope_lines.specs.Lines.{is_source, text_of, file_name, address_at, address_if, is_line_of}
use Rattle.scope_lines.specs.Walks.{next_here}
use Rattle.scope_lines.proofs.PlaceLemmas.{last_place-push, IsBelow, last_place_below}
use Rattle.scope_lines.proofs.EachLemmas.{each_step}

-- ---- the last item that passes

abbrev last_item : {X : Type 0} → (X → Bool) → List X → Option X
last_item test xs = option_and_then (slice_get xs) (last_place test xs)

get-front_at : {X : Type 0} (xs ys : List X) (k : ℕ) → k < length xs → slice_get (xs ++ ys) k ≡ slice_get xs k
get-front_at [] ys k h = absurd (omega arith)
get-front_at (x ∷ xs) ys zero h = refl
get-front_at (x ∷ xs) ys (suc k) h = get-front_at xs ys k (omega arith)

get-front : {X : Type 0} (xs ys : List X) (o : Option ℕ) → IsBelow o (length xs) → option_and_then (slice_get (xs ++ ys)) o ≡ option_and_then (slice_get xs) o
get-front xs ys None within = refl
get-front xs ys (Some k) within = get-front_at xs ys k within

get-last : {X : Type 0} (xs : List X) (x : X) → slice_get (xs ++ x ∷ []) (length xs) ≡ Some x
get-last [] x = refl
get-last (y ∷ xs) x = get-last xs x

last_item-push : {X : Type 0} (test : X → Bool) (xs : List X) (x : X) → last_item test (xs ++ x ∷ []) ≡ cond (test x) (Some x) (last_item test xs)
last_item-push test xs x = ap (option_and_then (slice_get (xs ++ x ∷ []))) (last_place-push test xs x) ∙ pick (test x)
  where
    pick : (b : Bool) → option_and_then (slice_get (xs ++ x ∷ [])) (cond b (Some (length xs)) (last_place test xs)) ≡ cond b (Some x) (last_item test xs)
    pick true = get-last xs x
    pick false = get-front xs (x ∷ []) (last_place test xs) (last_place_below test xs)

-- ---- the file's name, one item on

here-push : (name file : List ℕ) (before : List Item) (x : Item) → next_here file x (bytes_eq (file_name name before) file) ≡ bytes_eq (file_name name (before ++ x ∷ [])) file
here-push name file before x = pick (is_source x) ∙ ap (λ (o : Option Item). bytes_eq (option_map_or text_of o name) file) (sym (last_item-push is_source before x))
  where
    pick : (b : Bool) → cond b (bytes_eq (text_of x) file) (bytes_eq (file_name name before) file) ≡ bytes_eq (option_map_or text_of (cond b (Some x) (last_item is_source before)) name) file
    pick true = refl
    pick false = refl

-- what was found, with what is left, is what the unit has
pub record Addressing (file : List ℕ) (line n : ℕ) (name : List ℕ) (start whole : List AddressOf) (before rest : List Item) (here : Bool) (out : List AddressOf) : Type 0 where
  pub here_is : here ≡ bytes_eq (file_name name before) file
  pub out_is : out ++ each (address_at file line n name) before rest ≡ start ++ whole

pub Addressing_more : (file : List ℕ) (line n : ℕ) (name : List ℕ) (start whole : List AddressOf) (body : List Item) (at : ℕ) (x : Item) (here next : Bool) (out more : List AddressOf)
    → at < length body → x ≡ get_or body at x → next ≡ next_here file x here → more ≡ out ++ address_if (is_line_of line x && here) n x.value
    → Addressing file line n name start whole (take at body) (drop at body) here out → Addressing file line n name start whole (take (at + 1) body) (drop (at + 1) body) next more
Addressing_more file line n name start whole body at x here next out more within is next_is more_is was = record {
  here_is = next_is ∙ ap (next_here file x) was.here_is ∙ here-push name file (take at body) x ∙ ap (λ (z : List Item). bytes_eq (file_name name z) file) (sym longer);
  out_is = each_step (address_at file line n name) (take at body) _ x (drop at body) (drop (at + 1) body) out more _ left longer was.out_is
      (more_is ∙ ap (λ (b : Bool). out ++ address_if (is_line_of line x && b) n x.value) was.here_is);
}
  where
    longer : take (at + 1) body ≡ take at body ++ x ∷ []
    longer = take_more body at x within ∙ ap (λ (z : Item). take at body ++ z ∷ []) (sym is)

    left : drop at body ≡ x ∷ drop (at + 1) body
    left = drop_more body at x within ∙ ap (λ (z : Item). z ∷ drop (at + 1) body) (sym is)
