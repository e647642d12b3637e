-- A map from borrowed names is its list of names and values.
use Rattle.std.proofs.Common.{◌≡◌, ℕ, Bool, true, false, cond, List, [], ◌∷◌, ◌++◌, Option, Some, refl, ap, ◌∙◌, is_some}
use Rattle.std.specs.Prelude.{bytes_eq, not}
use Rattle.std.specs.Map.{lookup}
use Rattle.std.proofs.lemmas.List.{map-append}
use Rattle.indexmap.specs.IndexMap.{insert_entry}
use denote.Ref.{Bor}
use Rattle.aout_link.specs.Answering.{listed}

-- a look-up by what the keys show
pub lookup-listed : {X : Type 0} (q : List ℕ) (es : List (Bor (List ℕ) × X)) → lookup (λ k. bytes_eq q k.now) es ≡ lookup (bytes_eq q) (listed es)
lookup-listed q [] = refl
lookup-listed q (e ∷ es) = ap (λ r. cond (bytes_eq q e.0.now) (Some e.1) r) (lookup-listed q es)

-- one entry more in a map
pub listed_push : {X : Type 0} (es : List (Bor (List ℕ) × X)) (k : Bor (List ℕ)) (x : X) → listed (es ++ (k, x) ∷ []) ≡ listed es ++ (k.now, x) ∷ []
listed_push es k x = map-append (λ e. (e.0.now, e.1)) es ((k, x) ∷ [])

-- the name is new where the look-up finds nothing
pub new_name : {X : Type 0} (q : List ℕ) (es : List (Bor (List ℕ) × X)) (old : Option X) → old ≡ lookup (λ k. bytes_eq q k.now) es
    → not (is_some old) ≡ not (is_some (lookup (bytes_eq q) (listed es)))
new_name q es old e = ap (λ r. not (is_some r)) (e ∙ lookup-listed q es)

-- an insertion by what the keys show
pub insert-listed : {X : Type 0} (es : List (Bor (List ℕ) × X)) (k : Bor (List ℕ)) (x : X)
    → listed (insert_entry (λ a b. bytes_eq a.now b.now) es k x) ≡ insert_entry bytes_eq (listed es) k.now x
insert-listed [] k x = refl
insert-listed (e ∷ es) k x = by (bytes_eq k.now e.0.now) (insert-listed es k x)
  where
    by : (b : Bool) → listed (insert_entry (λ a b. bytes_eq a.now b.now) es k x) ≡ insert_entry bytes_eq (listed es) k.now x
        → listed (cond b ((e.0, x) ∷ es) (e ∷ insert_entry (λ a b. bytes_eq a.now b.now) es k x)) ≡ cond b ((e.0.now, x) ∷ listed es) ((e.0.now, e.1) ∷ insert_entry bytes_eq (listed es) k.now x)
    by true rest = refl
    by false rest = ap (λ r. (e.0.now, e.1) ∷ r) rest
