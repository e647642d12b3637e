-- The map of places by names: what is put counts, so that the first of a name counts where files are put from the last on.
use Rattle.std.proofs.Common.{◌≡◌, ◌<◌, ℕ, zero, suc, ◌+◌, Bool, true, false, cond, get_or, map, drop, length, arith, List, [], ◌∷◌, Some, refl, sym, ap, ◌∙◌, subst, inl, inr}
use Rattle.std.proofs.lemmas.Bool.{cases_Bool}
use Rattle.std.proofs.lemmas.Slice.Eq.{bytes_eq-Decides}
use Rattle.std.specs.Borrow.{Bor}
use Rattle.std.specs.List.{position_from}
use Rattle.std.specs.Map.{lookup}
use Rattle.std.specs.Str.{bytes_eq}
use Rattle.indexmap.specs.IndexMap.{insert_entry}
use Rattle.cdecl_producer.specs.declared.source.Source.{Source}
use Rattle.cdecl_producer.specs.Files.{listed}

pub lookup-listed : (q : List ℕ) (es : List (Bor (List ℕ) × ℕ)) → lookup (λ k. bytes_eq q k.now) es ≡ lookup (bytes_eq q) (listed es)
lookup-listed q [] = refl
lookup-listed q (e ∷ es) = ap (λ r. cond (bytes_eq q e.0.now) (Some e.1) r) (lookup-listed q es)

pub insert-listed : (es : List (Bor (List ℕ) × ℕ)) (k : Bor (List ℕ)) (x : ℕ)
    → listed (insert_entry (λ a b. bytes_eq a.now b.now) es k x) ≡ insert_entry bytes_eq (listed es) k.now x
insert-listed [] k x = refl
insert-listed (e ∷ es) k x = by (bytes_eq k.now e.0.now) (insert-listed es k x)
  where
    by : (b : Bool) → listed (insert_entry (λ a b. bytes_eq a.now b.now) es k x) ≡ insert_entry bytes_eq (listed es) k.now x
        → listed (cond b ((e.0, x) ∷ es) (e ∷ insert_entry (λ a b. bytes_eq a.now b.now) es k x)) ≡ cond b ((e.0.now, x) ∷ listed es) ((e.0.now, e.1) ∷ insert_entry bytes_eq (listed es) k.now x)
    by true h = refl
    by false h = ap (λ r. (e.0.now, e.1) ∷ r) h

-- what is put under a name is found under it, and all else as before
pub lookup-insert : (q k : List ℕ) (v : ℕ) (es : List (List ℕ × ℕ))
    → lookup (bytes_eq q) (insert_entry bytes_eq es k v) ≡ cond (bytes_eq q k) (Some v) (lookup (bytes_eq q) es)
lookup-insert q k v [] = refl
lookup-insert q k v (e ∷ es) =
    elim (cases_Bool (bytes_eq k e.0)) [
      | inl h ↦
          let same : k ≡ e.0 = decided k e.0 h in
          elim (cases_Bool (bytes_eq q e.0)) [
            | inl g ↦ rw (h, g, same, g) refl
            | inr g ↦ rw (h, g, same, g) refl
          ]
      | inr h ↦ elim (cases_Bool (bytes_eq q e.0)) [
        | inl g ↦ elim (cases_Bool (bytes_eq q k)) [
          | inl f ↦
              let both : bytes_eq k e.0 ≡ true = subst (λ y. bytes_eq y e.0 ≡ true) (decided q k f) g in
              absurd cc
          | inr f ↦ rw (h, g, f) refl
        ]
        | inr g ↦ rw (h, g) (lookup-insert q k v es)
      ]
    ]
  where
    decided : (a b : List ℕ) → bytes_eq a b ≡ true → a ≡ b
    decided a b e = (bytes_eq-Decides a b).0 e

-- the files from a place on begin with the one there
split : (fs : List Source) (i : ℕ) (f : Source) → i < length fs → f ≡ get_or fs i f → drop i fs ≡ f ∷ drop (suc i) fs
split [] i f h e = absurd (omega arith)
split (x ∷ xs) zero f h e = ap (λ y. y ∷ xs) (sym e)
split (x ∷ xs) (suc i) f h e = split xs i f (omega arith) e

-- where one more file in front is put, the files from it on are there
pub place_put : (fs : List Source) (at i : ℕ) (f : Source) (old new : List (List ℕ × ℕ)) (key name : List ℕ) → at ≡ suc i → i < length fs
    → f ≡ get_or fs i f → key ≡ (get_or fs i f).name → new ≡ insert_entry bytes_eq old key i
    → lookup (bytes_eq name) old ≡ position_from (bytes_eq name) at (map (λ g. g.name) (drop at fs))
    → lookup (bytes_eq name) new ≡ position_from (bytes_eq name) i (map (λ g. g.name) (drop i fs))
place_put fs at i f old new key name next high is own put h =
    let spelled : key ≡ f.name = own ∙ ap (λ g. g.name) (sym is) in
    let behind : lookup (bytes_eq name) old ≡ position_from (bytes_eq name) (suc i) (map (λ g. g.name) (drop (suc i) fs))
    = subst (λ y. lookup (bytes_eq name) old ≡ position_from (bytes_eq name) y (map (λ g. g.name) (drop y fs))) next h in
    let counted : suc i ≡ i + 1 = omega arith in
    let there : lookup (bytes_eq name) old ≡ position_from (bytes_eq name) (i + 1) (map (λ g. g.name) (drop (suc i) fs))
    = behind ∙ ap (λ y. position_from (bytes_eq name) y (map (λ g. g.name) (drop (suc i) fs))) counted in
    rw (split fs i f high is, put, lookup-insert name key i old, spelled, there) refl
