-- What the map of typedefs and the set of names say of the lists that contracts see.
use Rattle.std.proofs.Common.{◌≡◌, ℕ, Bool, true, false, List, [], ◌∷◌, ◌++◌, Vec, Option, None, Some, is_some, position, if◌then◌else◌, refl, sym, ap, ◌∙◌, inl, inr}
use Rattle.std.proofs.lemmas.Bool.{cases_Bool, true≢false}
use Rattle.std.proofs.lemmas.List.{map-append, length-map}
use Rattle.std.specs.List.{list_any, position_or_len}
use Rattle.std.specs.Map.{lookup}
use Rattle.std.specs.Str.{bytes_eq}
use Rattle.st_base.specs.FirstUses.{used}
use Rattle.c_types.specs.Named.{pairs_in, words_in, same_name}

pub any-words : {A : Type 0} (test : List ℕ → Bool) (ks : List (Vec ℕ A)) → list_any (λ k. test k.items) ks ≡ list_any test (words_in ks)
any-words test [] = refl
any-words test (k ∷ ks) = rw (any-words test ks) refl

before-words : {A : Type 0} (test : List ℕ → Bool) (ks : List (Vec ℕ A)) → position_or_len (λ k. test k.items) ks ≡ position_or_len test (words_in ks)
before-words test [] = refl
before-words test (k ∷ ks) = rw (before-words test ks) refl

pub place-words : {A : Type 0} (test : List ℕ → Bool) (ks : List (Vec ℕ A)) → position (λ k. test k.items) ks ≡ position test (words_in ks)
place-words {A} test ks = rw (before-words test ks, length-map ks (λ (k : Vec ℕ A). k.items)) refl

pub lookup-pairs : {A V : Type 0} (test : List ℕ → Bool) (es : List (Vec ℕ A × V)) → lookup (λ k. test k.items) es ≡ lookup test (pairs_in es)
lookup-pairs test [] = refl
lookup-pairs test (e ∷ es) = rw (lookup-pairs test es) refl

-- a name is there where a look-up finds it
pub any-lookup : {V : Type 0} (test : List ℕ → Bool) (es : List (List ℕ × V)) → list_any (λ e. test e.0) es ≡ is_some (lookup test es)
any-lookup test [] = refl
any-lookup test (e ∷ es) = elim (cases_Bool (test e.0)) [ inl h ↦ rw h refl | inr h ↦ rw h (any-lookup test es) ]

-- a word that is inserted
pub words-insert : {A : Type 0} (ks new : List (Vec ℕ A)) (key : Vec ℕ A) (old : List (List ℕ)) (name : List ℕ) → words_in ks ≡ old → key.items ≡ name
    → new ≡ (if list_any (λ k. bytes_eq key.items k.items) ks then ks else ks ++ key ∷ []) → words_in new ≡ used bytes_eq old name
words-insert {A} ks new key old name view is e =
    rw (e, ← view, ← is)
    (elim (cases_Bool (list_any (λ k. bytes_eq key.items k.items) ks)) [
      | inl h ↦ rw (h, sym (any-words (bytes_eq key.items) ks) ∙ h) refl
      | inr h ↦ rw (h, sym (any-words (bytes_eq key.items) ks) ∙ h) (map-append (λ (k : Vec ℕ A). k.items) ks (key ∷ []))
    ])

-- a name that is there, and one that is not
pub pairs-there : {A V : Type 0} (es : List (Vec ℕ A × V)) (old : List (List ℕ × V)) (name : List ℕ) (v : V) → pairs_in es ≡ old
    → is_some (lookup (λ k. bytes_eq name k.items) es) ≡ true → old ≡ used same_name old (name, v)
pairs-there es old name v view there =
    let e : list_any (λ e. bytes_eq name e.0) old ≡ true = any-lookup (bytes_eq name) old ∙ ap (λ l. is_some (lookup (bytes_eq name) l)) (sym view) ∙ ap is_some (sym (lookup-pairs (bytes_eq name) es)) ∙ there in
    rw e refl

pub pairs-new : {A V : Type 0} (es new : List (Vec ℕ A × V)) (key : Vec ℕ A) (old : List (List ℕ × V)) (name : List ℕ) (v : V) → pairs_in es ≡ old → key.items ≡ name
    → is_some (lookup (λ k. bytes_eq name k.items) es) ≡ false → new ≡ es ++ (key, v) ∷ [] → pairs_in new ≡ used same_name old (name, v)
pairs-new {A} {V} es new key old name v view is absent e =
    let none : list_any (λ e. bytes_eq name e.0) old ≡ false = any-lookup (bytes_eq name) old ∙ ap (λ l. is_some (lookup (bytes_eq name) l)) (sym view) ∙ ap is_some (sym (lookup-pairs (bytes_eq name) es)) ∙ absent in
    rw (none, e, ← view, ← is) (map-append (λ (p : Vec ℕ A × V). (p.0.items, p.1)) es ((key, v) ∷ []))

pub absent-key : {A V : Type 0} (es : List (Vec ℕ A × V)) (key : Vec ℕ A) (name : List ℕ) → key.items ≡ name
    → is_some (lookup (λ k. bytes_eq name k.items) es) ≡ false → lookup (λ k. bytes_eq key.items k.items) es ≡ None
absent-key es key name is absent = rw is (is-none _ absent)
  where
    is-none : {V : Type 0} (o : Option V) → is_some o ≡ false → o ≡ None
    is-none None e = refl
    is-none (Some v) e = absurd (true≢false e)
