-- The undefined names of a source are those that its fields use and no statement defines, each once, in order of first use.
use Rattle.std.proofs.Common.{◌≡◌, ℕ, zero, suc, List, [], ◌∷◌, ◌++◌, length, take, drop, slice_get, fold, flat_map, Option, None, Some, refl, sym, ap, subst, ◌∙◌, inl, inr}
use Rattle.std.specs.Prelude.{Contains}
use Rattle.std.specs.Map.{lookup}
use Rattle.std.specs.Str.{bytes_eq}
use Rattle.std.proofs.lemmas.List.{take-append-drop, take_at}
use Rattle.std.proofs.lemmas.List.Concat.{flat_map-append}
use Rattle.std.proofs.lemmas.List.Elements.{Contains-append_left, Contains-append_right, Contains-append_cases}
use Rattle.std.proofs.lemmas.List.Sums.{fold-append}
use Rattle.std.proofs.lemmas.Option.{none-some, same_Some}
use Rattle.asm_objects.specs.Given.{alone, used_name, Uses, AreUndefined}
use Rattle.asm_objects.specs.Meaning.{if_undefined, outer, outer_of, undefined_of}
use Rattle.st_base.specs.FirstUses.{used}
use Rattle.asm_objects.specs.Positions.{IsNowhere, IsTable}
use Rattle.asm_objects.proofs.WordLemmas.{IsOnce, none_in, one_in_has, one_in_is, words_grow, words_have, words_in, words_once}
use Rattle.asm_statements.specs.declared.statement.Name.{Name}
use Rattle.asm_statements.specs.declared.statement.Name.TheVariants.{Here, Named}
use Rattle.asm_statements.specs.declared.statement.Statement.{Statement}
use Rattle.asm_statements.specs.declared.statement.What.{What}
use Rattle.asm_statements.specs.declared.statement.What.TheVariants as what
use Rattle.asm_objects.specs.declared.table.Definition.{Definition}
use Rattle.asm_objects.specs.declared.table.Table.{Table}

-- ---- uses

module _ (ss : List Statement) (t : Table) (tabled : IsTable ss t) where
  -- a name is nowhere defined exactly where the table has none
  absent : (name : List ℕ) → IsNowhere ss name → lookup (bytes_eq name) t.names ≡ None
  absent name nowhere = by (lookup (bytes_eq name) t.names) refl
    where
      by : (o : Option Definition) → lookup (bytes_eq name) t.names ≡ o → o ≡ None
      by None e = refl
      by (Some d) e = let is = tabled.defined name d e in absurd (nowhere d.number is.statement is.at is.named)

  missing_has : (o : Option Definition) (own name : List ℕ) → Contains (if_undefined o own) name → (o ≡ None) × (own ≡ name)
  missing_has None own name h = (refl, one_in_is own name h)
  missing_has (Some d) own name h = absurd (none_in name h)

  outer_of_is : (name : List ℕ) (added taken : List Name) → Contains (outer_of t added taken) name → (alone added taken ≡ Some name) × (lookup (bytes_eq name) t.names ≡ None)
  outer_of_is name (Named own ∷ []) [] h =
      let is = missing_has (lookup (bytes_eq own) t.names) own name h in (ap Some is.1, subst (λ (n : List ℕ). lookup (bytes_eq n) t.names ≡ None) is.1 is.0)
  outer_of_is name (Here ∷ []) [] h = absurd (none_in name h)
  outer_of_is name [] ys h = absurd (none_in name h)
  outer_of_is name (x ∷ []) (y ∷ ys) h = absurd (none_in name h)
  outer_of_is name (x ∷ z ∷ xs) ys h = absurd (none_in name h)

  outer_is : (name : List ℕ) (w : What) → Contains (outer t w) name → (used_name w ≡ Some name) × (lookup (bytes_eq name) t.names ≡ None)
  outer_is name (what.Field width sum) h = outer_of_is name sum.added sum.taken h
  outer_is name _ h = absurd (none_in name h)

  outer_of_has : (name : List ℕ) (added taken : List Name) → alone added taken ≡ Some name → lookup (bytes_eq name) t.names ≡ None → Contains (outer_of t added taken) name
  outer_of_has name (Named own ∷ []) [] e none =
      let is : own ≡ name = same_Some own name e in
      let gone : lookup (bytes_eq own) t.names ≡ None = subst (λ (n : List ℕ). lookup (bytes_eq n) t.names ≡ None) (sym is) none in
      rw gone (one_in_has own name is)
  outer_of_has name (Here ∷ []) [] e none = absurd (none-some name e)
  outer_of_has name [] ys e none = absurd (none-some name e)
  outer_of_has name (x ∷ []) (y ∷ ys) e none = absurd (none-some name e)
  outer_of_has name (x ∷ z ∷ xs) ys e none = absurd (none-some name e)

  outer_has : (name : List ℕ) (w : What) → used_name w ≡ Some name → lookup (bytes_eq name) t.names ≡ None → Contains (outer t w) name
  outer_has name (what.Field width sum) e none = outer_of_has name sum.added sum.taken e none
  outer_has name _ e none = absurd (none-some name e)

  -- the names that statements use and the table lacks
  abbrev outers : List Statement → List (List ℕ)
  outers xs = flat_map (λ s. outer t s.what) xs

  outers_are : (name : List ℕ) (xs : List Statement) → Contains (outers xs) name → Uses xs name × (lookup (bytes_eq name) t.names ≡ None)
  outers_are name [] h = absurd (none_in name h)
  outers_are name (x ∷ xs) h =
      elim (Contains-append_cases (outer t x.what) (outers xs) name h) [
        | inl now ↦ let is = outer_is name x.what now in ((0, x, refl, is.0), is.1)
        | inr later ↦ let is = outers_are name xs later in ((suc is.0.0, is.0.1, is.0.2, is.0.3), is.1)
      ]

  outers_have : (name : List ℕ) (xs : List Statement) (n : ℕ) (s : Statement) → slice_get xs n ≡ Some s → used_name s.what ≡ Some name → lookup (bytes_eq name) t.names ≡ None
      → Contains (outers xs) name
  outers_have name [] n s at used none = absurd (none-some s at)
  outers_have name (x ∷ xs) zero s at used none =
      let same : s ≡ x = sym (same_Some x s at) in
      Contains-append_left (outer t x.what) (outers xs) name (outer_has name x.what (subst (λ (y : Statement). used_name y.what ≡ Some name) same used) none)
  outers_have name (x ∷ xs) (suc n) s at used none = Contains-append_right (outer t x.what) (outers xs) name (outers_have name xs n s at used none)

  used_is : (xs : List Statement) (name : List ℕ) → Contains (fold (used bytes_eq) [] (outers xs)) name → Uses xs name × IsNowhere ss name
  used_is xs name h =
      elim (words_in [] (outers xs) name h) [
        | inl none ↦ absurd (none_in name none)
        | inr there ↦ let is = outers_are name xs there in (is.0, tabled.undefined name is.1)
      ]

  used_has : (xs : List Statement) (name : List ℕ) → Uses xs name × IsNowhere ss name → Contains (fold (used bytes_eq) [] (outers xs)) name
  used_has xs name h = words_have [] (outers xs) name (inr (outers_have name xs h.0.0 h.0.1 h.0.2 h.0.3 (absent name h.1)))

  front_is : (n : ℕ) → take (length (fold (used bytes_eq) [] (outers (take n ss)))) (undefined_of t ss) ≡ fold (used bytes_eq) [] (outers (take n ss))
  front_is n =
      let parts : outers ss ≡ outers (take n ss) ++ outers (drop n ss) = ap outers (sym (take-append-drop n ss)) ∙ flat_map-append (λ (s : Statement). outer t s.what) (take n ss) (drop n ss) in
      let grown = words_grow (fold (used bytes_eq) [] (outers (take n ss))) (outers (drop n ss)) in
      let whole : undefined_of t ss ≡ fold (used bytes_eq) [] (outers (take n ss)) ++ grown.0 =
      ap (fold (used bytes_eq) []) parts ∙ fold-append (used bytes_eq) [] (outers (take n ss)) (outers (drop n ss)) ∙ grown.1 in
      ap (take (length (fold (used bytes_eq) [] (outers (take n ss))))) whole ∙ take_at (fold (used bytes_eq) [] (outers (take n ss))) grown.0 _ refl

  pub undefined_are : AreUndefined ss (undefined_of t ss)
  unfolding IsOnce
  undefined_are = record {
    used = used_is ss;
    once = words_once [] (outers ss) (λ i j name a b. absurd (none-some name a));
    fronts = λ n. (
      length (fold (used bytes_eq) [] (outers (take n ss))),
      λ name. (
        λ h. used_is (take n ss) name (subst (λ (l : List (List ℕ)). Contains l name) (front_is n) h),
        λ h. subst (λ (l : List (List ℕ)). Contains l name) (sym (front_is n)) (used_has (take n ss) name h),
      ),
    );
  }
