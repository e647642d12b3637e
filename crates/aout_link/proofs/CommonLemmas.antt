-- The commons of one entry more.
use Rattle.std.proofs.Common.{◌≡◌, ℕ, ◌+◌, ◌<◌, max, Bool, true, false, cond, List, [], ◌∷◌, ◌++◌, length, map, take, get_or, Option, Some, None, refl, sym, ap, ◌∙◌, arith, append_assoc, append-nil}
use Rattle.std.specs.Prelude.{bytes_eq, not, ◌&&◌, ◌||◌, unwrap_or, fold}
use Rattle.std.specs.List.{list_any}
use Rattle.std.proofs.lemmas.Slice.Eq.{bytes_eq-Decides}
use Rattle.std.proofs.lemmas.List.{take_more, map-append}
use Rattle.std.proofs.lemmas.List.Elements.{filter-append}
use Rattle.std.proofs.lemmas.List.Sums.{fold_push}
use Rattle.std.proofs.lemmas.List.Folds.{list_any-append}
use Rattle.indexmap.specs.IndexMap.{insert_entry}
use Rattle.nlist_codec.specs.declared.named.Named.{Named}
use Rattle.aout_link.specs.Answering.{AreDistinct}
use Rattle.aout_link.specs.NameTables.{is_common, defines, known_by, commons_among, added, first_uses, names_of, greatest, sizes_of}

-- ---- texts

-- texts that compare as equal are one
pub same_text : (p q : List ℕ) → bytes_eq p q ≡ true → p ≡ q
same_text p q e = (bytes_eq-Decides p q).0 e

-- two tests that follow from each other are one
by_which : (a b : Bool) → (a ≡ true → b ≡ true) → (b ≡ true → a ≡ true) → a ≡ b
by_which true true f g = refl
by_which true false f g = sym (f refl)
by_which false true f g = g refl
by_which false false f g = refl

-- a comparison of texts goes both ways
pub swap_eq : (p q : List ℕ) → bytes_eq p q ≡ bytes_eq q p
swap_eq p q = by_which _ _ (λ e. (bytes_eq-Decides q p).1 (sym ((bytes_eq-Decides p q).0 e))) (λ e. (bytes_eq-Decides p q).1 (sym ((bytes_eq-Decides q p).0 e)))

-- where neither of two holds, the first does not
pub or_false_left : (a b : Bool) → (a || b) ≡ false → a ≡ false
or_false_left true b e = e
or_false_left false b e = refl

-- and the second does not
pub or_false_right : (a b : Bool) → (a || b) ≡ false → b ≡ false
or_false_right true b e = absurd (let h : true ≡ false = e in cc)
or_false_right false b e = e

-- ---- distinct names

-- a new name behind distinct ones
distinct_push : (us : List (List ℕ)) (q : List ℕ) → AreDistinct us → list_any (bytes_eq q) us ≡ false → AreDistinct (us ++ q ∷ [])
distinct_push [] q d e = (refl, tt)
distinct_push (u ∷ us) q d e =
    let other : bytes_eq u q ≡ false = swap_eq u q ∙ or_false_left (bytes_eq q u) (list_any (bytes_eq q) us) e in (
      list_any-append (bytes_eq u) us (q ∷ []) ∙ ap (λ (b : Bool). b || (bytes_eq u q || false)) d.0 ∙ ap (λ (b : Bool). b || false) other,
      distinct_push us q d.1 (or_false_right (bytes_eq q u) (list_any (bytes_eq q) us) e),
    )

-- a use keeps names distinct
distinct_added : (us : List (List ℕ)) (q : List ℕ) → AreDistinct us → AreDistinct (added us q)
distinct_added us q d = by (list_any (bytes_eq q) us) refl
  where
    by : (b : Bool) → list_any (bytes_eq q) us ≡ b → AreDistinct (cond b us (us ++ q ∷ []))
    by true e = d
    by false e = distinct_push us q d e

-- so do all uses
distinct_uses : (names us : List (List ℕ)) → AreDistinct us → AreDistinct (fold added us names)
distinct_uses [] us d = d
distinct_uses (n ∷ names) us d = distinct_uses names (added us n) (distinct_added us n d)

-- the names in order of first use are distinct
pub first_uses-distinct : (names : List (List ℕ)) → AreDistinct (first_uses names)
first_uses-distinct names = distinct_uses names [] tt

-- a name is among the distinct ones where it is used
any_same : (us : List (List ℕ)) (q x : List ℕ) → bytes_eq q x ≡ true → list_any (bytes_eq x) us ≡ true → list_any (bytes_eq q) us ≡ true
any_same us q x e h = ap (λ (z : List ℕ). list_any (bytes_eq z) us) (same_text q x e) ∙ h

-- after a use, a name is there where it was there or was used
any_added : (us : List (List ℕ)) (q x : List ℕ) → list_any (bytes_eq q) (added us x) ≡ (list_any (bytes_eq q) us || bytes_eq q x)
any_added us q x = by (list_any (bytes_eq x) us) refl
  where
    or_absorb : (a b : Bool) → (b ≡ true → a ≡ true) → a ≡ (a || b)
    or_absorb true b f = refl
    or_absorb false true f = f refl
    or_absorb false false f = refl

    or-false : (b : Bool) → (b || false) ≡ b
    or-false true = refl
    or-false false = refl

    by : (b : Bool) → list_any (bytes_eq x) us ≡ b → list_any (bytes_eq q) (cond b us (us ++ x ∷ [])) ≡ (list_any (bytes_eq q) us || bytes_eq q x)
    by true h = or_absorb (list_any (bytes_eq q) us) (bytes_eq q x) (λ e. any_same us q x e h)
    by false h = list_any-append (bytes_eq q) us (x ∷ []) ∙ ap (λ (b : Bool). list_any (bytes_eq q) us || b) (or-false (bytes_eq q x))

-- how three tests are taken together does not matter
or_assoc : (a b c : Bool) → ((a || b) || c) ≡ (a || (b || c))
or_assoc true b c = refl
or_assoc false b c = refl

-- after all uses, a name is there where it was there or was used
any_uses : (names us : List (List ℕ)) (q : List ℕ) → list_any (bytes_eq q) (fold added us names) ≡ (list_any (bytes_eq q) us || list_any (bytes_eq q) names)
any_uses [] us q = or-false (list_any (bytes_eq q) us)
  where
    or-false : (b : Bool) → b ≡ (b || false)
    or-false true = refl
    or-false false = refl
any_uses (n ∷ names) us q =
    any_uses names (added us n) q ∙ ap (λ (b : Bool). b || list_any (bytes_eq q) names) (any_added us q n)
    ∙ or_assoc (list_any (bytes_eq q) us) (bytes_eq q n) (list_any (bytes_eq q) names)

-- a name is among the first uses exactly where it is used
pub any_first_uses : (names : List (List ℕ)) (q : List ℕ) → list_any (bytes_eq q) (first_uses names) ≡ list_any (bytes_eq q) names
any_first_uses names q = any_uses names [] q

-- ---- the greatest value

greatest-append : (q : List ℕ) (xs ys : List Named) → greatest q (xs ++ ys) ≡ max (greatest q xs) (greatest q ys)
greatest-append q [] ys = omega arith
greatest-append q (x ∷ xs) ys = let e = greatest-append q xs ys in omega (arith, e)

-- the greatest value with one entry more
greatest_push : (q : List ℕ) (xs : List Named) (n : Named) → greatest q (xs ++ n ∷ []) ≡ max (greatest q xs) (cond (bytes_eq q n.name) n.value 0)
greatest_push q xs n = let e = greatest-append q xs (n ∷ []) in omega (arith, e)

-- no value is given for a name that is not there
greatest_absent : (q : List ℕ) (ns : List Named) → list_any (bytes_eq q) (names_of ns) ≡ false → greatest q ns ≡ 0
greatest_absent q [] e = refl
greatest_absent q (n ∷ ns) e =
    let here = ap (λ (b : Bool). max (cond b n.value 0) (greatest q ns)) (or_false_left (bytes_eq q n.name) (list_any (bytes_eq q) (names_of ns)) e) in
    let rest = greatest_absent q ns (or_false_right (bytes_eq q n.name) (list_any (bytes_eq q) (names_of ns)) e) in
    here ∙ omega (arith, rest)

-- ---- a list of names with a value each

abbrev pairs : (List ℕ → ℕ) → List (List ℕ) → List (List ℕ × ℕ)
pairs g us = map (λ u. (u, g u)) us

-- a name that is not there goes last
insert_absent : (g : List ℕ → ℕ) (us : List (List ℕ)) (q : List ℕ) (v : ℕ) → list_any (bytes_eq q) us ≡ false
    → insert_entry bytes_eq (pairs g us) q v ≡ pairs g us ++ (q, v) ∷ []
insert_absent g [] q v e = refl
insert_absent g (u ∷ us) q v e =
    ap (λ (b : Bool). cond b ((u, v) ∷ pairs g us) ((u, g u) ∷ insert_entry bytes_eq (pairs g us) q v))
    (or_false_left (bytes_eq q u) (list_any (bytes_eq q) us) e)
    ∙ ap (λ (r : List (List ℕ × ℕ)). (u, g u) ∷ r) (insert_absent g us q v (or_false_right (bytes_eq q u) (list_any (bytes_eq q) us) e))

-- the values of other names stay
map_others : (g h : List ℕ → ℕ) (us : List (List ℕ)) (q : List ℕ) → ((u : List ℕ) → bytes_eq q u ≡ false → h u ≡ g u) → list_any (bytes_eq q) us ≡ false
    → pairs g us ≡ pairs h us
map_others g h [] q same e = refl
map_others g h (u ∷ us) q same e =
    ap (λ (x : ℕ). (u, x) ∷ pairs g us) (sym (same u (or_false_left (bytes_eq q u) (list_any (bytes_eq q) us) e)))
    ∙ ap (λ (r : List (List ℕ × ℕ)). (u, h u) ∷ r) (map_others g h us q same (or_false_right (bytes_eq q u) (list_any (bytes_eq q) us) e))

-- a name that is there takes its new value in place
insert_present : (g h : List ℕ → ℕ) (us : List (List ℕ)) (q : List ℕ) (v : ℕ) → AreDistinct us → list_any (bytes_eq q) us ≡ true
    → ((u : List ℕ) → bytes_eq q u ≡ false → h u ≡ g u) → h q ≡ v
    → insert_entry bytes_eq (pairs g us) q v ≡ pairs h us
insert_present g h [] q v d there same e = absurd (let k : false ≡ true = there in cc)
insert_present g h (u ∷ us) q v d there same e = by (bytes_eq q u) refl (insert_present g h us q v d.1)
  where
    Rest : Type 0
    Rest = list_any (bytes_eq q) us ≡ true → ((u : List ℕ) → bytes_eq q u ≡ false → h u ≡ g u) → h q ≡ v → insert_entry bytes_eq (pairs g us) q v ≡ pairs h us

    by : (b : Bool) → bytes_eq q u ≡ b → (list_any (bytes_eq q) us ≡ true → ((x : List ℕ) → bytes_eq q x ≡ false → h x ≡ g x) → h q ≡ v → insert_entry bytes_eq (pairs g us) q v ≡ pairs h us)
        → cond b ((u, v) ∷ pairs g us) ((u, g u) ∷ insert_entry bytes_eq (pairs g us) q v) ≡ (u, h u) ∷ pairs h us
    by true is rest =
        let own : q ≡ u = same_text q u is in
        let others : list_any (bytes_eq q) us ≡ false = ap (λ (z : List ℕ). list_any (bytes_eq z) us) own ∙ d.0 in
        ap (λ (x : ℕ). (u, x) ∷ pairs g us) (sym e ∙ ap h own) ∙ ap (λ (r : List (List ℕ × ℕ)). (u, h u) ∷ r) (map_others g h us q same others)
    by false is rest =
        let further : list_any (bytes_eq q) us ≡ true = sym (ap (λ (b : Bool). b || list_any (bytes_eq q) us) is) ∙ there in
        ap (λ (x : ℕ). (u, x) ∷ insert_entry bytes_eq (pairs g us) q v) (sym (same u is)) ∙ ap (λ (r : List (List ℕ × ℕ)). (u, h u) ∷ r) (rest further same e)

-- a look-up of a name that is not there
lookup_absent : (g : List ℕ → ℕ) (us : List (List ℕ)) (q : List ℕ) → list_any (bytes_eq q) us ≡ false → known_by q (pairs g us) ≡ None
lookup_absent g [] q e = refl
lookup_absent g (u ∷ us) q e =
    ap (λ (b : Bool). cond b (Some (g u)) (known_by q (pairs g us))) (or_false_left (bytes_eq q u) (list_any (bytes_eq q) us) e)
    ∙ lookup_absent g us q (or_false_right (bytes_eq q u) (list_any (bytes_eq q) us) e)

-- and of one that is
lookup_present : (g : List ℕ → ℕ) (us : List (List ℕ)) (q : List ℕ) → list_any (bytes_eq q) us ≡ true → known_by q (pairs g us) ≡ Some (g q)
lookup_present g [] q e = absurd (let k : false ≡ true = e in cc)
lookup_present g (u ∷ us) q e = by (bytes_eq q u) refl (lookup_present g us q)
  where
    by : (b : Bool) → bytes_eq q u ≡ b → (list_any (bytes_eq q) us ≡ true → known_by q (pairs g us) ≡ Some (g q))
        → cond b (Some (g u)) (known_by q (pairs g us)) ≡ Some (g q)
    by true is rest = ap (λ (z : List ℕ). Some (g z)) (sym (same_text q u is))
    by false is rest = rest (sym (ap (λ (b : Bool). b || list_any (bytes_eq q) us) is) ∙ e)

-- ---- one entry more

-- the sizes with one common more: its own is the greater of the old one and its value
pub sizes_push : (ns : List Named) (n : Named) → insert_entry bytes_eq (sizes_of ns) n.name (max (unwrap_or (known_by n.name (sizes_of ns)) 0) n.value) ≡ sizes_of (ns ++ n ∷ [])
sizes_push ns n = by (list_any (bytes_eq n.name) (first_uses (names_of ns))) refl
  where
    q : List ℕ
    q = n.name

    us : List (List ℕ)
    us = first_uses (names_of ns)

    other : (u : List ℕ) → bytes_eq n.name u ≡ false → greatest u (ns ++ n ∷ []) ≡ greatest u ns
    other u e =
        greatest_push u ns n ∙ ap (λ (b : Bool). max (greatest u ns) (cond b n.value 0)) (swap_eq u n.name ∙ e) ∙ omega arith

    own : greatest n.name (ns ++ n ∷ []) ≡ max (greatest n.name ns) n.value
    own = greatest_push n.name ns n ∙ ap (λ (b : Bool). max (greatest n.name ns) (cond b n.value 0)) ((bytes_eq-Decides n.name n.name).1 refl)

    uses : first_uses (names_of (ns ++ n ∷ [])) ≡ added (first_uses (names_of ns)) n.name
    uses = ap first_uses (map-append (λ x. x.name) ns (n ∷ [])) ∙ fold_push added [] (names_of ns) n.name

    by : (b : Bool) → list_any (bytes_eq n.name) (first_uses (names_of ns)) ≡ b
        → insert_entry bytes_eq (sizes_of ns) n.name (max (unwrap_or (known_by n.name (sizes_of ns)) 0) n.value) ≡ sizes_of (ns ++ n ∷ [])
    by true there =
        ap (λ (o : Option ℕ). insert_entry bytes_eq (sizes_of ns) n.name (max (unwrap_or o 0) n.value)) (lookup_present (λ u. greatest u ns) (first_uses (names_of ns)) n.name there)
        ∙ insert_present (λ u. greatest u ns) (λ u. greatest u (ns ++ n ∷ [])) (first_uses (names_of ns)) n.name (max (greatest n.name ns) n.value) (first_uses-distinct (names_of ns)) there other own
        ∙ ap (pairs (λ u. greatest u (ns ++ n ∷ []))) (sym (uses ∙ ap (λ (b : Bool). cond b (first_uses (names_of ns)) (first_uses (names_of ns) ++ n.name ∷ [])) there))
    by false away =
        let none : greatest n.name ns ≡ 0 = greatest_absent n.name ns (sym (any_first_uses (names_of ns) n.name) ∙ away) in
        let value : max 0 n.value ≡ greatest n.name (ns ++ n ∷ []) = omega (arith, own, none) in
        ap (λ (o : Option ℕ). insert_entry bytes_eq (sizes_of ns) n.name (max (unwrap_or o 0) n.value)) (lookup_absent (λ u. greatest u ns) (first_uses (names_of ns)) n.name away)
        ∙ insert_absent (λ u. greatest u ns) (first_uses (names_of ns)) n.name (max 0 n.value) away
        ∙ ap (λ (v : ℕ). pairs (λ u. greatest u ns) (first_uses (names_of ns)) ++ (n.name, v) ∷ []) value
        ∙ ap (λ (r : List (List ℕ × ℕ)). r ++ (n.name, greatest n.name (ns ++ n ∷ [])) ∷ []) (map_others (λ u. greatest u ns) (λ u. greatest u (ns ++ n ∷ [])) (first_uses (names_of ns)) n.name other away)
        ∙ sym (map-append {B = List ℕ × ℕ} (λ u. (u, greatest u (ns ++ n ∷ []))) (first_uses (names_of ns)) (n.name ∷ []))
        ∙ ap (pairs (λ u. greatest u (ns ++ n ∷ []))) (sym (uses ∙ ap (λ (b : Bool). cond b (first_uses (names_of ns)) (first_uses (names_of ns) ++ n.name ∷ [])) away))

-- ---- the commons among the entries of an object

-- the commons among entries with one entry more
commons_push : (all xs : List Named) (n : Named) (wanted : Bool) → (is_common n && not (list_any (defines n.name) all)) ≡ wanted
    → commons_among all (xs ++ n ∷ []) ≡ commons_among all xs ++ cond wanted (n ∷ []) []
commons_push all xs n wanted e =
    filter-append (λ x. is_common x && not (list_any (defines x.name) all)) xs (n ∷ []) ∙ ap (λ (b : Bool). commons_among all xs ++ cond b (n ∷ []) []) e

-- the same of the first entries of a list
taken_push : (all ns : List Named) (j : ℕ) (n : Named) (wanted : Bool) → j < length ns → n ≡ get_or ns j n → (is_common n && not (list_any (defines n.name) all)) ≡ wanted
    → commons_among all (take (j + 1) ns) ≡ commons_among all (take j ns) ++ cond wanted (n ∷ []) []
taken_push all ns j n wanted lt is e =
    ap (commons_among all) (take_more ns j n lt ∙ ap (λ (x : Named). take j ns ++ x ∷ []) (sym is)) ∙ commons_push all (take j ns) n wanted e

-- an entry that asks for no common, or whose name is defined
pub common_skip : (all before ns : List Named) (j : ℕ) (n : Named) (sizes : List (List ℕ × ℕ)) → j < length ns → n ≡ get_or ns j n
    → (is_common n && not (list_any (defines n.name) all)) ≡ false
    → sizes ≡ sizes_of (before ++ commons_among all (take j ns)) → sizes ≡ sizes_of (before ++ commons_among all (take (j + 1) ns))
common_skip all before ns j n sizes lt is plain e =
    e ∙ ap (λ (x : List Named). sizes_of (before ++ x)) (sym (taken_push all ns j n false lt is plain ∙ append-nil (commons_among all (take j ns))))

-- an entry whose common is noted
pub common_note : (all before ns : List Named) (j : ℕ) (n : Named) (sizes new : List (List ℕ × ℕ)) (q : List ℕ) → j < length ns → n ≡ get_or ns j n → q ≡ n.name
    → is_common n ≡ true → list_any (defines n.name) all ≡ false
    → sizes ≡ sizes_of (before ++ commons_among all (take j ns)) → new ≡ insert_entry bytes_eq sizes q (max (unwrap_or (known_by q sizes) 0) n.value)
    → new ≡ sizes_of (before ++ commons_among all (take (j + 1) ns))
common_note all before ns j n sizes new q lt is own common free e i =
    let so_far : List Named = before ++ commons_among all (take j ns) in
    let wanted : (is_common n && not (list_any (defines n.name) all)) ≡ true = ap (λ (b : Bool). b && not (list_any (defines n.name) all)) common ∙ ap not free in
    i ∙ ap (λ (x : List ℕ). insert_entry bytes_eq sizes x (max (unwrap_or (known_by x sizes) 0) n.value)) own
    ∙ ap (λ (x : List (List ℕ × ℕ)). insert_entry bytes_eq x n.name (max (unwrap_or (known_by n.name x) 0) n.value)) e
    ∙ sizes_push so_far n
    ∙ ap sizes_of (append_assoc before (commons_among all (take j ns)) (n ∷ []))
    ∙ ap (λ (x : List Named). sizes_of (before ++ x)) (sym (taken_push all ns j n true lt is wanted))
