-- The place of one common more, whose name is new in the table.
use Rattle.std.proofs.Common.{◌≡◌, ℕ, ◌+◌, ◌%◌, ◌^◌, Bool, true, false, cond, List, [], ◌∷◌, ◌++◌, map, take, drop, Some, refl, sym, ap, subst, ◌∙◌, is_some, append_assoc}
use Rattle.std.specs.Prelude.{bytes_eq, not, ◌||◌, slice_get}
use Rattle.std.specs.List.{list_any}
use Rattle.std.specs.Option.{option_map}
use Rattle.std.proofs.lemmas.Slice.Eq.{bytes_eq-Decides}
use Rattle.std.proofs.lemmas.Option.{slice_get-map, slice_get_within, get_or_from_slice_get}
use Rattle.std.proofs.lemmas.List.{take_more, drop_more, map-append, take-append-drop}
use Rattle.std.proofs.lemmas.List.Sums.{sum_by_push}
use Rattle.std.proofs.lemmas.List.Folds.{list_any-append}
use denote.Ref.{Bor}
use Rattle.aout_link.specs.declared.definitions.Known.{Known}
use Rattle.aout_link.specs.Answering.{listed, AreDistinct, AreNew}
use Rattle.st_base.specs.Multiples.{aligned}
use Rattle.aout_link.specs.Moves.{fronts}
use Rattle.aout_link.specs.NameTables.{known_by, common_at, commons_total, placed_commons}
use Rattle.aout_link.proofs.FrontLemmas.{fronts_push}
use Rattle.aout_link.proofs.DefinitionLemmas.{known-append}
use Rattle.aout_link.proofs.CommonLemmas.{swap_eq, or_false_left, or_false_right}

abbrev names : List (List ℕ × ℕ) → List (List ℕ)
names ss = map (λ e. e.0) ss

-- an item of a map, by what its key shows
pub item_listed : {X : Type 0} (es : List (Bor (List ℕ) × X)) (at : ℕ) (k : Bor (List ℕ)) (x : X) → slice_get es at ≡ Some (k, x) → slice_get (listed es) at ≡ Some (k.now, x)
item_listed es at k x e = slice_get-map (λ z. (z.0.now, z.1)) es at ∙ ap (option_map (λ z. (z.0.now, z.1))) e

-- the names of placed commons are those of their sizes
placed_known : (start : ℕ) (q : List ℕ) (before ss : List (List ℕ × ℕ)) → is_some (known_by q (map (λ p. (p.1.0, common_at start p.0)) (fronts before ss))) ≡ list_any (bytes_eq q) (names ss)
placed_known start q before [] = refl
placed_known start q before (e ∷ ss) = by (bytes_eq q e.0) (placed_known start q (before ++ e ∷ []) ss)
  where
    by : (b : Bool) → is_some (known_by q (map (λ p. (p.1.0, common_at start p.0)) (fronts (before ++ e ∷ []) ss))) ≡ list_any (bytes_eq q) (names ss)
        → is_some (cond b (Some (common_at start before)) (known_by q (map (λ p. (p.1.0, common_at start p.0)) (fronts (before ++ e ∷ []) ss)))) ≡ (b || list_any (bytes_eq q) (names ss))
    by true rest = refl
    by false rest = rest

-- a name of a list of distinct ones does not stand before its place
distinct_split : (q : List ℕ) (xs ys : List (List ℕ)) → AreDistinct (xs ++ q ∷ ys) → list_any (bytes_eq q) xs ≡ false
distinct_split q [] ys d = refl
distinct_split q (x ∷ xs) ys d =
    let other : (list_any (bytes_eq x) xs || (bytes_eq x q || list_any (bytes_eq x) ys)) ≡ false = sym (list_any-append (bytes_eq x) xs (q ∷ ys)) ∙ d.0 in
    let apart : bytes_eq x q ≡ false = or_false_left (bytes_eq x q) (list_any (bytes_eq x) ys) (or_false_right (list_any (bytes_eq x) xs) (bytes_eq x q || list_any (bytes_eq x) ys) other) in
    ap (λ (b : Bool). b || list_any (bytes_eq q) xs) (swap_eq q x ∙ apart) ∙ distinct_split q xs ys d.1

-- one of two holds
or_true_right : (a : Bool) → (a || true) ≡ true
or_true_right true = refl
or_true_right false = refl

-- a name stands at its place
any_at : (q : List ℕ) (xs ys : List (List ℕ)) → list_any (bytes_eq q) (xs ++ q ∷ ys) ≡ true
any_at q xs ys =
    list_any-append (bytes_eq q) xs (q ∷ ys) ∙ ap (λ (b : Bool). list_any (bytes_eq q) xs || (b || list_any (bytes_eq q) ys)) ((bytes_eq-Decides q q).1 refl)
    ∙ or_true_right (list_any (bytes_eq q) xs)

-- a list, parted at a place
parted : (ss : List (List ℕ × ℕ)) (at : ℕ) (e : List ℕ × ℕ) → slice_get ss at ≡ Some e → take at ss ++ e ∷ drop (at + 1) ss ≡ ss
parted ss at e is =
    ap (λ (r : List (List ℕ × ℕ)). take at ss ++ r) (sym (drop_more ss at e (slice_get_within ss at e is) ∙ ap (λ (x : List ℕ × ℕ). x ∷ drop (at + 1) ss) (get_or_from_slice_get ss at e e is)))
    ∙ take-append-drop at ss

-- the items up to a place and the one there
taken : (ss : List (List ℕ × ℕ)) (at : ℕ) (e : List ℕ × ℕ) → slice_get ss at ≡ Some e → take (at + 1) ss ≡ take at ss ++ e ∷ []
taken ss at e is = take_more ss at e (slice_get_within ss at e is) ∙ ap (λ (x : List ℕ × ℕ). take at ss ++ x ∷ []) (get_or_from_slice_get ss at e e is)

-- the name at a place is in the table neither from before nor from the commons so far
new_at : (old ss : List (List ℕ × ℕ)) (at : ℕ) (q : List ℕ) (s : ℕ) → slice_get ss at ≡ Some (q, s) → AreDistinct (names ss)
    → (list_any (bytes_eq q) (names ss) ≡ true) × (list_any (bytes_eq q) (names (take at ss)) ≡ false)
new_at old ss at q s is d =
    let e : names (take at ss) ++ q ∷ names (drop (at + 1) ss) ≡ names ss =
    sym (map-append (λ x. x.0) (take at ss) ((q, s) ∷ drop (at + 1) ss)) ∙ ap names (parted ss at (q, s) is) in (
      ap (list_any (bytes_eq q)) (sym e) ∙ any_at q (names (take at ss)) (names (drop (at + 1) ss)),
      distinct_split q (names (take at ss)) (names (drop (at + 1) ss)) (subst AreDistinct (sym e) d),
    )

-- one common more is placed behind those so far
pub common_placed : (old : List (List ℕ × Known)) (ss : List (List ℕ × ℕ)) (start at : ℕ) (q : List ℕ) (s : ℕ) (table new : List (List ℕ × Known)) (total value : ℕ) (fresh : Bool)
    → slice_get ss at ≡ Some (q, s) → AreNew old ss → table ≡ old ++ placed_commons start (take at ss) → total ≡ commons_total (take at ss)
    → value ≡ (start + total) % 2 ^ 32 → fresh ≡ not (is_some (known_by q table)) → (fresh ≡ true → new ≡ table ++ (q, record { kind = 9; value = value }) ∷ [])
    → new ≡ old ++ placed_commons start (take (at + 1) ss)
common_placed old ss start at q s table new total value fresh is are e sum v told noted =
    let here = new_at ss ss at q s is are.distinct in
    let absent : is_some (known_by q table) ≡ false =
    ap (λ (t : List (List ℕ × Known)). is_some (known_by q t)) e ∙ known-append (bytes_eq q) old (placed_commons start (take at ss))
    ∙ ap (λ (b : Bool). b || is_some (known_by q (placed_commons start (take at ss)))) (are.absent q here.0)
    ∙ placed_known start q [] (take at ss) ∙ here.1 in
    noted (told ∙ ap not absent)
    ∙ ap (λ (t : List (List ℕ × Known)). t ++ (q, record { kind = 9; value = value }) ∷ []) e
    ∙ ap (λ (x : ℕ). (old ++ placed_commons start (take at ss)) ++ (q, record { kind = 9; value = x }) ∷ []) (v ∙ ap (λ (n : ℕ). (start + n) % 2 ^ 32) sum)
    ∙ append_assoc old (placed_commons start (take at ss)) ((q, common_at start (take at ss)) ∷ [])
    ∙ ap (λ (r : List (List ℕ × Known)). old ++ r)
    (sym (map-append {B = List ℕ × Known} (λ p. (p.1.0, common_at start p.0)) (fronts [] (take at ss)) ((take at ss, (q, s)) ∷ []))
    ∙ ap (λ r. map {B = List ℕ × Known} (λ p. (p.1.0, common_at start p.0)) r) (sym (fronts_push (take at ss) (q, s)))
    ∙ ap (placed_commons start) (sym (taken ss at (q, s) is)))

-- and its padded size is added
pub total_more : (ss : List (List ℕ × ℕ)) (at : ℕ) (q : List ℕ) (s : ℕ) (total more : ℕ) → slice_get ss at ≡ Some (q, s) → total ≡ commons_total (take at ss) → more ≡ aligned s
    → total + more ≡ commons_total (take (at + 1) ss)
total_more ss at q s total more is e m =
    let push = sum_by_push (λ x. aligned x.1) (take at ss) (q, s) in
    ap (λ (n : ℕ). n + more) e ∙ ap (λ (n : ℕ). commons_total (take at ss) + n) m ∙ sym push ∙ ap commons_total (sym (taken ss at (q, s) is))
