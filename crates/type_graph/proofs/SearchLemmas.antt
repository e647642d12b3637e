-- What is known of a key's definition: noting all definitions, one after another, gives the first that is no cross reference, or else
-- the first; once it is settled nothing changes it; and so a search that stops there knows what one to the end knows.
use Rattle.std.proofs.Common.{◌≡◌, ℕ, ◌+◌, ◌<◌, length, take, drop, get_or, Bool, true, false, List, [], ◌∷◌, ◌++◌, refl, sym, ap, subst, ◌∙◌, ⊎_elim, cond, append-nil}
use Rattle.std.specs.Prelude.{◌&&◌, not, Option, Some, None, Result, Ok, Err, OnErr, flat_map, ⊤}
use Rattle.std.specs.List.{find}
use Rattle.std.specs.Option.{option_copied, option_or}
use Rattle.std.proofs.lemmas.List.{take_more, take-append-drop}
use Rattle.std.proofs.lemmas.Grind.{flat_map-append}
use Rattle.stab_symbols.specs.declared.tree.Key.{Key}
use Rattle.stab_symbols.specs.declared.tree.TypeTree.{TypeTree}
use Rattle.stab_symbols.specs.Definitions.{Definition, is_cross}
use Rattle.stab_symbols.specs.TypeWalks.{Visited}
use Rattle.stab_symbols.specs.Surface.{same_key}
use Rattle.type_graph.specs.declared.definitions.Search.{Search}
use Rattle.type_graph.specs.declared.definitions.Settled.{Settled}
use Rattle.type_graph.specs.Types.{first_of, body_of, is_full, is_any}
use Rattle.type_graph.specs.Searches.{noted, noted_all, is_settled, HasMet, Meets}
use Rattle.type_graph.proofs.KeyLemmas.{which}

-- ---- what is settled stays

full-stays : (key : Key) (body : TypeTree) (ds : List Definition) → is_cross body ≡ false → noted_all key (Some body) ds ≡ Some body
full-stays key body [] full = refl
full-stays key body (d ∷ ds) full =
    ap (λ (z : Option TypeTree). noted_all key z ds) (stays (same_key key d.key) (not (is_cross d.body)) d.body) ∙ full-stays key body ds full
  where
    stays : (s c : Bool) (other : TypeTree) → cond (s && (is_cross body && c)) (Some other) (Some body) ≡ Some body
    stays true c other = ap (λ (b : Bool). cond (b && c) (Some other) (Some body)) full
    stays false c other = refl

no_cross : (c : Bool) → not c ≡ true → c ≡ false
no_cross true e = absurd (cc)
no_cross false e = refl

-- once a definition is known that is no cross reference, it stays
pub noted-settled : (key : Key) (known : Option TypeTree) (ds : List Definition) → is_settled known ≡ true → noted_all key known ds ≡ known
noted-settled key None ds settled = absurd (cc)
noted-settled key (Some body) ds settled = full-stays key body ds (no_cross (is_cross body) settled)

-- ---- noting is finding the first

full_no_cross : (s c : Bool) → (s && not c) ≡ true → c ≡ false
full_no_cross true true e = sym e
full_no_cross true false e = refl
full_no_cross false c e = absurd (cc)

-- a cross reference gives way to the first definition that is none
noted-pending : (key : Key) (body : TypeTree) (ds : List Definition) → is_cross body ≡ true
    → noted_all key (Some body) ds ≡ option_or (body_of (find (is_full key) ds)) (Some body)
noted-pending key body [] cross = refl
noted-pending key body (d ∷ ds) cross =
    let next : noted key (Some body) d ≡ cond (is_full key d) (Some d.body) (Some body) =
    ap (λ (b : Bool). cond (same_key key d.key && (b && not (is_cross d.body))) (Some d.body) (Some body)) cross in
    let rest = λ (b : Bool). option_or (body_of (cond b (Some d) (find (is_full key) ds))) (Some body) in
    ap (λ (z : Option TypeTree). noted_all key z ds) next ∙ ⊎_elim
    (λ full. ap (λ (b : Bool). noted_all key (cond b (Some d.body) (Some body)) ds) full
    ∙ full-stays key d.body ds (full_no_cross (same_key key d.key) (is_cross d.body) full) ∙ sym (ap rest full))
    (λ other. ap (λ (b : Bool). noted_all key (cond b (Some d.body) (Some body)) ds) other ∙ noted-pending key body ds cross ∙ sym (ap rest other))
    (which (is_full key d))

body_of-option_or : (o : Option Definition) (d : Definition) → option_or (body_of o) (Some d.body) ≡ body_of (option_or o (Some d))
body_of-option_or None d = refl
body_of-option_or (Some e) d = refl

-- noting all gives the first that is no cross reference, or else the first cross reference
pub noted-first : (key : Key) (ds : List Definition) → noted_all key None ds ≡ first_of key ds
noted-first key [] = refl
noted-first key (d ∷ ds) =
    let all = find (is_full key) ds in
    let any = find (is_any key) ds in
    let first = λ (s c : Bool). body_of (option_or (cond (s && not c) (Some d) all) (cond s (Some d) any)) in
    ⊎_elim
    (λ same. ap (λ (b : Bool). noted_all key (cond (b && true) (Some d.body) None) ds) same ∙ ⊎_elim
    (λ cross. noted-pending key d.body ds cross ∙ body_of-option_or all d ∙ sym (ap (λ (c : Bool). first true c) cross))
    (λ full. full-stays key d.body ds full ∙ sym (ap (λ (c : Bool). first true c) full))
    (which (is_cross d.body))
    ∙ sym (ap (λ (b : Bool). first b (is_cross d.body)) same))
    (λ other. ap (λ (b : Bool). noted_all key (cond (b && true) (Some d.body) None) ds) other ∙ noted-first key ds ∙ sym (ap (λ (b : Bool). first b (is_cross d.body)) other))
    (which (same_key key d.key))

-- the definitions of two lists are noted one list after the other
pub noted-append : (key : Key) (known : Option TypeTree) (ds es : List Definition) → noted_all key known (ds ++ es) ≡ noted_all key (noted_all key known ds) es
noted-append key known [] es = refl
noted-append key known (d ∷ ds) es = noted-append key (noted key known d) ds es

-- ---- a search

-- meeting two lists, one after the other
pub met-then : (old mid new : Search) (ds es : List Definition) (first second : Result ⊤ Settled) → HasMet old ds mid first → HasMet mid es new second → HasMet old (ds ++ es) new second
met-then old mid new ds es first second before after = record {
  key = after.key ∙ before.key;
  known = after.known
      ∙ ap (λ (k : Key). noted_all k (option_copied mid.known) es) before.key
      ∙ ap (λ (o : Option TypeTree). noted_all old.key o es) before.known
      ∙ sym (noted-append old.key (option_copied old.known) ds es);
  stopped = after.stopped;
}

-- what holds, holds where a search stops
at_stop : (result : Result ⊤ Settled) {P : Type 0} → P → OnErr result P
at_stop (Ok x) p = tt
at_stop (Err e) p = p

-- a search that is settled has met all that follows, whatever it answers
pub met-over : (old new : Search) (ds es : List Definition) (first second : Result ⊤ Settled) → HasMet old ds new first → is_settled (option_copied new.known) ≡ true → HasMet old (ds ++ es) new second
met-over old new ds es first second met settled = record {
  key = met.key;
  known = met.known
      ∙ sym (noted-settled old.key (noted_all old.key (option_copied old.known) ds) es (sym (ap is_settled met.known) ∙ settled))
      ∙ sym (noted-append old.key (option_copied old.known) ds es);
  stopped = at_stop second settled;
}

-- it is settled where it stops
pub settled-at_stop : (old new : Search) (ds : List Definition) (result : Result ⊤ Settled) (e : Settled) → HasMet old ds new result → result ≡ Err e → is_settled (option_copied new.known) ≡ true
settled-at_stop old new ds result e met stop = subst (λ (r : Result ⊤ Settled). OnErr r (is_settled (option_copied new.known) ≡ true)) stop met.stopped

-- visiting definitions is meeting them
pub all-met : (ds : List Definition) (old new : Search) (result : Result ⊤ Settled) → Visited Meets old ds new result → HasMet old ds new result
all-met [] old new result v = record {
  key = ap (λ (s : Search). s.key) v.0;
  known = ap (λ (s : Search). option_copied s.known) v.0;
  stopped = subst (λ (r : Result ⊤ Settled). OnErr r (is_settled (option_copied new.known) ≡ true)) (sym v.1) tt;
}
all-met (d ∷ ds) old new result v = ⊎_elim
    (λ on. met-then old on.0 new (d ∷ []) ds (Ok tt) result on.1 (all-met ds on.0 new result on.2))
    (λ stop. met-over old new (d ∷ []) ds result result stop.2 (settled-at_stop old new (d ∷ []) result stop.0 stop.2 stop.1))
    v

-- ---- a search through the items of a list

module _ {A : Type 0} (definitions : A → List Definition) (old mid new : Search) (xs : List A) where
  -- one item more
  pub met-more : (at : ℕ) (x : A) (first second : Result ⊤ Settled) → at < length xs → x ≡ get_or xs at x
      → HasMet old (flat_map definitions (take at xs)) mid first → HasMet mid (definitions x) new second → HasMet old (flat_map definitions (take (at + 1) xs)) new (Ok tt)
  met-more at x first second within is before after =
      subst (λ (ds : List Definition). HasMet old ds new (Ok tt))
      (sym (ap (λ (ys : List A). flat_map definitions ys) (take_more xs at x within)
      ∙ flat_map-append definitions (take at xs) (get_or xs at x ∷ [])
      ∙ ap (λ (ds : List Definition). flat_map definitions (take at xs) ++ ds) (append-nil (definitions (get_or xs at x)))
      ∙ ap (λ (y : A). flat_map definitions (take at xs) ++ definitions y) (sym is)))
      (met-then old mid new (flat_map definitions (take at xs)) (definitions x) first (Ok tt) before (record { key = after.key; known = after.known; stopped = tt }))

  -- the search stops at one, so all are met
  pub met-stop : (at : ℕ) (x : A) (first second last : Result ⊤ Settled) (e : Settled) → at < length xs → x ≡ get_or xs at x
      → HasMet old (flat_map definitions (take at xs)) mid first → HasMet mid (definitions x) new second → second ≡ Err e → HasMet old (flat_map definitions xs) new last
  met-stop at x first second last e within is before after stop =
      subst (λ (ds : List Definition). HasMet old ds new last)
      (sym (flat_map-append definitions (take (at + 1) xs) (drop (at + 1) xs)) ∙ ap (λ (ys : List A). flat_map definitions ys) (take-append-drop (at + 1) xs))
      (met-over old new (flat_map definitions (take (at + 1) xs)) (flat_map definitions (drop (at + 1) xs)) (Ok tt) last
      (met-more at x first second within is before after) (settled-at_stop mid new (definitions x) second e after stop))
