-- Which items belong to a function, which to the block of an N_LBRAC, and which blocks to a function, in words of places.
use Rattle.std.proofs.Common.{◌≡◌, ℕ, zero, suc, ◌+◌, ◌-◌, ◌<◌, ◌⊎◌, inl, inr, ⊎_elim, List, [], ◌∷◌, length, take, drop, Bool, true, false, cond, Option, Some, None, refl, sym, ap, ◌∙◌, arith, subst, add-one}
use Rattle.std.specs.Prelude.{slice_get, MatchOption, ◌&&◌, not, is_none, ◌↔◌, Contains}
use Rattle.std.specs.List.{find}
use Rattle.std.proofs.lemmas.Bool.{cases_Bool, cases_order, and_parts, and_from, not-true, false_from_ne_true, eqb-true, eq-eqb}
use Rattle.std.proofs.lemmas.Option.{same_Some, none-some, slice_get_within}
use Rattle.std.proofs.lemmas.List.{length-take-le}
use Rattle.scope_lines.specs.declared.role.Role.{Role}
use Rattle.scope_lines.specs.declared.role.Role.TheVariants.{Function, Opens, Closes, Parameter, Local, Static, Other}
use Rattle.scope_lines.specs.ListPlaces.{last_place, IsLast, NonePass}
use Rattle.scope_lines.specs.declared.scope.Block.{Block}
use Rattle.scope_lines.specs.Blocks.{waits_at, waiting, is_local, decides, end_value, closing_value, block_at, block_of, is_in_block, IsFirstEven, EndsWith, NeverEnds, IsWaiting}
use Rattle.scope_lines.specs.Scopes.{own_at, own_of, blocks_at, blocks_of, static_at, statics_of, is_static, is_own, is_in, opens_next, is_function, same_place, OpensNext, IsOwn, IsBlock}
use Rattle.scope_lines.proofs.GivesLemmas.{Given, each_gives, each_takes, in_cond, out_cond, in_if}
use Rattle.scope_lines.proofs.LawLemmas.{last_place_is}
use Rattle.scope_lines.proofs.EndLemmas.{end_is}

-- ---- what decides

next_cons : (x : Role) (xs : List Role) → decides x ≡ false → OpensNext xs → OpensNext (x ∷ xs)
next_cons x xs idle next = (suc next.0, next.1, next.2, before)
  where
    before : (j : ℕ) (y : Role) → j < suc next.0 → slice_get (x ∷ xs) j ≡ Some y → decides y ≡ false
    before zero y h e = ap decides (sym (same_Some x y e)) ∙ idle
    before (suc j) y h e = next.3 j y (omega arith) e

next_now : (value : ℕ) (xs : List Role) → OpensNext (Opens value ∷ xs)
next_now value xs = (0, value, refl, λ j y h e. absurd (omega arith))

next_rest : (x : Role) (xs : List Role) → decides x ≡ false → OpensNext (x ∷ xs) → OpensNext xs
next_rest x xs idle (zero, value, e, before) = absurd (let t : false ≡ true = sym idle ∙ ap decides (same_Some x (Opens value) e) in cc)
next_rest x xs idle (suc n, value, e, before) = (n, value, e, λ j y h f. before (suc j) y (omega arith) f)

-- another that decides stands in front
not_next : (x : Role) (xs : List Role) → decides x ≡ true → ((value : ℕ) → x ≡ Opens value → ⊥) → OpensNext (x ∷ xs) → ⊥
not_next x xs does other (zero, value, e, before) = other value (same_Some x (Opens value) e)
not_next x xs does other (suc n, value, e, before) = let t : true ≡ false = sym does ∙ before 0 x (omega arith) refl in cc

pub next_is : (xs : List Role) → (opens_next xs ≡ true → OpensNext xs) × (OpensNext xs → opens_next xs ≡ true)
next_is [] = (λ e. absurd cc, λ next. absurd (none-some (Opens next.1) next.2))
next_is (Opens value ∷ xs) = (λ e. next_now value xs, λ next. refl)
next_is (Closes value ∷ xs) = (λ e. absurd cc, λ next. absurd (not_next (Closes value) xs refl (λ v e. cc) next))
next_is (Function value ∷ xs) = (λ e. absurd cc, λ next. absurd (not_next (Function value) xs refl (λ v e. cc) next))
next_is (Parameter ∷ xs) = (λ e. next_cons Parameter xs refl ((next_is xs).0 e), λ next. (next_is xs).1 (next_rest Parameter xs refl next))
next_is (Local ∷ xs) = (λ e. next_cons Local xs refl ((next_is xs).0 e), λ next. (next_is xs).1 (next_rest Local xs refl next))
next_is (Static ∷ xs) = (λ e. next_cons Static xs refl ((next_is xs).0 e), λ next. (next_is xs).1 (next_rest Static xs refl next))
next_is (Other ∷ xs) = (λ e. next_cons Other xs refl ((next_is xs).0 e), λ next. (next_is xs).1 (next_rest Other xs refl next))

-- ---- the last function before

same_last : {X : Type 0} (test : X → Bool) (xs : List X) (f g : ℕ) → IsLast test xs f → IsLast test xs g → f ≡ g
same_last test xs f g a b = ⊎_elim (λ h. h) (λ h. ⊎_elim
    (λ (lt : f < g). absurd (let t : true ≡ false = sym b.passes ∙ a.last g b.item lt b.there in cc))
    (λ (lt : g < f). absurd (let t : true ≡ false = sym a.passes ∙ b.last f a.item lt a.there in cc)) h)
    (cases_order f g)

is_in_last : (f : ℕ) (before : List Role) → is_in (Some f) before ≡ true → IsLast is_function before f
is_in_last f before = pick (last_place is_function before) (last_place_is is_function before)
  where
    pick : (o : Option ℕ) → MatchOption o (NonePass is_function before) (IsLast is_function before) → same_place (Some f) o ≡ true → IsLast is_function before f
    pick None none e = absurd cc
    pick (Some g) last e = subst (IsLast is_function before) (sym (eqb-true f g e)) last

last_is_in : (f : ℕ) (before : List Role) → IsLast is_function before f → is_in (Some f) before ≡ true
last_is_in f before here = pick (last_place is_function before) (last_place_is is_function before)
  where
    pick : (o : Option ℕ) → MatchOption o (NonePass is_function before) (IsLast is_function before) → same_place (Some f) o ≡ true
    pick None none = absurd (let t : true ≡ false = sym here.passes ∙ none f here.item here.there in cc)
    pick (Some g) last = eq-eqb f g (same_last is_function before f g here last)

-- ---- items of a function

own_kind : (x : Role) (behind : List Role) → is_own x (opens_next behind) ≡ true → (x ≡ Parameter) ⊎ ((x ≡ Local) × (OpensNext behind → ⊥))
own_kind Parameter behind e = inl refl
own_kind Local behind e = inr (refl, λ next. let t : false ≡ true = sym (not-true (opens_next behind) e) ∙ (next_is behind).1 next in cc)
own_kind (Function value) behind e = absurd cc
own_kind (Opens value) behind e = absurd cc
own_kind (Closes value) behind e = absurd cc
own_kind Static behind e = absurd cc
own_kind Other behind e = absurd cc

kind_own : (x : Role) (behind : List Role) → (x ≡ Parameter) ⊎ ((x ≡ Local) × (OpensNext behind → ⊥)) → is_own x (opens_next behind) ≡ true
kind_own x behind kind = ⊎_elim
    (λ e. ap (λ (z : Role). is_own z (opens_next behind)) e)
    (λ h. ap (λ (z : Role). is_own z (opens_next behind)) h.0 ∙ ap not (false_from_ne_true (opens_next behind) (λ e. h.1 ((next_is behind).0 e))))
    kind

own_to : (f k : ℕ) (rs : List Role) → Contains (own_of (Some f) rs) k → IsOwn rs f k
own_to f k rs c =
    let g : Given (own_at (Some f)) [] rs k = each_gives (own_at (Some f)) [] rs k c in
    let t : ((is_own g.1 (opens_next (drop (suc g.0) rs)) && is_in (Some f) (take g.0 rs)) ≡ true) × (length (take g.0 rs) ≡ k) = in_cond _ (length (take g.0 rs)) k g.3 in
    let within : g.0 < length rs = slice_get_within rs g.0 g.1 g.2 in
    let same : g.0 ≡ k = sym (length-take-le g.0 rs (omega arith)) ∙ t.1 in
    let parts = and_parts (is_own g.1 (opens_next (drop (suc g.0) rs))) (is_in (Some f) (take g.0 rs)) t.0 in
    subst (IsOwn rs f) same record {
      role = g.1;
      there = g.2;
      last = is_in_last f (take g.0 rs) parts.1;
      kind = own_kind g.1 (drop (g.0 + 1) rs) (ap (λ (n : ℕ). is_own g.1 (opens_next (drop n rs))) (add-one g.0) ∙ parts.0);
    }

own_from : (f k : ℕ) (rs : List Role) → IsOwn rs f k → Contains (own_of (Some f) rs) k
own_from f k rs own =
    let within : k < length rs = slice_get_within rs k own.role own.there in
    let test : (is_own own.role (opens_next (drop (suc k) rs)) && is_in (Some f) (take k rs)) ≡ true =
    and_from (is_own own.role (opens_next (drop (suc k) rs))) (is_in (Some f) (take k rs))
    (ap (λ (n : ℕ). is_own own.role (opens_next (drop n rs))) (sym (add-one k)) ∙ kind_own own.role (drop (k + 1) rs) own.kind) (last_is_in f (take k rs) own.last) in
    each_takes (own_at (Some f)) [] rs k k own.role own.there
    (subst (λ (n : ℕ). Contains (cond (is_own own.role (opens_next (drop (suc k) rs)) && is_in (Some f) (take k rs)) (length (take k rs) ∷ []) []) n) (length-take-le k rs (omega arith))
    (out_cond _ (length (take k rs)) test))

pub own_is : (f k : ℕ) (rs : List Role) → Contains (own_of (Some f) rs) k ↔ IsOwn rs f k
own_is f k rs = (own_to f k rs, own_from f k rs)

-- ---- items that wait

get-drop : {X : Type 0} (n : ℕ) (xs : List X) (i : ℕ) → slice_get (drop n xs) i ≡ slice_get xs (n + i)
get-drop zero xs i = ap (slice_get xs) (let e : i ≡ 0 + i = omega arith in e)
get-drop (suc n) [] i = refl
get-drop (suc n) (x ∷ xs) i = get-drop n xs i ∙ ap (slice_get (x ∷ xs)) (let e : suc (n + i) ≡ suc n + i = omega arith in e)

idle_cons : (y : Role) (xs : List Role) → decides y ≡ false → ((j : ℕ) (x : Role) → slice_get xs j ≡ Some x → decides x ≡ false) → (j : ℕ) (x : Role) → slice_get (y ∷ xs) j ≡ Some x → decides x ≡ false
idle_cons y xs idle others zero x e = ap decides (sym (same_Some y x e)) ∙ idle
idle_cons y xs idle others (suc j) x e = others j x e

idle_all : (xs : List Role) → is_none (find decides xs) ≡ true → (j : ℕ) (x : Role) → slice_get xs j ≡ Some x → decides x ≡ false
idle_all [] e j x h = absurd (none-some x h)
idle_all (y ∷ xs) e j x h = ⊎_elim
    (λ does. absurd (let t : false ≡ true = sym (ap (λ (b : Bool). is_none (cond b (Some y) (find decides xs))) does) ∙ e in cc))
    (λ idle. idle_cons y xs idle (idle_all xs (sym (ap (λ (b : Bool). is_none (cond b (Some y) (find decides xs))) idle) ∙ e)) j x h)
    (cases_Bool (decides y))

all_idle : (xs : List Role) → ((j : ℕ) (x : Role) → slice_get xs j ≡ Some x → decides x ≡ false) → is_none (find decides xs) ≡ true
all_idle [] h = refl
all_idle (y ∷ xs) h = ap (λ (b : Bool). is_none (cond b (Some y) (find decides xs))) (h 0 y refl) ∙ all_idle xs (λ j x e. h (suc j) x e)

local_is : (x : Role) → is_local x ≡ true → x ≡ Local
local_is Local e = refl
local_is Parameter e = absurd cc
local_is (Function value) e = absurd cc
local_is (Opens value) e = absurd cc
local_is (Closes value) e = absurd cc
local_is Static e = absurd cc
local_is Other e = absurd cc

waits_to : (before : List Role) (k : ℕ) → Contains (waiting before) k → IsWaiting before k
waits_to before k c =
    let g : Given waits_at [] before k = each_gives waits_at [] before k c in
    let t : ((is_local g.1 && is_none (find decides (drop (suc g.0) before))) ≡ true) × (length (take g.0 before) ≡ k) = in_cond _ (length (take g.0 before)) k g.3 in
    let within : g.0 < length before = slice_get_within before g.0 g.1 g.2 in
    let same : g.0 ≡ k = sym (length-take-le g.0 before (omega arith)) ∙ t.1 in
    let parts = and_parts (is_local g.1) (is_none (find decides (drop (suc g.0) before))) t.0 in
    subst (IsWaiting before) same (
      g.2 ∙ ap Some (local_is g.1 parts.0),
      λ j x lt e. idle_all (drop (suc g.0) before) parts.1 (j - suc g.0) x (get-drop (suc g.0) before (j - suc g.0) ∙ ap (slice_get before) (let n : suc g.0 + (j - suc g.0) ≡ j = omega arith in n) ∙ e),
    )

waits_from : (before : List Role) (k : ℕ) → IsWaiting before k → Contains (waiting before) k
waits_from before k w =
    let within : k < length before = slice_get_within before k Local w.0 in
    let idle : is_none (find decides (drop (suc k) before)) ≡ true =
    all_idle (drop (suc k) before) (λ j x e. w.1 (suc k + j) x (omega arith) (sym (get-drop (suc k) before j) ∙ e)) in
    each_takes waits_at [] before k k Local w.0
    (subst (λ (n : ℕ). Contains (cond (true && is_none (find decides (drop (suc k) before))) (length (take k before) ∷ []) []) n) (length-take-le k before (omega arith))
    (out_cond _ (length (take k before)) (and_from true (is_none (find decides (drop (suc k) before))) refl idle)))

pub waiting_is : (before : List Role) (k : ℕ) → Contains (waiting before) k ↔ IsWaiting before k
waiting_is before k = (waits_to before k, waits_from before k)

-- ---- items of the unit

static_is : (x : Role) → is_static x ≡ true → x ≡ Static
static_is Static e = refl
static_is Parameter e = absurd cc
static_is (Function value) e = absurd cc
static_is (Opens value) e = absurd cc
static_is (Closes value) e = absurd cc
static_is Local e = absurd cc
static_is Other e = absurd cc

statics_to : (items : List Role) (place : ℕ) → Contains (statics_of items) place → slice_get items place ≡ Some Static
statics_to items place c =
    let g : Given static_at [] items place = each_gives static_at [] items place c in
    let t : (is_static g.1 ≡ true) × (length (take g.0 items) ≡ place) = in_cond (is_static g.1) (length (take g.0 items)) place g.3 in
    let within : g.0 < length items = slice_get_within items g.0 g.1 g.2 in
    let same : g.0 ≡ place = sym (length-take-le g.0 items (omega arith)) ∙ t.1 in
    ap (slice_get items) (sym same) ∙ g.2 ∙ ap Some (static_is g.1 t.0)

statics_from : (items : List Role) (place : ℕ) → slice_get items place ≡ Some Static → Contains (statics_of items) place
statics_from items place e =
    let within : place < length items = slice_get_within items place Static e in
    each_takes static_at [] items place place Static e (subst (λ (n : ℕ). Contains (n ∷ []) place) (sym (length-take-le place items (omega arith))) (out_cond true place refl))

pub statics_are : (items : List Role) (place : ℕ) → Contains (statics_of items) place ↔ (slice_get items place ≡ Some Static)
statics_are items place = (statics_to items place, statics_from items place)

-- ---- blocks of a function

drop_at : {X : Type 0} (xs : List X) (k : ℕ) (x : X) → slice_get xs k ≡ Some x → drop k xs ≡ x ∷ drop (suc k) xs
drop_at [] k x e = absurd (none-some x e)
drop_at (y ∷ xs) zero x e = ap (λ z. z ∷ xs) (same_Some y x e)
drop_at (y ∷ xs) (suc k) x e = drop_at xs k x e

same_first : (items : List Role) (p q : ℕ) → IsFirstEven items p → IsFirstEven items q → p ≡ q
same_first items p q a b = ⊎_elim (λ h. h) (λ h. ⊎_elim (λ (lt : p < q). absurd (b.first p a.behind lt a.even)) (λ (lt : q < p). absurd (a.first q b.behind lt b.even)) h) (cases_order p q)

same_end : (items : List Role) (v w : ℕ) → EndsWith items v → EndsWith items w → v ≡ w
same_end items v w a b = same_Some v w (ap closing_value (sym a.2 ∙ ap (slice_get items) (same_first items a.0 b.0 a.1 b.1) ∙ b.2))

ends_to : (low high : ℕ) (behind : List Role) → end_value (Opens low) behind ≡ Some high → EndsWith (Opens low ∷ behind) high
ends_to low high behind e = subst (λ (o : Option ℕ). MatchOption o (NeverEnds (Opens low ∷ behind)) (EndsWith (Opens low ∷ behind))) e (end_is low behind)

ends_from : (low high : ℕ) (behind : List Role) → EndsWith (Opens low ∷ behind) high → end_value (Opens low) behind ≡ Some high
ends_from low high behind ends = pick (end_value (Opens low) behind) (end_is low behind)
  where
    pick : (o : Option ℕ) → MatchOption o (NeverEnds (Opens low ∷ behind)) (EndsWith (Opens low ∷ behind)) → o ≡ Some high
    pick None never = absurd (never ends.0 ends.1)
    pick (Some value) other = ap Some (same_end (Opens low ∷ behind) value high other ends)

-- what a block is by the items before its N_LBRAC and those after it
record Found (start f address : ℕ) (before : List Role) (x : Role) (behind : List Role) (block : Block) : Type 0 where
  low : ℕ
  high : ℕ
  opens : x ≡ Opens low
  inside : is_in (Some f) before ≡ true
  closed : end_value (Opens low) behind ≡ Some high
  is : block ≡ block_of start low high (waiting before)
  holds_it : is_in_block address block ≡ true

module _ (start f address : ℕ) (before behind : List Role) (block : Block) where
  closed_to : (low : ℕ) (o : Option ℕ) → is_in (Some f) before ≡ true → end_value (Opens low) behind ≡ o → Contains (block_at start address low o (waiting before)) block
      → Found start f address before (Opens low) behind block
  closed_to low None inside e c = absurd (let h = c.1 in omega arith)
  closed_to low (Some high) inside e c =
      let p = in_cond (is_in_block address (block_of start low high (waiting before))) (block_of start low high (waiting before)) block c in
      record { low = low; high = high; opens = refl; inside = inside; closed = e; is = sym p.1; holds_it = ap (is_in_block address) (sym p.1) ∙ p.0 }

  block_to : (x : Role) → Contains (blocks_at start (Some f) address before x behind) block → Found start f address before x behind block
  block_to (Opens low) c =
      let p = in_if (is_in (Some f) before) (block_at start address low (end_value (Opens low) behind) (waiting before)) block c in
      closed_to low (end_value (Opens low) behind) p.0 refl p.1
  block_to (Function value) c = absurd (let h = c.1 in omega arith)
  block_to (Closes value) c = absurd (let h = c.1 in omega arith)
  block_to Parameter c = absurd (let h = c.1 in omega arith)
  block_to Local c = absurd (let h = c.1 in omega arith)
  block_to Static c = absurd (let h = c.1 in omega arith)
  block_to Other c = absurd (let h = c.1 in omega arith)

  block_from : (low high : ℕ) → is_in (Some f) before ≡ true → end_value (Opens low) behind ≡ Some high → block ≡ block_of start low high (waiting before) → is_in_block address block ≡ true
      → Contains (blocks_at start (Some f) address before (Opens low) behind) block
  block_from low high inside closed is holds_it =
      subst (λ (b : Bool). Contains (cond b (block_at start address low (end_value (Opens low) behind) (waiting before)) []) block) (sym inside)
      (subst (λ (o : Option ℕ). Contains (block_at start address low o (waiting before)) block) (sym closed)
      (subst (λ (z : Block). Contains (cond (is_in_block address z) (z ∷ []) []) block) is (out_cond (is_in_block address block) block holds_it)))

module _ (start f address : ℕ) (items : List Role) (place : ℕ) (block : Block) where
  -- what the item at a place gives is its block
  pub given_is_block : (x : Role) → slice_get items place ≡ Some x → Contains (blocks_at start (Some f) address (take place items) x (drop (suc place) items)) block
      → IsBlock start items f address place block
  given_is_block x at c =
      let found : Found start f address (take place items) x (drop (suc place) items) block = block_to start f address (take place items) (drop (suc place) items) block x c in
      let there : slice_get items place ≡ Some (Opens found.low) = at ∙ ap Some found.opens in
      record {
        low = found.low;
        high = found.high;
        there = there;
        last = is_in_last f (take place items) found.inside;
        closed = subst (λ (z : List Role). EndsWith z found.high) (sym (drop_at items place (Opens found.low) there)) (ends_to found.low found.high (drop (suc place) items) found.closed);
        is = found.is;
        holds_it = found.holds_it;
      }

  pub block_is_given : (b : IsBlock start items f address place block) → Contains (blocks_at start (Some f) address (take place items) (Opens b.low) (drop (suc place) items)) block
  block_is_given b =
      block_from start f address (take place items) (drop (suc place) items) block b.low b.high (last_is_in f (take place items) b.last)
      (ends_from b.low b.high (drop (suc place) items) (subst (λ (z : List Role). EndsWith z b.high) (drop_at items place (Opens b.low) b.there) b.closed))
      b.is b.holds_it

module _ (start f address : ℕ) (items : List Role) (block : Block) where
  blocks_to : Contains (blocks_of start (Some f) address items) block → (place : ℕ) × IsBlock start items f address place block
  blocks_to c =
      let g : Given (blocks_at start (Some f) address) [] items block = each_gives (blocks_at start (Some f) address) [] items block c in
      (g.0, given_is_block start f address items g.0 block g.1 g.2 g.3)

  blocks_from : (place : ℕ) × IsBlock start items f address place block → Contains (blocks_of start (Some f) address items) block
  blocks_from p =
      each_takes (blocks_at start (Some f) address) [] items block p.0 (Opens p.1.low) p.1.there (block_is_given start f address items p.0 block p.1)

  pub block_is : Contains (blocks_of start (Some f) address items) block ↔ ((place : ℕ) × IsBlock start items f address place block)
  block_is = (blocks_to, blocks_from)
