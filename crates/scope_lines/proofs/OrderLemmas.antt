-- Places come in ascending order, and blocks in the order of their N_LBRAC.
use Rattle.std.proofs.Common.{◌≡◌, ◌≢◌, ◌<◌, ◌≤◌, ℕ, suc, List, [], ◌∷◌, ◌++◌, length, take, drop, Bool, true, false, cond, Option, Some, None, refl, sym, ap, ◌∙◌, ⊎_elim, arith, subst, append-nil, append_assoc, length-append}
use Rattle.std.specs.Prelude.{◌&&◌, is_none, slice_get, Contains}
use Rattle.std.specs.List.{find}
use Rattle.std.proofs.lemmas.Bool.{cases_eq}
use Rattle.std.proofs.lemmas.Option.{same_Some, slice_get_within}
use Rattle.scope_lines.specs.declared.role.Role.{Role}
use Rattle.scope_lines.specs.declared.role.Role.TheVariants.{Function, Opens, Closes, Parameter, Local, Static, Other}
use Rattle.scope_lines.specs.declared.scope.Block.{Block}
use Rattle.scope_lines.specs.ListPlaces.{each, Ascends, AreInOrder}
use Rattle.scope_lines.specs.Blocks.{waiting, is_local, decides, end_value, block_at, block_of, is_in_block}
use Rattle.scope_lines.specs.Scopes.{own_of, statics_of, blocks_at, blocks_of, is_own, opens_next, is_in, is_static, IsBlock}
use Rattle.scope_lines.proofs.BelongLemmas.{given_is_block, block_is_given}

weaker : (n : ℕ) (ks : List ℕ) → Ascends (suc n) ks → Ascends n ks
weaker n [] a = tt
weaker n (k ∷ ks) a = (omega (arith, a.0), a.1)

-- where each item gives its place or nothing
each-ascends : {X : Type 0} (test : List X → X → List X → Bool) (before xs : List X) → Ascends (length before) (each (λ b x a. cond (test b x a) (length b ∷ []) []) before xs)
each-ascends test before [] = tt
each-ascends {X} test before (x ∷ xs) = pick (test before x xs) (subst (λ (n : ℕ). Ascends n (each (λ b y a. cond (test b y a) (length b ∷ []) []) (before ++ x ∷ []) xs)) more (each-ascends test (before ++ x ∷ []) xs))
  where
    more : length (before ++ x ∷ []) ≡ suc (length before)
    more = length-append before (x ∷ []) ∙ omega arith

    pick : (b : Bool) → Ascends (suc (length before)) (each (λ b y a. cond (test b y a) (length b ∷ []) []) (before ++ x ∷ []) xs)
        → Ascends (length before) (cond b (length before ∷ []) [] ++ each (λ b y a. cond (test b y a) (length b ∷ []) []) (before ++ x ∷ []) xs)
    pick true a = (omega arith, a)
    pick false a = weaker (length before) (each (λ b y a. cond (test b y a) (length b ∷ []) []) (before ++ x ∷ []) xs) a

pub all_ascend : (f : Option ℕ) (rs : List Role) → Ascends 0 (own_of f rs) × Ascends 0 (waiting rs) × Ascends 0 (statics_of rs)
all_ascend f rs = (
  each-ascends (λ before x behind. is_own x (opens_next behind) && is_in f before) [] rs,
  each-ascends (λ before x behind. is_local x && is_none (find decides behind)) [] rs,
  each-ascends (λ before x behind. is_static x) [] rs,
)

-- ---- what items give, in order

take_front : {X : Type 0} (before behind : List X) → take (length before) (before ++ behind) ≡ before
take_front [] behind = refl
take_front (x ∷ before) behind = ap (λ z. x ∷ z) (take_front before behind)

drop_front : {X : Type 0} (before : List X) (x : X) (behind : List X) → drop (suc (length before)) (before ++ x ∷ behind) ≡ behind
drop_front [] x behind = refl
drop_front (y ∷ before) x behind = drop_front before x behind

get_front : {X : Type 0} (before : List X) (x : X) (behind : List X) → slice_get (before ++ x ∷ behind) (length before) ≡ Some x
get_front [] x behind = refl
get_front (y ∷ before) x behind = get_front before x behind

-- with nothing at the place before
sooner : {Y : Type 0} (IsAt : ℕ → Y → Type 0) (n : ℕ) (ys : List Y) → ((y : Y) → IsAt n y → ⊥) → AreInOrder IsAt (suc n) ys → AreInOrder IsAt n ys
sooner {Y} IsAt n [] none order = λ place y low at. ⊎_elim
    (λ (e : place ≡ n). none y (subst (λ (k : ℕ). IsAt k y) e at))
    (λ (other : place ≢ n). order place y (omega (arith, low, other)) at)
    (cases_eq place n)
sooner {Y} IsAt n (x ∷ ys) none order = (order.0, let low : suc n ≤ order.0 = order.1 in omega (arith, low), order.2, between, order.4)
  where
    between : (place : ℕ) (y : Y) → n ≤ place → place < order.0 → IsAt place y → ⊥
    between place y low high at = ⊎_elim
        (λ (e : place ≡ n). none y (subst (λ (k : ℕ). IsAt k y) e at))
        (λ (other : place ≢ n). order.3 place y (omega (arith, low, other)) high at)
        (cases_eq place n)

module _ {X Y : Type 0} (gives : List X → X → List X → List Y) (IsAt : ℕ → Y → Type 0) (whole : List X)
    (given_is : (before : List X) (x : X) (behind : List X) → before ++ x ∷ behind ≡ whole → (y : Y) → Contains (gives before x behind) y → IsAt (length before) y)
    (is_given : (before : List X) (x : X) (behind : List X) → before ++ x ∷ behind ≡ whole → (y : Y) → IsAt (length before) y → Contains (gives before x behind) y)
    (within : (place : ℕ) (y : Y) → IsAt place y → place < length whole)
    (few : (before : List X) (x : X) (behind : List X) → length (gives before x behind) ≤ 1) where
  -- where each item gives what is at its place or nothing
  each_in_order : (before xs : List X) → before ++ xs ≡ whole → AreInOrder IsAt (length before) (each gives before xs)
  each_in_order before [] all = λ place y low at. let high : place < length whole = within place y at in
      let same : length before ≡ length whole = ap length (sym (append-nil before) ∙ all) in omega (arith, low, high, same)
  each_in_order before (x ∷ xs) all =
      pick (gives before x xs) refl (few before x xs)
      (subst (λ (n : ℕ). AreInOrder IsAt n (each gives (before ++ x ∷ []) xs)) more (each_in_order (before ++ x ∷ []) xs (append_assoc before (x ∷ []) xs ∙ all)))
    where
      more : length (before ++ x ∷ []) ≡ suc (length before)
      more = length-append before (x ∷ []) ∙ omega arith

      none : gives before x xs ≡ [] → (y : Y) → IsAt (length before) y → ⊥
      none e y at = let c : Contains [] y = subst (λ (z : List Y). Contains z y) e (is_given before x xs all y at) in let h = c.1 in omega arith

      one : (y : Y) → gives before x xs ≡ y ∷ [] → IsAt (length before) y
      one y e = given_is before x xs all y (subst (λ (z : List Y). Contains z y) (sym e) (0, omega arith, refl))

      pick : (ys : List Y) → gives before x xs ≡ ys → length ys ≤ 1 → AreInOrder IsAt (suc (length before)) (each gives (before ++ x ∷ []) xs)
          → AreInOrder IsAt (length before) (ys ++ each gives (before ++ x ∷ []) xs)
      pick [] e low order = sooner IsAt (length before) (each gives (before ++ x ∷ []) xs) (none e) order
      pick (y ∷ []) e low order = (length before, omega arith, one y e, λ place other least high at. absurd (omega (arith, least, high)), order)
      pick (y ∷ z ∷ ys) e low order = absurd (let h : suc (suc (length ys)) ≤ 1 = low in omega (arith, h))

-- ---- blocks

module _ (start f address : ℕ) (items : List Role) where
  given_block : (before : List Role) (x : Role) (behind : List Role) → before ++ x ∷ behind ≡ items → (block : Block)
      → Contains (blocks_at start (Some f) address before x behind) block → IsBlock start items f address (length before) block
  given_block before x behind all block c =
      subst (λ (z : List Role). IsBlock start z f address (length before) block) all
      (given_is_block start f address (before ++ x ∷ behind) (length before) block x (get_front before x behind)
      (subst (λ (z : List Role). Contains (blocks_at start (Some f) address z x (drop (suc (length before)) (before ++ x ∷ behind))) block) (sym (take_front before (x ∷ behind)))
      (subst (λ (z : List Role). Contains (blocks_at start (Some f) address before x z) block) (sym (drop_front before x behind)) c)))

  block_given : (before : List Role) (x : Role) (behind : List Role) → before ++ x ∷ behind ≡ items → (block : Block)
      → IsBlock start items f address (length before) block → Contains (blocks_at start (Some f) address before x behind) block
  block_given before x behind all block is =
      let b : IsBlock start (before ++ x ∷ behind) f address (length before) block = subst (λ (z : List Role). IsBlock start z f address (length before) block) (sym all) is in
      let same : Opens b.low ≡ x = same_Some (Opens b.low) x (sym b.there ∙ get_front before x behind) in
      subst (λ (z : Role). Contains (blocks_at start (Some f) address before z behind) block) same
      (subst (λ (z : List Role). Contains (blocks_at start (Some f) address before (Opens b.low) z) block) (drop_front before x behind)
      (subst (λ (z : List Role). Contains (blocks_at start (Some f) address z (Opens b.low) (drop (suc (length before)) (before ++ x ∷ behind))) block) (take_front before (x ∷ behind))
      (block_is_given start f address (before ++ x ∷ behind) (length before) block b)))

  one_block : (low : ℕ) (o : Option ℕ) (vars : List ℕ) → length (block_at start address low o vars) ≤ 1
  one_block low None vars = omega arith
  one_block low (Some high) vars = at_most (is_in_block address (block_of start low high vars)) (block_of start low high vars)
    where
      at_most : (b : Bool) (block : Block) → length (cond b (block ∷ []) []) ≤ 1
      at_most true block = omega arith
      at_most false block = omega arith

  few_blocks : (before : List Role) (x : Role) (behind : List Role) → length (blocks_at start (Some f) address before x behind) ≤ 1
  few_blocks before (Opens low) behind = if_inside (is_in (Some f) before) (block_at start address low (end_value (Opens low) behind) (waiting before)) (one_block low (end_value (Opens low) behind) (waiting before))
    where
      if_inside : (b : Bool) (blocks : List Block) → length blocks ≤ 1 → length (cond b blocks []) ≤ 1
      if_inside true blocks few = few
      if_inside false blocks few = omega arith
  few_blocks before (Function value) behind = omega arith
  few_blocks before (Closes value) behind = omega arith
  few_blocks before Parameter behind = omega arith
  few_blocks before Local behind = omega arith
  few_blocks before Static behind = omega arith
  few_blocks before Other behind = omega arith

  pub blocks_in_order : AreInOrder (IsBlock start items f address) 0 (blocks_of start (Some f) address items)
  blocks_in_order =
      each_in_order (blocks_at start (Some f) address) (IsBlock start items f address) items given_block block_given
      (λ place block b. slice_get_within items place (Opens b.low) b.there) few_blocks [] items refl
