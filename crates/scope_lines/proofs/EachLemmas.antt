-- What is said of each item with the items before and after it: one item further, and with one item more at the end.
use Rattle.std.proofs.Common.{◌≡◌, ℕ, List, [], ◌∷◌, ◌++◌, length, Bool, true, false, cond, Some, None, refl, sym, ap, ◌∙◌, append_assoc, append-nil}
use Rattle.std.specs.Prelude.{◌&&◌, is_none}
use Rattle.std.specs.List.{find}
use Rattle.scope_lines.specs.declared.role.Role.{Role}
use Rattle.scope_lines.specs.declared.role.Role.TheVariants.{Function, Opens, Closes, Parameter, Local, Static, Other}
use Rattle.scope_lines.specs.ListPlaces.{each}
use Rattle.scope_lines.specs.Blocks.{waiting, waits_at, decides, is_local}
use Rattle.scope_lines.specs.Walks.{next_waiting}

-- what is done and what is left make the whole, one item further
pub each_step : {X Y : Type 0} (gives : List X → X → List X → List Y) (before before_next : List X) (x : X) (rest rest_next : List X) (done next whole : List Y)
    → rest ≡ x ∷ rest_next → before_next ≡ before ++ x ∷ [] → done ++ each gives before rest ≡ whole → next ≡ done ++ gives before x rest_next
    → next ++ each gives before_next rest_next ≡ whole
each_step gives before before_next x rest rest_next done next whole is longer all more =
    ap (λ z. z ++ each gives before_next rest_next) more
    ∙ append_assoc done (gives before x rest_next) (each gives before_next rest_next)
    ∙ ap (λ z. done ++ (gives before x rest_next ++ each gives z rest_next)) longer
    ∙ ap (λ z. done ++ each gives before z) (sym is)
    ∙ all

-- ---- one item more at the end

pub each-push : {X Y : Type 0} (gives : List X → X → List X → List Y) (before xs : List X) (x : X)
    → each gives before (xs ++ x ∷ []) ≡ each (λ b y a. gives b y (a ++ x ∷ [])) before xs ++ gives (before ++ xs) x []
each-push gives before [] x = append-nil (gives before x []) ∙ ap (λ z. gives z x []) (sym (append-nil before))
each-push gives before (y ∷ xs) x =
    ap (λ z. gives before y (xs ++ x ∷ []) ++ z) (each-push gives (before ++ y ∷ []) xs x
    ∙ ap (λ z. each (λ b y a. gives b y (a ++ x ∷ [])) (before ++ y ∷ []) xs ++ gives z x []) (append_assoc before (y ∷ []) xs))
    ∙ sym (append_assoc (gives before y (xs ++ x ∷ [])) (each (λ b y a. gives b y (a ++ x ∷ [])) (before ++ y ∷ []) xs) (gives (before ++ y ∷ xs) x []))

pub each-same : {X Y : Type 0} (gives other : List X → X → List X → List Y) (before xs : List X) → ((b : List X) (y : X) (a : List X) → gives b y a ≡ other b y a) → each gives before xs ≡ each other before xs
each-same gives other before [] same = refl
each-same gives other before (x ∷ xs) same = ap (λ z. z ++ each gives (before ++ x ∷ []) xs) (same before x xs) ∙ ap (λ z. other before x xs ++ z) (each-same gives other (before ++ x ∷ []) xs same)

pub each-none : {X Y : Type 0} (gives : List X → X → List X → List Y) (before xs : List X) → ((b : List X) (y : X) (a : List X) → gives b y a ≡ []) → each gives before xs ≡ []
each-none gives before [] none = refl
each-none gives before (x ∷ xs) none = ap (λ z. z ++ each gives (before ++ x ∷ []) xs) (none before x xs) ∙ each-none gives (before ++ x ∷ []) xs none

-- ---- the items that wait for an N_LBRAC

find-push : (xs : List Role) (x : Role) → decides x ≡ false → is_none (find decides (xs ++ x ∷ [])) ≡ is_none (find decides xs)
find-push [] x idle = ap (λ (b : Bool). is_none (cond b (Some x) None)) idle
find-push (y ∷ xs) x idle = pick (decides y) (find-push xs x idle)
  where
    pick : (b : Bool) → is_none (find decides (xs ++ x ∷ [])) ≡ is_none (find decides xs) → is_none (cond b (Some y) (find decides (xs ++ x ∷ []))) ≡ is_none (cond b (Some y) (find decides xs))
    pick true e = refl
    pick false e = e

find-decided : (xs : List Role) (x : Role) → decides x ≡ true → is_none (find decides (xs ++ x ∷ [])) ≡ false
find-decided [] x does = ap (λ (b : Bool). is_none (cond b (Some x) None)) does
find-decided (y ∷ xs) x does = pick (decides y) (find-decided xs x does)
  where
    pick : (b : Bool) → is_none (find decides (xs ++ x ∷ [])) ≡ false → is_none (cond b (Some y) (find decides (xs ++ x ∷ []))) ≡ false
    pick true e = refl
    pick false e = e

never : (b : Bool) (at : List ℕ) → cond (b && false) at [] ≡ []
never true at = refl
never false at = refl

-- after an item that decides nothing waits
waiting-decided : (xs : List Role) (x : Role) → decides x ≡ true → is_local x ≡ false → waiting (xs ++ x ∷ []) ≡ []
waiting-decided xs x does idle =
    each-push waits_at [] xs x
    ∙ ap (λ (z : List ℕ). z ++ waits_at xs x []) (each-none (λ b y a. waits_at b y (a ++ x ∷ [])) [] xs
    (λ b y a. ap (λ (t : Bool). cond (is_local y && t) (length b ∷ []) []) (find-decided a x does) ∙ never (is_local y) (length b ∷ [])))
    ∙ ap (λ (t : Bool). cond (t && true) (length xs ∷ []) []) idle

-- another item changes nothing for those before it
waiting-other : (xs : List Role) (x : Role) → decides x ≡ false → waiting (xs ++ x ∷ []) ≡ waiting xs ++ waits_at xs x []
waiting-other xs x idle =
    each-push waits_at [] xs x
    ∙ ap (λ (z : List ℕ). z ++ waits_at xs x []) (each-same (λ b y a. waits_at b y (a ++ x ∷ [])) waits_at [] xs
    (λ b y a. ap (λ (t : Bool). cond (is_local y && t) (length b ∷ []) []) (find-push a x idle)))

pub waiting-push : (xs : List Role) (x : Role) → waiting (xs ++ x ∷ []) ≡ next_waiting x (length xs) (waiting xs)
waiting-push xs (Function value) = waiting-decided xs (Function value) refl refl
waiting-push xs (Opens value) = waiting-decided xs (Opens value) refl refl
waiting-push xs (Closes value) = waiting-decided xs (Closes value) refl refl
waiting-push xs Parameter = waiting-other xs Parameter refl ∙ append-nil (waiting xs)
waiting-push xs Local = waiting-other xs Local refl
waiting-push xs Static = waiting-other xs Static refl ∙ append-nil (waiting xs)
waiting-push xs Other = waiting-other xs Other refl ∙ append-nil (waiting xs)
