-- When an address has no scope, and when it has no line.
use Rattle.std.proofs.Common.{◌≡◌, ℕ, zero, suc, ◌<◌, List, [], ◌∷◌, map, Bool, true, false, cond, Option, Some, None, refl, sym, ap, ◌∙◌, arith, subst, ⊎_elim}
use Rattle.std.specs.Prelude.{slice_get, option_map, option_and_then, MatchOption, IsNone, ◌↔◌, ◌&&◌, ◌==◌}
use Rattle.std.proofs.lemmas.Bool.{cases_Bool, eqb-true, eq-eqb}
use Rattle.std.proofs.lemmas.Option.{same_Some, none-some}
use Rattle.stab_codes.specs.declared.code.TheConstants.{N_SLINE}
use Rattle.stab_units.specs.declared.unit.Item.{Item}
use Rattle.stab_units.specs.declared.unit.Unit.{Unit as OneUnit}
use Rattle.type_graph.specs.declared.world.World.{World}
use Rattle.scope_lines.specs.declared.nearest.Sought.TheVariants as sought
use Rattle.scope_lines.specs.declared.scope.LineAt.{LineAt}
use Rattle.scope_lines.specs.declared.scope.Scope.{Scope}
use Rattle.scope_lines.specs.declared.role.Role.{Role}
use Rattle.scope_lines.specs.declared.role.Role.TheVariants as role
use Rattle.scope_lines.specs.Lines.{line_at, line_in, line_of, NoLine}
use Rattle.scope_lines.specs.Nearest.{nearest_item, value_of, IsNearest, AllAbove}
use Rattle.scope_lines.specs.Scopes.{scope_at, scope_in, unit_at, own_of, own_at, blocks_of, blocks_at, is_own, opens_next, IsUnitOf, NoUnit}
use Rattle.scope_lines.proofs.EachLemmas.{each-none}
use Rattle.scope_lines.proofs.LawLemmas.{nearest_is}
use Rattle.scope_lines.proofs.UnitLemmas.{unit_is, unit_or_none, same_unit}

-- ---- no scope

no_scope : (world : World) (address : ℕ) → IsNone (scope_at world address) ↔ NoUnit world address
no_scope world address = pick (unit_at world address) (unit_is world address)
  where
    pick : (o : Option (ℕ × OneUnit)) → MatchOption o (NoUnit world address) (λ p. IsUnitOf world address p.0 p.1) → IsNone (option_map (λ found. scope_in found.0 found.1 address) o) ↔ NoUnit world address
    pick None none = (λ e. none, λ n. refl)
    pick (Some p) is = (λ e. absurd cc, λ n. absurd (unit_or_none world address p.0 p.1 is n))

-- as a call has it
pub no_scope_of : (world : World) (address : ℕ) (found : Option Scope) → found ≡ scope_at world address → IsNone found ↔ NoUnit world address
no_scope_of world address found is = subst (λ (o : Option Scope). IsNone o ↔ NoUnit world address) (sym is) (no_scope world address)

-- ---- no line

abbrev entry_value : Item → Option ℕ
entry_value = value_of sought.Line

-- a line entry by its value, and back
line_value : (item : Item) → item.kind ≡ N_SLINE → entry_value item ≡ Some item.value
line_value item e = ap (λ (b : Bool). cond b (Some item.value) None) (eq-eqb item.kind N_SLINE e)

value_line : (item : Item) (v : ℕ) → entry_value item ≡ Some v → (item.kind ≡ N_SLINE) × (item.value ≡ v)
value_line item v e = ⊎_elim
    (λ is. (eqb-true item.kind N_SLINE is, same_Some item.value v (sym (ap (λ (b : Bool). cond b (Some item.value) None) is) ∙ e)))
    (λ other. absurd (none-some v (sym (ap (λ (b : Bool). cond b (Some item.value) None) other) ∙ e)))
    (cases_Bool (item.kind == N_SLINE))

get_map : (body : List Item) (place : ℕ) (item : Item) → slice_get body place ≡ Some item → slice_get (map entry_value body) place ≡ Some (entry_value item)
get_map [] place item e = absurd (none-some item e)
get_map (x ∷ body) zero item e = ap (λ (z : Item). Some (entry_value z)) (same_Some x item e)
get_map (x ∷ body) (suc place) item e = get_map body place item e

map_get : (body : List Item) (place : ℕ) (o : Option ℕ) → slice_get (map entry_value body) place ≡ Some o → (item : Item) × (slice_get body place ≡ Some item) × (entry_value item ≡ o)
map_get [] place o e = absurd (none-some o e)
map_get (x ∷ body) zero o e = (x, refl, same_Some (entry_value x) o e)
map_get (x ∷ body) (suc place) o e = map_get body place o e

-- no N_SLINE of the body is at or below the address
abbrev NoneBelow : List Item → ℕ → Type 0
NoneBelow body address = (place : ℕ) (item : Item) → slice_get body place ≡ Some item → item.kind ≡ N_SLINE → address < item.value

all_above : (body : List Item) (address : ℕ) → AllAbove address (map entry_value body) → NoneBelow body address
all_above body address above place item e is = above place item.value (get_map body place item e ∙ ap Some (line_value item is))

one_below : (body : List Item) (address place : ℕ) → IsNearest address (map entry_value body) place → NoneBelow body address → ⊥
one_below body address place n none =
    let found = map_get body place (Some n.value) n.there in
    let is = value_line found.0 n.value found.2 in
    let high : address < found.0.value = none place found.0 found.1 is.0 in
    let same : found.0.value ≡ n.value = is.1 in
    let low = n.low in omega arith

no_line_in : (number : ℕ) (unit : OneUnit) (address : ℕ) → IsNone (line_in number unit address) ↔ NoneBelow unit.body address
no_line_in number unit address = pick (nearest_item sought.Line unit.body address) (nearest_is address (map entry_value unit.body))
  where
    pick : (o : Option ℕ) → MatchOption o (AllAbove address (map entry_value unit.body)) (IsNearest address (map entry_value unit.body)) → IsNone (option_map (line_of number unit.body) o) ↔ NoneBelow unit.body address
    pick None above = (λ e. all_above unit.body address above, λ none. refl)
    pick (Some place) n = (λ e. absurd cc, λ none. absurd (one_below unit.body address place n none))

no_line : (world : World) (address : ℕ) → IsNone (line_at world address) ↔ NoLine world address
no_line world address = pick (unit_at world address) (unit_is world address)
  where
    pick : (o : Option (ℕ × OneUnit)) → MatchOption o (NoUnit world address) (λ p. IsUnitOf world address p.0 p.1) → IsNone (option_and_then (λ found. line_in found.0 found.1 address) o) ↔ NoLine world address
    pick None none = (λ e number unit is. absurd (unit_or_none world address number unit is none), λ h. refl)
    pick (Some p) is = (
      λ e number unit other. subst (λ (u : OneUnit). NoneBelow u.body address) (same_unit world address p.0 number p.1 unit is other).1 ((no_line_in p.0 p.1 address).0 e),
      λ none. (no_line_in p.0 p.1 address).1 (none p.0 p.1 is),
    )

-- as a call has it
pub no_line_of : (world : World) (address : ℕ) (found : Option LineAt) → found ≡ line_at world address → IsNone found ↔ NoLine world address
no_line_of world address found is = subst (λ (o : Option LineAt). IsNone o ↔ NoLine world address) (sym is) (no_line world address)

-- ---- no function

never : (b : Bool) (places : List ℕ) → cond (b && false) places [] ≡ []
never true places = refl
never false places = refl

blocks_none : (start address : ℕ) (before : List Role) (x : Role) (behind : List Role) → blocks_at start None address before x behind ≡ []
blocks_none start address before (role.Opens value) behind = refl
blocks_none start address before (role.Function value) behind = refl
blocks_none start address before (role.Closes value) behind = refl
blocks_none start address before role.Parameter behind = refl
blocks_none start address before role.Local behind = refl
blocks_none start address before role.Static behind = refl
blocks_none start address before role.Other behind = refl

pub no_function : (start address : ℕ) (items : List Role) → (own_of None items ≡ []) × (blocks_of start None address items ≡ [])
no_function start address items = (
  each-none (own_at None) [] items (λ before x behind. never (is_own x (opens_next behind)) _),
  each-none (blocks_at start None address) [] items (blocks_none start address),
)
