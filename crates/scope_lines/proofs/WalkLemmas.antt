-- The walk over a body: what was found so far, with what is left, is what the whole body has.
use Rattle.std.proofs.Common.{◌≡◌, ℕ, ◌+◌, ◌<◌, List, [], ◌∷◌, ◌++◌, length, take, drop, get_or, Option, refl, sym, ap, ◌∙◌, arith, subst}
use Rattle.std.specs.Prelude.{◌&&◌}
use Rattle.std.proofs.lemmas.List.{length-map, length-take-le, same_from_push}
use Rattle.stab_units.specs.declared.unit.Item.{Item}
use Rattle.scope_lines.specs.declared.role.Role.{Role}
use Rattle.scope_lines.specs.declared.role.Role.TheVariants.{Function, Opens, Closes, Parameter, Local, Static, Other}
use Rattle.scope_lines.specs.declared.behind.Behind.{Behind}
use Rattle.scope_lines.specs.declared.scope.Block.{Block}
use Rattle.scope_lines.specs.declared.walk.Walk.{Walk}
use Rattle.scope_lines.specs.declared.walk.Asked.{Asked}
use Rattle.scope_lines.specs.Roles.{role_of, roles}
use Rattle.scope_lines.specs.ListPlaces.{each, last_place}
use Rattle.scope_lines.specs.Blocks.{waiting}
use Rattle.scope_lines.specs.Scopes.{own_at, own_of, blocks_at, blocks_of, static_at, statics_of, is_function, is_own, opens_next, same_place}
use Rattle.scope_lines.specs.Behind.{behinds, behind_of}
use Rattle.scope_lines.specs.Walks.{stepped, next_last, next_waiting, placed_if, new_blocks}
use Rattle.scope_lines.proofs.PlaceLemmas.{last_place-push, map_take_more, map_drop_more}
use Rattle.scope_lines.proofs.EachLemmas.{each_step, waiting-push}

-- what the walk has after the items before, with the rest to come
pub record Walking (asked : Asked) (whole before rest : List Role) (found : List Behind) (w : Walk) : Type 0 where
  pub found_are : found ≡ behinds rest
  pub last_is : w.last ≡ last_place is_function before
  pub waiting_is : w.waiting ≡ waiting before
  pub own_are : w.own ++ each (own_at asked.function) before rest ≡ own_of asked.function whole
  pub blocks_are : w.blocks ++ each (blocks_at asked.start asked.function asked.address) before rest ≡ blocks_of asked.start asked.function asked.address whole
  pub statics_are : w.statics ++ each static_at before rest ≡ statics_of whole

last-more : (before : List Role) (x : Role) → next_last x (length before) (last_place is_function before) ≡ last_place is_function (before ++ x ∷ [])
last-more before (Function value) = sym (last_place-push is_function before (Function value))
last-more before (Opens value) = sym (last_place-push is_function before (Opens value))
last-more before (Closes value) = sym (last_place-push is_function before (Closes value))
last-more before Parameter = sym (last_place-push is_function before Parameter)
last-more before Local = sym (last_place-push is_function before Local)
last-more before Static = sym (last_place-push is_function before Static)
last-more before Other = sym (last_place-push is_function before Other)

blocks-more : (asked : Asked) (before : List Role) (x : Role) (behind : List Role)
    → new_blocks asked x (behind_of x behind).end (last_place is_function before) (waiting before) ≡ blocks_at asked.start asked.function asked.address before x behind
blocks-more asked before (Function value) behind = refl
blocks-more asked before (Opens value) behind = refl
blocks-more asked before (Closes value) behind = refl
blocks-more asked before Parameter behind = refl
blocks-more asked before Local behind = refl
blocks-more asked before Static behind = refl
blocks-more asked before Other behind = refl

-- one item, over plain lists
module _ (asked : Asked) (whole before : List Role) (x : Role) (behind : List Role) (found : List Behind) (b : Behind) (w next : Walk)
    (same_found : found ≡ behinds behind) (same_behind : b ≡ behind_of x behind) (is : next ≡ stepped asked w (length before) x b) (was : Walking asked whole before (x ∷ behind) (found ++ b ∷ []) w) where
  own-more : next.own ≡ w.own ++ own_at asked.function before x behind
  own-more = ap (λ (z : Walk). z.own) is ∙ ap (λ (z : Behind). w.own ++ placed_if (is_own x z.opens_next && same_place asked.function w.last) (length before)) same_behind
      ∙ ap (λ (z : Option ℕ). w.own ++ placed_if (is_own x (opens_next behind) && same_place asked.function z) (length before)) was.last_is

  all-blocks-more : next.blocks ≡ w.blocks ++ blocks_at asked.start asked.function asked.address before x behind
  all-blocks-more = ap (λ (z : Walk). z.blocks) is ∙ ap (λ (z : Behind). w.blocks ++ new_blocks asked x z.end w.last w.waiting) same_behind
      ∙ ap (λ (z : Option ℕ). w.blocks ++ new_blocks asked x (behind_of x behind).end z w.waiting) was.last_is
      ∙ ap (λ (z : List ℕ). w.blocks ++ new_blocks asked x (behind_of x behind).end (last_place is_function before) z) was.waiting_is
      ∙ ap (λ (z : List Block). w.blocks ++ z) (blocks-more asked before x behind)

  Walking-step : Walking asked whole (before ++ x ∷ []) behind found next
  Walking-step = record {
    found_are = same_found;
    last_is = ap (λ (z : Walk). z.last) is ∙ ap (next_last x (length before)) was.last_is ∙ last-more before x;
    waiting_is = ap (λ (z : Walk). z.waiting) is ∙ ap (next_waiting x (length before)) was.waiting_is ∙ sym (waiting-push before x);
    own_are = each_step (own_at asked.function) before _ x (x ∷ behind) behind w.own next.own _ refl refl was.own_are own-more;
    blocks_are = each_step (blocks_at asked.start asked.function asked.address) before _ x (x ∷ behind) behind w.blocks next.blocks _ refl refl was.blocks_are all-blocks-more;
    statics_are = each_step static_at before _ x (x ∷ behind) behind w.statics next.statics _ refl refl was.statics_are (ap (λ (z : Walk). z.statics) is);
  }

-- one item, as the loop has it
pub Walking_more : (asked : Asked) (body : List Item) (at : ℕ) (item : Item) (found found_next : List Behind) (b : Behind) (w next : Walk) → at < length body → item ≡ get_or body at item
    → found ≡ found_next ++ b ∷ [] → next ≡ stepped asked w at (role_of item) b
    → Walking asked (roles body) (roles (take at body)) (roles (drop at body)) found w
    → Walking asked (roles body) (roles (take (at + 1) body)) (roles (drop (at + 1) body)) found_next next
Walking_more asked body at item found found_next b w next within is popped stepped_is was =
    let long : length (roles (take at body)) ≡ at = length-map (take at body) role_of ∙ length-take-le at body (omega arith) in
    let here : Walking asked (roles body) (roles (take at body)) (role_of item ∷ roles (drop (at + 1) body)) (found_next ++ b ∷ []) w =
    subst (λ (z : List Behind). Walking asked (roles body) (roles (take at body)) (role_of item ∷ roles (drop (at + 1) body)) z w) popped
    (subst (λ (z : List Role). Walking asked (roles body) (roles (take at body)) z found w) (map_drop_more role_of body at item within is) was) in
    let parts = same_from_push found_next (behinds (roles (drop (at + 1) body))) b (behind_of (role_of item) (roles (drop (at + 1) body))) here.found_are in
    subst (λ (z : List Role). Walking asked (roles body) z (roles (drop (at + 1) body)) found_next next) (sym (map_take_more role_of body at item within is))
    (Walking-step asked (roles body) (roles (take at body)) (role_of item) (roles (drop (at + 1) body)) found_next b w next parts.0 parts.1
    (stepped_is ∙ ap (λ (n : ℕ). stepped asked w n (role_of item) b) (sym long)) here)
