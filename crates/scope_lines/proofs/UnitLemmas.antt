-- The unit of an address is the first that holds it, and there is one at most.
use Rattle.std.proofs.Common.{◌≡◌, ℕ, zero, suc, ◌+◌, ◌<◌, ◌≤◌, ◌⊎◌, inl, inr, List, [], ◌∷◌, Bool, true, false, cond, Option, Some, None, refl, sym, ap, ◌∙◌, arith, subst, ⊎_elim}
use Rattle.std.specs.Prelude.{slice_get, MatchOption, nat_le, nat_lt}
use Rattle.std.specs.List.{find, enumerate_from}
use Rattle.std.proofs.lemmas.Bool.{cases_Bool, cases_lt, cases_order, and_parts, and_from, leb-true, ltb-true, le-leb, lt-ltb}
use Rattle.std.proofs.lemmas.Option.{same_Some, none-some}
use Rattle.stab_units.specs.declared.unit.Unit.{Unit as OneUnit}
use Rattle.type_graph.specs.declared.world.World.{World}
use Rattle.scope_lines.specs.Scopes.{is_within, holds, unit_at, IsUnitOf, NoUnit}

-- the pair holds the unit at a place of the list, counted from n
record IsFound (us : List OneUnit) (address n : ℕ) (p : ℕ × OneUnit) : Type 0 where
  place : ℕ
  counted : p.0 ≡ n + place
  there : slice_get us place ≡ Some p.1
  holds_it : is_within address p.1 ≡ true
  first : (j : ℕ) (other : OneUnit) → j < place → slice_get us j ≡ Some other → is_within address other ≡ false

abbrev NoneHolds : List OneUnit → ℕ → Type 0
NoneHolds us address = (j : ℕ) (other : OneUnit) → slice_get us j ≡ Some other → is_within address other ≡ false

none_cons : (u : OneUnit) (us : List OneUnit) (address : ℕ) → is_within address u ≡ false → NoneHolds us address → NoneHolds (u ∷ us) address
none_cons u us address out others zero other e = ap (is_within address) (sym (same_Some u other e)) ∙ out
none_cons u us address out others (suc j) other e = others j other e

found_cons : (u : OneUnit) (us : List OneUnit) (address n : ℕ) (p : ℕ × OneUnit) → is_within address u ≡ false → IsFound us address (n + 1) p → IsFound (u ∷ us) address n p
found_cons u us address n p out was = record {
  place = suc was.place;
  counted = (let c = was.counted in omega arith);
  there = was.there;
  holds_it = was.holds_it;
  first = first;
}
  where
    first : (j : ℕ) (other : OneUnit) → j < suc was.place → slice_get (u ∷ us) j ≡ Some other → is_within address other ≡ false
    first zero other h e = ap (is_within address) (sym (same_Some u other e)) ∙ out
    first (suc j) other h e = was.first j other (omega arith) e

find_is : (us : List OneUnit) (address n : ℕ) → MatchOption (find (holds address) (enumerate_from n us)) (NoneHolds us address) (IsFound us address n)
find_is [] address n = λ j other e. absurd (none-some other e)
find_is (u ∷ us) address n = ⊎_elim
    (λ here. subst (λ (b : Bool). MatchOption (cond b (Some (n, u)) (find (holds address) (enumerate_from (n + 1) us))) (NoneHolds (u ∷ us) address) (IsFound (u ∷ us) address n)) (sym here)
    (now here))
    (λ out. subst (λ (b : Bool). MatchOption (cond b (Some (n, u)) (find (holds address) (enumerate_from (n + 1) us))) (NoneHolds (u ∷ us) address) (IsFound (u ∷ us) address n)) (sym out)
    (later_ out (find (holds address) (enumerate_from (n + 1) us)) (find_is us address (n + 1))))
    (cases_Bool (is_within address u))
  where
    now : is_within address u ≡ true → IsFound (u ∷ us) address n (n, u)
    now here = record { place = 0; counted = omega arith; there = refl; holds_it = here; first = λ j other h e. absurd (omega arith) }

    later_ : is_within address u ≡ false → (o : Option (ℕ × OneUnit)) → MatchOption o (NoneHolds us address) (IsFound us address (n + 1)) → MatchOption o (NoneHolds (u ∷ us) address) (IsFound (u ∷ us) address n)
    later_ out None others = none_cons u us address out others
    later_ out (Some p) was = found_cons u us address n p out was

-- ---- by addresses

within_to : (address : ℕ) (unit : OneUnit) → is_within address unit ≡ true → (unit.start ≤ address) × (address < unit.end)
within_to address unit e = let p = and_parts (nat_le unit.start address) (nat_lt address unit.end) e in (leb-true unit.start address p.0, ltb-true address unit.end p.1)

within_from : (address : ℕ) (unit : OneUnit) → unit.start ≤ address → address < unit.end → is_within address unit ≡ true
within_from address unit low high = and_from (nat_le unit.start address) (nat_lt address unit.end) (le-leb unit.start address low) (lt-ltb address unit.end high)

not_within : (address : ℕ) (unit : OneUnit) → is_within address unit ≡ false → (address < unit.start) ⊎ (unit.end ≤ address)
not_within address unit e = ⊎_elim inl
    (λ low. ⊎_elim (λ high. absurd (let t : true ≡ false = sym (within_from address unit low high) ∙ e in cc)) inr (cases_lt address unit.end))
    (cases_lt address unit.start)

pub unit_is : (world : World) (address : ℕ) → MatchOption (unit_at world address) (NoUnit world address) (λ p. IsUnitOf world address p.0 p.1)
unit_is world address = pick (unit_at world address) (find_is world.units address 0)
  where
    pick : (o : Option (ℕ × OneUnit)) → MatchOption o (NoneHolds world.units address) (IsFound world.units address 0) → MatchOption o (NoUnit world address) (λ p. IsUnitOf world address p.0 p.1)
    pick None others = λ place other e. not_within address other (others place other e)
    pick (Some p) was =
        let same : was.place ≡ p.0 = (let c = was.counted in omega arith) in
        let both : (p.1.start ≤ address) × (address < p.1.end) = within_to address p.1 was.holds_it in
        record {
          there = ap (slice_get world.units) (sym same) ∙ was.there;
          low = both.0;
          high = both.1;
          first = λ earlier other h e. not_within address other (was.first earlier other (omega arith) e);
        }

-- it holds no unit that none holds
pub unit_or_none : (world : World) (address number : ℕ) (unit : OneUnit) → IsUnitOf world address number unit → NoUnit world address → ⊥
unit_or_none world address number unit is none = ⊎_elim (λ (h : address < unit.start). let l = is.low in omega arith) (λ (h : unit.end ≤ address). let l = is.high in omega arith) (none number unit is.there)

-- an address has one unit
pub same_unit : (world : World) (address n m : ℕ) (unit other : OneUnit) → IsUnitOf world address n unit → IsUnitOf world address m other → (n ≡ m) × (unit ≡ other)
same_unit world address n m unit other a b = (same, same_Some unit other (sym a.there ∙ ap (slice_get world.units) same ∙ b.there))
  where
    earlier : (k l : ℕ) (u v : OneUnit) → IsUnitOf world address k u → IsUnitOf world address l v → k < l → ⊥
    earlier k l u v p q lt = ⊎_elim (λ (h : address < u.start). let z = p.low in omega arith) (λ (h : u.end ≤ address). let z = p.high in omega arith) (q.first k u lt p.there)

    same : n ≡ m
    same = ⊎_elim (λ h. h) (λ h. ⊎_elim (λ lt. absurd (earlier n m unit other a b lt)) (λ lt. absurd (earlier m n other unit b a lt)) h) (cases_order n m)
