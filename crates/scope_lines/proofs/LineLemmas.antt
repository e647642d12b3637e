-- The addresses of a line in words of units and places.
use Rattle.std.proofs.Common.{◌≡◌, ℕ, zero, suc, ◌+◌, List, [], ◌∷◌, take, true, cond, Some, refl, sym, ap, ◌∙◌, arith, subst, ⊎_elim}
use Rattle.std.specs.Prelude.{slice_get, Contains, flat_map, ◌↔◌, ◌&&◌, ◌==◌}
use Rattle.std.specs.List.{enumerate_from}
use Rattle.std.specs.Str.{bytes_eq}
use Rattle.std.proofs.lemmas.Bool.{and_parts, and_from, eqb-true, eq-eqb}
use Rattle.std.proofs.lemmas.List.Elements.{Contains-append_left, Contains-append_right, Contains-append_cases}
use Rattle.std.proofs.lemmas.Option.{same_Some, none-some}
use Rattle.std.proofs.lemmas.Slice.Eq.{bytes_eq-Decides}
use Rattle.stab_codes.specs.declared.code.TheConstants.{N_SLINE}
use Rattle.stab_units.specs.declared.unit.Unit.{Unit as OneUnit}
use Rattle.type_graph.specs.declared.world.World.{World}
use Rattle.scope_lines.specs.declared.scope.AddressOf.{AddressOf}
use Rattle.scope_lines.specs.Lines.{addresses, addresses_in, address_at, file_name, is_line_of, IsAddress}
use Rattle.scope_lines.proofs.GivesLemmas.{Given, each_gives, each_takes, in_cond, out_cond}

-- ---- the units that give something

module _ {Y : Type 0} (gives : ℕ → OneUnit → List Y) where
  units_give : (n : ℕ) (units : List OneUnit) (y : Y) → Contains (flat_map (λ p. gives p.0 p.1) (enumerate_from n units)) y
      → (k : ℕ) × (unit : OneUnit) × (slice_get units k ≡ Some unit) × Contains (gives (n + k) unit) y
  units_give n [] y c = absurd (let h = c.1 in omega arith)
  units_give n (u ∷ units) y c = ⊎_elim
      (λ h. (0, u, refl, subst (λ (m : ℕ). Contains (gives m u) y) (let e : n ≡ n + 0 = omega arith in e) h))
      (λ h. let g = units_give (n + 1) units y h in (suc g.0, g.1, g.2, subst (λ (m : ℕ). Contains (gives m g.1) y) (let e : n + 1 + g.0 ≡ n + suc g.0 = omega arith in e) g.3))
      (Contains-append_cases (gives n u) (flat_map (λ p. gives p.0 p.1) (enumerate_from (n + 1) units)) y c)

  units_take : (n : ℕ) (units : List OneUnit) (y : Y) (k : ℕ) (unit : OneUnit) → slice_get units k ≡ Some unit → Contains (gives (n + k) unit) y
      → Contains (flat_map (λ p. gives p.0 p.1) (enumerate_from n units)) y
  units_take n [] y k unit e c = absurd (none-some unit e)
  units_take n (u ∷ units) y zero unit e c =
      Contains-append_left (gives n u) (flat_map (λ p. gives p.0 p.1) (enumerate_from (n + 1) units)) y
      (subst (λ (v : OneUnit). Contains (gives n v) y) (sym (same_Some u unit e)) (subst (λ (m : ℕ). Contains (gives m unit) y) (let z : n + 0 ≡ n = omega arith in z) c))
  units_take n (u ∷ units) y (suc k) unit e c =
      Contains-append_right (gives n u) (flat_map (λ p. gives p.0 p.1) (enumerate_from (n + 1) units)) y
      (units_take (n + 1) units y k unit e (subst (λ (m : ℕ). Contains (gives m unit) y) (let z : n + suc k ≡ n + 1 + k = omega arith in z) c))

-- ---- an address

module _ (world : World) (file : List ℕ) (line : ℕ) (found : AddressOf) where
  address_to : Contains (addresses world file line) found → IsAddress world file line found
  address_to c =
      let g = units_give (addresses_in file line) 0 world.units found c in
      let h : Given (address_at file line (0 + g.0) g.1.name) [] g.1.body found = each_gives (address_at file line (0 + g.0) g.1.name) [] g.1.body found g.3 in
      let t = in_cond (is_line_of line h.1 && bytes_eq (file_name g.1.name (take h.0 g.1.body)) file) (record { unit = 0 + g.0; value = h.1.value }) found h.3 in
      let both = and_parts (is_line_of line h.1) (bytes_eq (file_name g.1.name (take h.0 g.1.body)) file) t.0 in
      let entry = and_parts (h.1.kind == N_SLINE) (h.1.desc == line) both.0 in
      record {
        unit = g.1;
        place = h.0;
        item = h.1;
        unit_there = ap (slice_get world.units) (sym (ap (λ (z : AddressOf). z.unit) t.1) ∙ (let e : 0 + g.0 ≡ g.0 = omega arith in e)) ∙ g.2;
        there = h.2;
        entry = eqb-true h.1.kind N_SLINE entry.0;
        of_line = eqb-true h.1.desc line entry.1;
        of_file = (bytes_eq-Decides (file_name g.1.name (take h.0 g.1.body)) file).0 both.1;
        value = sym (ap (λ (z : AddressOf). z.value) t.1);
      }

  same_address : (n v : ℕ) → n ≡ found.unit → v ≡ found.value → ◌≡◌ {A = AddressOf} (record { unit = n; value = v }) found
  same_address n v p q = rw (p, q) refl

  address_from : IsAddress world file line found → Contains (addresses world file line) found
  address_from is =
      let test : (is_line_of line is.item && bytes_eq (file_name is.unit.name (take is.place is.unit.body)) file) ≡ true =
      and_from (is_line_of line is.item) (bytes_eq (file_name is.unit.name (take is.place is.unit.body)) file)
      (and_from (is.item.kind == N_SLINE) (is.item.desc == line) (eq-eqb is.item.kind N_SLINE is.entry) (eq-eqb is.item.desc line is.of_line))
      ((bytes_eq-Decides (file_name is.unit.name (take is.place is.unit.body)) file).1 is.of_file) in
      let same : ◌≡◌ {A = AddressOf} (record { unit = 0 + found.unit; value = is.item.value }) found = same_address (0 + found.unit) is.item.value (omega arith) (sym is.value) in
      units_take (addresses_in file line) 0 world.units found found.unit is.unit is.unit_there
      (each_takes (address_at file line (0 + found.unit) is.unit.name) [] is.unit.body found is.place is.item is.there
      (subst (λ (z : AddressOf). Contains (cond (is_line_of line is.item && bytes_eq (file_name is.unit.name (take is.place is.unit.body)) file) (record { unit = 0 + found.unit; value = is.item.value } ∷ []) []) z) same
      (out_cond (is_line_of line is.item && bytes_eq (file_name is.unit.name (take is.place is.unit.body)) file) (record { unit = 0 + found.unit; value = is.item.value }) test)))

  pub address_is : Contains (addresses world file line) found ↔ IsAddress world file line found
  address_is = (address_to, address_from)
