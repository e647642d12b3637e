-- Placing leaves each stab its kind and its name, and makes none. So the placed entries of objects that have units have units, and the
-- ranges that were found in the objects are those of the placed entries, but for the numbers of their units.
use Rattle.std.proofs.Common.{◌≡◌, ℕ, Bool, true, false, cond, List, [], ◌∷◌, ◌++◌, length, map, refl, sym, ap, subst, inl, inr, arith}
use Rattle.std.specs.Prelude.{All, ◌==◌, unwrap_or}
use Rattle.std.specs.List.{AllByRecursion}
use Rattle.std.proofs.lemmas.Bool.{eqb-true}
use Rattle.std.proofs.lemmas.List.Elements.{recursion_from_All}
use Rattle.st_base.specs.Stabs.{is_stab}
use Rattle.nlist_codec.specs.declared.named.Named.{Named}
use Rattle.stab_units.specs.Joining.{IsAlike, AreAlike}
use Rattle.stab_units.specs.ObjectUnits.{AreUnits}
use Rattle.stab_units.specs.declared.unit.Unit.{Unit}
use Rattle.bincl_match.specs.Ranges.{AreFound, AreFoundButUnits}
use Rattle.bincl_match.specs.declared.range.RangeOf.{RangeOf}
use Rattle.aout_link.specs.Gathering.{AreAllFound}
use Rattle.aout_link.specs.Sources.{Source, HasUnits, text_end}
use Rattle.aout_link.specs.Moves.{all_moves}
use Rattle.aout_link.specs.NameTables.{known_by, moved_value, names_table}
use Rattle.aout_link.specs.Placing.{placed_entry, placed_all, with_known, IsPlaced}
use Rattle.aout_link.specs.declared.definitions.Known.{Known}
use Rattle.aout_link.specs.declared.moves.Moves.{Moves}
use Rattle.aout_link.specs.declared.placed.Placed.{Placed}
use Rattle.aout_link.proofs.KnownLemmas.{HasKind, found_kind, table_kinds}
use Rattle.aout_link.proofs.PlacedLemmas.{length-all_moves}

-- ---- what names stand for is no stab

-- the kind of no stab
abbrev IsNoStab : ℕ → Type 0
IsNoStab kind = is_stab kind ≡ false

-- all that names stand for has such a kind
table_plain : (base : ℕ) (os : List Source) → AllByRecursion (HasKind IsNoStab) (names_table base os)
table_plain base os = table_kinds IsNoStab refl refl refl refl base os

-- ---- placed entries are alike the entries

-- an entry that keeps its kind and name is alike, whatever its value
same_kind : (n : Named) (value : ℕ) → IsAlike n (with_known (record { kind = n.kind; value = value }) n)
same_kind n value = by (is_stab n.kind) refl
  where
    by : (b : Bool) → is_stab n.kind ≡ b → IsAlike n (with_known (record { kind = n.kind; value = value }) n)
    by true is = inl (record { stab = is; kind = refl; name = refl })
    by false is = inr (record { first = is; second = is })

-- a placed entry is alike the entry
alike_entry : (table : List (List ℕ × Known)) (m : Moves) (n : Named) → AllByRecursion (HasKind IsNoStab) table → IsAlike n (placed_entry table m n)
alike_entry table m n a = by (n.kind == 1) refl
  where
    by : (b : Bool) → n.kind == 1 ≡ b
        → IsAlike n (with_known (cond b (unwrap_or (known_by n.name table) (record { kind = n.kind; value = n.value })) (record { kind = n.kind; value = moved_value m n })) n)
    by true is =
        let plain : is_stab n.kind ≡ false = ap is_stab (eqb-true n.kind 1 is) in
        inr (record { first = plain; second = found_kind IsNoStab table n.name (record { kind = n.kind; value = n.value }) a plain })
    by false is = same_kind n (moved_value m n)

-- those of an object are
alike_all : (table : List (List ℕ × Known)) (m : Moves) (ns : List Named) → AllByRecursion (HasKind IsNoStab) table → AreAlike ns (map (placed_entry table m) ns)
alike_all table m [] a = tt
alike_all table m (n ∷ ns) a = (alike_entry table m n a, alike_all table m ns a)

-- ---- units of placed entries

-- by the laws of lists that stand one behind the other, and of lists that are alike
module _
    (joined : (end other behind : ℕ) (es fs : List Named) (us vs : List Unit) → AreUnits end es us → AreUnits other fs vs → (units : List Unit) × AreUnits behind (es ++ fs) units)
    (none : (end : ℕ) → AreUnits end [] [])
    (alike : (end other : ℕ) (es fs : List Named) (us : List Unit) → AreUnits end es us → AreAlike es fs → (units : List Unit) × AreUnits other fs units)
  where
    -- the placed entries of objects have units
    all_units : (end : ℕ) (table : List (List ℕ × Known)) (ms : List Moves) (os : List Source) → AllByRecursion (HasKind IsNoStab) table → AllByRecursion HasUnits os
        → (units : List Unit) × AreUnits end (placed_all table ms os) units
    all_units end table [] os a h = ([], none end)
    all_units end table (m ∷ ms) [] a h = ([], none end)
    all_units end table (m ∷ ms) (o ∷ os) a h =
        let first : (units : List Unit) × AreUnits end (map (placed_entry table m) o.named) units =
        alike (text_end o) end o.named (map (placed_entry table m) o.named) h.0.0 h.0.1 (alike_all table m o.named a) in
        let rest : (units : List Unit) × AreUnits end (placed_all table ms os) units = all_units end table ms os a h.1 in
        joined end end end (map (placed_entry table m) o.named) (placed_all table ms os) first.0 rest.0 first.1 rest.1

    -- what is placed of objects that have units has units, wherever text ends
    pub units_placed : (base : ℕ) (os : List Source) (p : Placed) (end : ℕ) → All HasUnits os → IsPlaced base os p → (units : List Unit) × AreUnits end p.named units
    units_placed base os p end h placed =
        subst (λ (ns : List Named). (units : List Unit) × AreUnits end ns units) (sym placed.named)
        (all_units end (names_table base os) (all_moves base os) os (table_plain base os) (recursion_from_All HasUnits os h))

-- ---- ranges of placed entries

-- by the laws of ranges of lists that stand one behind the other, of lists that are alike, and of no entries
module _
    (more : (first second end : ℕ) (es fs : List Named) (xs ys : List RangeOf) → AreFoundButUnits first es xs → AreFoundButUnits second fs ys → AreFoundButUnits end (es ++ fs) (xs ++ ys))
    (like : (first end : ℕ) (es fs : List Named) (xs : List RangeOf) → AreAlike es fs → AreFoundButUnits first es xs → AreFoundButUnits end fs xs)
    (none : (end : ℕ) → AreFoundButUnits end [] [])
  where
    -- the ranges of one object are those of its placed entries
    own_ranges : (end : ℕ) (table : List (List ℕ × Known)) (m : Moves) (o : Source) (xs : List RangeOf) → AllByRecursion (HasKind IsNoStab) table → AreFound (text_end o) o.named xs
        → AreFoundButUnits end (map (placed_entry table m) o.named) xs
    own_ranges end table m o xs a found = like (text_end o) end o.named (map (placed_entry table m) o.named) xs (alike_all table m o.named a) (xs, found, refl)

    -- those of all objects are
    all_ranges : (end : ℕ) (table : List (List ℕ × Known)) (ms : List Moves) (os : List Source) (xs : List RangeOf) → AllByRecursion (HasKind IsNoStab) table → length ms ≡ length os → AreAllFound os xs
        → AreFoundButUnits end (placed_all table ms os) xs
    all_ranges end table [] [] xs a same found = subst (λ (rs : List RangeOf). AreFoundButUnits end [] rs) (sym found) (none end)
    all_ranges end table (m ∷ ms) [] xs a same found = absurd (omega arith)
    all_ranges end table [] (o ∷ os) xs a same found = absurd (omega arith)
    all_ranges end table (m ∷ ms) (o ∷ os) xs a same (own, rest, first, behind, are) =
        subst (λ (rs : List RangeOf). AreFoundButUnits end (map (placed_entry table m) o.named ++ placed_all table ms os) rs) (sym are)
        (more end end end (map (placed_entry table m) o.named) (placed_all table ms os) own rest (own_ranges end table m o own a first) (all_ranges end table ms os rest a (omega arith) behind))

    -- those of what is placed of objects are the ranges of all of them, wherever text ends
    pub ranges_placed : (base : ℕ) (os : List Source) (p : Placed) (end : ℕ) (xs : List RangeOf) → AreAllFound os xs → IsPlaced base os p → AreFoundButUnits end p.named xs
    ranges_placed base os p end xs found placed =
        subst (λ (ns : List Named). AreFoundButUnits end ns xs) (sym placed.named)
        (all_ranges end (names_table base os) (all_moves base os) os xs (table_plain base os) (length-all_moves base os) found)
