-- What goes of an object are N_LSYM type symbols alone, since a range that is not kept is a candidate.
use Rattle.std.proofs.Common.{◌≡◌, ◌≢◌, ℕ, zero, suc, ◌+◌, ◌<◌, ◌≤◌, Bool, true, false, cond, List, [], ◌∷◌, length, Some, refl, sym, ap, ◌∙◌, arith, map, slice_get, slice_index, eq-eqb, eqb-true}
use Rattle.std.specs.Prelude.{◌==◌, not, filter, flat_map}
use Rattle.std.specs.List.{AllByRecursion}
use Rattle.std.specs.Option.{option_map_or}
use Rattle.std.proofs.lemmas.Bool.{true≢false}
use Rattle.std.proofs.lemmas.Option.{slice_get-get_or, slice_get_within}
use Rattle.stab_codes.specs.declared.code.TheConstants.{N_LSYM}
use Rattle.nlist_codec.specs.declared.named.Named.{Named}
use Rattle.unit_outlines.specs.declared.outline_types.UnitSpan.{UnitSpan}
use Rattle.stab_units.specs.declared.unit.Item.{Item}
use Rattle.stab_units.specs.Units.{Stab, Filed, AreRead, IsRead, body_at, is_type, stabs_of}
use Rattle.stab_units.specs.Changing.{Change, IsLocalIfGone, LocalsGo, is_left, is_left_item}
use Rattle.bincl_match.specs.declared.range.Grouping.{Grouping}
use Rattle.bincl_match.specs.declared.range.RangeOf.{RangeOf}
use Rattle.bincl_match.specs.Merging.{IsMerging}
use Rattle.bincl_match.specs.Ranges.{AreItems, among, is_own_type, is_repeated, is_typed, is_typed_at}
use Rattle.bincl_match.proofs.ListLemmas.{both, not_both, some_is}
use Rattle.header_merge.specs.Merged.{is_kept}
use Rattle.header_merge.proofs.ListLemmas.{get_map, get_there}
use Rattle.header_merge.proofs.FrontLemmas.{flat_filter}
use Rattle.header_merge.proofs.StabLemmas.{AreBelow, IsItemBelow, items_below}
use Rattle.header_merge.proofs.RangeLemmas.{AreAmong, header_among, later_among, ranges_in}

-- ---- kept ranges

-- a range is kept where its kept one is itself
pub kept_is : (g : Grouping) (i : ℕ) → i < length g.kept → is_kept g i ≡ (slice_index g.kept i == i)
kept_is g i within = ap (λ o. option_map_or (λ first. first == i) o true) (slice_get-get_or g.kept i 0 within)

-- so one that is not kept has another one
pub other_kept : (g : Grouping) (i : ℕ) → i < length g.kept → is_kept g i ≡ false → slice_index g.kept i ≢ i
other_kept g i within gone = λ same. not_both (is_kept g i) (kept_is g i within ∙ eq-eqb (slice_index g.kept i) i same) gone

-- a range that is not kept is a candidate
abbrev pub AreTypedIfGone : (ℕ → Bool) → List RangeOf → Type 0
AreTypedIfGone kept typed = (i : ℕ) (x : RangeOf) → slice_get typed i ≡ Some x → kept i ≡ false → x.candidate ≡ true

-- in a merging
pub typed_if_gone : (typed : List RangeOf) (g : Grouping) → IsMerging (map (among typed) typed) g → AreTypedIfGone (is_kept g) typed
typed_if_gone typed g merging i x is gone =
    let here : slice_get (map (among typed) typed) i ≡ Some (among typed x) = get_map (among typed) typed i x is in
    let within : i < length (map (among typed) typed) = slice_get_within (map (among typed) typed) i (among typed x) here in
    let pair = merging.paired i within (other_kept g i (omega (arith, within, merging.count.0)) gone) in
    let same : pair.first ≡ among typed x = some_is (slice_get (map (among typed) typed) i) pair.first (among typed x) pair.first_is here in
    (both x.candidate (not (is_repeated x typed)) (sym (ap (λ (z : RangeOf). z.candidate) same) ∙ pair.candidates.0)).0

-- ---- the items of a unit

-- an item goes only if it is that of an N_LSYM type symbol
abbrev pub IsOwnTypeIfGone : Change → ℕ → Filed → Type 0
IsOwnTypeIfGone c place f = is_left_item c place f ≡ false → is_own_type f.item ≡ true

typed_item : (file : ℕ) (fs : List Filed) (k : ℕ) (f : Filed) → is_typed file fs ≡ true → slice_get fs k ≡ Some f → f.file ≡ file → is_own_type f.item ≡ true
typed_item file [] k f typed is of_file = absurd cc
typed_item file (g ∷ fs) zero f typed is of_file =
    let here : g ≡ f = some_is (Some g) g f refl is in
    let own : is_typed_at file f ≡ true = ap (is_typed_at file) (sym here) ∙ (both (is_typed_at file g) (is_typed file fs) typed).0 in
    sym (ap (λ b. cond b (is_own_type f.item) true) (eq-eqb f.file file of_file)) ∙ own
typed_item file (g ∷ fs) (suc k) f typed is of_file = typed_item file fs k f (both (is_typed_at file g) (is_typed file fs) typed).1 is of_file

module _ (c : Change) (place count : ℕ) (fs : List Filed) (gone : (k : ℕ) → k < count → c.kept (place + k) ≡ false → is_typed (suc k) fs ≡ true) where
  own_at : (file k : ℕ) (f : Filed) → slice_get fs k ≡ Some f → f.file ≡ file → file ≤ count → is_left c place file ≡ false → is_own_type f.item ≡ true
  own_at zero k f is of_file low goes = absurd (true≢false goes)
  own_at (suc file) k f is of_file low goes = typed_item (suc file) fs k f (gone file (omega arith) goes) is of_file

  own_from : (gs : List Filed) → ((k : ℕ) (f : Filed) → slice_get gs k ≡ Some f → (j : ℕ) × (slice_get fs j ≡ Some f)) → AllByRecursion (IsItemBelow count) gs
      → AllByRecursion (IsOwnTypeIfGone c place) gs
  own_from [] are low = tt
  own_from (f ∷ gs) are low =
      let at = are zero f refl in
      (λ goes. own_at f.file at.0 f at.1 refl low.0 goes, own_from gs (λ k g is. are (suc k) g is) low.1)

  -- where the ranges that go are typed
  pub own_if_gone : AllByRecursion (IsItemBelow count) fs → AllByRecursion (IsOwnTypeIfGone c place) fs
  own_if_gone low = own_from fs (λ k f is. (k, is)) low

-- a type symbol is no item of the body
no_item : (b : Bool) (item : Item) → b ≡ true → cond b [] (item ∷ []) ≡ []
no_item true item is = refl
no_item false item is = absurd (true≢false (sym is))

-- what goes leaves the body as it was
pub same_body : (c : Change) (place : ℕ) (fs : List Filed) → AllByRecursion (IsOwnTypeIfGone c place) fs
    → flat_map body_at (filter (is_left_item c place) fs) ≡ flat_map body_at fs
same_body c place fs all = flat_filter body_at (is_left_item c place) fs (none fs all) where
  none : (gs : List Filed) → AllByRecursion (IsOwnTypeIfGone c place) gs → AllByRecursion (λ f. is_left_item c place f ≡ false → body_at f ≡ []) gs
  none [] all = tt
  none (g ∷ gs) all = ((λ goes. no_item (is_type g.item.text) g.item (both (g.item.kind == N_LSYM) (is_type g.item.text) (all.0 goes)).1), none gs all.1)

-- the stab of an item that is an N_LSYM type symbol is an N_LSYM
local_stab : (c : Change) (place : ℕ) (s : Stab) (f : Filed) → IsRead s f → IsOwnTypeIfGone c place f → IsLocalIfGone c place s
local_stab c place s f read own goes =
    let file : f.file ≡ s.file = ap (λ (z : Filed). z.file) read.is in
    let kind : f.item.kind ≡ s.entry.kind = ap (λ (z : Filed). z.item.kind) read.is in
    let is : (f.item.kind == N_LSYM) ≡ true = (both (f.item.kind == N_LSYM) (is_type f.item.text) (own (ap (is_left c place) file ∙ goes))).0 in
    sym kind ∙ eqb-true f.item.kind N_LSYM is

local_stabs : (c : Change) (place : ℕ) (ss : List Stab) (fs : List Filed) → AreRead ss fs → AllByRecursion (IsOwnTypeIfGone c place) fs
    → AllByRecursion (IsLocalIfGone c place) ss
local_stabs c place [] [] read own = tt
local_stabs c place [] (f ∷ fs) read own = absurd read
local_stabs c place (s ∷ ss) [] read own = absurd read
local_stabs c place (s ∷ ss) (f ∷ fs) read own = (local_stab c place s f read.0 own.0, local_stabs c place ss fs read.1 own.1)

-- ---- units in order

module _ (c : Change) (typed : List RangeOf) (gone : AreTypedIfGone c.kept typed) where
  -- the items of a unit
  pub unit_own : (place n : ℕ) (s : UnitSpan) (spans : List UnitSpan) (fs : List Filed) (items : List (List Filed))
      → AreAmong typed place (ranges_in n (s ∷ spans) (fs ∷ items))
      → AllByRecursion (IsItemBelow (length s.headers)) fs → AllByRecursion (IsOwnTypeIfGone c place) fs
  unit_own place n s spans fs items are low =
      own_if_gone c place (length s.headers) fs
      (λ k within goes. let h = get_there s.headers k within in gone (place + k) _ (header_among typed place n s spans fs items are k h.0 h.1) goes) low

  pub locals_from : (entries : List Named) (place n : ℕ) (spans : List UnitSpan) (items : List (List Filed)) → AreItems entries spans items
      → AllByRecursion (AreBelow entries) spans
      → AreAmong typed place (ranges_in n spans items) → LocalsGo c entries place spans
  locals_from entries place n [] [] read low are = tt
  locals_from entries place n [] (fs ∷ items) read low are = absurd read
  locals_from entries place n (s ∷ spans) [] read low are = absurd read
  locals_from entries place n (s ∷ spans) (fs ∷ items) read low are = (
    local_stabs c place (stabs_of entries s) fs read.0 (unit_own place n s spans fs items are (items_below (length s.headers) (stabs_of entries s) fs read.0 low.0)),
    locals_from entries (place + length s.headers) (n + 1) spans items read.1 low.1 (later_among typed place n s spans fs items are),
  )
