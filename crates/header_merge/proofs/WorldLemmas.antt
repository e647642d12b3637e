-- The units of an image, expanded, are those of the entries that it was made of.
use Rattle.std.proofs.Common.{◌≡◌, ℕ, zero, suc, ◌+◌, ◌<◌, ◌||◌, ◌⊎◌, inl, inr, Bool, true, false, cond, not, List, [], ◌∷◌, length, Some, refl, sym, ap, subst, ◌∙◌, arith, map, slice_get, eqb-true}
use Rattle.std.specs.Prelude.{◌==◌, filter, flat_map}
use Rattle.std.specs.List.{AllByRecursion}
use Rattle.nlist_codec.specs.declared.named.Named.{Named}
use Rattle.stab_symbols.specs.declared.tree.Symbol.{Symbol}
use Rattle.stab_symbols.specs.Files.{files_of, shape_of}
use Rattle.unit_outlines.specs.declared.outline_types.HeaderMark.{HeaderMark}
use Rattle.unit_outlines.specs.declared.outline_types.UnitSpan.{UnitSpan}
use Rattle.stab_units.specs.declared.unit.HeaderFile.{HeaderFile}
use Rattle.stab_units.specs.declared.unit.Unit.{Unit}
use Rattle.stab_units.specs.Units.{Filed, AreRead, AreUnitsOf, file_of, files_from, header_name, names_of, stabs_of, symbols_at, symbols_in, unit_of}
use Rattle.stab_units.specs.Changing.{AreMarksChanged, AreSpansChanged, Change, IsSpanChanged, changed, is_left, is_left_item}
use Rattle.bincl_match.specs.declared.range.RangeOf.{RangeOf}
use Rattle.bincl_match.specs.Ranges.{AreItems}
use Rattle.bincl_match.specs.Reading.{units_with}
use Rattle.bincl_match.proofs.ListLemmas.{none_is, not_both, some_is}
use Rattle.unit_index.specs.declared.owner.Owner.{Owner}
use Rattle.unit_index.specs.Owners.{stands_for}
use Rattle.type_graph.specs.Types as types
use Rattle.unit_index.specs.Expanding as expanding
use Rattle.unit_index.specs.Expanding.{file_expanded, files_expanded, headers_expanded, taken_over, unit_expanded, units_expanded}
use Rattle.header_merge.proofs.ListLemmas.{get_there}
use Rattle.header_merge.proofs.FrontLemmas.{all_from, flat_filter}
use Rattle.header_merge.proofs.StabLemmas.{AreBelow, AreOpened, AreShaped, IsOpened, file_shaped, items_below}
use Rattle.header_merge.proofs.RangeLemmas.{AreAmong, IsOfHeader, first_or_later, header_among, later_among, range_at, ranges_in}
use Rattle.header_merge.proofs.GoneLemmas.{AreTypedIfGone, same_body, unit_own}
use Rattle.header_merge.proofs.RowLemmas.{mark_after}

-- ---- what is left

-- the items of units that are left; the first header of the first unit has this place
abbrev pub left_items : Change → ℕ → List UnitSpan → List (List Filed) → List (List Filed)
left_items c place [] items = []
left_items c place (s ∷ spans) [] = []
left_items c place (s ∷ spans) (fs ∷ items) = filter (is_left_item c place) fs ∷ left_items c (place + length s.headers) spans items

-- the units of an image as they are read
abbrev pub units_left : Change → ℕ → List UnitSpan → List UnitSpan → List (List Filed) → List Unit
units_left c place ss ts items = units_with ts (left_items c place ss items)

-- they are those of the image's entries
pub units_left_are : (c : Change) (entries : List Named) (place : ℕ) (ss ts : List UnitSpan) (items : List (List Filed))
    → AreSpansChanged c entries place ss ts → AreItems entries ss items
    → AreUnitsOf (changed c entries) ts (units_left c place ss ts items)
units_left_are c entries place [] [] items are read = tt
units_left_are c entries place [] (t ∷ ts) items are read = absurd are
units_left_are c entries place (s ∷ ss) [] items are read = absurd are
units_left_are c entries place (s ∷ ss) (t ∷ ts) [] are read = absurd read
units_left_are c entries place (s ∷ ss) (t ∷ ts) (fs ∷ items) are read = (
  record { items = filter (is_left_item c place) fs; read = are.0.reads fs read.0; is = refl },
  units_left_are c entries (place + length s.headers) ss ts items are.1 read.1,
)

other_file : (b : Bool) (xs : List Symbol) → b ≡ false → cond b xs [] ≡ []
other_file true xs is = absurd cc
other_file false xs is = refl

-- a file that stays has its symbols
left_symbols : (c : Change) (place file : ℕ) (fs : List Filed) → is_left c place file ≡ true
    → flat_map (symbols_at file) (filter (is_left_item c place) fs) ≡ flat_map (symbols_at file) fs
left_symbols c place file fs stays = flat_filter (symbols_at file) (is_left_item c place) fs
    (all_from (λ f. is_left_item c place f ≡ false → symbols_at file f ≡ []) none fs) where
      by_case : (f : Filed) (b : Bool) → (f.file == file) ≡ b → is_left_item c place f ≡ false → (f.file == file) ≡ false
      by_case f true is goes = not_both (is_left c place file) stays (sym (ap (is_left c place) (eqb-true f.file file is)) ∙ goes)
      by_case f false is goes = is

      none : (f : Filed) → is_left_item c place f ≡ false → symbols_at file f ≡ []
      none f goes = other_file (f.file == file) (symbols_in f.item.text) (by_case f (f.file == file) refl goes)

-- ---- the files of a unit

-- the file of a header among those of a unit
files_get : (file : ℕ) (hs : List HeaderMark) (fs : List Filed) (k number : ℕ) (h : HeaderMark) → slice_get hs k ≡ Some h → number ≡ file + k
    → slice_get (files_from file (map header_name hs) fs) k ≡ Some (file_of number h.name fs)
files_get file [] fs k number h is same = absurd (none_is h is)
files_get file (m ∷ hs) fs zero number h is same =
    let here : file ≡ number = omega arith in
    ap (λ z. Some (file_of z m.name fs)) here ∙ ap (λ (z : HeaderMark). Some (file_of number z.name fs)) (some_is (Some m) m h refl is)
files_get file (m ∷ hs) fs (suc k) number h is same = files_get (file + 1) hs fs k number h is (omega arith)

-- each N_EXCL of a unit takes over the symbols of its file, the number of which is after its place
abbrev AreTaken : Change → List Owner → List Unit → ℕ → ℕ → ℕ → ℕ → List Filed → Type 0
AreTaken c owners units unit place file count fs =
    (k number : ℕ) → k < count → number ≡ file + k → c.kept (place + k) ≡ false
    → taken_over owners units unit (stands_for owners unit number) ≡ flat_map (symbols_at number) fs

-- a file with this name and these symbols
abbrev file_with : List ℕ → List Symbol → HeaderFile
file_with name symbols = record { name = name; symbols = symbols }

module _ (c : Change) (owners : List Owner) (units : List Unit) (unit first : ℕ) (fs : List Filed) where
  -- a file
  one_file : (number : ℕ) (kept : Bool) (m n : HeaderMark) → n.name ≡ m.name → n.excluded ≡ not kept
      → (kept ≡ true → flat_map (symbols_at number) (filter (is_left_item c first) fs) ≡ flat_map (symbols_at number) fs)
      → (kept ≡ false → taken_over owners units unit (stands_for owners unit number) ≡ flat_map (symbols_at number) fs)
      → file_expanded owners units unit number n (file_of number n.name (filter (is_left_item c first) fs)) ≡ file_of number m.name fs
  one_file number true m n name excluded stays taken =
      ap (λ b. cond b (file_with n.name (taken_over owners units unit (stands_for owners unit number))) (file_of number n.name (filter (is_left_item c first) fs))) excluded
      ∙ (λ i. file_with (name i) (stays refl i))
  one_file number false m n name excluded stays taken =
      ap (λ b. cond b (file_with n.name (taken_over owners units unit (stands_for owners unit number))) (file_of number n.name (filter (is_left_item c first) fs))) excluded
      ∙ (λ i. file_with (name i) (taken refl i))

  -- the files of the headers after the first ones that are done
  files_same : (done file : ℕ) (ms ns : List HeaderMark) → file ≡ suc done → AreMarksChanged c (first + done) ms ns → AllByRecursion IsOpened ms
      → AreTaken c owners units unit (first + done) file (length ms) fs
      → headers_expanded owners units unit file ns (files_from file (map header_name ns) (filter (is_left_item c first) fs)) ≡ files_from file (map header_name ms) fs
  files_same done file [] [] same are opened taken = refl
  files_same done file [] (n ∷ ns) same are opened taken = absurd are
  files_same done file (m ∷ ms) [] same are opened taken = absurd are
  files_same done file (m ∷ ms) (n ∷ ns) same are opened taken =
      let kept : Bool = c.kept (first + done) in
      let excluded : n.excluded ≡ not kept = are.0.excluded ∙ ap (λ b. b || not kept) opened.0 in
      let at : first + done + zero ≡ first + done = omega arith in
      let here : file_expanded owners units unit file n (file_of file n.name (filter (is_left_item c first) fs)) ≡ file_of file m.name fs =
      one_file file kept m n are.0.name excluded
      (λ stays. left_symbols c first file fs (ap (is_left c first) same ∙ stays))
      (λ goes. taken zero file (omega arith) (omega arith) (ap c.kept at ∙ goes)) in
      let next : first + done + 1 ≡ first + (done + 1) = omega arith in
      let later = files_same (done + 1) (file + 1) ms ns (omega arith) (subst (λ z. AreMarksChanged c z ms ns) next are.1) opened.1
      (λ k z within is goes. let there : first + done + suc k ≡ first + (done + 1) + k = omega arith in taken (suc k) z (omega arith) (omega arith) (ap c.kept there ∙ goes)) in
      ap (λ z. z ∷ headers_expanded owners units unit (file + 1) ns (files_from (file + 1) (map header_name ns) (filter (is_left_item c first) fs))) here
      ∙ ap (λ z. file_of file m.name fs ∷ z) later

-- ---- units, expanded

-- each range that is not kept, and whose symbols are these, takes them over
abbrev pub AllTaken : Change → List Owner → List Unit → List RangeOf → Type 0
AllTaken c owners units typed =
    (i : ℕ) (x : RangeOf) (symbols : List Symbol) → slice_get typed i ≡ Some x → c.kept i ≡ false → x.shape ≡ map shape_of symbols
    → x.numbers ≡ flat_map files_of symbols → AreShaped symbols
    → taken_over owners units x.unit (stands_for owners x.unit x.file) ≡ symbols

same_unit : (u v : Unit) → u.name ≡ v.name → u.start ≡ v.start → u.end ≡ v.end → u.files ≡ v.files → u.body ≡ v.body → u ≡ v
same_unit u v name start end files body = λ i. record { name = name i; start = start i; end = end i; files = files i; body = body i }

module _ (c : Change) (owners : List Owner) (units : List Unit) (typed : List RangeOf)
    (gone : AreTypedIfGone c.kept typed) (taken : AllTaken c owners units typed) (entries : List Named) where
  -- one unit
  unit_same : (place n : ℕ) (s t : UnitSpan) (ss : List UnitSpan) (fs : List Filed) (items : List (List Filed)) → IsSpanChanged c entries place s t
      → AreOpened s → AreBelow entries s
      → AreRead (stabs_of entries s) fs → AreAmong typed place (ranges_in n (s ∷ ss) (fs ∷ items))
      → unit_expanded owners units n t (unit_of t (filter (is_left_item c place) fs)) ≡ unit_of s fs
  unit_same place n s t ss fs items is opened low read are =
      let gs : List Filed = filter (is_left_item c place) fs in
      let start : place ≡ place + zero = omega arith in
      let marks : AreMarksChanged c (place + zero) s.headers t.headers = subst (λ z. AreMarksChanged c z s.headers t.headers) start is.headers in
      let own : file_of 0 t.name gs ≡ file_of 0 s.name fs = λ i. file_with (is.name i) (left_symbols c place 0 fs refl i) in
      let others : headers_expanded owners units n 1 t.headers (files_from 1 (map header_name t.headers) gs) ≡ files_from 1 (map header_name s.headers) fs =
      files_same c owners units n place fs zero 1 s.headers t.headers refl marks opened (λ k number within number_is goes.
      let h = get_there s.headers k within in
      let at : place + zero + k ≡ place + k = omega arith in
      let file : suc k ≡ number = omega arith in
      let over : taken_over owners units n (stands_for owners n (suc k)) ≡ flat_map (symbols_at (suc k)) fs =
      taken (place + k) (range_at n (suc k) h.0 fs) (flat_map (symbols_at (suc k)) fs) (header_among typed place n s ss fs items are k h.0 h.1) (ap c.kept (sym at) ∙ goes)
      refl refl (file_shaped (suc k) (stabs_of entries s) fs read) in
      subst (λ z. taken_over owners units n (stands_for owners n z) ≡ flat_map (symbols_at z) fs) file over) in
      same_unit (unit_expanded owners units n t (unit_of t gs)) (unit_of s fs) is.name is.start is.end
      (ap (λ z. z ∷ headers_expanded owners units n 1 t.headers (files_from 1 (map header_name t.headers) gs)) own ∙ ap (λ z. file_of 0 s.name fs ∷ z) others)
      (same_body c place fs (unit_own c typed gone place n s ss fs items are (items_below (length s.headers) (stabs_of entries s) fs read low)))

  -- all units
  pub units_same : (place n : ℕ) (ss ts : List UnitSpan) (items : List (List Filed)) → AreSpansChanged c entries place ss ts → AllByRecursion AreOpened ss
      → AllByRecursion (AreBelow entries) ss
      → AreItems entries ss items → AreAmong typed place (ranges_in n ss items)
      → units_expanded owners units n ts (units_left c place ss ts items) ≡ units_with ss items
  units_same place n [] [] items is opened low read are = refl
  units_same place n [] (t ∷ ts) items is opened low read are = absurd is
  units_same place n (s ∷ ss) [] items is opened low read are = absurd is
  units_same place n (s ∷ ss) (t ∷ ts) [] is opened low read are = absurd read
  units_same place n (s ∷ ss) (t ∷ ts) (fs ∷ items) is opened low read are =
      ap (λ z. z ∷ units_expanded owners units (n + 1) ts (units_left c (place + length s.headers) ss ts items)) (unit_same place n s t ss fs items is.0 opened.0 low.0 read.0 are)
      ∙ ap (λ z. unit_of s fs ∷ z)
      (units_same (place + length s.headers) (n + 1) ss ts items is.1 opened.1 low.1 read.1 (later_among typed place n s ss fs items are))

-- ---- kept ranges

-- the symbols of the range are those of its file, as the units of the image are read
pub record IsOfFile (units : List Unit) (x : RangeOf) : Type 0 where
  pub shape : x.shape ≡ map shape_of (expanding.symbols_at units x.unit x.file)
  pub numbers : x.numbers ≡ flat_map files_of (expanding.symbols_at units x.unit x.file)
  pub shaped : AreShaped (expanding.symbols_at units x.unit x.file)

module _ (c : Change) (entries : List Named) (units : List Unit) where
  -- a range of one unit
  kept_here : (place n : ℕ) (s t : UnitSpan) (fs : List Filed) (k : ℕ) (x : RangeOf) → IsSpanChanged c entries place s t → AreRead (stabs_of entries s) fs
      → slice_get units n ≡ Some (unit_of t (filter (is_left_item c place) fs)) → IsOfHeader n 1 s.headers fs k x → c.kept (place + k) ≡ true → IsOfFile units x
  kept_here place n s t fs k x is read unit_is h kept =
      let gs : List Filed = filter (is_left_item c place) fs in
      let after = mark_after c place s.headers t.headers k h.header is.headers h.at in
      let file : 1 + k ≡ suc k = omega arith in
      let file_is : slice_get (files_from 0 (names_of t) gs) (1 + k) ≡ Some (file_of (1 + k) after.0.name gs) =
      ap (slice_get (files_from 0 (names_of t) gs)) file ∙ files_get 1 t.headers gs k (1 + k) after.0 after.1 refl in
      let same : expanding.symbols_at units n (1 + k) ≡ flat_map (symbols_at (1 + k)) fs =
      ap (λ u. types.symbols_in (slice_get (expanding.files_of u) (1 + k))) unit_is ∙ ap types.symbols_in file_is
      ∙ left_symbols c place (1 + k) fs (ap (is_left c place) file ∙ kept) in
      let made : IsOfFile units (range_at n (1 + k) h.header fs) = record {
        shape = ap (map shape_of) (sym same);
        numbers = ap (flat_map files_of) (sym same);
        shaped = subst AreShaped (sym same) (file_shaped (1 + k) (stabs_of entries s) fs read);
      } in
      subst (IsOfFile units) (sym h.is) made

  -- of any unit
  pub kept_at : (place n : ℕ) (ss ts : List UnitSpan) (items : List (List Filed)) (k : ℕ) (x : RangeOf) → AreSpansChanged c entries place ss ts
      → AreItems entries ss items
      → ((j : ℕ) (u : Unit) → slice_get (units_left c place ss ts items) j ≡ Some u → slice_get units (n + j) ≡ Some u)
      → slice_get (ranges_in n ss items) k ≡ Some x → c.kept (place + k) ≡ true → IsOfFile units x
  kept_at place n [] [] [] k x is read are at kept = absurd (none_is x at)
  kept_at place n [] (t ∷ ts) items k x is read are at kept = absurd is
  kept_at place n [] [] (fs ∷ items) k x is read are at kept = absurd read
  kept_at place n (s ∷ ss) [] items k x is read are at kept = absurd is
  kept_at place n (s ∷ ss) (t ∷ ts) [] k x is read are at kept = absurd read
  kept_at place n (s ∷ ss) (t ∷ ts) (fs ∷ items) k x is read are at kept =
      by_case (first_or_later n s ss fs items k x at) (λ j later stays. kept_at (place + length s.headers) (n + 1) ss ts items j x is.1 read.1
      (λ i u e. let same : n + 1 + i ≡ n + suc i = omega arith in ap (slice_get units) same ∙ are (suc i) u e) later stays) where
        by_case : IsOfHeader n 1 s.headers fs k x ⊎ ((j : ℕ) × (k ≡ length s.headers + j) × (slice_get (ranges_in (n + 1) ss items) j ≡ Some x))
            → ((j : ℕ) → slice_get (ranges_in (n + 1) ss items) j ≡ Some x → c.kept (place + length s.headers + j) ≡ true → IsOfFile units x) → IsOfFile units x
        by_case (inl here) more =
            let first : n ≡ n + zero = omega arith in
            kept_here place n s t fs k x is.0 read.0 (ap (slice_get units) first ∙ are zero (unit_of t (filter (is_left_item c place) fs)) refl) here kept
        by_case (inr later) more =
            let same : place + length s.headers + later.0 ≡ place + k = omega (arith, later.1) in
            more later.0 later.2 (ap c.kept same ∙ kept)
