-- An image, expanded, is the world of the entries that it was made of.
use Rattle.std.proofs.Common.{◌≡◌, ◌≢◌, ℕ, zero, ◌+◌, ◌<◌, true, List, [], ◌∷◌, length, Some, None, refl, sym, ap, subst, ◌∙◌, arith, map, slice_get, slice_index, eq-eqb}
use Rattle.std.specs.Prelude.{flat_map}
use Rattle.std.proofs.lemmas.List.{length-map}
use Rattle.std.proofs.lemmas.Option.{slice_get_within}
use Rattle.nlist_codec.specs.declared.named.Named.{Named}
use Rattle.stab_symbols.specs.declared.tree.Symbol.{Symbol}
use Rattle.stab_symbols.specs.Shape.{ShapedSymbol}
use Rattle.stab_symbols.specs.Files.{DifferInFiles, file_0, files_of, shape_of, with_files}
use Rattle.unit_outlines.specs.declared.outline_types.UnitSpan.{UnitSpan}
use Rattle.unit_outlines.specs.declared.outline_types.Marks.TheVariants.{Image}
use Rattle.stab_units.specs.declared.unit.Unit.{Unit}
use Rattle.unit_outlines.specs.Outlines.{OutlineFault, units_of}
use Rattle.stab_units.specs.Units.{AreUnitsOf, Filed}
use Rattle.stab_units.specs.ObjectUnits.{AreUnits}
use Rattle.stab_units.specs.Changing.{AreSpansChanged, LocalsGo}
use Rattle.type_graph.specs.declared.world.World.{World}
use Rattle.type_graph.specs.Worlds.{IsWorldOf}
use Rattle.bincl_match.specs.declared.range.Grouping.{Grouping}
use Rattle.bincl_match.specs.declared.range.RangeOf.{RangeOf}
use Rattle.bincl_match.specs.Lawful.{IsLawful}
use Rattle.bincl_match.specs.Merging.{IsMerging}
use Rattle.bincl_match.specs.Ranges.{AreItems, AreRanges, among, ranges_of}
use Rattle.bincl_match.specs.Reading.{units_with}
use Rattle.bincl_match.proofs.ListLemmas.{some_is}
use Rattle.unit_index.specs.Owners.{new_number, owners_of, rows_of, stands_for}
use Rattle.unit_index.specs.Expanding as expanding
use Rattle.unit_index.specs.Expanding.{IsExpanded, expanded, taken_over, units_expanded}
use Rattle.header_merge.specs.ImageRows.{AreImageRows}
use Rattle.header_merge.specs.Merged.{change_of, is_kept, merged}
use Rattle.header_merge.proofs.ListLemmas.{get_map, get_there}
use Rattle.header_merge.proofs.StabLemmas.{AreShaped, all_below, all_opened}
use Rattle.header_merge.proofs.OwnerLemmas.{no_fault, numbers, stands}
use Rattle.header_merge.proofs.SymbolLemmas.{same_symbols}
use Rattle.header_merge.proofs.ExternalLemmas.{same_externals}
use Rattle.header_merge.proofs.RangeLemmas.{AreAmong, ranges_in}
use Rattle.header_merge.proofs.GoneLemmas.{kept_is, locals_from, other_kept, typed_if_gone}
use Rattle.header_merge.proofs.RowLemmas.{image_rows}
use Rattle.header_merge.proofs.WorldLemmas.{AllTaken, IsOfFile, kept_at, units_left, units_left_are, units_same}

-- ---- ranges of items

-- the ranges of spans whose stabs are read as these items
abbrev pub all_ranges : List UnitSpan → List (List Filed) → List RangeOf
all_ranges spans items = map (among (ranges_in 0 spans items)) (ranges_in 0 spans items)

-- ranges are among themselves
all_among : (all : List RangeOf) → AreAmong all 0 all
all_among all k x is = let same : zero + k ≡ k = omega arith in ap (slice_get all) same ∙ is

-- items make units
units_are : (entries : List Named) (spans : List UnitSpan) (items : List (List Filed)) → AreItems entries spans items
    → AreUnitsOf entries spans (units_with spans items)
units_are entries [] [] read = tt
units_are entries [] (fs ∷ items) read = absurd read
units_are entries (s ∷ spans) [] read = absurd read
units_are entries (s ∷ spans) (fs ∷ items) read = (record { items = fs; read = read.0; is = refl }, units_are entries spans items read.1)

module _ (one_units : (text_end : ℕ) (entries : List Named) (us vs : List Unit) → AreUnits text_end entries us → AreUnits text_end entries vs → us ≡ vs)
    (text_end : ℕ) (entries : List Named) (ranges : List RangeOf) (are : AreRanges text_end entries ranges) where
  -- the units of entries are those of their items
  units_of_items : (units : List Unit) → AreUnits text_end entries units → units ≡ units_with (units_of text_end entries) are.items
  units_of_items units these =
      one_units text_end entries units (units_with (units_of text_end entries) are.items) these
      (record { no_fault = these.no_fault; are = units_are entries (units_of text_end entries) are.items are.are_items })

  -- and so are the ranges
  ranges_of_items : ranges ≡ all_ranges (units_of text_end entries) are.items
  ranges_of_items = are.are ∙ ap (λ z. ranges_of z are.items) (units_of_items are.units are.are_units)

  -- ---- only N_LSYM stabs go

  pub locals_go : (g : Grouping) → IsMerging ranges g → LocalsGo (change_of g) entries 0 (units_of text_end entries)
  locals_go g merging =
      let typed : List RangeOf = ranges_in 0 (units_of text_end entries) are.items in
      locals_from (change_of g) typed (typed_if_gone typed g (subst (λ z. IsMerging z g) ranges_of_items merging)) entries 0 0 (units_of text_end entries) are.items are.are_items
      (all_below text_end entries) (all_among typed)

-- ---- the image

-- what shapes tell of symbols
pub record HasShapes : Type 0 where
  pub differ : (s t : Symbol) → ShapedSymbol s → ShapedSymbol t → shape_of s ≡ shape_of t → DifferInFiles s t
  pub known : (s t : Symbol) → with_files file_0 s ≡ with_files file_0 t → files_of s ≡ files_of t → s ≡ t
  pub again : (change : ℕ → ℕ) (s : Symbol) → with_files file_0 (with_files change s) ≡ with_files file_0 s
  pub files_new : (change : ℕ → ℕ) (s : Symbol) → files_of (with_files change s) ≡ map change (files_of s)

module _ (shapes : HasShapes) (entries : List Named) (g : Grouping) (ss ts : List UnitSpan) (items : List (List Filed)) (read : AreItems entries ss items)
    (are : AreSpansChanged (change_of g) entries 0 ss ts) (merging : IsMerging (all_ranges ss items) g)
    (lawful : IsLawful (all_ranges ss items)) (rows : AreImageRows (all_ranges ss items) g (rows_of ts)) where
  abbrev typed : List RangeOf
  typed = ranges_in 0 ss items

  abbrev left : List Unit
  left = units_left (change_of g) 0 ss ts items

  -- a range and the one that is kept for it
  taken_from : (i : ℕ) (x y : RangeOf) (symbols : List Symbol) → slice_get (all_ranges ss items) i ≡ Some (among (ranges_in 0 ss items) x)
      → slice_get (all_ranges ss items) (slice_index g.kept i) ≡ Some (among (ranges_in 0 ss items) y) → i < length (all_ranges ss items)
      → slice_index g.kept i ≢ i → IsOfFile left y
      → x.shape ≡ map shape_of symbols → x.numbers ≡ flat_map files_of symbols → AreShaped symbols
      → taken_over (owners_of (rows_of ts)) left x.unit (stands_for (owners_of (rows_of ts)) x.unit x.file) ≡ symbols
  taken_from i x y symbols x_is y_is within differs file shape numbers_are shaped =
      let pair = merging.paired i within differs in
      let first : pair.first ≡ among typed x = some_is (slice_get (all_ranges ss items) i) pair.first (among typed x) pair.first_is x_is in
      let second : pair.second ≡ among typed y = some_is (slice_get (all_ranges ss items) (slice_index g.kept i)) pair.second (among typed y) pair.second_is y_is in
      let alike : y.shape ≡ x.shape = sym (ap (λ (z : RangeOf). z.shape) second) ∙ sym pair.shapes ∙ ap (λ (z : RangeOf). z.shape) first in
      let change : ℕ → ℕ = new_number (owners_of (rows_of ts)) y.unit x.unit in
      let stand = stands (all_ranges ss items) g (rows_of ts) lawful merging rows i (among typed x) (among typed y) x_is y_is in
      let number : map change y.numbers ≡ x.numbers = numbers (all_ranges ss items) g (rows_of ts) lawful merging rows i (among typed x) (among typed y) x_is y_is differs in
      ap (taken_over (owners_of (rows_of ts)) left x.unit) stand
      ∙ same_symbols shapes.differ shapes.known shapes.again shapes.files_new change (expanding.symbols_at left y.unit y.file) symbols file.shaped shaped
      (sym file.shape ∙ alike ∙ shape) (ap (map change) (sym file.numbers) ∙ number ∙ numbers_are)

  all_taken : AllTaken (change_of g) (owners_of (rows_of ts)) left typed
  all_taken i x symbols is goes shape numbers shaped =
      let x_is : slice_get (all_ranges ss items) i ≡ Some (among typed x) = get_map (among typed) typed i x is in
      let within : i < length (all_ranges ss items) = slice_get_within (all_ranges ss items) i (among typed x) x_is in
      let count : length (all_ranges ss items) ≡ length typed = length-map typed (among typed) in
      let inside : slice_index g.kept i < length (all_ranges ss items) = merging.inside i within in
      let y = get_there typed (slice_index g.kept i) (omega (arith, inside, count)) in
      let kept : is_kept g (slice_index g.kept i) ≡ true =
      kept_is g (slice_index g.kept i) (omega (arith, inside, merging.count.0))
      ∙ eq-eqb (slice_index g.kept (slice_index g.kept i)) (slice_index g.kept i) (merging.fixed i within) in
      let there : zero + slice_index g.kept i ≡ slice_index g.kept i = omega arith in
      let file : IsOfFile left y.0 =
      kept_at (change_of g) entries left 0 0 ss ts items (slice_index g.kept i) y.0 are read (λ j u at. let same : zero + j ≡ j = omega arith in ap (slice_get left) same ∙ at) y.1
      (ap (is_kept g) there ∙ kept) in
      taken_from i x y.0 symbols x_is (get_map (among typed) typed (slice_index g.kept i) y.0 y.1) within
      (other_kept g i (omega (arith, within, merging.count.0)) goes) file shape numbers shaped

-- ---- the law

module _ (shapes : HasShapes) (one_units : (text_end : ℕ) (entries : List Named) (us vs : List Unit) → AreUnits text_end entries us → AreUnits text_end entries vs → us ≡ vs)
    (all_lawful : (text_end : ℕ) (entries : List Named) (ranges : List RangeOf) → AreRanges text_end entries ranges → IsLawful ranges) where
  pub merged_world_by : (text_end : ℕ) (entries : List Named) (ranges : List RangeOf) (g : Grouping) (world : World) → AreRanges text_end entries ranges
      → IsMerging ranges g
      → IsWorldOf text_end entries world → OutlineFault Image (merged g entries) None
      → AreSpansChanged (change_of g) entries 0 (units_of text_end entries) (units_of text_end (merged g entries))
      → IsExpanded text_end (merged g entries) world
  merged_world_by text_end entries ranges g world are merging of outline spans =
      let ss : List UnitSpan = units_of text_end entries in
      let ts : List UnitSpan = units_of text_end (merged g entries) in
      let left : List Unit = units_left (change_of g) 0 ss ts are.items in
      let typed : List RangeOf = ranges_in 0 ss are.items in
      let all : ranges ≡ all_ranges ss are.items = ranges_of_items one_units text_end entries ranges are in
      let merges : IsMerging (all_ranges ss are.items) g = subst (λ z. IsMerging z g) all merging in
      let lawful : IsLawful (all_ranges ss are.items) = subst IsLawful all (all_lawful text_end entries ranges are) in
      let opened = all_opened text_end entries are.are_units.no_fault in
      let rows : AreImageRows (all_ranges ss are.items) g (rows_of ts) = image_rows entries g ss ts are.items spans opened are.are_items in
      let same : units_expanded (owners_of (rows_of ts)) left 0 ts left ≡ units_with ss are.items =
      units_same (change_of g) (owners_of (rows_of ts)) left typed (typed_if_gone typed g merges)
      (all_taken shapes entries g ss ts are.items are.are_items spans merges lawful rows)
      entries 0 0 ss ts are.items spans opened (all_below text_end entries) are.are_items (all_among typed) in
      record {
        index = (outline, no_fault (all_ranges ss are.items) g (rows_of ts) lawful merges rows);
        units = left;
        are = units_left_are (change_of g) entries 0 ss ts are.items spans are.are_items;
        is = units_of_items one_units text_end entries ranges are world.units of.units ∙ sym same;
        externals = of.externals ∙ sym (same_externals (change_of g) entries);
      }
