-- What linking comes to: what is placed of a list is one, so is the grouping of its ranges, and so are the fault of its size and the image.
use Rattle.std.proofs.Common.{◌≡◌, ℕ, ◌<◌, ◌^◌, ◌⊎◌, inl, inr, List, [], ◌∷◌, ◌++◌, length, Option, Some, None, refl, sym, ap, subst, ◌∙◌}
use Rattle.std.specs.Prelude.{All}
use Rattle.std.proofs.lemmas.List.{length-map}
use Rattle.std.proofs.lemmas.List.Elements.{All-from_recursion, recursion_from_All}
use Rattle.st_base.specs.Faults.{fault_at}
use Rattle.st_base.specs.declared.fault.TheConstants.{EMPTY}
use Rattle.st_base.specs.declared.fault.Fault.{Fault}
use Rattle.st_base.specs.declared.fault.Refused.TheVariants as refused
use Rattle.nlist_codec.specs.declared.named.Named.{Named}
use Rattle.aout_object.specs.Making.{HasWholeName}
use Rattle.aout_object.specs.Objects.{Contents}
use Rattle.aout_object.proofs.MakeLemmas.{named_of-made}
use Rattle.stab_units.specs.Joining.{AreAlike}
use Rattle.stab_units.specs.ObjectUnits.{AreUnits, UnitsFault}
use Rattle.stab_units.specs.declared.unit.Unit.{Unit}
use Rattle.bincl_match.specs.declared.range.Grouping.{Grouping}
use Rattle.bincl_match.specs.declared.range.RangeOf.{RangeOf}
use Rattle.bincl_match.specs.Instances.{IsAlone}
use Rattle.bincl_match.specs.Lawful.{IsLawful as LawfulRanges}
use Rattle.bincl_match.specs.Matching.{AreClasses}
use Rattle.bincl_match.specs.Ranges.{AreFound, AreRanges, typed_ranges}
use Rattle.bincl_match.proofs.FoundLemmas.{found_few, found_known}
use Rattle.bincl_match.proofs.LawLemmas.{told_few}
use Rattle.header_merge.specs.Merged.{merged}
use Rattle.aout_link.specs.Linking.{KeepsWorld, IsGroupingOf, IsImageOf, IsLinked, IsPlanned, RefusesLink, image_end, image_placed, kept_from}
use Rattle.aout_link.specs.ImageMaking.{CanBeMade, image_of, parts_of, size_fault}
use Rattle.aout_link.specs.Moves.{all_moves}
use Rattle.aout_link.specs.Placing.{IsPlaced, bss_of, datas, placed_all, texts}
use Rattle.aout_link.specs.Refusals.{list_fault}
use Rattle.aout_link.specs.Sources.{HasUnits, IsLawful, Source}
use Rattle.aout_link.specs.NameTables.{entries_of, names_table}
use Rattle.aout_link.specs.declared.linking.Image.{Image}
use Rattle.bincl_match.specs.declared.mode.Mode.{Mode}
use Rattle.bincl_match.specs.declared.mode.Mode.TheVariants.{Keep, Merge}
use Rattle.aout_link.specs.declared.placed.Placed.{Placed}
use Rattle.aout_link.proofs.MakingLemmas.{can_be_made, names-kept}
use Rattle.aout_link.proofs.MergedLemmas.{can_merged}
use Rattle.aout_link.proofs.PlacedLemmas.{length-all_moves}
use Rattle.aout_link.proofs.UnitLemmas.{units_placed}

-- ---- what is placed is one

-- what is there is one thing
some_one : {X : Type 0} (found : Option X) (x y : X) → found ≡ Some x → found ≡ Some y → x ≡ y
some_one found x y a b = let e : Some x ≡ Some y = sym a ∙ b in cc

-- nothing is no thing
none_or_some : {X : Type 0} (found : Option X) (x : X) → found ≡ None → found ≡ Some x → ⊥
none_or_some found x a b = let e : None ≡ Some x = sym a ∙ b in cc

-- each part of what is placed is told by the objects
placed_one : (base : ℕ) (os : List Source) (p q : Placed) → IsPlaced base os p → IsPlaced base os q → p ≡ q
placed_one base os p q a b =
    let order = some_one _ p.order q.order a.order b.order in
    let machine = some_one _ p.machine q.machine a.machine b.machine in
    let entry : p.entry ≡ q.entry = a.entry ∙ sym b.entry in
    let text : p.text ≡ q.text = a.text ∙ sym b.text in
    let datum : p.data_part ≡ q.data_part = a.data_part ∙ sym b.data_part in
    let bss : p.bss ≡ q.bss = a.bss ∙ sym b.bss in
    let named : p.named ≡ q.named = a.named ∙ sym b.named in
    rw (order, machine, entry, text, datum, bss, named) refl

-- ---- one fault, one image

-- by the laws that entries have one list of ranges, and that each mode makes one grouping of ranges
module _
    (one_ranges : (end : ℕ) (entries : List Named) (rs qs : List RangeOf) → AreRanges end entries rs → AreRanges end entries qs → rs ≡ qs)
    (one_alone : (ranges : List RangeOf) (g h : Grouping) → IsAlone ranges g → IsAlone ranges h → g ≡ h)
    (one_classes : (ranges : List RangeOf) (g h : Grouping) → AreClasses ranges g → AreClasses ranges h → g ≡ h)
  where
    -- ranges are grouped in one way
    grouping_one : (mode : Mode) (ranges : List RangeOf) (g h : Grouping) → IsGroupingOf mode ranges g → IsGroupingOf mode ranges h → g ≡ h
    grouping_one Keep ranges g h a b = one_alone ranges g h a b
    grouping_one Merge ranges g h a b = one_classes ranges g h a b

    -- so is what is placed
    planned_one : (mode : Mode) (base : ℕ) (os : List Source) (p q : Placed) (g h : Grouping) → IsPlanned mode base os p g → IsPlanned mode base os q h → (p ≡ q) × (g ≡ h)
    planned_one mode base os p q g h a b =
        let same = placed_one base os p q a.is_placed b.is_placed in
        let ranges = one_ranges (image_end q) q.named a.ranges b.ranges (subst (λ (x : Placed). AreRanges (image_end x) x.named a.ranges) same a.are) b.are in
        (same, grouping_one mode b.ranges g h (subst (λ (rs : List RangeOf). IsGroupingOf mode rs g) ranges a.grouped) b.grouped)

    -- and what is made of it
    image_placed_one : (p q : Placed) (g h : Grouping) → (p ≡ q) × (g ≡ h) → image_placed g p ≡ image_placed h q
    image_placed_one p q g h same = ap (λ (x : Placed). image_placed g x) same.0 ∙ ap (λ (x : Grouping). image_placed x q) same.1

    -- a fault of a list is that of the objects, or else that of the size of the image
    pub fault_one : (mode : Mode) (base : ℕ) (os : List Source) (f g : Fault) → RefusesLink mode base os (refused.At f) → RefusesLink mode base os (refused.At g) → f ≡ g
    fault_one mode base os f g (inl a) (inl b) = some_one (list_fault base os) f g a b
    fault_one mode base os f g (inl a) (inr (q, h, b, size)) = absurd (none_or_some (list_fault base os) f b.no_fault a)
    fault_one mode base os f g (inr (p, h, a, size)) (inl b) = absurd (none_or_some (list_fault base os) g a.no_fault b)
    fault_one mode base os f g (inr (p, k, a, size)) (inr (q, l, b, other)) =
        some_one (size_fault (image_placed k p)) f g size (ap size_fault (image_placed_one p q k l (planned_one mode base os p q k l a b)) ∙ other)

    -- a list that has an image has no fault
    pub image_or_fault : (mode : Mode) (base : ℕ) (os : List Source) (old new : ℕ) (image : Image) (f : Fault)
        → IsLinked mode base os old new image → RefusesLink mode base os (refused.At f) → ⊥
    image_or_fault mode base os old new image f is (inl a) = none_or_some (list_fault base os) f is.planned.no_fault a
    image_or_fault mode base os old new image f is (inr (q, h, b, size)) =
        none_or_some (size_fault (image_placed is.grouping is.placed)) f is.fits
        (ap size_fault (image_placed_one is.placed q is.grouping h (planned_one mode base os is.placed q is.grouping h is.planned b)) ∙ size)

    -- a list has one image at most
    pub image_one : (mode : Mode) (base : ℕ) (os : List Source) (old new other : ℕ) (image second : Image)
        → IsLinked mode base os old new image → IsLinked mode base os old other second → image ≡ second
    image_one mode base os old new other image second a b =
        let same = planned_one mode base os a.placed b.placed a.grouping b.grouping a.planned b.planned in
        let object : image.object ≡ second.object = a.is.made ∙ ap image_of (image_placed_one a.placed b.placed a.grouping b.grouping same) ∙ sym b.is.made in
        let count : image.ranges ≡ second.ranges = a.is.ranges ∙ ap (λ (g : Grouping). length g.kept) same.1 ∙ sym b.is.ranges in
        let kept : image.kept ≡ second.kept = a.is.kept ∙ ap (λ (g : Grouping). kept_from 0 g.kept) same.1 ∙ sym b.is.kept in
        ap (λ (o : Contents). record { object = o; ranges = image.ranges; kept = image.kept }) object
        ∙ ap (λ (n : ℕ). record { object = second.object; ranges = n; kept = image.kept }) count
        ∙ ap (λ (n : ℕ). record { object = second.object; ranges = second.ranges; kept = n }) kept

-- the number of steps is the old one
pub count_one : (mode : Mode) (base : ℕ) (os : List Source) (old new other : ℕ) (image second : Image)
    → IsLinked mode base os old new image → IsLinked mode base os old other second → new ≡ other
count_one mode base os old new other image second a b = a.taken ∙ sym b.taken

-- ---- some image, or a fault

-- where the objects have no fault, something is placed of them
placed_some : (base : ℕ) (os : List Source) → list_fault base os ≡ None → (p : Placed) × IsPlaced base os p
placed_some base [] accepted = absurd (let e : Some (fault_at EMPTY 0) ≡ None = accepted in cc)
placed_some base (o ∷ os) accepted = (
  record {
    order = o.parts.order;
    machine = o.parts.machine;
    entry = base;
    text = texts (names_table base (o ∷ os)) (all_moves base (o ∷ os)) (o ∷ os);
    data_part = datas (names_table base (o ∷ os)) (all_moves base (o ∷ os)) (o ∷ os);
    bss = bss_of (o ∷ os);
    named = placed_all (names_table base (o ∷ os)) (all_moves base (o ∷ os)) (o ∷ os);
  },
  record { order = refl; machine = refl; entry = refl; text = refl; data_part = refl; bss = refl; named = refl },
)

-- there are as many placed entries as entries of the objects
placed_count : (base : ℕ) (os : List Source) (p : Placed) → IsPlaced base os p → length p.named ≡ length (entries_of os)
placed_count base os p placed =
    ap (λ (es : List Named). length es) placed.named
    ∙ sym (length-map (placed_all (names_table base os) (all_moves base os) os) (λ n. n.name))
    ∙ ap (λ (names : List (List ℕ)). length names) (names-kept (names_table base os) (all_moves base os) os (length-all_moves base os))
    ∙ length-map (entries_of os) (λ n. n.name)

-- the image that is made of what is placed, whose ranges are grouped so
image_made : (p : Placed) (g : Grouping) → CanBeMade p → IsImageOf p g (record { object = image_of (image_placed g p); ranges = length g.kept; kept = kept_from 0 g.kept })
image_made p g can = record {
  made = refl;
  named = named_of-made (parts_of (image_placed g p)) (merged g p.named) (All-from_recursion HasWholeName (merged g p.named) (can_merged g p can).names);
  ranges = refl;
  kept = refl;
}

-- an image of a list, or a fault that it is refused for
abbrev pub ImageOrFault : Mode → ℕ → List Source → ℕ → Type 0
ImageOrFault mode base os old = ((new : ℕ) × (image : Image) × IsLinked mode base os old new image) ⊎ ((f : Fault) × RefusesLink mode base os (refused.At f))

-- what is planned fits a file or does not
sized_some : (mode : Mode) (base : ℕ) (os : List Source) (old : ℕ) (p : Placed) (g : Grouping) (found : Option Fault) → size_fault (image_placed g p) ≡ found → IsPlanned mode base os p g → CanBeMade p
    → KeepsWorld (image_end p) p.named (merged g p.named) → ImageOrFault mode base os old
sized_some mode base os old p g (Some f) size planned can world = inr (f, inr (p, g, planned, size))
sized_some mode base os old p g None size planned can world =
    let image = image_made p g can in
    inl (
      old,
      record { object = image_of (image_placed g p); ranges = length g.kept; kept = kept_from 0 g.kept },
      record {
        placed = p;
        grouping = g;
        planned = planned;
        fits = size;
        is = image;
        world = subst (λ (es : List Named). KeepsWorld (image_end p) p.named es) (sym image.named) world;
        taken = refl;
      },
    )

-- there are fewer ranges than so many, where there are fewer entries
few_ranges : (n end : ℕ) (entries : List Named) (rs : List RangeOf) → AreRanges end entries rs → length entries < n → length rs < n
few_ranges n end entries rs are few =
    let typed : List RangeOf = typed_ranges 0 are.units are.items in
    let found : AreFound end entries typed = record { units = are.units; are_units = are.are_units; items = are.items; are_items = are.are_items; are = refl } in
    told_few n typed rs (found_few end n entries typed (found_known end entries typed found) few) are.are

-- by the laws of ranges, of units and of groupings
module _
    (some_ranges : (end : ℕ) (entries : List Named) → ((rs : List RangeOf) × AreRanges end entries rs) ⊎ ((f : Fault) × UnitsFault end entries f))
    (no_fault : (end : ℕ) (entries : List Named) (units : List Unit) (f : Fault) → AreUnits end entries units → UnitsFault end entries f → ⊥)
    (lawful_ranges : (end : ℕ) (entries : List Named) (rs : List RangeOf) → AreRanges end entries rs → LawfulRanges rs)
    (some_alone : (ranges : List RangeOf) → length ranges < 2 ^ 32 → (g : Grouping) × IsAlone ranges g)
    (some_classes : (ranges : List RangeOf) → LawfulRanges ranges → length ranges < 2 ^ 32 → (g : Grouping) × AreClasses ranges g)
    (joined : (end other behind : ℕ) (es fs : List Named) (us vs : List Unit) → AreUnits end es us → AreUnits other fs vs → (units : List Unit) × AreUnits behind (es ++ fs) units)
    (none : (end : ℕ) → AreUnits end [] [])
    (alike : (end other : ℕ) (es fs : List Named) (us : List Unit) → AreUnits end es us → AreAlike es fs → (units : List Unit) × AreUnits other fs units)
    (keeps_world : (mode : Mode) (end : ℕ) (entries : List Named) (ranges : List RangeOf) (g : Grouping) → AreRanges end entries ranges → IsGroupingOf mode ranges g
    → KeepsWorld end entries (merged g entries))
  where
    -- entries that have units have ranges
    ranges_of_units : (end : ℕ) (entries : List Named) → ((units : List Unit) × AreUnits end entries units) → (rs : List RangeOf) × AreRanges end entries rs
    ranges_of_units end entries units = by_case (some_ranges end entries)
      where
        by_case : ((rs : List RangeOf) × AreRanges end entries rs) ⊎ ((f : Fault) × UnitsFault end entries f) → (rs : List RangeOf) × AreRanges end entries rs
        by_case (inl found) = found
        by_case (inr f) = absurd (no_fault end entries units.0 f.0 units.1 f.1)

    -- fewer than 2 ^ 32 ranges have a grouping in each mode
    grouping_some : (mode : Mode) (ranges : List RangeOf) → LawfulRanges ranges → length ranges < 2 ^ 32 → (g : Grouping) × IsGroupingOf mode ranges g
    grouping_some Keep ranges lawful few = some_alone ranges few
    grouping_some Merge ranges lawful few = some_classes ranges lawful few

    -- what is placed of objects without a fault can be planned
    planned_some : (mode : Mode) (base : ℕ) (os : List Source) (p : Placed) → list_fault base os ≡ None → IsPlaced base os p → All HasUnits os → length (entries_of os) < 2 ^ 32
        → (g : Grouping) × IsPlanned mode base os p g
    planned_some mode base os p accepted placed units few =
        let found = ranges_of_units (image_end p) p.named (units_placed joined none alike base os p (image_end p) units placed) in
        let grouped = grouping_some mode found.0 (lawful_ranges (image_end p) p.named found.0 found.1) (few_ranges (2 ^ 32) (image_end p) p.named found.0 found.1 (subst (λ (n : ℕ). n < 2 ^ 32) (sym (placed_count base os p placed)) few)) in
        (grouped.0, record { no_fault = accepted; is_placed = placed; ranges = found.0; are = found.1; grouped = grouped.1 })

    -- objects that have units have an image or a fault
    pub image_some : (mode : Mode) (base : ℕ) (os : List Source) (old : ℕ) → All IsLawful os → All HasUnits os → length (entries_of os) < 2 ^ 32 → ImageOrFault mode base os old
    image_some mode base os old lawful units few = by_case (list_fault base os) refl
      where
        by_case : (found : Option Fault) → list_fault base os ≡ found → ImageOrFault mode base os old
        by_case (Some f) is = inr (f, inl is)
        by_case None is =
            let p = placed_some base os is in
            let planned = planned_some mode base os p.0 is p.1 units few in
            sized_some mode base os old p.0 planned.0 (size_fault (image_placed planned.0 p.0)) refl planned.1
            (can_be_made base os p.0 (recursion_from_All IsLawful os lawful) is p.1)
            (keeps_world mode (image_end p.0) p.0.named planned.1.ranges planned.0 planned.1.are planned.1.grouped)
