-- The ranges of units as they are read, one unit after another.
use Rattle.std.proofs.Common.{◌≡◌, ℕ, zero, suc, ◌+◌, ◌-◌, ◌<◌, ◌≤◌, inr, Some, Bool, false, arith, refl, sym, ap, subst, ◌∙◌, List, [], ◌∷◌, ◌++◌, append-nil, append_assoc, slice_get, slice_set, length, map, take, drop, get_or}
use Rattle.std.proofs.lemmas.List.{length-drop, length-set, drop-set-lt, take_all}
use Rattle.std.specs.Prelude.{◌&&◌, flat_map}
use Rattle.std.specs.List.{list_all, slice_index_or}
use Rattle.std.proofs.lemmas.List.{length-map}
use Rattle.nlist_codec.specs.declared.named.Named.{Named}
use Rattle.unit_outlines.specs.declared.outline_types.UnitSpan.{UnitSpan}
use Rattle.stab_units.specs.declared.unit.HeaderFile.{HeaderFile}
use Rattle.stab_units.specs.declared.unit.Unit.{Unit}
use Rattle.unit_outlines.specs.EntryWords.{behind_first}
use Rattle.stab_units.specs.Units.{Stab, Filed, AreRead, MakesUnit, SpansFaultAfter, files_from, file_of, header_name, parsed, parsed_in, stabs_from, stabs_of, symbols_at, unit_of}
use Rattle.bincl_match.specs.declared.range.RangeOf.{RangeOf}
use Rattle.bincl_match.specs.Ranges.{AreItems, among, is_repeated, is_typed, range_of, ranges_from, typed_ranges, unit_ranges}
use Rattle.bincl_match.specs.Owning.{AreReady, names_type}
use Rattle.bincl_match.specs.Crowding.{AreCrowded}
use Rattle.bincl_match.specs.Reading.{AreTyped, HasRanges, HaveRanges, beside, ready_ranges, units_with, with_flag}
use Rattle.bincl_match.proofs.ListLemmas.{drop_item, none_is, some_is}
use Rattle.bincl_match.proofs.OwnLemmas.{typed_items}

-- ---- one unit

-- a file for each name
pub files_count : (n : ℕ) (names : List (List ℕ)) (fs : List Filed) → length (files_from n names fs) ≡ length names
files_count n [] fs = refl
files_count n (name ∷ names) fs = ap suc (files_count (n + 1) names fs)

-- flags of ready stabs, with the symbols of each file, tell which files are typed
ready_files : (u n count : ℕ) (names : List (List ℕ)) (ss : List Stab) (fs : List Filed) (ready : List Bool) → AreRead ss fs → AreReady count ss ready → n + length names ≤ count
    → ready_ranges u n (files_from n names fs) ready ≡ ranges_from u n (files_from n names fs) fs
ready_files u n count [] ss fs ready read flags within = refl
ready_files u n count (name ∷ names) ss fs ready read flags within =
    let here : (slice_index_or ready n false && list_all names_type (flat_map (symbols_at n) fs)) ≡ is_typed n fs =
    ap (λ (z : Bool). z && list_all names_type (flat_map (symbols_at n) fs)) (flags.each n (omega arith)) ∙ sym (typed_items n ss fs read) in
    ap (λ (z : Bool). range_of u n (file_of n name fs) z ∷ ready_ranges u (n + 1) (files_from (n + 1) names fs) ready) here
    ∙ ap (λ (z : List RangeOf). range_of u n (file_of n name fs) (is_typed n fs) ∷ z) (ready_files u (n + 1) count names ss fs ready read flags (omega arith))

-- flags of the stabs after an entry are those of the unit that it begins
pub flags_are : (entries : List Named) (span : UnitSpan) (n m : ℕ) (ready : List Bool) → n ≡ m
    → AreReady n (stabs_from [] (span.first + 1) (take (length entries - (span.first + 1)) (drop (span.first + 1) entries))) ready → AreReady m (stabs_of entries span) ready
flags_are entries span n m ready same flags =
    let long : length (drop (span.first + 1) entries) ≡ length entries - (span.first + 1) = length-drop (span.first + 1) entries in
    let all : take (length entries - (span.first + 1)) (drop (span.first + 1) entries) ≡ drop (span.first + 1) entries =
    take_all (length entries - (span.first + 1)) (drop (span.first + 1) entries) (omega arith) in
    subst (λ (z : ℕ). AreReady z (stabs_of entries span) ready) same (subst (λ (z : List Named). AreReady n (stabs_from [] (span.first + 1) z) ready) all flags)

-- a unit has a file for its main source and for each header
pub unit_files : (ss : List Stab) (span : UnitSpan) (unit : Unit) → MakesUnit ss span unit → length unit.files ≡ length span.headers + 1
unit_files ss span unit made =
    let e : length unit.files ≡ suc (length (map header_name span.headers)) = ap (λ (z : Unit). length z.files) made.is ∙ ap suc (files_count 1 (map header_name span.headers) made.items) in
    let f : length (map header_name span.headers) ≡ length span.headers = length-map span.headers header_name in omega arith

-- the ranges of a unit that was read
pub unit_put : (ss : List Stab) (span : UnitSpan) (unit : Unit) (number : ℕ) (ready items : List Bool) (files : List HeaderFile) (old new : List RangeOf) → MakesUnit ss span unit
    → AreReady (length unit.files) ss ready → items ≡ ready → files ≡ unit.files → new ≡ old ++ ready_ranges number 1 (behind_first files) items → HasRanges ss span number old new
unit_put ss span unit number ready items files old new made flags same_ready same_files is =
    let fs = made.items in
    let count : length unit.files ≡ suc (length (map header_name span.headers)) =
    ap (λ (z : Unit). length z.files) made.is ∙ ap suc (files_count 1 (map header_name span.headers) fs) in
    let all : ready_ranges number 1 (behind_first files) items ≡ unit_ranges number (unit_of span fs) fs =
    ap (λ (z : List Bool). ready_ranges number 1 (behind_first files) z) same_ready
    ∙ ap (λ (z : List HeaderFile). ready_ranges number 1 (behind_first z) ready) (same_files ∙ ap (λ (z : Unit). z.files) made.is)
    ∙ ready_files number 1 (length unit.files) (map header_name span.headers) ss fs ready made.read flags (omega arith) in
    record { items = fs; read = made.read; are = is ∙ ap (λ (z : List RangeOf). old ++ z) all }

-- ---- spans in order

-- one unit more
pub ranges_more : (entries : List Named) (all left rest : List UnitSpan) (n start : ℕ) (ranges ranges_new : List RangeOf) (steps steps_new : ℕ) (s : UnitSpan) → left ≡ s ∷ rest
    → HasRanges (stabs_of entries s) s n ranges ranges_new → steps_new ≡ steps + parsed (stabs_of entries s)
    → HaveRanges entries all left n start ranges steps → HaveRanges entries all rest (n + 1) start ranges_new steps_new
ranges_more entries all left rest n start ranges ranges_new steps steps_new s is one ticks was = record {
  typed = λ items read.
      let more : AreTyped entries all (ranges ++ typed_ranges n (units_with (s ∷ rest) (one.items ∷ items)) (one.items ∷ items)) =
      subst (λ (z : List UnitSpan). AreItems entries z (one.items ∷ items) → AreTyped entries all (ranges ++ typed_ranges n (units_with z (one.items ∷ items)) (one.items ∷ items)))
      is (was.typed (one.items ∷ items)) (one.read, read) in
      let e : ranges_new ++ typed_ranges (n + 1) (units_with rest items) items ≡ ranges ++ typed_ranges n (units_with (s ∷ rest) (one.items ∷ items)) (one.items ∷ items) =
      ap (λ (z : List RangeOf). z ++ typed_ranges (n + 1) (units_with rest items) items) one.are
      ∙ append_assoc ranges (unit_ranges n (unit_of s one.items) one.items) (typed_ranges (n + 1) (units_with rest items) items) in
      subst (λ (z : List RangeOf). AreTyped entries all z) (sym e) more;
  stopped = λ f new h. was.stopped f new (subst (λ (z : List UnitSpan). SpansFaultAfter entries z f steps new) (sym is)
      (inr (unit_of s one.items, record { items = one.items; read = one.read; is = refl }, subst (λ (z : ℕ). SpansFaultAfter entries rest f z new) ticks h)));
  counted =
      let e : parsed_in entries left ≡ parsed (stabs_of entries s) + parsed_in entries rest = ap (parsed_in entries) is in
      let c = was.counted in omega arith;
}

-- all units are read
pub ranges_all : (entries : List Named) (all left : List UnitSpan) (n start : ℕ) (ranges : List RangeOf) (steps : ℕ) → left ≡ [] → HaveRanges entries all left n start ranges steps
    → AreTyped entries all ranges × (steps ≡ start + parsed_in entries all)
ranges_all entries all left n start ranges steps is was =
    let last : AreTyped entries all (ranges ++ []) =
    subst (λ (z : List UnitSpan). AreItems entries z [] → AreTyped entries all (ranges ++ typed_ranges n (units_with z []) [])) is (was.typed []) tt in
    let e : parsed_in entries left ≡ 0 = ap (parsed_in entries) is in
    let c = was.counted in
    (subst (λ (z : List RangeOf). AreTyped entries all z) (append-nil ranges) last, omega arith)

-- ---- ranges that are changed

-- a range that is taken out leaves a blank one
pub flag_length : (rs new : List RangeOf) (at n : ℕ) (blank : RangeOf) → new ≡ slice_set rs at blank → length rs ≡ n → length new ≡ n
flag_length rs new at n blank e l = ap length e ∙ length-set rs at blank ∙ l

-- the ranges from a place on
drop_get : (rs : List RangeOf) (k : ℕ) (x : RangeOf) → slice_get rs k ≡ Some x → drop k rs ≡ x ∷ drop (k + 1) rs
drop_get [] k x e = absurd (none_is x e)
drop_get (y ∷ rs) zero x e = ap (λ (z : RangeOf). z ∷ rs) (some_is (Some y) y x refl e)
drop_get (y ∷ rs) (suc k) x e = let h : suc k + 1 ≡ suc (k + 1) = omega arith in drop_get rs k x e ∙ ap (λ (z : ℕ). x ∷ drop z (y ∷ rs)) (sym h)

-- one more range is made of one that is taken out and of what stands beside it
pub beside_step : {B : Type 0} (f : RangeOf → B → RangeOf) (out out_new whole rs rs_new : List RangeOf) (bs : List B) (at : ℕ) (x made blank : RangeOf) (b : B)
    → at < length bs → slice_get rs at ≡ Some x → b ≡ get_or bs at b → rs_new ≡ slice_set rs at blank → made ≡ f x b → out_new ≡ out ++ made ∷ []
    → out ++ beside f (drop at rs) (drop at bs) ≡ whole → out_new ++ beside f (drop (at + 1) rs_new) (drop (at + 1) bs) ≡ whole
beside_step f out out_new whole rs rs_new bs at x made blank b lt is b_is set made_is pushed was =
    ap (λ (z : List RangeOf). z ++ beside f (drop (at + 1) rs_new) (drop (at + 1) bs)) pushed
    ∙ append_assoc out (made ∷ []) (beside f (drop (at + 1) rs_new) (drop (at + 1) bs))
    ∙ ap (λ (z : List RangeOf). out ++ made ∷ beside f z (drop (at + 1) bs)) (ap (drop (at + 1)) set ∙ drop-set-lt (at + 1) rs at blank (omega arith))
    ∙ ap (λ (z : RangeOf). out ++ z ∷ beside f (drop (at + 1) rs) (drop (at + 1) bs)) made_is
    ∙ ap (λ (z : List RangeOf). out ++ z) (sym (ap (λ (z : List RangeOf). beside f z (drop at bs)) (drop_get rs at x is)
    ∙ ap (beside f (x ∷ drop (at + 1) rs)) (drop_item bs at b lt b_is)))
    ∙ was

-- flags that tell what is repeated, one range after another
flags_among : (all xs : List RangeOf) (flags : List Bool) → length flags ≡ length xs → ((i : ℕ) (x : RangeOf) → slice_get xs i ≡ Some x → slice_get flags i ≡ Some (is_repeated x all))
    → beside with_flag xs flags ≡ map (among all) xs
flags_among all [] flags long each = refl
flags_among all (x ∷ xs) [] long each = absurd (omega arith)
flags_among all (x ∷ xs) (b ∷ flags) long each =
    let same : b ≡ is_repeated x all = some_is (Some b) b (is_repeated x all) refl (each zero x refl) in
    ap (λ (z : Bool). with_flag x z ∷ beside with_flag xs flags) same
    ∙ ap (λ (z : List RangeOf). among all x ∷ z) (flags_among all xs flags (omega arith) (λ i y e. each (suc i) y e))

-- flags that tell what is repeated make the ranges among all
pub told_is : (typed ranges : List RangeOf) (flags items : List Bool) → AreCrowded typed flags → items ≡ flags → ranges ≡ beside with_flag typed items → ranges ≡ map (among typed) typed
told_is typed ranges flags items crowded same is = is ∙ ap (beside with_flag typed) same ∙ flags_among typed typed flags crowded.count crowded.each
