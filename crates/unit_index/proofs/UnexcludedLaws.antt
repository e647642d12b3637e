-- Entries without a fault of an object have no N_EXCL: as an image they have no fault of an index either, and nothing is expanded.
use Rattle.std.proofs.Common.{◌≡◌, ◌↔◌, ℕ, zero, suc, ◌+◌, ◌⊎◌, ◌&&◌, inl, inr, Bool, true, false, cond, not, ltb, Option, Some, None, refl, sym, ap, ◌∙◌, subst, List, [], ◌∷◌, ◌++◌, take, drop}
use Rattle.std.specs.Prelude.{◌==◌, slice_get, ⊤}
use Rattle.std.specs.List.{filter}
use Rattle.std.proofs.lemmas.Bool.{eqb-true}
use Rattle.std.proofs.lemmas.Option.{none-some}
use Rattle.st_base.specs.declared.fault.Fault.{Fault}
use Rattle.st_base.specs.declared.fault.TheConstants.{NO_UNIT, EXCLUDED, HEADERS}
use Rattle.st_base.specs.Stabs.{is_stab}
use Rattle.stab_codes.specs.declared.code.TheConstants.{N_SO, N_BINCL, N_EXCL}
use Rattle.nlist_codec.specs.declared.named.Named.{Named}
use Rattle.unit_outlines.specs.declared.outline_types.HeaderMark.{HeaderMark}
use Rattle.unit_outlines.specs.declared.outline_types.UnitSpan.{UnitSpan}
use Rattle.unit_outlines.specs.declared.outline_types.Marks.{Marks}
use Rattle.unit_outlines.specs.declared.outline_types.Marks.TheVariants.{Object, Image}
use Rattle.stab_units.specs.declared.unit.HeaderFile.{HeaderFile}
use Rattle.stab_units.specs.declared.unit.Unit.{Unit}
use Rattle.unit_outlines.specs.EntryWords.{next, is_empty, onto}
use Rattle.unit_outlines.specs.Firsts.{smaller}
use Rattle.unit_outlines.specs.Marks.{mark_at, in_unit, is_header, headers_in}
use Rattle.unit_outlines.specs.Outlines.{end_number, header_at, headers_from, inside, units_from, units_of, span_at, directory_of, unit_tell, matches_tell, outline_tell, OutlineFault}
use Rattle.stab_units.specs.Units.{AreUnitsOf}
use Rattle.stab_units.specs.ObjectUnits.{UnitsFault}
use Rattle.type_graph.specs.declared.world.World.{World}
use Rattle.type_graph.specs.Worlds.{IsWorldOf}
use Rattle.unit_index.specs.declared.owner.Owner.{Owner}
use Rattle.unit_index.specs.Owners.{Row, unit_rows, rows_from, rows_of, is_like, owners_of, fault_by, fault_among, stands_for}
use Rattle.unit_index.specs.Expanding.{IndexFault, taken_over, headers_expanded, files_expanded, units_expanded, expanded, IsExpanded, ExpandFault}
use Rattle.unit_index.proofs.StepLemmas.{step_cases}
use Rattle.unit_index.proofs.Tests.{which, not_both}

-- ---- the fault of an entry

-- of two numbers one is reported
smaller_none : (a b : Option ℕ) → smaller a b ≡ None → (a ≡ None) × (b ≡ None)
smaller_none None b e = (refl, e)
smaller_none (Some a) None e = absurd (none-some a (sym e))
smaller_none (Some a) (Some b) e = by_case (ltb b a) e where
  by_case : (c : Bool) → cond c (Some b) (Some a) ≡ None → (Some a ≡ None) × (Some b ≡ None)
  by_case true h = absurd (none-some b (sym h))
  by_case false h = absurd (none-some a (sym h))

-- the fault of an entry by its tests
abbrev tell_by : Bool → Bool → Bool → Bool → Bool → Option ℕ
tell_by other start within excluded many = cond other None (cond start None (cond (not within) (Some NO_UNIT) (cond excluded (Some EXCLUDED) (cond many (Some HEADERS) None))))

image_none : (object other start within excluded many : Bool) → tell_by other start within (object && excluded) many ≡ None → tell_by other start within false many ≡ None
image_none object true start within excluded many e = refl
image_none object false true within excluded many e = refl
image_none object false false false excluded many e = e
image_none false false false true excluded many e = e
image_none true false false true false many e = e
image_none true false false true true many e = absurd (none-some EXCLUDED (sym e))

-- an image has no fault where an object has none
tell_image : (back : List Named) (e : Named) (es : List Named) → outline_tell Object back e es ≡ None → outline_tell Image back e es ≡ None
tell_image back e es h =
    let b = smaller_none (unit_tell Object back e es) (matches_tell back e es) h in
    ap (λ z. smaller z (matches_tell back e es))
    (image_none true (not (is_stab e.kind)) ((e.kind == N_SO) && not (is_empty e.name)) (in_unit back) (e.kind == N_EXCL) (is_header e.kind && not (ltb (headers_in back) 65535)) b.0)
    ∙ b.1

-- an N_EXCL in an object has a fault
excluded_told : (other start within many : Bool) → other ≡ false → start ≡ false → tell_by other start within true many ≡ None → ⊥
excluded_told true start within many o s e = not_both true refl o
excluded_told false true within many o s e = not_both true refl s
excluded_told false false false many o s e = none-some NO_UNIT (sym e)
excluded_told false false true many o s e = none-some EXCLUDED (sym e)

tell_excluded : (back : List Named) (kind other desc value : ℕ) (name : List ℕ) (es : List Named) → kind ≡ N_EXCL
    → outline_tell Object back (record { kind = kind; other = other; desc = desc; value = value; name = name }) es ≡ None → ⊥
tell_excluded back kind other desc value name es is h =
    let told : outline_tell Object back (record { kind = N_EXCL; other = other; desc = desc; value = value; name = name }) es ≡ None
    = subst (λ z. outline_tell Object back (record { kind = z; other = other; desc = desc; value = value; name = name }) es ≡ None) is h in
    let b = smaller_none (unit_tell Object back (record { kind = N_EXCL; other = other; desc = desc; value = value; name = name }) es) (matches_tell back (record { kind = N_EXCL; other = other; desc = desc; value = value; name = name }) es) told in
    excluded_told false false (in_unit back) (is_header N_EXCL && not (ltb (headers_in back) 65535)) refl refl b.0

-- ---- the fault of a list

none_told : (o : Option ℕ) → ((n : ℕ) → o ≡ Some n → ⊥) → o ≡ None
none_told None h = refl
none_told (Some n) h = absurd (h n refl)

pub image_fault : (entries : List Named) → OutlineFault Object entries None → OutlineFault Image entries None
image_fault entries none = λ n place told.
    let object = none_told (outline_tell Object (onto (take place entries) []) told.entry (drop (suc place) entries)) (λ m is. none m place (record { entry = told.entry; is = told.is; told = is })) in
    none-some n (sym (tell_image (onto (take place entries) []) told.entry (drop (suc place) entries) object) ∙ told.told)

-- no entry is an N_EXCL
abbrev NoneExcluded : List Named → Type 0
NoneExcluded entries = (place : ℕ) (e : Named) → slice_get entries place ≡ Some e → (e.kind == N_EXCL) ≡ false

none_excluded : (entries : List Named) → OutlineFault Object entries None → NoneExcluded entries
none_excluded entries none place e at = by_case (which (e.kind == N_EXCL)) where
  by_case : ((e.kind == N_EXCL) ≡ true) ⊎ ((e.kind == N_EXCL) ≡ false) → (e.kind == N_EXCL) ≡ false
  by_case (inr f) = f
  by_case (inl t) =
      absurd (tell_excluded (onto (take place entries) []) e.kind e.other e.desc e.value e.name (drop (suc place) entries) (eqb-true e.kind N_EXCL t)
      (none_told (outline_tell Object (onto (take place entries) []) e (drop (suc place) entries)) (λ m is. none m place (record { entry = e; is = at; told = is }))))

behind : (e : Named) (es : List Named) → NoneExcluded (e ∷ es) → NoneExcluded es
behind e es none = λ place d at. none (suc place) d at

-- ---- headers of units

-- none of these headers is excluded
abbrev AllOpen : List HeaderMark → Type 0
AllOpen [] = ⊤
AllOpen (h ∷ hs) = (h.excluded ≡ false) × AllOpen hs

all_open-append : (hs ks : List HeaderMark) → AllOpen hs → AllOpen ks → AllOpen (hs ++ ks)
all_open-append [] ks a b = b
all_open-append (h ∷ hs) ks a b = (a.0, all_open-append hs ks a.1 b)

open_header : (p past : ℕ) (e : Named) → (e.kind == N_EXCL) ≡ false → AllOpen (header_at p past e)
open_header p past e none = by_case (e.kind == N_BINCL) (e.kind == N_EXCL) none where
  by_case : (a b : Bool) → b ≡ false → AllOpen (cond a (record { name = e.name; first = p; past = past; excluded = false; value = e.value } ∷ [])
      (cond b (record { name = e.name; first = p; past = p + 1; excluded = true; value = e.value } ∷ []) []))
  by_case true b f = (refl, tt)
  by_case false true f = not_both true refl f
  by_case false false f = tt

open_headers : (p : ℕ) (es : List Named) → NoneExcluded es → AllOpen (headers_from p es)
open_headers p [] none = tt
open_headers p (e ∷ es) none =
    all_open-append (header_at p (end_number (p + 1) es) e) (headers_from (p + 1) es) (open_header p (end_number (p + 1) es) e (none zero e refl)) (open_headers (p + 1) es (behind e es none))

inside_none : (es : List Named) → NoneExcluded es → NoneExcluded (inside es)
inside_none [] none = none
inside_none (e ∷ es) none = by_case (e.kind == N_SO) (inside_none es (behind e es none)) where
  by_case : (b : Bool) → NoneExcluded (inside es) → NoneExcluded (cond b [] (e ∷ inside es))
  by_case true more = λ place d at. absurd (none-some d at)
  by_case false more = cases where
    cases : (place : ℕ) (d : Named) → slice_get (e ∷ inside es) place ≡ Some d → (d.kind == N_EXCL) ≡ false
    cases zero d at = none zero d at
    cases (suc place) d at = more place d at

abbrev pub AllSpansOpen : List UnitSpan → Type 0
AllSpansOpen [] = ⊤
AllSpansOpen (s ∷ spans) = AllOpen s.headers × AllSpansOpen spans

step_open : (now more : List UnitSpan) (s : UnitSpan) → (now ≡ more) ⊎ (now ≡ s ∷ more) → AllOpen s.headers → AllSpansOpen more → AllSpansOpen now
step_open now more s (inl e) here rest = subst AllSpansOpen (sym e) rest
step_open now more s (inr e) here rest = subst AllSpansOpen (sym e) (here, rest)

open_spans : (t : ℕ) (directory : List ℕ) (p : ℕ) (es : List Named) → NoneExcluded es → AllSpansOpen (units_from t directory p es)
open_spans t directory p [] none = tt
open_spans t directory p (e ∷ es) none =
    step_open (units_from t directory p (e ∷ es)) (units_from t (directory_of (mark_at e (next es)) e.name) (p + 1) es) (span_at t directory p e es)
    (step_cases e (next es) (span_at t directory p e es) (units_from t (directory_of (mark_at e (next es)) e.name) (p + 1) es))
    (open_headers (p + 1) (inside es) (inside_none es (behind e es none)))
    (open_spans t (directory_of (mark_at e (next es)) e.name) (p + 1) es (behind e es none))

-- no header of an object is excluded
pub open_units : (t : ℕ) (entries : List Named) → OutlineFault Object entries None → AllSpansOpen (units_of t entries)
open_units t entries none = open_spans t [] 0 entries (none_excluded entries none)

-- ---- no fault of an index

abbrev AllRowsOpen : List Row → Type 0
AllRowsOpen [] = ⊤
AllRowsOpen (r ∷ rows) = (r.excluded ≡ false) × AllRowsOpen rows

rows_open-append : (xs ys : List Row) → AllRowsOpen xs → AllRowsOpen ys → AllRowsOpen (xs ++ ys)
rows_open-append [] ys a b = b
rows_open-append (x ∷ xs) ys a b = (a.0, rows_open-append xs ys a.1 b)

unit_open : (unit file : ℕ) (hs : List HeaderMark) → AllOpen hs → AllRowsOpen (unit_rows unit file hs)
unit_open unit file [] a = tt
unit_open unit file (h ∷ hs) a = (a.0, unit_open unit (file + 1) hs a.1)

rows_open : (unit : ℕ) (spans : List UnitSpan) → AllSpansOpen spans → AllRowsOpen (rows_from unit spans)
rows_open unit [] a = tt
rows_open unit (s ∷ spans) a = rows_open-append (unit_rows unit 1 s.headers) (rows_from (unit + 1) spans) (unit_open unit 1 s.headers a.0) (rows_open (unit + 1) spans a.1)

none_among : (all rows : List Row) → AllRowsOpen rows → fault_among all rows ≡ None
none_among all [] a = refl
none_among all (r ∷ rows) a =
    ap (λ b. cond b (fault_by r (filter (is_like r) all) (fault_among all rows)) (fault_among all rows)) a.0 ∙ none_among all rows a.1

pub no_index_fault : (t : ℕ) (entries : List Named) → OutlineFault Object entries None → IndexFault t entries None
no_index_fault t entries none = (image_fault entries none, none_among (rows_of (units_of t entries)) (rows_of (units_of t entries)) (rows_open 0 (units_of t entries) (open_units t entries none)))

-- ---- nothing is expanded

headers_stay : (owners : List Owner) (units : List Unit) (unit number : ℕ) (hs : List HeaderMark) (files : List HeaderFile) → AllOpen hs → headers_expanded owners units unit number hs files ≡ files
headers_stay owners units unit number [] files a = refl
headers_stay owners units unit number (h ∷ hs) [] a = refl
headers_stay owners units unit number (h ∷ hs) (f ∷ files) a =
    ap (λ b. cond b (record { name = f.name; symbols = taken_over owners units unit (stands_for owners unit number) }) f ∷ headers_expanded owners units unit (number + 1) hs files) a.0
    ∙ ap (λ z. f ∷ z) (headers_stay owners units unit (number + 1) hs files a.1)

files_stay : (owners : List Owner) (units : List Unit) (unit : ℕ) (hs : List HeaderMark) (files : List HeaderFile) → AllOpen hs → files_expanded owners units unit hs files ≡ files
files_stay owners units unit hs [] a = refl
files_stay owners units unit hs (own ∷ files) a = ap (λ z. own ∷ z) (headers_stay owners units unit 1 hs files a)

units_stay : (owners : List Owner) (units : List Unit) (number : ℕ) (spans : List UnitSpan) (us : List Unit) → AllSpansOpen spans → units_expanded owners units number spans us ≡ us
units_stay owners units number [] us a = refl
units_stay owners units number (s ∷ spans) [] a = refl
units_stay owners units number (s ∷ spans) (u ∷ us) a =
    ap (λ z. let made : Unit = record { name = u.name; start = u.start; end = u.end; files = z; body = u.body } in made ∷ units_expanded owners units (number + 1) spans us)
    (files_stay owners units number s.headers u.files a.0)
    ∙ ap (λ z. u ∷ z) (units_stay owners units (number + 1) spans us a.1)

-- the units of an object are as they were read
expanded_stay : (t : ℕ) (entries : List Named) (units : List Unit) → OutlineFault Object entries None → expanded (units_of t entries) units ≡ units
expanded_stay t entries units none = units_stay (owners_of (rows_of (units_of t entries))) units 0 (units_of t entries) units (open_units t entries none)

-- ---- the laws

module _ (one_outline : (marks : Marks) (entries : List Named) (f g : Option Fault) → OutlineFault marks entries f → OutlineFault marks entries g → f ≡ g) where
  to_object : (t : ℕ) (entries : List Named) (world : World) → OutlineFault Object entries None → IsExpanded t entries world → IsWorldOf t entries world
  to_object t entries world none h = record {
    units = record { no_fault = none; are = subst (λ z. AreUnitsOf entries (units_of t entries) z) (sym (h.is ∙ expanded_stay t entries h.units none)) h.are };
    externals = h.externals;
  }

  to_image : (t : ℕ) (entries : List Named) (world : World) → OutlineFault Object entries None → IsWorldOf t entries world → IsExpanded t entries world
  to_image t entries world none h = record {
    index = no_index_fault t entries none;
    units = world.units;
    are = h.units.are;
    is = sym (expanded_stay t entries world.units none);
    externals = h.externals;
  }

  -- one world as an object and as an image
  pub same_world : (t : ℕ) (entries : List Named) → OutlineFault Object entries None → (world : World) → IsExpanded t entries world ↔ IsWorldOf t entries world
  same_world t entries none world = (to_object t entries world none, to_image t entries world none)

  fault_to_image : (t : ℕ) (entries : List Named) (f : Fault) → OutlineFault Object entries None → UnitsFault t entries f → ExpandFault t entries f
  fault_to_image t entries f none h = elim h [
    | inl x ↦ absurd (none-some f (one_outline Object entries None (Some f) none x))
    | inr x ↦ inr (no_index_fault t entries none, x.1)
  ]

  no_fault_of_index : (t : ℕ) (entries : List Named) (f : Fault) → OutlineFault Object entries None → IndexFault t entries (Some f) → ⊥
  no_fault_of_index t entries f none h = elim h [
    | inl x ↦ none-some f (one_outline Image entries None (Some f) (image_fault entries none) x)
    | inr x ↦ none-some f (sym (no_index_fault t entries none).1 ∙ x.1)
  ]

  fault_to_object : (t : ℕ) (entries : List Named) (f : Fault) → OutlineFault Object entries None → ExpandFault t entries f → UnitsFault t entries f
  fault_to_object t entries f none h = elim h [
    | inl x ↦ absurd (no_fault_of_index t entries f none x)
    | inr x ↦ inr (none, x.1)
  ]

  -- one fault as an object and as an image
  pub same_fault : (t : ℕ) (entries : List Named) → OutlineFault Object entries None → (f : Fault) → UnitsFault t entries f ↔ ExpandFault t entries f
  same_fault t entries none f = (fault_to_image t entries f none, fault_to_object t entries f none)
