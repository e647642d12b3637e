-- What a unit shows as far as its headers go hangs on the entries after its N_SO alone, and not on where they stand. So the units with
-- headers are found by one recursion over the list; before a list for which no fault is reported a unit gets nothing of it.
use Rattle.std.proofs.Common.{◌≡◌, ℕ, ◌+◌, inl, inr, Some, None, Bool, true, false, cond, refl, sym, ap, ◌∙◌, List, [], ◌∷◌, ◌++◌, drop}
use Rattle.std.specs.Prelude.{◌==◌, ◌||◌, is_some, map, filter}
use Rattle.std.proofs.lemmas.List.{map-append}
use Rattle.st_base.specs.Stabs.{is_stab}
use Rattle.stab_codes.specs.declared.code.TheConstants.{N_SO, N_BINCL, N_EXCL}
use Rattle.stab_codes.specs.Table.{carries_symbol}
use Rattle.nlist_codec.specs.declared.named.Named.{Named}
use Rattle.unit_outlines.specs.declared.kinds.SourceMark.{SourceMark}
use Rattle.unit_outlines.specs.declared.kinds.SourceMark.TheVariants.{Directory, Start, Stop, NoMark}
use Rattle.unit_outlines.specs.declared.outline_types.Marks.{Marks}
use Rattle.unit_outlines.specs.declared.outline_types.HeaderMark.{HeaderMark}
use Rattle.unit_outlines.specs.declared.outline_types.UnitSpan.{UnitSpan}
use Rattle.unit_outlines.specs.EntryWords.{next}
use Rattle.unit_outlines.specs.Nests.{in_headers}
use Rattle.unit_outlines.specs.Runs.{joined}
use Rattle.unit_outlines.specs.Marks.{names_source, mark_at, in_unit, is_header, file_in}
use Rattle.unit_outlines.specs.Outlines.{end_number, header_at, headers_from, inside, span_at, span_step, units_from, directory_of, outline_tell, OutlineFault}
use Rattle.stab_units.specs.Units.{Stab, string_of, stabs_from, header_name}
use Rattle.stab_units.specs.HeaderUnits.{FileStab, HeaderUnit, file_stab, header_unit, has_headers, with_headers, header_units}
use Rattle.stab_units.specs.Joining.{IsAlike, AreAlike}
use Rattle.stab_units.proofs.ForgetLemmas.{same_file}
use Rattle.unit_outlines.proofs.UntoldLemmas.{Untold, Unbroken, fault-untold, told-quiet, untold-unbroken, joined-more}
use Rattle.stab_units.proofs.ReadableLemmas.{begins, no_stab, drop_next}
use Rattle.stab_units.proofs.AlikeLemmas.{other_kind, no_header, no_plain, in_headers-like, headers_in-like, begins-like, string_of-like, shared, shared-like, all_shared}

-- ---- without places

-- the name of an entry that marks a header
abbrev name_at : Named → List (List ℕ)
name_at e = cond (is_header e.kind) (e.name ∷ []) []

-- the names of the headers before the next N_SO
abbrev names_in : List Named → List (List ℕ)
names_in [] = []
names_in (e ∷ es) = cond (e.kind == N_SO) [] (name_at e ++ names_in es)

-- a stab of this kind, file and string, if one begins
abbrev begun_of : Bool → ℕ → ℕ → List ℕ → List FileStab
begun_of begins_here kind file string = cond begins_here (record { kind = kind; file = file; string = string } ∷ []) []

-- the stabs before the next N_SO, after the entries of `back`
abbrev file_stabs_in : List Named → List Named → List FileStab
file_stabs_in back [] = []
file_stabs_in back (e ∷ es) = cond (e.kind == N_SO) [] (begun_of (begins back e) e.kind (file_in back 0) (string_of e es) ++ file_stabs_in (e ∷ back) es)

-- the unit of an N_SO before these entries
abbrev unit_before : List Named → HeaderUnit
unit_before es = record { headers = names_in es; stabs = file_stabs_in [] es }

-- a unit before others, if it has headers
abbrev with_unit : HeaderUnit → List HeaderUnit → List HeaderUnit
with_unit unit more = cond (is_some (next unit.headers)) (unit ∷ more) more

-- what an entry that is this mark gives
abbrev unit_step : SourceMark → HeaderUnit → List HeaderUnit → List HeaderUnit
unit_step Directory unit more = more
unit_step Start unit more = with_unit unit more
unit_step Stop unit more = more
unit_step NoMark unit more = more

-- the units of a list that have headers
abbrev found_units : List Named → List HeaderUnit
found_units [] = []
found_units (e ∷ es) = unit_step (mark_at e (next es)) (unit_before es) (found_units es)

-- ---- and with places

-- the name of a mark, whichever of two it is
either_name : (a b : Bool) (x y : HeaderMark) (name : List ℕ) → x.name ≡ name → y.name ≡ name → map header_name (cond a (x ∷ []) (cond b (y ∷ []) [])) ≡ cond (a || b) (name ∷ []) []
either_name true b x y name first second = ap (λ n. n ∷ []) first
either_name false true x y name first second = ap (λ n. n ∷ []) second
either_name false false x y name first second = refl

-- the name of the mark that an entry is, at any place
header_name_at : (p past : ℕ) (e : Named) → map header_name (header_at p past e) ≡ name_at e
header_name_at p past e = either_name (e.kind == N_BINCL) (e.kind == N_EXCL) (record { name = e.name; first = p; past = past; excluded = false; value = e.value })
    (record { name = e.name; first = p; past = p + 1; excluded = true; value = e.value }) e.name refl refl

-- one more entry before those whose headers have these names
names_more : (source : Bool) (p : ℕ) (e : Named) (es : List Named) (names : List (List ℕ)) → map header_name (headers_from (p + 1) es) ≡ names
    → map header_name (headers_from p (cond source [] (e ∷ es))) ≡ cond source [] (name_at e ++ names)
names_more true p e es names same = refl
names_more false p e es names same = map-append header_name (header_at p (end_number (p + 1) es) e) (headers_from (p + 1) es)
    ∙ ap (λ ns. ns ++ map header_name (headers_from (p + 1) es)) (header_name_at p (end_number (p + 1) es) e) ∙ ap (λ ns. name_at e ++ ns) same

-- the names of headers are the same at any place
header_names : (p : ℕ) (es : List Named) → map header_name (headers_from p (inside es)) ≡ names_in es
header_names p [] = refl
header_names p (e ∷ es) = names_more (e.kind == N_SO) p e (inside es) (names_in es) (header_names (p + 1) es)

-- one more stab before others, if it begins before the next N_SO
stabs_more : (source begins_here : Bool) (stab : Stab) (more : List Stab) (behind : List FileStab) → map file_stab more ≡ behind
    → map file_stab (cond source [] (cond begins_here (stab ∷ []) [] ++ more)) ≡ cond source [] (begun_of begins_here stab.entry.kind stab.file stab.string ++ behind)
stabs_more true begins_here stab more behind same = refl
stabs_more false true stab more behind same = ap (λ stabs. file_stab stab ∷ stabs) same
stabs_more false false stab more behind same = same

-- stabs are the same at any place
file_stabs : (back : List Named) (p : ℕ) (es : List Named) → map file_stab (stabs_from back p es) ≡ file_stabs_in back es
file_stabs back p [] = refl
file_stabs back p (e ∷ es) = stabs_more (e.kind == N_SO) (begins back e) (record { entry = e; place = p; file = file_in back 0; string = string_of e es })
    (stabs_from (e ∷ back) (p + 1) es) (file_stabs_in (e ∷ back) es) (file_stabs (e ∷ back) (p + 1) es)

-- there is a first item where the items are changed one by one
next-map : {A B : Type 0} (h : A → B) (xs : List A) → is_some (next (map h xs)) ≡ is_some (next xs)
next-map h [] = refl
next-map h (x ∷ xs) = refl

-- an item before others, if it passes a test
kept_if : {A B : Type 0} (h : A → B) (b c : Bool) (x : A) (y : B) (xs : List A) (ys : List B) → b ≡ c → h x ≡ y → map h xs ≡ ys → map h (cond b (x ∷ xs) xs) ≡ cond c (y ∷ ys) ys
kept_if h true c x y xs ys test first more = rw (sym test, first, more) refl
kept_if h false c x y xs ys test first more = rw (sym test, more) refl

module _ (text_end : ℕ) (all : List Named) where
  -- one more span before those whose units are found
  step_found : (mark : SourceMark) (span : UnitSpan) (spans : List UnitSpan) (unit : HeaderUnit) (units : List HeaderUnit) → header_unit all span ≡ unit → with_headers all spans ≡ units
      → with_headers all (span_step mark span spans) ≡ unit_step mark unit units
  step_found Directory span spans unit units first more = more
  step_found Start span spans unit units first more =
      let test : has_headers span ≡ is_some (next unit.headers) = sym (next-map header_name span.headers) ∙ ap (λ (u : HeaderUnit). is_some (next u.headers)) first in
      kept_if (header_unit all) (has_headers span) (is_some (next unit.headers)) span unit (filter has_headers spans) units test first more
  step_found Stop span spans unit units first more = more
  step_found NoMark span spans unit units first more = more

  -- the unit of an N_SO hangs on the entries after it
  span_found : (directory : List ℕ) (p : ℕ) (e : Named) (es : List Named) → drop p all ≡ (e ∷ es) → header_unit all (span_at text_end directory p e es) ≡ unit_before es
  span_found directory p e es is = rw (drop_next all p e es is, header_names (p + 1) es, file_stabs [] (p + 1) es) refl

  -- so do all units that have headers
  spans_found : (directory : List ℕ) (p : ℕ) (es : List Named) → drop p all ≡ es → with_headers all (units_from text_end directory p es) ≡ found_units es
  spans_found directory p [] is = refl
  spans_found directory p (e ∷ es) is = step_found (mark_at e (next es)) (span_at text_end directory p e es) (units_from text_end (directory_of (mark_at e (next es)) e.name) (p + 1) es)
      (unit_before es) (found_units es) (span_found directory p e es is) (spans_found (directory_of (mark_at e (next es)) e.name) (p + 1) es (drop_next all p e es is))

-- the units of a list that have headers are those that are found
units_found : (text_end : ℕ) (es : List Named) → header_units text_end es ≡ found_units es
units_found text_end es = spans_found text_end es [] 0 es refl

-- ---- one list after the other

-- these entries give a unit before them nothing
record GivesNone (es : List Named) : Type 0 where
  names : names_in es ≡ []
  stabs : (back : List Named) → file_stabs_in back es ≡ []

-- no stab where none begins
none_begun : (begins_here : Bool) (kind file : ℕ) (string : List ℕ) → begins_here ≡ false → begun_of begins_here kind file string ≡ []
none_begun begins_here kind file string never = rw never refl

-- an entry that is no stab begins none
never_begins : (back : List Named) (e : Named) → is_stab e.kind ≡ false → begins back e ≡ false
never_begins back e none = rw (no_plain e.kind none) refl

-- and it names no header
no_name : (e : Named) → is_stab e.kind ≡ false → name_at e ≡ []
no_name e none = rw (no_header e.kind none) refl

-- nothing is given by an entry that gives nothing before others that give nothing
none_more : {A : Type 0} (source : Bool) (xs ys : List A) → xs ≡ [] → ys ≡ [] → cond source [] (xs ++ ys) ≡ []
none_more true xs ys first more = refl
none_more false xs ys first more = rw (first, more) refl

-- a list gives none where its first entry is an N_SO, or no stab before others that give none
gives_none_by : (source : Bool) (e : Named) (es : List Named) → (e.kind == N_SO) ≡ source → (source ≡ false → (is_stab e.kind ≡ false) × GivesNone es) → GivesNone (e ∷ es)
gives_none_by true e es is behind = record { names = rw is refl; stabs = λ back. rw is refl }
gives_none_by false e es is behind =
    let both = behind refl in record {
      names = none_more (e.kind == N_SO) (name_at e) (names_in es) (no_name e both.0) both.1.names;
      stabs = λ back. none_more (e.kind == N_SO) _ (file_stabs_in (e ∷ back) es) (none_begun (begins back e) e.kind (file_in back 0) (string_of e es) (never_begins back e both.0)) (both.1.stabs (e ∷ back));
    }

-- an entry that is no N_SO leaves what is after it outside every unit
within_same : (source named within : Bool) → source ≡ false → within ≡ false → cond source named within ≡ false
within_same source named within other out = rw other out

-- outside every unit, where no fault is reported, no stab is a unit's
untold-gives_none : (marks : Marks) (back es : List Named) → in_unit back ≡ false → Untold (outline_tell marks) back es → GivesNone es
untold-gives_none marks back [] out untold = record { names = refl; stabs = λ back. refl }
untold-gives_none marks back (e ∷ es) out untold = gives_none_by (e.kind == N_SO) e es refl (λ other. (
  no_stab (is_stab e.kind) (e.kind == N_SO) _ (in_unit back) _ other out (told-quiet marks back e es untold.0).unit,
  untold-gives_none marks (e ∷ back) es (within_same (e.kind == N_SO) _ (in_unit back) other out) untold.1,
))

-- a unit has the same headers where entries that give none stand after its list
names_in-append : (es fs : List Named) → GivesNone fs → names_in (es ++ fs) ≡ names_in es
names_in-append [] fs none = none.names
names_in-append (e ∷ es) fs none = ap (λ names. cond (e.kind == N_SO) [] (name_at e ++ names)) (names_in-append es fs none)

-- the string of an entry is made of its joined string and its name
same_carried : (carries : Bool) (s t name : List ℕ) → s ≡ t → cond carries s name ≡ cond carries t name
same_carried carries s t name same = rw same refl

-- its stabs the same strings
string_of-append : (e : Named) (es fs : List Named) → Unbroken (e ∷ es) → string_of e (es ++ fs) ≡ string_of e es
string_of-append e es fs unbroken = same_carried (carries_symbol e.kind) (joined (e ∷ (es ++ fs))) (joined (e ∷ es)) e.name (joined-more e es fs unbroken)

-- one more entry before stabs is made of these
same_stabs : (b c : Bool) (d e : Bool) (k l f g : ℕ) (s t : List ℕ) (us vs : List FileStab) → b ≡ c → d ≡ e → k ≡ l → f ≡ g → s ≡ t → us ≡ vs
    → cond b [] (begun_of d k f s ++ us) ≡ cond c [] (begun_of e l g t ++ vs)
same_stabs b c d e k l f g s t us vs source begins_here kind file string more = rw (source, begins_here, kind, file, string, more) refl

-- and the same stabs
file_stabs_in-append : (back es fs : List Named) → Unbroken es → GivesNone fs → file_stabs_in back (es ++ fs) ≡ file_stabs_in back es
file_stabs_in-append back [] fs unbroken none = none.stabs back
file_stabs_in-append back (e ∷ es) fs unbroken none =
    same_stabs (e.kind == N_SO) (e.kind == N_SO) (begins back e) (begins back e) e.kind e.kind (file_in back 0) (file_in back 0) (string_of e (es ++ fs)) (string_of e es) _ _
    refl refl refl refl (string_of-append e es fs unbroken) (file_stabs_in-append (e ∷ back) es fs unbroken.1 none)

-- so the unit is the same
unit_before-append : (es fs : List Named) → Unbroken es → GivesNone fs → unit_before (es ++ fs) ≡ unit_before es
unit_before-append es fs unbroken none = rw (names_in-append es fs none, file_stabs_in-append [] es fs unbroken none) refl

-- a unit stands before all units after it
with_unit-append : (b : Bool) (unit : HeaderUnit) (us vs : List HeaderUnit) → cond b (unit ∷ (us ++ vs)) (us ++ vs) ≡ cond b (unit ∷ us) us ++ vs
with_unit-append true unit us vs = refl
with_unit-append false unit us vs = refl

-- whatever its mark is
unit_step-append : (mark : SourceMark) (unit : HeaderUnit) (us vs : List HeaderUnit) → unit_step mark unit (us ++ vs) ≡ unit_step mark unit us ++ vs
unit_step-append Directory unit us vs = refl
unit_step-append Start unit us vs = with_unit-append (is_some (next unit.headers)) unit us vs
unit_step-append Stop unit us vs = refl
unit_step-append NoMark unit us vs = refl

-- a mark whose unit has no headers adds none
no_unit : (mark : SourceMark) (unit : HeaderUnit) (units : List HeaderUnit) → unit.headers ≡ [] → unit_step mark unit units ≡ units
no_unit Directory unit units none = refl
no_unit Start unit units none = rw none refl
no_unit Stop unit units none = refl
no_unit NoMark unit units none = refl

-- the units with headers of two lists one after the other are those of each
found-append : (es fs : List Named) → Unbroken es → GivesNone fs → found_units (es ++ fs) ≡ found_units es ++ found_units fs
found-append [] fs unbroken none = refl
found-append (e ∷ []) fs unbroken none =
    no_unit (mark_at e (next fs)) (unit_before fs) (found_units fs) none.names ∙ sym (ap (λ units. units ++ found_units fs) (no_unit (mark_at e None) (unit_before []) [] refl))
found-append (e ∷ (f ∷ es)) fs unbroken none =
    ap (λ unit. unit_step (mark_at e (Some f)) unit (found_units (f ∷ (es ++ fs)))) (unit_before-append (f ∷ es) fs unbroken.1 none)
    ∙ ap (unit_step (mark_at e (Some f)) (unit_before (f ∷ es))) (found-append (f ∷ es) fs unbroken.1 none)
    ∙ unit_step-append (mark_at e (Some f)) (unit_before (f ∷ es)) (found_units (f ∷ es)) (found_units fs)

-- so it is for the units as the outline has them
pub header_units-append : (marks : Marks) (end first second : ℕ) (es fs : List Named) → OutlineFault marks es None → OutlineFault marks fs None
    → header_units end (es ++ fs) ≡ header_units first es ++ header_units second fs
header_units-append marks end first second es fs whole other =
    let unbroken = untold-unbroken marks [] es (fault-untold marks es whole) in
    let none = untold-gives_none marks [] fs refl (fault-untold marks fs other) in
    units_found end (es ++ fs) ∙ found-append es fs unbroken none
    ∙ sym (ap (λ units. units ++ header_units second fs) (units_found first es) ∙ ap (λ units. found_units es ++ units) (units_found second fs))

-- ---- entries that are alike

module _ (h : Named → Named) (like : (e : Named) → IsAlike e (h e)) where
  -- the same entry names a source
  names_source-like : (es : List Named) → names_source (next (map h es)) ≡ names_source (next es)
  names_source-like [] = refl
  names_source-like (e ∷ es) = elim (like e) [
    | inl one ↦ rw (sym one.kind, sym one.name) refl
    | inr none ↦ rw (other_kind (h e).kind N_SO none.second refl, other_kind e.kind N_SO none.first refl) refl
  ]

  -- the same entries begin a unit, name its directory or end it
  mark_at-like : (e : Named) (es : List Named) → mark_at (h e) (next (map h es)) ≡ mark_at e (next es)
  mark_at-like e es = elim (like e) [
    | inl one ↦ rw (sym one.kind, sym one.name, names_source-like es) refl
    | inr none ↦ rw (other_kind (h e).kind N_SO none.second refl, other_kind e.kind N_SO none.first refl) refl
  ]

  -- an entry is in the same file
  file_in-like : (back : List Named) (ends : ℕ) → file_in (map h back) ends ≡ file_in back ends
  file_in-like [] ends = refl
  file_in-like (e ∷ back) ends = rw (in_headers-like h like e)
      (same_file (in_headers e) ends _ _ (file_in (map h back)) (file_in back) (headers_in-like h like (e ∷ back)) (file_in-like back))

  -- headers have the same names
  names_in-like : (es : List Named) → names_in (map h es) ≡ names_in es
  names_in-like [] = refl
  names_in-like (e ∷ es) = elim (like e) [
    | inl one ↦ rw (sym one.kind, sym one.name, names_in-like es) refl
    | inr none ↦ rw (other_kind (h e).kind N_SO none.second refl, other_kind e.kind N_SO none.first refl, no_header (h e).kind none.second, no_header e.kind none.first)
        (names_in-like es)
  ]

  -- one more entry before those whose stabs are the same
  stab-like : (back : List Named) (e : Named) (es : List Named) (us vs : List FileStab) → us ≡ vs
      → cond ((h e).kind == N_SO) [] (begun_of (begins (map h back) (h e)) (h e).kind (file_in (map h back) 0) (string_of (h e) (map h es)) ++ us)
      ≡ cond (e.kind == N_SO) [] (begun_of (begins back e) e.kind (file_in back 0) (string_of e es) ++ vs)
  stab-like back e es us vs same = elim (like e) [
    | inl one ↦ same_stabs _ _ _ _ _ _ _ _ _ _ us vs (ap (λ k. k == N_SO) (sym one.kind)) (begins-like h like back e) (sym one.kind) (file_in-like back 0)
        (string_of-like h like e es one) same
    | inr none ↦ rw (other_kind (h e).kind N_SO none.second refl, other_kind e.kind N_SO none.first refl, never_begins (map h back) (h e) none.second, never_begins back e none.first)
        same
  ]

  -- stabs are the same
  file_stabs_in-like : (back es : List Named) → file_stabs_in (map h back) (map h es) ≡ file_stabs_in back es
  file_stabs_in-like back [] = refl
  file_stabs_in-like back (e ∷ es) = stab-like back e es _ _ (file_stabs_in-like (e ∷ back) es)

  -- units with headers are the same
  found-like : (es : List Named) → found_units (map h es) ≡ found_units es
  found-like [] = refl
  found-like (e ∷ es) = rw (mark_at-like e es, names_in-like es, file_stabs_in-like [] es, found-like es) refl

-- the units with headers of lists that are alike are the same
pub header_units-alike : (end other : ℕ) (es fs : List Named) → AreAlike es fs → header_units end es ≡ header_units other fs
header_units-alike end other es fs alike =
    units_found end es ∙ sym (found-like shared shared-like es) ∙ ap found_units (all_shared es fs alike) ∙ found-like shared shared-like fs ∙ sym (units_found other fs)
