-- The entries of an object have units where no fault of an outline is reported and each string that an entry begins, and that is to
-- spell a symbol, spells one; and in no other case. So the strings of a list can be spoken of without its units.
use Rattle.std.proofs.Common.{◌≡◌, ℕ, suc, ◌+◌, Option, Some, None, Bool, true, false, cond, add-one, zero, refl, sym, ap, ◌∙◌, subst, List, [], ◌∷◌, ◌++◌, drop}
use Rattle.std.specs.Prelude.{⊤, ◌==◌, ◌&&◌, not}
use Rattle.st_base.specs.declared.fault.TheConstants.{NO_UNIT}
use Rattle.st_base.specs.Stabs.{is_stab}
use Rattle.stab_codes.specs.declared.code.TheConstants.{N_SO}
use Rattle.stab_codes.specs.Table.{carries_symbol}
use Rattle.nlist_codec.specs.declared.named.Named.{Named}
use Rattle.stab_symbols.specs.declared.tree.Symbol.{Symbol}
use Rattle.stab_grammar.specs.StringFaults.{IsSpelling}
use Rattle.unit_outlines.specs.declared.kinds.SourceMark.{SourceMark}
use Rattle.unit_outlines.specs.declared.kinds.SourceMark.TheVariants.{Directory, Start, Stop, NoMark}
use Rattle.unit_outlines.specs.declared.kinds.Link.TheVariants.{Ends}
use Rattle.unit_outlines.specs.declared.outline_types.Marks.TheVariants.{Object}
use Rattle.unit_outlines.specs.declared.outline_types.UnitSpan.{UnitSpan}
use Rattle.stab_units.specs.declared.unit.ItemText.{ItemText}
use Rattle.stab_units.specs.declared.unit.ItemText.TheVariants as texts
use Rattle.stab_units.specs.declared.unit.Unit.{Unit}
use Rattle.unit_outlines.specs.EntryWords.{next, is_empty, ends_in}
use Rattle.unit_outlines.specs.Runs.{same_kind, goes, continued, joined}
use Rattle.unit_outlines.specs.Marks.{names_source, mark_at, in_unit, headers_in, is_plain}
use Rattle.unit_outlines.specs.Outlines.{span_at, span_step, units_from, directory_of, place_tell, outline_tell}
use Rattle.stab_units.specs.Units.{Stab, Filed, string_of, begun, stab_at, stabs_from, spells, IsTextOf, item_of, AreRead, unit_of, IsUnitOf, AreUnitsOf}
use Rattle.stab_units.specs.ObjectUnits.{AreUnits}
use Rattle.unit_outlines.proofs.EntryKinds.{is_kind}
use Rattle.unit_outlines.proofs.UntoldLemmas.{Untold, Unbroken, fault-untold, untold-fault, told-quiet, untold-unbroken, untold-append, joined-more}

-- ---- lists that can be read

-- the entry begins a stab
abbrev pub begins : List Named → Named → Bool
begins back e = is_plain e.kind && not (continued back e)

-- a string that begins here, and is to spell a symbol, spells one
abbrev pub Spells : (begins carries : Bool) (string : List ℕ) → Type 0
Spells begins_here carries string = begins_here ≡ true → spells carries string ≡ true → (symbol : Symbol) × IsSpelling symbol string

-- so does the string of this entry
abbrev pub SpellsAt : List Named → Named → List Named → Type 0
SpellsAt back e es = Spells (begins back e) (carries_symbol e.kind) (string_of e es)

-- all strings that these entries begin spell a symbol where they are to
abbrev pub Readable : List Named → List Named → Type 0
Readable back [] = ⊤
Readable back (e ∷ es) = SpellsAt back e es × Readable (e ∷ []) es

-- those before the next N_SO
abbrev UnitReadable : List Named → List Named → Type 0
UnitReadable back [] = ⊤
UnitReadable back (e ∷ es) = (e.kind == N_SO) ≡ false → SpellsAt back e es × UnitReadable (e ∷ []) es

-- of the entries before a list only the nearest matters
nearest : (e : Named) (back es : List Named) → Readable (e ∷ []) es → Readable (e ∷ back) es
nearest e back [] readable = tt
nearest e back (f ∷ es) readable = readable

nearest_alone : (e : Named) (back es : List Named) → Readable (e ∷ back) es → Readable (e ∷ []) es
nearest_alone e back [] readable = tt
nearest_alone e back (f ∷ es) readable = readable

unit_nearest : (e : Named) (back es : List Named) → UnitReadable (e ∷ []) es → UnitReadable (e ∷ back) es
unit_nearest e back [] readable = tt
unit_nearest e back (f ∷ es) readable = readable

unit_nearest_alone : (e : Named) (back es : List Named) → UnitReadable (e ∷ back) es → UnitReadable (e ∷ []) es
unit_nearest_alone e back [] readable = tt
unit_nearest_alone e back (f ∷ es) readable = readable

-- that a string spells a symbol hangs on these three alone
pub same_spells : (b c : Bool) (d e : Bool) (s t : List ℕ) → b ≡ c → d ≡ e → s ≡ t → Spells b d s → Spells c e t
same_spells b c d e s t begins_here carries string spell = rw (sym begins_here, sym carries, sym string) spell

-- ---- N_SO

carries_none : carries_symbol N_SO ≡ false
unfolding carries_symbol
carries_none = refl

source_carries : (e : Named) → (e.kind == N_SO) ≡ true → carries_symbol e.kind ≡ false
source_carries e is = ap carries_symbol (is_kind e.kind N_SO is) ∙ carries_none

ended : (carries backslash : Bool) (e f : Named) → carries ≡ false → goes (cond (carries && backslash) (same_kind e (Some f)) Ends) ≡ false
ended carries backslash e f none = rw none refl

-- nothing goes on with the string of an N_SO
pub source_ends : (e f : Named) (back : List Named) → (e.kind == N_SO) ≡ true → continued (e ∷ back) f ≡ false
source_ends e f back is = ended (carries_symbol e.kind) (ends_in 92 e.name) e f (source_carries e is)

none_spelled : (string : List ℕ) → spells false string ≡ true → ⊥
none_spelled string is = absurd cc

-- an N_SO spells nothing
source_spells : (back : List Named) (e : Named) (es : List Named) → (e.kind == N_SO) ≡ true → SpellsAt back e es
source_spells back e es is = λ begins_here to_spell. absurd (none_spelled (string_of e es) (rw (source_carries e is) at to_spell))

-- after an N_SO a list is read as if it stood alone
behind_source : (e : Named) (es : List Named) → (e.kind == N_SO) ≡ true → Readable (e ∷ []) es → Readable [] es
behind_source e [] is readable = tt
behind_source e (f ∷ es) is readable =
    (same_spells _ _ _ _ _ _ (ap (λ b. is_plain f.kind && not b) (source_ends e f [] is)) refl refl readable.0, readable.1)

unit_behind_source : (e : Named) (back es : List Named) → (e.kind == N_SO) ≡ true → UnitReadable [] es → UnitReadable (e ∷ back) es
unit_behind_source e back [] is readable = tt
unit_behind_source e back (f ∷ es) is readable = λ other.
    let both = readable other in
    (same_spells _ _ _ _ _ _ (sym (ap (λ b. is_plain f.kind && not b) (source_ends e f back is))) refl refl both.0, both.1)

-- ---- the stabs of a unit

-- a string has a text where it spells a symbol, if it is to
text_by : (carries to_spell : Bool) (string : List ℕ) → spells carries string ≡ to_spell → (to_spell ≡ true → (symbol : Symbol) × IsSpelling symbol string) → (text : ItemText) × IsTextOf carries string text
text_by carries true string is spell = let symbol = spell refl in (texts.Symbol symbol.0, (is, symbol.1))
text_by carries false string is spell = (texts.Raw string, (is, refl))

-- and it spells one where it has a text
spelled_by : (carries : Bool) (string : List ℕ) (text : ItemText) → IsTextOf carries string text → spells carries string ≡ true → (symbol : Symbol) × IsSpelling symbol string
spelled_by carries string (texts.Symbol symbol) is to_spell = (symbol, is.1)
spelled_by carries string (texts.Raw text) is to_spell = let other = is.0 in absurd cc

-- stabs of which each can be read, those that begin at an entry and those after it
with_begun : (b : Bool) (e : Named) (p file : ℕ) (es : List Named) (more : List Stab) → Spells b (carries_symbol e.kind) (string_of e es)
    → (items : List Filed) × AreRead more items → (items : List Filed) × AreRead (begun b e p file es ++ more) items
with_begun true e p file es more spell read =
    let text = text_by (carries_symbol e.kind) (spells (carries_symbol e.kind) (string_of e es)) (string_of e es) refl (spell refl) in
    (record { file = file; item = item_of e text.0 } ∷ read.0, (record { text = text.0; is = refl; reads = text.1 }, read.1))
with_begun false e p file es more spell read = read

-- and back
from_begun : (b : Bool) (e : Named) (p file : ℕ) (es : List Named) (more : List Stab) (items : List Filed) → AreRead (begun b e p file es ++ more) items
    → Spells b (carries_symbol e.kind) (string_of e es) × ((items : List Filed) × AreRead more items)
from_begun true e p file es more [] read = absurd read
from_begun true e p file es more (item ∷ items) read =
    (λ begins_here to_spell. spelled_by (carries_symbol e.kind) (string_of e es) read.0.text read.0.reads to_spell, (items, read.1))
from_begun false e p file es more items read = (λ begins_here to_spell. absurd cc, (items, read))

with_entry : (source : Bool) (ss more : List Stab) → ((items : List Filed) × AreRead (ss ++ more) items) → (items : List Filed) × AreRead (cond source [] (ss ++ more)) items
with_entry true ss more read = ([], tt)
with_entry false ss more read = read

-- the stabs up to the next N_SO can be read
stabs_read : (back : List Named) (p : ℕ) (es : List Named) → Readable back es → (items : List Filed) × AreRead (stabs_from back p es) items
stabs_read back p [] readable = ([], tt)
stabs_read back p (e ∷ es) readable = with_entry (e.kind == N_SO) (stab_at back p e es) (stabs_from (e ∷ back) (p + 1) es)
    (with_begun (begins back e) e p _ es (stabs_from (e ∷ back) (p + 1) es) readable.0 (stabs_read (e ∷ back) (p + 1) es (nearest e back es readable.1)))

from_entry : (source : Bool) (ss : List Stab) (items : List Filed) → source ≡ false → AreRead (cond source [] ss) items → AreRead ss items
from_entry true ss items other read = absurd cc
from_entry false ss items other read = read

-- and where they can, their strings spell symbols
read_stabs : (back : List Named) (p : ℕ) (es : List Named) (items : List Filed) → AreRead (stabs_from back p es) items → UnitReadable back es
read_stabs back p [] items read = tt
read_stabs back p (e ∷ es) items read = λ other.
    let both = from_begun (begins back e) e p _ es (stabs_from (e ∷ back) (p + 1) es) items (from_entry (e.kind == N_SO) _ items other read) in
    (both.0, unit_nearest_alone e back es (read_stabs (e ∷ back) (p + 1) es both.1.0 both.1.1))

-- ---- which entries are in units

-- a unit begins at an N_SO
start_source : (source : Bool) (m : SourceMark) → cond source m NoMark ≡ Start → source ≡ true
start_source true m is = refl
start_source false m is = absurd cc

-- what is after a directory mark names a source
pub directory_next : (source nameless ends_so names : Bool) → cond source (cond nameless Stop (cond (ends_so && names) Directory Start)) NoMark ≡ Directory → names ≡ true
directory_next true true ends_so names is = absurd cc
directory_next true false true true is = refl
directory_next true false true false is = absurd cc
directory_next true false false names is = absurd cc
directory_next false nameless ends_so names is = absurd cc

-- an N_SO with a name ends no unit
pub no_stop : (source nameless directory : Bool) → cond source (cond nameless Stop (cond directory Directory Start)) NoMark ≡ Stop → not nameless ≡ true → ⊥
no_stop true true directory is named = absurd cc
no_stop true false true is named = absurd cc
no_stop true false false is named = absurd cc
no_stop false nameless directory is named = absurd cc

-- and is a mark
pub no_mark : (source nameless directory : Bool) → cond source (cond nameless Stop (cond directory Directory Start)) NoMark ≡ NoMark → source ≡ true → ⊥
no_mark true true directory is source = absurd cc
no_mark true false true is source = absurd cc
no_mark true false false is source = absurd cc
no_mark false nameless directory is source = absurd cc

source_not : (source named : Bool) → (source && named) ≡ true → source ≡ false → ⊥
source_not true named is other = absurd cc
source_not false named is other = absurd cc

-- a directory mark stands before an N_SO, and so nothing is in its unit yet
behind_directory : (back es : List Named) → names_source (next es) ≡ true → UnitReadable back es
behind_directory back [] names = tt
behind_directory back (f ∷ es) names = λ other. absurd (source_not (f.kind == N_SO) _ names other)

-- an entry outside every unit for which nothing is reported is no stab, if it is no N_SO
pub no_stab : (stab source named within : Bool) (o : Option ℕ) → source ≡ false → within ≡ false → cond (not stab) None (cond (source && named) None (cond (not within) (Some NO_UNIT) o)) ≡ None → stab ≡ false
no_stab true true named within o other out none = absurd cc
no_stab true false named true o other out none = absurd cc
no_stab true false named false o other out none = absurd cc
no_stab false source named within o other out none = refl

-- and begins none
never_begins : (stab mark going : Bool) → stab ≡ false → ((stab && mark) && going) ≡ true → ⊥
never_begins true mark going other is = absurd cc
never_begins false mark going other is = absurd cc

-- an entry's string spells a symbol where it is to: an N_SO has none, in a unit it was read, and outside there is no stab
entry_spells : (back : List Named) (e : Named) (es : List Named) (source within : Bool) → (e.kind == N_SO) ≡ source → in_unit back ≡ within
    → place_tell Object (in_unit back) (headers_in back) e ≡ None → (in_unit back ≡ true → UnitReadable back (e ∷ es)) → SpellsAt back e es
entry_spells back e es true within is so none unit = source_spells back e es is
entry_spells back e es false true is so none unit = (unit so is).0
entry_spells back e es false false is so none unit = λ begins_here to_spell.
    absurd (never_begins (is_stab e.kind) _ _ (no_stab (is_stab e.kind) (e.kind == N_SO) _ (in_unit back) _ is so none) begins_here)

-- ---- units and strings

-- the entries after the first of those that are left
drop_suc : (all : List Named) (p : ℕ) (e : Named) (es : List Named) → drop p all ≡ (e ∷ es) → drop (suc p) all ≡ es
drop_suc [] zero e es is = absurd cc
drop_suc [] (suc p) e es is = absurd cc
drop_suc (x ∷ all) zero e es is = cc
drop_suc (x ∷ all) (suc p) e es is = drop_suc all p e es is

pub drop_next : (all : List Named) (p : ℕ) (e : Named) (es : List Named) → drop p all ≡ (e ∷ es) → drop (p + 1) all ≡ es
drop_next all p e es is = ap (λ n. drop n all) (add-one p) ∙ drop_suc all p e es is

module _ (text_end : ℕ) (all : List Named) where
  -- one more unit in front where a mark begins one
  unit_more : (mark : SourceMark) (span : UnitSpan) (spans : List UnitSpan) → (mark ≡ Start → (unit : Unit) × IsUnitOf all span unit)
      → ((units : List Unit) × AreUnitsOf all spans units) → (units : List Unit) × AreUnitsOf all (span_step mark span spans) units
  unit_more Directory span spans unit units = units
  unit_more Start span spans unit units = let first = unit refl in (first.0 ∷ units.0, (first.1, units.1))
  unit_more Stop span spans unit units = units
  unit_more NoMark span spans unit units = units

  -- the unit of an N_SO after which a list can be read
  start_unit : (directory : List ℕ) (p : ℕ) (e : Named) (es : List Named) → drop p all ≡ (e ∷ es) → Readable (e ∷ []) es → mark_at e (next es) ≡ Start
      → (unit : Unit) × IsUnitOf all (span_at text_end directory p e es) unit
  start_unit directory p e es is readable starts =
      let read = stabs_read [] (p + 1) es (behind_source e es (start_source (e.kind == N_SO) _ starts) readable) in
      let span = span_at text_end directory p e es in
      (unit_of span read.0, record { items = read.0; read = subst (λ zs. AreRead (stabs_from [] (p + 1) zs) read.0) (sym (drop_next all p e es is)) read.1; is = refl })

  -- all units of a list that can be read
  spans_read : (directory : List ℕ) (p : ℕ) (back es : List Named) → drop p all ≡ es → Readable back es → (units : List Unit) × AreUnitsOf all (units_from text_end directory p es) units
  spans_read directory p back [] is readable = ([], tt)
  spans_read directory p back (e ∷ es) is readable =
      unit_more (mark_at e (next es)) (span_at text_end directory p e es) (units_from text_end (directory_of (mark_at e (next es)) e.name) (p + 1) es)
      (start_unit directory p e es is readable.1)
      (spans_read (directory_of (mark_at e (next es)) e.name) (p + 1) (e ∷ []) es (drop_next all p e es is) readable.1)

  -- the units after the first mark
  units_behind : (mark : SourceMark) (span : UnitSpan) (spans : List UnitSpan) (units : List Unit) → AreUnitsOf all (span_step mark span spans) units → (more : List Unit) × AreUnitsOf all spans more
  units_behind Directory span spans units are = (units, are)
  units_behind Start span spans [] are = absurd are
  units_behind Start span spans (unit ∷ units) are = (units, are.1)
  units_behind Stop span spans units are = (units, are)
  units_behind NoMark span spans units are = (units, are)

  -- the unit of the first span
  unit_first : (span : UnitSpan) (spans : List UnitSpan) (units : List Unit) → AreUnitsOf all (span ∷ spans) units → (unit : Unit) × IsUnitOf all span unit
  unit_first span spans [] are = absurd are
  unit_first span spans (unit ∷ units) are = (unit, are.0)

  -- what is after an N_SO with a name was read, up to the next N_SO
  behind_mark : (directory : List ℕ) (p : ℕ) (back : List Named) (e : Named) (es : List Named) (spans : List UnitSpan) (units : List Unit) (mark : SourceMark)
      → drop p all ≡ (e ∷ es) → (e.kind == N_SO) ≡ true → not (is_empty e.name) ≡ true → mark_at e (next es) ≡ mark
      → AreUnitsOf all (span_step mark (span_at text_end directory p e es) spans) units → UnitReadable (e ∷ back) es
  behind_mark directory p back e es spans units Directory is source named marks are =
      behind_directory (e ∷ back) es (directory_next (e.kind == N_SO) (is_empty e.name) (ends_in 47 e.name) (names_source (next es)) marks)
  behind_mark directory p back e es spans units Start is source named marks are =
      let unit = unit_first (span_at text_end directory p e es) spans units are in
      unit_behind_source e back es source (read_stabs [] (p + 1) es unit.1.items
      (subst (λ zs. AreRead (stabs_from [] (p + 1) zs) unit.1.items) (drop_next all p e es is) unit.1.read))
  behind_mark directory p back e es spans units Stop is source named marks are = absurd (no_stop (e.kind == N_SO) (is_empty e.name) _ marks named)
  behind_mark directory p back e es spans units NoMark is source named marks are = absurd (no_mark (e.kind == N_SO) (is_empty e.name) _ marks source)

  -- what is after an entry in its unit was read
  behind_entry : (directory : List ℕ) (p : ℕ) (back : List Named) (e : Named) (es : List Named) (spans : List UnitSpan) (units : List Unit) (source : Bool)
      → drop p all ≡ (e ∷ es) → (e.kind == N_SO) ≡ source → (in_unit back ≡ true → UnitReadable back (e ∷ es))
      → AreUnitsOf all (span_step (mark_at e (next es)) (span_at text_end directory p e es) spans) units
      → cond source (not (is_empty e.name)) (in_unit back) ≡ true → UnitReadable (e ∷ back) es
  behind_entry directory p back e es spans units true is source unit are within = behind_mark directory p back e es spans units (mark_at e (next es)) is source within refl are
  behind_entry directory p back e es spans units false is source unit are within = unit_nearest e back es (unit within source).1

  -- all strings of a list that has units
  spans_readable : (directory : List ℕ) (p : ℕ) (back es : List Named) (units : List Unit) → drop p all ≡ es → Untold (outline_tell Object) back es
      → (in_unit back ≡ true → UnitReadable back es) → AreUnitsOf all (units_from text_end directory p es) units → Readable back es
  spans_readable directory p back [] units is untold unit are = tt
  spans_readable directory p back (e ∷ es) units is untold unit are =
      let spans = units_from text_end (directory_of (mark_at e (next es)) e.name) (p + 1) es in
      let more = units_behind (mark_at e (next es)) (span_at text_end directory p e es) spans units are in
      let within : in_unit (e ∷ back) ≡ true → UnitReadable (e ∷ back) es = λ so. behind_entry directory p back e es spans units (e.kind == N_SO) is refl unit are so in (
        entry_spells back e es (e.kind == N_SO) (in_unit back) refl refl (told-quiet Object back e es untold.0).unit unit,
        nearest_alone e back es (spans_readable (directory_of (mark_at e (next es)) e.name) (p + 1) (e ∷ back) es more.0 (drop_next all p e es is) untold.1 within more.1),
      )

not_within : false ≡ true → ⊥
not_within is = absurd cc

-- entries that have units can be read
pub units-readable : (text_end : ℕ) (es : List Named) (units : List Unit) → AreUnits text_end es units → Readable [] es
units-readable text_end es units are = spans_readable text_end es [] 0 [] es units refl (fault-untold Object es are.no_fault) (λ is. absurd (not_within is)) are.are

-- entries that can be read have units, where no fault of an outline is reported
pub readable-units : (text_end : ℕ) (es : List Named) → Untold (outline_tell Object) [] es → Readable [] es → (units : List Unit) × AreUnits text_end es units
readable-units text_end es untold readable =
    let units = spans_read text_end es [] 0 [] es refl readable in
    (units.0, record { no_fault = untold-fault Object es untold; are = units.1 })

-- ---- one list after the other

fewer_begin : (plain going : Bool) → (plain && not going) ≡ true → (plain && not false) ≡ true
fewer_begin true going is = refl
fewer_begin false going is = is

-- a list can be read where more stands before it
readable-before : (back es : List Named) → Readable [] es → Readable back es
readable-before back [] readable = tt
readable-before back (e ∷ es) readable = (λ begins_here. readable.0 (fewer_begin (is_plain e.kind) (continued back e) begins_here), readable.1)

same_string : (carries : Bool) (s t name : List ℕ) → s ≡ t → cond carries s name ≡ cond carries t name
same_string carries s t name same = rw same refl

-- lists that can be read can be where one stands after the other
readable-append : (back es fs : List Named) → Unbroken es → Readable back es → Readable [] fs → Readable back (es ++ fs)
readable-append back [] fs unbroken first second = readable-before back fs second
readable-append back (e ∷ es) fs unbroken first second = (
  same_spells (begins back e) (begins back e) (carries_symbol e.kind) (carries_symbol e.kind) (string_of e es) (string_of e (es ++ fs)) refl refl
      (same_string (carries_symbol e.kind) (joined (e ∷ es)) (joined (e ∷ (es ++ fs))) e.name (sym (joined-more e es fs unbroken))) first.0,
  readable-append (e ∷ []) es fs unbroken.1 first.1 second,
)

-- lists that each have units have units where one stands after the other
pub units-append : (end other text_end : ℕ) (es fs : List Named) (us vs : List Unit) → AreUnits end es us → AreUnits other fs vs → (units : List Unit) × AreUnits text_end (es ++ fs) units
units-append end other text_end es fs us vs first second =
    let untold = fault-untold Object es first.no_fault in
    readable-units text_end (es ++ fs) (untold-append Object [] es fs untold (fault-untold Object fs second.no_fault))
    (readable-append [] es fs (untold-unbroken Object [] es untold) (units-readable end es us first) (units-readable other fs vs second))

-- no entries have no units
pub no-units : (text_end : ℕ) → AreUnits text_end [] []
no-units text_end = record { no_fault = untold-fault Object [] tt; are = tt }
