-- What the stabs of a unit are read as: its files with their symbols, and its body. After "The stabs debug format"; that each unit
-- numbers its own files is that of binutils.
use Rattle.std.specs.Prelude.{◌≡◌, ℕ, ◌+◌, ◌&&◌, ◌==◌, ◌⊎◌, ⊤, not, Bool, true, false, cond, List, [], ◌∷◌, ◌++◌, drop, map, flat_map}
use Rattle.st_base.specs.declared.fault.Fault.{Fault}
use Rattle.stab_codes.specs.declared.code.TheConstants.{N_SO}
use Rattle.stab_codes.specs.Table.{carries_symbol}
use Rattle.nlist_codec.specs.declared.named.Named.{Named}
use Rattle.stab_symbols.specs.declared.tree.Symbol.{Symbol}
use Rattle.stab_symbols.specs.declared.tree.Descriptor.{Descriptor}
use Rattle.stab_symbols.specs.declared.tree.Descriptor.TheVariants as descriptors
use Rattle.stab_grammar.specs.StringFaults.{IsSpelling, IsStringFault}
use Rattle.unit_outlines.specs.declared.outline_types.HeaderMark.{HeaderMark}
use Rattle.unit_outlines.specs.declared.outline_types.UnitSpan.{UnitSpan}
use Rattle.stab_units.specs.declared.unit.ItemText.{ItemText}
use Rattle.stab_units.specs.declared.unit.ItemText.TheVariants as texts
use Rattle.stab_units.specs.declared.unit.Item.{Item}
use Rattle.stab_units.specs.declared.unit.HeaderFile.{HeaderFile}
use Rattle.stab_units.specs.declared.unit.Unit.{Unit}
use Rattle.unit_outlines.specs.EntryWords.{is_empty}
use Rattle.unit_outlines.specs.Runs.{continued, joined}
use Rattle.unit_outlines.specs.Marks.{is_plain, file_in}

-- ---- the stabs of a unit

-- a stab of a unit, or a run of them that share a string: its first entry, that entry's number, its file, and its string
pub record Stab : Type 0 where
  pub entry : Named
  pub place : ℕ
  pub file : ℕ
  pub string : List ℕ

-- the joined string of a stab that carries a symbol, else its name as it is
abbrev pub string_of : Named → List Named → List ℕ
string_of e es = cond (carries_symbol e.kind) (joined (e ∷ es)) e.name

-- the stab of this file that the entry at p begins, if it begins one
abbrev pub begun : Bool → Named → ℕ → ℕ → List Named → List Stab
begun begins e p file es = cond begins (record { entry = e; place = p; file = file; string = string_of e es } ∷ []) []

-- an entry begins a stab where it is no mark of a header and does not go on with the string of the one before it
abbrev pub stab_at : List Named → ℕ → Named → List Named → List Stab
stab_at back p e es = begun (is_plain e.kind && not (continued back e)) e p (file_in back 0) es

-- the stabs before the next N_SO, after the entries of `back`, nearest first; the first entry has the number p
abbrev pub stabs_from : List Named → ℕ → List Named → List Stab
stabs_from back p [] = []
stabs_from back p (e ∷ es) = cond (e.kind == N_SO) [] (stab_at back p e es ++ stabs_from (e ∷ back) (p + 1) es)

-- the stabs of a unit
abbrev pub stabs_of : List Named → UnitSpan → List Stab
stabs_of entries span = stabs_from [] (span.first + 1) (drop (span.first + 1) entries)

-- ---- what they are read as

-- a string is to spell a symbol: its stab has a code whose string is a symbol (`carries_symbol`), and the string is not empty
abbrev pub spells : Bool → List ℕ → Bool
spells carries string = carries && not (is_empty string)

-- the string is read as its symbol, or kept as it is
abbrev pub IsTextOf : Bool → List ℕ → ItemText → Type 0
IsTextOf carries string (texts.Symbol symbol) = (spells carries string ≡ true) × IsSpelling symbol string
IsTextOf carries string (texts.Raw text) = (spells carries string ≡ false) × (text ≡ string)

-- the string of a stab is to spell a symbol
abbrev pub has_symbol : Stab → Bool
has_symbol s = spells (carries_symbol s.entry.kind) s.string

-- the stab has this text
abbrev pub IsText : Stab → ItemText → Type 0
IsText s text = IsTextOf (carries_symbol s.entry.kind) s.string text

-- an item of a file
pub record Filed : Type 0 where
  pub file : ℕ
  pub item : Item

-- the item of a stab with this text
abbrev pub item_of : Named → ItemText → Item
item_of e text = record { kind = e.kind; other = e.other; desc = e.desc; value = e.value; text = text }

-- the stab is read as this item
pub record IsRead (s : Stab) (f : Filed) : Type 0 where
  pub text : ItemText
  pub is : f ≡ record { file = s.file; item = item_of s.entry text }
  pub reads : IsText s text

-- the stabs are read as these items, one each and in order
abbrev pub AreRead : List Stab → List Filed → Type 0
AreRead [] [] = ⊤
AreRead [] (f ∷ fs) = ⊥
AreRead (s ∷ ss) [] = ⊥
AreRead (s ∷ ss) (f ∷ fs) = IsRead s f × AreRead ss fs

-- ---- the unit

-- `t`, `T` or `Tt`: the symbol names a type
abbrev pub is_type_symbol : Descriptor → Bool
is_type_symbol descriptors.Typedef = true
is_type_symbol descriptors.Tag = true
is_type_symbol descriptors.TagTypedef = true
is_type_symbol other = false

abbrev pub symbols_in : ItemText → List Symbol
symbols_in (texts.Symbol symbol) = symbol ∷ []
symbols_in (texts.Raw text) = []

-- the symbol of an item, if it is one of this file
abbrev pub symbols_at : ℕ → Filed → List Symbol
symbols_at file f = cond (f.file == file) (symbols_in f.item.text) []

abbrev pub is_type : ItemText → Bool
is_type (texts.Symbol symbol) = is_type_symbol symbol.descriptor
is_type (texts.Raw text) = false

-- an item of the body, unless it is a type symbol
abbrev pub body_at : Filed → List Item
body_at f = cond (is_type f.item.text) [] (f.item ∷ [])

-- a file of these items
abbrev pub file_of : ℕ → List ℕ → List Filed → HeaderFile
file_of number name fs = record { name = name; symbols = flat_map (symbols_at number) fs }

-- files with these names, from this number on
abbrev pub files_from : ℕ → List (List ℕ) → List Filed → List HeaderFile
files_from number [] fs = []
files_from number (name ∷ names) fs = file_of number name fs ∷ files_from (number + 1) names fs

abbrev pub header_name : HeaderMark → List ℕ
header_name h = h.name

-- the name of the unit, then those of its headers
abbrev pub names_of : UnitSpan → List (List ℕ)
names_of span = span.name ∷ map header_name span.headers

-- the unit of a span whose stabs are read as these items
abbrev pub unit_of : UnitSpan → List Filed → Unit
unit_of span fs = record {
  name = span.name;
  start = span.start;
  end = span.end;
  files = files_from 0 (names_of span) fs;
  body = flat_map body_at fs;
}

-- the stabs are read as items, and these make the unit of the span
pub record MakesUnit (ss : List Stab) (span : UnitSpan) (unit : Unit) : Type 0 where
  pub items : List Filed
  pub read : AreRead ss items
  pub is : unit ≡ unit_of span items

-- the unit of a span
abbrev pub IsUnitOf : List Named → UnitSpan → Unit → Type 0
IsUnitOf entries span unit = MakesUnit (stabs_of entries span) span unit

-- ---- faults of strings, and all units

-- the fault of a string, given by the number of its first entry and the place in the string
abbrev pub at_entry : ℕ → Fault → Fault
at_entry place f = record { number = f.number; place = place; within = f.place }

-- the string, whose first entry has this number, is to spell a symbol and has this fault
pub record HasFaultOf (carries : Bool) (string : List ℕ) (place : ℕ) (f : Fault) : Type 0 where
  pub to_spell : spells carries string ≡ true
  pub fault : Fault
  pub is_fault : IsStringFault string fault
  pub told : f ≡ at_entry place fault

-- the string of a stab has this fault
abbrev pub HasFault : Stab → Fault → Type 0
HasFault s f = HasFaultOf (carries_symbol s.entry.kind) s.string s.place f

-- the first of these stabs whose string has a fault has this one
abbrev pub FirstFault : List Stab → Fault → Type 0
FirstFault [] f = ⊥
FirstFault (s ∷ ss) f = HasFault s f ⊎ ((item : Filed) × IsRead s item × FirstFault ss f)

-- the first fault of a string in the unit of a span
abbrev pub UnitFault : List Named → UnitSpan → Fault → Type 0
UnitFault entries span f = FirstFault (stabs_of entries span) f

-- the units of spans, one each and in order
abbrev pub AreUnitsOf : List Named → List UnitSpan → List Unit → Type 0
AreUnitsOf entries [] [] = ⊤
AreUnitsOf entries [] (u ∷ us) = ⊥
AreUnitsOf entries (s ∷ spans) [] = ⊥
AreUnitsOf entries (s ∷ spans) (u ∷ us) = IsUnitOf entries s u × AreUnitsOf entries spans us

-- the first fault of a string in the units of spans
abbrev pub SpansFault : List Named → List UnitSpan → Fault → Type 0
SpansFault entries [] f = ⊥
SpansFault entries (s ∷ spans) f = UnitFault entries s f ⊎ ((unit : Unit) × IsUnitOf entries s unit × SpansFault entries spans f)

-- how many strings of these stabs are parsed: those that are to spell a symbol
abbrev pub parsed : List Stab → ℕ
parsed [] = 0
parsed (s ∷ ss) = cond (has_symbol s) 1 0 + parsed ss

-- how many of all units
abbrev pub parsed_in : List Named → List UnitSpan → ℕ
parsed_in entries [] = 0
parsed_in entries (s ∷ spans) = parsed (stabs_of entries s) + parsed_in entries spans

-- ---- steps where a string is refused

-- after `old` steps these stabs are read in order, a step for each string that is parsed, up to and with the first that has a fault,
-- which is this one: then there are `new` steps
abbrev pub FaultAfter : List Stab → Fault → ℕ → ℕ → Type 0
FaultAfter [] f old new = ⊥
FaultAfter (s ∷ ss) f old new = (HasFault s f × (new ≡ old + 1)) ⊎ ((item : Filed) × IsRead s item × FaultAfter ss f (old + cond (has_symbol s) 1 0) new)

-- likewise the stabs of the unit of a span
abbrev pub UnitFaultAfter : List Named → UnitSpan → Fault → ℕ → ℕ → Type 0
UnitFaultAfter entries span f old new = FaultAfter (stabs_of entries span) f old new

-- likewise those of the units of spans
abbrev pub SpansFaultAfter : List Named → List UnitSpan → Fault → ℕ → ℕ → Type 0
SpansFaultAfter entries [] f old new = ⊥
SpansFaultAfter entries (s ∷ spans) f old new = UnitFaultAfter entries s f old new
    ⊎ ((unit : Unit) × IsUnitOf entries s unit × SpansFaultAfter entries spans f (old + parsed (stabs_of entries s)) new)
