-- What one walk over the entries of a unit keeps, and what it has read so far. Contracts of private functions alone use these words.
use Rattle.std.specs.Prelude.{◌≡◌, ℕ, zero, suc, ◌+◌, Bool, false, Option, List, [], ◌∷◌, ◌++◌, flat_map}
use Rattle.nlist_codec.specs.declared.named.Named.{Named}
use Rattle.stab_symbols.specs.declared.tree.Symbol.{Symbol}
use Rattle.stab_units.specs.declared.unit.ItemText.{ItemText}
use Rattle.stab_units.specs.declared.unit.ItemText.TheVariants as texts
use Rattle.unit_outlines.specs.declared.outline_types.UnitSpan.{UnitSpan}
use Rattle.stab_units.specs.declared.unit.HeaderFile.{HeaderFile}
use Rattle.stab_units.specs.declared.unit.Item.{Item}
use Rattle.stab_units.specs.declared.unit.Unit.{Unit}
use Rattle.stab_units.specs.declared.reader.Reader.{Reader}
use Rattle.unit_outlines.specs.EntryWords.{next}
use Rattle.unit_outlines.specs.Runs.{goes, link_at}
use Rattle.stab_units.specs.Units.{Stab, Filed, stabs_from, AreRead, files_from, body_at, parsed, parsed_in, AreUnitsOf}
use Rattle.unit_outlines.specs.Sweeps.{Nests}

-- the symbol at the end of those of this file, if there is such a file
abbrev pub with_symbol : List HeaderFile → ℕ → Symbol → List HeaderFile
with_symbol [] n symbol = []
with_symbol (f ∷ fs) zero symbol = record { name = f.name; symbols = f.symbols ++ symbol ∷ [] } ∷ fs
with_symbol (f ∷ fs) (suc n) symbol = f ∷ with_symbol fs n symbol

-- a text that is a symbol, likewise
abbrev pub with_text : List HeaderFile → ℕ → ItemText → List HeaderFile
with_text fs n (texts.Symbol symbol) = with_symbol fs n symbol
with_text fs n (texts.Raw text) = fs

-- the nearest entry goes on with the next one
abbrev pub goes_to : List Named → Option Named → Bool
goes_to [] next_ = false
goes_to (d ∷ back) next_ = goes (link_at d next_)

-- items that are symbols, in order
abbrev pub with_items : List HeaderFile → List Filed → List HeaderFile
with_items files [] = files
with_items files (f ∷ fs) = with_items (with_text files f.file f.item.text) fs

-- a file without symbols
abbrev pub blank : List ℕ → HeaderFile
blank name = record { name = name; symbols = [] }

-- these stabs are read into files and body
pub record HasTaken (ss : List Stab) (files files_new : List HeaderFile) (body body_new : List Item) : Type 0 where
  pub items : List Filed
  pub read : AreRead ss items
  pub files_are : files_new ≡ with_items files items
  pub body_is : body_new ≡ body ++ flat_map body_at items

-- of the stabs `all` those before the entries that are left, the first of which has the number p, are read into the reader; there
-- were `start` steps before the first
pub record HasRead (all : List Stab) (names : List (List ℕ)) (start p : ℕ) (left : List Named) (reader : Reader) (steps : ℕ) : Type 0 where
  pub back : List Named
  pub done : List Stab
  pub items : List Filed
  pub read : AreRead done items
  pub whole : done ++ stabs_from back p left ≡ all
  pub nest : Nests back reader.nest
  pub going : reader.going ≡ goes_to back (next left)
  pub files : reader.files ≡ files_from 0 names items
  pub body : reader.body ≡ flat_map body_at items
  pub counted : steps ≡ start + parsed done

-- all of them are read
pub record HasReadAll (all : List Stab) (names : List (List ℕ)) (start : ℕ) (reader : Reader) (steps : ℕ) : Type 0 where
  pub place : ℕ
  pub left : List Named
  pub read : HasRead all names start place left reader steps
  pub none : (back : List Named) → stabs_from back place left ≡ []

-- the spans before those that are left are read as these units; there were `start` steps before the first
pub record HaveUnits (entries : List Named) (all left : List UnitSpan) (start : ℕ) (units : List Unit) (steps : ℕ) : Type 0 where
  pub done : List UnitSpan
  pub read : AreUnitsOf entries done units
  pub whole : done ++ left ≡ all
  pub counted : steps ≡ start + parsed_in entries done
