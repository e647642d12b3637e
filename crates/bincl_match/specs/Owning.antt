-- Whether the own entries of a file are N_LSYM entries with a symbol, and what one walk over the entries of a unit keeps of it.
-- Contracts of private functions alone use these words; that they tell what `is_typed` of Ranges tells is in proofs/OwnLemmas.antt.
use Rattle.std.specs.Prelude.{◌≡◌, ℕ, ◌<◌, ◌&&◌, ◌==◌, Bool, true, false, cond, List, length}
use Rattle.std.specs.List.{list_all, slice_index_or}
use Rattle.stab_codes.specs.declared.code.TheConstants.{N_LSYM}
use Rattle.stab_codes.specs.Table.{carries_symbol}
use Rattle.nlist_codec.specs.declared.named.Named.{Named}
use Rattle.stab_symbols.specs.declared.tree.Symbol.{Symbol}
use Rattle.unit_outlines.specs.EntryWords.{next}
use Rattle.stab_units.specs.Units.{Stab, has_symbol, is_type_symbol, spells, string_of, stabs_from}
use Rattle.unit_outlines.specs.Sweeps.{Nests}
use Rattle.stab_units.specs.ReadingWalk.{goes_to}
use Rattle.bincl_match.specs.declared.owning.Owners.{Owners}

-- ---- own entries

-- the stab that an entry begins is an N_LSYM that is to spell a symbol
abbrev pub is_ready_entry : Named → List Named → Bool
is_ready_entry e es = (e.kind == N_LSYM) && spells (carries_symbol e.kind) (string_of e es)

-- a stab of this file is
abbrev pub is_ready_at : ℕ → Stab → Bool
is_ready_at file s = cond (s.file == file) ((s.entry.kind == N_LSYM) && has_symbol s) true

-- all stabs of this file are
abbrev pub is_ready_in : ℕ → List Stab → Bool
is_ready_in file stabs = list_all (is_ready_at file) stabs

-- a symbol names a type
abbrev pub names_type : Symbol → Bool
names_type s = is_type_symbol s.descriptor

-- ---- the walk

-- so many flags that are set
pub record AreTrue (count : ℕ) (flags : List Bool) : Type 0 where
  pub long : length flags ≡ count
  pub set : (i : ℕ) → i < count → slice_index_or flags i false ≡ true

-- the flags of so many files tell whether their stabs are ready
pub record AreReady (files : ℕ) (stabs : List Stab) (flags : List Bool) : Type 0 where
  pub count : length flags ≡ files
  pub each : (file : ℕ) → file < files → slice_index_or flags file false ≡ is_ready_in file stabs

-- of so many files, what the flags tell of the entries before, and the entries that are left, come to what `all` tells
pub record HasWalked (all : ℕ → Bool) (files : ℕ) (left : List Named) (o : Owners) : Type 0 where
  pub back : List Named
  pub place : ℕ
  pub nest : Nests back o.nest
  pub going : o.going ≡ goes_to back (next left)
  pub count : length o.ready ≡ files
  pub each : (file : ℕ) → file < files → (slice_index_or o.ready file false && is_ready_in file (stabs_from back place left)) ≡ all file

-- all entries are walked over
pub record HasWalkedAll (all : ℕ → Bool) (files : ℕ) (o : Owners) : Type 0 where
  pub count : length o.ready ≡ files
  pub each : (file : ℕ) → file < files → slice_index_or o.ready file false ≡ all file
