-- Header ranges that a linker takes out of a list, where another unit has the same: the range's own entries and its N_EINCL go, and its
-- N_BINCL becomes an N_EXCL. After "The stabs debug format", on include files.
use Rattle.std.specs.Prelude.{◌≡◌, ℕ, zero, suc, ◌+◌, ◌&&◌, ◌||◌, ◌==◌, ⊤, not, Option, Some, None, Bool, true, false, cond, List, [], ◌∷◌, ◌++◌, length, filter}
use Rattle.std.specs.List.{AllByRecursion}
use Rattle.st_base.specs.Stabs.{is_stab}
use Rattle.stab_codes.specs.declared.code.TheConstants.{N_BINCL, N_EXCL, N_LSYM}
use Rattle.nlist_codec.specs.declared.named.Named.{Named}
use Rattle.unit_outlines.specs.declared.outline_types.HeaderMark.{HeaderMark}
use Rattle.unit_outlines.specs.declared.outline_types.UnitSpan.{UnitSpan}
use Rattle.unit_outlines.specs.Marks.{is_header, all_headers, range_in}
use Rattle.stab_units.specs.Units.{Stab, Filed, stabs_of, AreRead}

-- what becomes of each header of a list, by its place; they are counted from 0, N_BINCL and N_EXCL alike, through all units
pub record Change : Type 0 where
  -- whether it keeps its entries
  pub kept : ℕ → Bool
  -- the new value of its mark
  pub value : ℕ → ℕ

-- ---- ranges

-- the entries of this range stay; outside of all ranges they do
abbrev pub is_kept_in : Change → Option ℕ → Bool
is_kept_in c None = true
is_kept_in c (Some place) = c.kept place

-- ---- entries

-- an entry with this kind and value
abbrev pub marked : ℕ → ℕ → Named → Named
marked kind value e = record e { kind = kind; value = value }

-- the mark of the header at this place: an N_BINCL whose entries stay is one still, each other is an N_EXCL
abbrev pub mark_changed : Change → ℕ → Named → Named
mark_changed c place e = marked (cond ((e.kind == N_BINCL) && c.kept place) N_BINCL N_EXCL) (c.value place) e

-- what an entry after those of `back`, nearest first, becomes: the mark of a header is changed, another stab goes with its range, and
-- what is no stab stays
abbrev pub changed_at : Change → List Named → Named → List Named
changed_at c back e =
    cond (is_header e.kind) (mark_changed c (all_headers back) e ∷ [])
    (cond (is_stab e.kind) (cond (is_kept_in c (range_in back 0)) (e ∷ []) []) (e ∷ []))

-- what the entries after those of `back` become
abbrev pub changed_from : Change → List Named → List Named → List Named
changed_from c back [] = []
changed_from c back (e ∷ es) = changed_at c back e ++ changed_from c (e ∷ back) es

-- the changed list
abbrev pub changed : Change → List Named → List Named
changed c entries = changed_from c [] entries

-- ---- units

-- whether a file of a unit keeps its symbols, where the unit's first header has this place in the list: its own file does, and the file of
-- each header that keeps its entries
abbrev pub is_left : Change → ℕ → ℕ → Bool
is_left c place zero = true
is_left c place (suc file) = c.kept (place + file)

-- likewise of an item
abbrev pub is_left_item : Change → ℕ → Filed → Bool
is_left_item c place f = is_left c place f.file

-- a stab goes only if it is an N_LSYM
abbrev pub IsLocalIfGone : Change → ℕ → Stab → Type 0
IsLocalIfGone c place stab = is_left c place stab.file ≡ false → stab.entry.kind ≡ N_LSYM

-- of the stabs of units only N_LSYM stabs go; the first header of the first unit has this place
abbrev pub LocalsGo : Change → List Named → ℕ → List UnitSpan → Type 0
LocalsGo c entries place [] = ⊤
LocalsGo c entries place (s ∷ spans) = AllByRecursion (IsLocalIfGone c place) (stabs_of entries s) × LocalsGo c entries (place + length s.headers) spans

-- the mark of the header at this place before and after
pub record IsMarkChanged (c : Change) (place : ℕ) (before after : HeaderMark) : Type 0 where
  pub name : after.name ≡ before.name
  pub excluded : after.excluded ≡ (before.excluded || not (c.kept place))
  pub value : after.value ≡ c.value place

-- marks one for each, the first at this place
abbrev pub AreMarksChanged : Change → ℕ → List HeaderMark → List HeaderMark → Type 0
AreMarksChanged c place [] [] = ⊤
AreMarksChanged c place [] (n ∷ ns) = ⊥
AreMarksChanged c place (m ∷ ms) [] = ⊥
AreMarksChanged c place (m ∷ ms) (n ∷ ns) = IsMarkChanged c place m n × AreMarksChanged c (place + 1) ms ns

-- a unit before and after, whose first header has this place: the stabs that are left are read as they were
pub record IsSpanChanged (c : Change) (entries : List Named) (place : ℕ) (s t : UnitSpan) : Type 0 where
  pub name : t.name ≡ s.name
  pub start : t.start ≡ s.start
  pub end : t.end ≡ s.end
  pub headers : AreMarksChanged c place s.headers t.headers
  pub reads : (items : List Filed) → AreRead (stabs_of entries s) items → AreRead (stabs_of (changed c entries) t) (filter (is_left_item c place) items)

-- units one for each, in order; the first header of the first has this place
abbrev pub AreSpansChanged : Change → List Named → ℕ → List UnitSpan → List UnitSpan → Type 0
AreSpansChanged c entries place [] [] = ⊤
AreSpansChanged c entries place [] (t ∷ ts) = ⊥
AreSpansChanged c entries place (s ∷ ss) [] = ⊥
AreSpansChanged c entries place (s ∷ ss) (t ∷ ts) = IsSpanChanged c entries place s t × AreSpansChanged c entries (place + length s.headers) ss ts
