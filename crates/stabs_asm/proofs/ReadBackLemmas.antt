-- The text of an object that a program holds is read back.
use Rattle.std.proofs.Common.{◌≡◌, ℕ, ◌+◌, ◌≤◌, Bool, true, false, not, List, [], ◌∷◌, length, take, drop, Option, None, Some, refl, sym, ap, ◌∙◌, inl, inr, arith}
use Rattle.std.specs.Prelude.{if◌then◌else◌, ◌&&◌, ◌==◌, nat_le, nat_lt, position, option_map}
use Rattle.std.specs.List.{AllByRecursion, list_any, position_or_len}
use Rattle.std.proofs.lemmas.Bool.{cases_Bool, ne_eqb, ltb-false}
use Rattle.std.proofs.lemmas.Option.{none-some}
use Rattle.st_base.specs.Number.{IsBytes}
use Rattle.st_base.proofs.BytesLemmas.{IsBytes-take, IsBytes-drop}
use Rattle.nlist_codec.specs.declared.entry.Entry.{Entry}
use Rattle.nlist_codec.specs.Entries.{EntryFits}
use Rattle.strtab.specs.StringTable.{HasNoZero, is_zero, name_in}
use Rattle.aout_object.specs.Objects.{Contents, ObjectFits, IsAccepted, named_entry, all_named, named_of, name_of}
use Rattle.aout_object.proofs.NameLemmas.{names-whole}
use Rattle.asm_objects.specs.Meaning.{has_no_zero}
use Rattle.stabs_asm.specs.Listing.{HoldsBytes, IsListed}
use Rattle.stabs_asm.proofs.ListLemmas.{NamedFits}
use Rattle.stabs_asm.proofs.RowLemmas.{Listed, ListedFits, listing_read}
use Rattle.stabs_asm.proofs.EachLemmas.{listed_statements}
use Rattle.stabs_asm.proofs.MeansLemmas.{parts_given, entries_given}
use Rattle.stabs_asm.proofs.FaultlessLemmas.{faultless}

-- ---- names

-- bytes without a first zero byte have none
none_before : (bytes : List ℕ) → length bytes ≤ position_or_len is_zero bytes → list_any is_zero bytes ≡ false
none_before [] most = refl
none_before (b ∷ bytes) most =
    elim (cases_Bool (b == 0)) [
      | inl h ↦ let first : length (b ∷ bytes) ≤ 0 = rw h at most in absurd (omega arith)
      | inr h ↦ let later : length (b ∷ bytes) ≤ 1 + position_or_len is_zero bytes = rw h at most in rw (h, none_before bytes (omega arith)) refl
    ]

-- so no zero byte stands in what holds none
no_zero : (bytes : List ℕ) → HasNoZero bytes → has_no_zero bytes ≡ true
no_zero bytes whole =
    elim (cases_Bool (nat_lt (position_or_len is_zero bytes) (length bytes))) [
      | inl h ↦ absurd (none-some (position_or_len is_zero bytes) (sym whole ∙ rw h refl))
      | inr h ↦ ap not (none_before bytes (ltb-false (position_or_len is_zero bytes) (length bytes) h))
    ]

-- the bytes of a name are those of the string table
named_by : (none within : Bool) (bytes : List ℕ) (end : Option ℕ) → IsBytes bytes
    → IsBytes (name_of (if none then Some [] else (if within then option_map (λ at. take at bytes) end else None)))
named_by true within bytes end are = tt
named_by false false bytes end are = tt
named_by false true bytes None are = tt
named_by false true bytes (Some at) are = IsBytes-take at bytes are

-- so is a name
pub name_bytes : (strings : List ℕ) (strx : ℕ) → IsBytes strings → IsBytes (name_of (name_in strings strx))
name_bytes strings strx are =
    named_by (strx == 0) (nat_le 4 strx && nat_lt strx (length strings)) (drop strx strings) (position is_zero (drop strx strings)) (IsBytes-drop strx strings are)

-- ---- entries

-- an entry of an object fits its line
entry_fits : (strings : List ℕ) (e : Entry) → IsBytes strings → EntryFits e → IsAccepted strings e → NamedFits (named_entry strings e)
entry_fits strings e are fits accepted = record {
  kind = fits.kind;
  accepted = accepted.kind;
  other = fits.other;
  desc = fits.desc;
  value = fits.value;
  name = name_bytes strings e.strx are;
  whole = no_zero (name_of (name_in strings e.strx)) (names-whole strings (e ∷ []) 0 (named_entry strings e) (omega arith));
}

-- so do all
entries_fit : (strings : List ℕ) (es : List Entry) → IsBytes strings → AllByRecursion EntryFits es → AllByRecursion (IsAccepted strings) es
    → AllByRecursion NamedFits (all_named strings es)
entries_fit strings [] are fit accepted = tt
entries_fit strings (e ∷ es) are fit accepted = (entry_fits strings e are fit.0 accepted.0, entries_fit strings es are fit.1 accepted.1)

-- ---- objects

-- what is listed of an object
listed_of : Contents → Listed
listed_of o = record { parts = o.parts; named = named_of o }

-- what is listed of an object fits its lines
object_fits : (o : Contents) → ObjectFits o → HoldsBytes o → ListedFits (listed_of o)
unfolding listed_of
object_fits o fits are = record {
  entry = fits.numbers.entry;
  machine = fits.numbers.machine;
  told = ne_eqb o.parts.machine 1793 fits.header.order_told;
  bss = fits.numbers.bss;
  text = are.text;
  datum = are.data_part;
  text_relocs = fits.text_relocs;
  data_relocs = fits.data_relocs;
  named = entries_fit o.strings o.entries are.strings fits.entries fits.accepted;
}

-- the text of an object is read back
pub is_listed : (o : Contents) → ObjectFits o → HoldsBytes o → IsListed o
unfolding listed_of
is_listed o fits are =
    let listed = object_fits o fits are in
    record {
      statements = listed_statements (listed_of o);
      reads = listing_read (listed_of o) listed;
      faultless = faultless (listed_of o) listed;
      parts = parts_given (listed_of o) listed;
      entries = entries_given (listed_of o) listed;
    }
