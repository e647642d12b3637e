-- An object: what an a.out file holds, and the file that spells it. After a.out(5); which kinds of entries are accepted is this
-- project's own.
use Rattle.std.specs.Prelude.{◌≡◌, ℕ, ◌*◌, ◌^◌, ◌<◌, ◌||◌, nat_le, Bool, IsTrue, IsSome, ◌⊎◌, List, [], ◌++◌, length, map, flat_map, Option, Some, None}
use Rattle.std.specs.List.{AllByRecursion}
use Rattle.st_base.specs.ByteOrder.{is_big}
use Rattle.st_base.specs.Stabs.{is_stab}
use Rattle.st_base.specs.declared.sizes.TheConstants.{ENTRY_SIZE, RELOC_SIZE}
use Rattle.aout_layout.specs.declared.header.Header.{Header}
use Rattle.aout_layout.specs.Headers.{header_bytes, HeaderFits, NumbersFit}
use Rattle.nlist_codec.specs.declared.entry.Entry.{Entry}
use Rattle.nlist_codec.specs.declared.kinds.TheConstants.{BSS_EXTERNAL}
use Rattle.nlist_codec.specs.declared.named.Named.{Named}
use Rattle.nlist_codec.specs.Entries.{EntryFits, entry_bytes}
use Rattle.reloc.specs.declared.reloc.Reloc.{Reloc}
use Rattle.reloc.specs.Relocs.{RelocFits, reloc_bytes}
use Rattle.strtab.specs.StringTable.{HasOwnLength, name_in}
use Rattle.aout_object.specs.declared.parts.Parts.{Parts}

-- what a file holds: its segments and relocations, the entries of its symbol table in order, and the bytes of its string table
pub record Contents : Type 0 where
  pub parts : Parts
  pub entries : List Entry
  pub strings : List ℕ

-- ---- the file

-- the header of the file: its sizes are those of the parts
abbrev pub header_for : Contents → Header
header_for o = record {
  order = o.parts.order;
  machine = o.parts.machine;
  text = length o.parts.text;
  data_part = length o.parts.data_part;
  bss = o.parts.bss;
  symbols = length o.entries * ENTRY_SIZE;
  entry = o.parts.entry;
  text_relocs = length o.parts.text_relocs * RELOC_SIZE;
  data_relocs = length o.parts.data_relocs * RELOC_SIZE;
}

-- the bytes of relocations, one after the other
abbrev pub relocs_bytes : Bool → List Reloc → List ℕ
relocs_bytes big relocs = flat_map (reloc_bytes big) relocs

-- the bytes of entries, one after the other
abbrev pub entries_bytes : Bool → List Entry → List ℕ
entries_bytes big entries = flat_map (entry_bytes big) entries

-- what stands after the header: text, data, text relocations, data relocations, entries, string table
abbrev pub behind_header : Bool → Contents → List ℕ
behind_header big o =
    o.parts.text ++ (o.parts.data_part ++ (relocs_bytes big o.parts.text_relocs ++ (relocs_bytes big o.parts.data_relocs ++
    (entries_bytes big o.entries ++ o.strings))))

-- the file of an object: its parts in sequence
abbrev pub file_of : Contents → List ℕ
file_of o = header_bytes (header_for o) ++ behind_header (is_big o.parts.order) o

-- ---- which objects have a file

-- a relocation that can be written and read again
pub record IsReloc (r : Reloc) : Type 0 where
  pub address : r.address < 2 ^ 32
  pub fits : RelocFits r

-- an accepted kind: that of a stab, or one up to that of a definition in bss which all objects see
abbrev pub is_accepted_kind : ℕ → Bool
is_accepted_kind kind = is_stab kind || nat_le kind BSS_EXTERNAL

-- an entry of an accepted kind, whose name the string table has
pub record IsAccepted (strings : List ℕ) (entry : Entry) : Type 0 where
  pub kind : IsTrue (is_accepted_kind entry.kind)
  pub name : IsSome (name_in strings entry.strx)

-- the string table is absent, which it may be only where there are no entries, or it begins with its own length
abbrev pub HasTable : Contents → Type 0
HasTable o = ((o.strings ≡ []) × (o.entries ≡ [])) ⊎ HasOwnLength (is_big o.parts.order) o.strings

-- an object that a file can spell: its header, relocations and entries can be written, its entries are accepted, and its string
-- table stands as it must
pub record ObjectFits (o : Contents) : Type 0 where
  pub header : HeaderFits (header_for o)
  pub numbers : NumbersFit (header_for o)
  pub text_relocs : AllByRecursion IsReloc o.parts.text_relocs
  pub data_relocs : AllByRecursion IsReloc o.parts.data_relocs
  pub entries : AllByRecursion EntryFits o.entries
  pub accepted : AllByRecursion (IsAccepted o.strings) o.entries
  pub table : HasTable o

-- these bytes spell this object
pub record ObjectSpells (o : Contents) (bytes : List ℕ) : Type 0 where
  pub fits : ObjectFits o
  pub sequence : bytes ≡ file_of o

-- ---- names

-- the name at an offset of the string table; empty where there is none
abbrev pub name_of : Option (List ℕ) → List ℕ
name_of None = []
name_of (Some name) = name

-- an entry with its name in place of the name's offset
abbrev pub named_entry : List ℕ → Entry → Named
named_entry strings e = record {
  kind = e.kind;
  other = e.other;
  desc = e.desc;
  value = e.value;
  name = name_of (name_in strings e.strx);
}

-- entries, each with its name in place of the name's offset
abbrev pub all_named : List ℕ → List Entry → List Named
all_named strings entries = map (named_entry strings) entries

-- the entries of an object with their names
abbrev pub named_of : Contents → List Named
named_of o = all_named o.strings o.entries
