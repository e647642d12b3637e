-- An entry of the symbol table and its twelve bytes. After a.out(5), `struct nlist`.
use Rattle.std.specs.Prelude.{ℕ, ◌/◌, ◌^◌, ◌<◌, Bool, List, ◌++◌, length, map}
use Rattle.std.specs.Simd.{first_chunks}
use Rattle.st_base.specs.Number.{number_at, bytes_of}
use Rattle.st_base.specs.declared.sizes.TheConstants.{ENTRY_SIZE}
use Rattle.nlist_codec.specs.declared.entry.Entry.{Entry}

-- the entry that twelve bytes spell: each field with its place and its size
abbrev pub entry_of : Bool → List ℕ → Entry
entry_of big bytes = record {
  strx = number_at big bytes 0 4;
  kind = number_at big bytes 4 1;
  other = number_at big bytes 5 1;
  desc = number_at big bytes 6 2;
  value = number_at big bytes 8 4;
}

-- the twelve bytes of an entry, field by field in the order of their places
abbrev pub entry_bytes : Bool → Entry → List ℕ
entry_bytes big entry =
    bytes_of big 4 entry.strx ++ (bytes_of big 1 entry.kind ++ (bytes_of big 1 entry.other ++ (bytes_of big 2 entry.desc ++ bytes_of big 4 entry.value)))

-- each number of an entry fits its field, as those of every entry that a program holds do
pub record EntryFits (entry : Entry) : Type 0 where
  pub strx : entry.strx < 2 ^ 32
  pub kind : entry.kind < 2 ^ 8
  pub other : entry.other < 2 ^ 8
  pub desc : entry.desc < 2 ^ 16
  pub value : entry.value < 2 ^ 32

-- the entries of a list of bytes: one for each twelve, in order
abbrev pub entries_in : Bool → List ℕ → List Entry
entries_in big bytes = map (entry_of big) (first_chunks ENTRY_SIZE (length bytes / ENTRY_SIZE) bytes)
