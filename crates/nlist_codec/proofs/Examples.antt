-- Worked values of entries, by hand after a.out(5): a line entry (kind 0x44) for line 7 at 0x1000 with a name at 4.
use Rattle.std.proofs.Common.{◌≡◌, ℕ, true, false, List, [], ◌∷◌, refl}
use Rattle.nlist_codec.specs.declared.entry.Entry.{Entry}
use Rattle.nlist_codec.specs.Entries.{entry_of, entry_bytes, entries_in}
use Rattle.nlist_codec.specs.Kinds.{defines_name}

-- line 7 at 0x1000
abbrev line_entry : Entry
line_entry = record { strx = 4; kind = 0x44; other = 0; desc = 7; value = 0x1000 }

-- its bytes, the least significant of each number first
abbrev little_line : List ℕ
little_line = 4 ∷ 0 ∷ 0 ∷ 0 ∷ 0x44 ∷ 0 ∷ 7 ∷ 0 ∷ 0 ∷ 0x10 ∷ 0 ∷ 0 ∷ []

-- its bytes, the most significant of each number first
abbrev big_line : List ℕ
big_line = 0 ∷ 0 ∷ 0 ∷ 4 ∷ 0x44 ∷ 0 ∷ 0 ∷ 7 ∷ 0 ∷ 0 ∷ 0x10 ∷ 0 ∷ []

read_little : entry_of false little_line ≡ line_entry
read_little = refl

read_big : entry_of true big_line ≡ line_entry
read_big = refl

written_little : entry_bytes false line_entry ≡ little_line
written_little = refl

written_big : entry_bytes true line_entry ≡ big_line
written_big = refl

-- a table of one entry, and one without entries
one_entry : entries_in true big_line ≡ line_entry ∷ []
one_entry = refl

no_entry : entries_in false [] ≡ []
no_entry = refl

-- read in the other order the name stands elsewhere
read_in_the_other_order : (entry_of false big_line).strx ≡ 0x04000000
read_in_the_other_order = refl

-- a definition in data that all objects see, one that its own object alone sees, and a common
in_data : defines_name 7 ≡ true
in_data = refl

in_own_data : defines_name 6 ≡ false
in_own_data = refl

common : defines_name 1 ≡ false
common = refl
