-- Worked values of files, by hand after a.out(5): the fault of a file that is a bare header, of files with a part too short and
-- too long, and the object of a small file, in both byte orders.
use Rattle.std.proofs.Common.{◌≡◌, ℕ, List, [], ◌∷◌, ◌++◌, refl}
use Rattle.std.specs.Prelude.{Some, None, codes, take}
use Rattle.st_base.specs.Faults.{fault_at, first_fault}
use Rattle.st_base.specs.declared.order.Order.TheVariants.{Little, Big}
use Rattle.aout_object.specs.Objects.{Contents, file_of, named_of}
use Rattle.aout_object.specs.Checks.{file_checks}
use Rattle.aout_object.specs.Making.{made, make_checks}

-- ---- a bare header

-- 32 bytes, all sizes 0
abbrev bare : List ℕ
bare = 7 ∷ 1 ∷ 100 ∷ 0 ∷ 0 ∷ 0 ∷ 0 ∷ 0 ∷ 0 ∷ 0 ∷ 0 ∷ 0 ∷ 0 ∷ 0 ∷ 0 ∷ 0 ∷ 0 ∷ 0 ∷ 0 ∷ 0 ∷ 0 ∷ 0 ∷ 0 ∷ 0 ∷ 0 ∷ 0 ∷ 0 ∷ 0 ∷ 0 ∷ 0 ∷ 0 ∷ 0 ∷ []

-- it needs no string table
bare-fault : first_fault (file_checks bare) ≡ None
bare-fault = refl

-- a byte after it begins one
bare-longer : first_fault (file_checks (bare ++ 4 ∷ [])) ≡ Some (fault_at 5 33)
bare-longer = refl

-- and four bytes are one without names
bare-table : first_fault (file_checks (bare ++ 4 ∷ 0 ∷ 0 ∷ 0 ∷ [])) ≡ None
bare-table = refl

-- its first word where the order is not known
bare-orders : first_fault (file_checks (7 ∷ 1 ∷ 1 ∷ 7 ∷ [])) ≡ Some (fault_at 5 4)
bare-orders = refl

-- ---- a file of two bytes of text and the entry `a.c`

-- the object, in little order
abbrev small : Contents
small = record {
  parts = record { order = Little; machine = 100; bss = 8; entry = 4096; text = 1 ∷ 2 ∷ []; data_part = []; text_relocs = []; data_relocs = [] };
  entries = record { strx = 4; kind = 0x64; other = 0; desc = 0; value = 4096 } ∷ [];
  strings = 8 ∷ 0 ∷ 0 ∷ 0 ∷ 97 ∷ 46 ∷ 99 ∷ 0 ∷ [];
}

-- its header: first word, text, data, bss, entries, entry word, relocations
abbrev little_header : List ℕ
little_header =
    7 ∷ 1 ∷ 100 ∷ 0 ∷ 2 ∷ 0 ∷ 0 ∷ 0 ∷ 0 ∷ 0 ∷ 0 ∷ 0 ∷ 8 ∷ 0 ∷ 0 ∷ 0 ∷ 12 ∷ 0 ∷ 0 ∷ 0 ∷ 0 ∷ 16 ∷ 0 ∷ 0 ∷ 0 ∷ 0 ∷ 0 ∷ 0 ∷ 0 ∷ 0 ∷ 0 ∷ 0 ∷ []

-- text, the entry and the string table after it
abbrev little_behind : List ℕ
little_behind = 1 ∷ 2 ∷ 4 ∷ 0 ∷ 0 ∷ 0 ∷ 0x64 ∷ 0 ∷ 0 ∷ 0 ∷ 0 ∷ 16 ∷ 0 ∷ 0 ∷ 8 ∷ 0 ∷ 0 ∷ 0 ∷ 97 ∷ 46 ∷ 99 ∷ 0 ∷ []

-- it is the file of the object
small-file : file_of small ≡ little_header ++ little_behind
small-file = refl

-- the file has no fault
small-fault : first_fault (file_checks (little_header ++ little_behind)) ≡ None
small-fault = refl

-- without its last byte it is too short
small-short : first_fault (file_checks (take 53 (little_header ++ little_behind))) ≡ Some (fault_at 5 53)
small-short = refl

-- with a byte more it is too long
small-long : first_fault (file_checks (little_header ++ (little_behind ++ 0 ∷ []))) ≡ Some (fault_at 6 54)
small-long = refl

-- a name that begins in the length word, after a kind that is accepted
small-inside : first_fault (file_checks (little_header ++ 1 ∷ 2 ∷ 3 ∷ 0 ∷ 0 ∷ 0 ∷ 0x64 ∷ 0 ∷ 0 ∷ 0 ∷ 0 ∷ 16 ∷ 0 ∷ 0 ∷ 8 ∷ 0 ∷ 0 ∷ 0 ∷ 97 ∷ 46 ∷ 99 ∷ 0 ∷ [])) ≡ Some (fault_at 11 0)
small-inside = refl

-- the same name after a kind that is not
small-kind : first_fault (file_checks (little_header ++ 1 ∷ 2 ∷ 3 ∷ 0 ∷ 0 ∷ 0 ∷ 10 ∷ 0 ∷ 0 ∷ 0 ∷ 0 ∷ 16 ∷ 0 ∷ 0 ∷ 8 ∷ 0 ∷ 0 ∷ 0 ∷ 97 ∷ 46 ∷ 99 ∷ 0 ∷ [])) ≡ Some (fault_at 30 0)
small-kind = refl

-- a name that no zero byte ends
small-no_end : first_fault (file_checks (little_header ++ 1 ∷ 2 ∷ 4 ∷ 0 ∷ 0 ∷ 0 ∷ 0x64 ∷ 0 ∷ 0 ∷ 0 ∷ 0 ∷ 16 ∷ 0 ∷ 0 ∷ 8 ∷ 0 ∷ 0 ∷ 0 ∷ 97 ∷ 46 ∷ 99 ∷ 99 ∷ [])) ≡ Some (fault_at 13 0)
small-no_end = refl

-- its entry is named
small-named : named_of small ≡ record { kind = 0x64; other = 0; desc = 0; value = 4096; name = codes "a.c" } ∷ []
small-named = refl

-- made of its parts and its named entry it is the same
small-made : made small.parts (named_of small) ≡ small
small-made = refl

-- and nothing is wrong with them
small-make : first_fault (make_checks small.parts (named_of small)) ≡ None
small-make = refl

-- a kind that is no stab and above 9
kind_10 : first_fault (make_checks small.parts (record { kind = 10; other = 0; desc = 0; value = 0; name = [] } ∷ [])) ≡ Some (fault_at 30 0)
kind_10 = refl

-- in big order the same numbers are spelled from the other end
big-file : file_of (record small { parts = record small.parts { order = Big }; strings = 0 ∷ 0 ∷ 0 ∷ 8 ∷ 97 ∷ 46 ∷ 99 ∷ 0 ∷ [] })
    ≡ 0 ∷ 100 ∷ 1 ∷ 7 ∷ 0 ∷ 0 ∷ 0 ∷ 2 ∷ 0 ∷ 0 ∷ 0 ∷ 0 ∷ 0 ∷ 0 ∷ 0 ∷ 8 ∷ 0 ∷ 0 ∷ 0 ∷ 12 ∷ 0 ∷ 0 ∷ 16 ∷ 0 ∷ 0 ∷ 0 ∷ 0 ∷ 0 ∷ 0 ∷ 0 ∷ 0 ∷ 0
    ∷ 1 ∷ 2 ∷ 0 ∷ 0 ∷ 0 ∷ 4 ∷ 0x64 ∷ 0 ∷ 0 ∷ 0 ∷ 0 ∷ 0 ∷ 16 ∷ 0 ∷ 0 ∷ 0 ∷ 0 ∷ 8 ∷ 97 ∷ 46 ∷ 99 ∷ 0 ∷ []
big-file = refl
