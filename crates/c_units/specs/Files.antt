-- A unit begins and ends, and its files: the headers that are entered and left.
use Rattle.std.specs.Prelude.{ℕ, ◌+◌, List, [], ◌∷◌, ◌++◌, Option, Some, None, Result, codes, flat_map}
use Rattle.st_base.specs.declared.fault.Fault.{Fault}
use Rattle.st_base.specs.declared.fault.TheConstants.{C_LARGE}
use Rattle.c_units.specs.declared.draft.Draft.{Draft}
use Rattle.c_units.specs.declared.draft.Outer.{Outer}
use Rattle.c_types.specs.Stacks.{top, below}
use Rattle.c_units.specs.Drafts.{fault, file_limit, is_over, unless, with_text}
use Rattle.c_types.specs.Lines.{stabs_front, text_front, end_lines, header_line, header_end_line, symbol_line}

-- the symbols of the twelve basic types, by their numbers from 1
abbrev pub basic_symbols : List (List ℕ)
basic_symbols =
    codes "int:t(0,1)=r(0,1);-2147483648;2147483647;"
    ∷ codes "char:t(0,2)=r(0,2);0;127;"
    ∷ codes "long int:t(0,3)=r(0,3);-2147483648;2147483647;"
    ∷ codes "unsigned int:t(0,4)=r(0,4);0;037777777777;"
    ∷ codes "unsigned long int:t(0,5)=r(0,5);0;037777777777;"
    ∷ codes "short int:t(0,6)=r(0,6);-32768;32767;"
    ∷ codes "unsigned short int:t(0,7)=r(0,7);0;65535;"
    ∷ codes "unsigned char:t(0,8)=r(0,8);0;255;"
    ∷ codes "signed char:t(0,9)=r(0,9);-128;127;"
    ∷ codes "void:t(0,10)=(0,10)"
    ∷ codes "long long int:t(0,11)=@s64;r(0,11);01000000000000000000000;0777777777777777777777;"
    ∷ codes "unsigned long long int:t(0,12)=@s64;r(0,12);0;01777777777777777777777;"
    ∷ []

-- their lines; a file of the main source's own types goes on with the next number
unfoldable pub basic_lines : List ℕ
basic_lines = flat_map symbol_line basic_symbols

abbrev pub first_number : ℕ
first_number = 13

-- the lines before all items
unfoldable pub front_lines : List ℕ → List ℕ
front_lines main = stabs_front ++ (main ++ (text_front ++ basic_lines))

-- a unit before its first item, with the name of the main source
unfoldable pub begun : List ℕ → Draft
begun main = record {
  place = 0;
  file = 0;
  next = first_number;
  outer = [];
  headers = 0;
  tag_names = [];
  tags = [];
  typedefs = [];
  names = [];
  statics = 0;
  offset = 0;
  params = [];
  blocks = 0;
  scopes = [];
  text = front_lines main;
}

-- the whole text of a unit that has ended
unfoldable pub finished : Draft → List ℕ
finished u = u.text ++ end_lines

-- the header of this place among the given files, and of this name, is the file that is read
abbrev pub entered : ℕ → List ℕ → Draft → Draft
entered place name u =
    with_text (header_line name) (record u {
      place = place;
      file = u.headers + 1;
      next = 1;
      outer = record { place = u.place; file = u.file; next = u.next } ∷ u.outer;
      headers = u.headers + 1;
    })

-- the next header begins, or is one too many at its include
unfoldable pub enter : ℕ → List ℕ → ℕ → Draft → Result Draft Fault
enter place name line u = unless (is_over file_limit (u.headers + 1)) (fault C_LARGE line u) (entered place name u)

-- the file around a header goes on
abbrev pub back_in : Option Outer → Draft → Draft
back_in None u = u
back_in (Some o) u = with_text header_end_line (record u { place = o.place; file = o.file; next = o.next; outer = below u.outer })

-- the header ends
unfoldable pub leave : Draft → Draft
leave u = back_in (top u.outer) u
