-- Worked items: the text that some give, and their faults.
use Rattle.std.proofs.Common.{◌≡◌, ℕ, List, [], ◌∷◌, Result, Ok, Err, refl}
use Rattle.std.specs.Prelude.{codes, decimal}
use Rattle.std.proofs.lemmas.Fmt.{decimal_digit, decimal_step}
use Rattle.std.proofs.Math.Dec.{lit<, lit≤}
use Rattle.st_base.specs.declared.fault.Fault.{Fault}
use Rattle.c_tokens.specs.Tokens.{Info}
use Rattle.c_items.specs.Trees.{Qualifiers, Simple, Declarator, Fields, Specifier, Takes, Parameters, Statements, Storage, Item}
use Rattle.c_units.specs.declared.draft.Draft.{Draft}
use Rattle.c_units.specs.Drafts.{extent_of, declared_size, declared_extent}
use Rattle.c_types.specs.Lines.{local_mark, block_begin_mark, from_start, block_end_mark, line_mark, code_line}
use Rattle.c_units.specs.Tags.{mention, cross, begin_body, complete, typedef_type}
use Rattle.c_units.specs.Layouts.{add_field, close_body}
use Rattle.c_units.specs.Declarations.{give_name, add_variable}
use Rattle.c_units.specs.Functions.{begin_function, give_param, add_param, begin_block, end_locals, add_statement, end_block}
use Rattle.c_meaning.specs.Meaning.{of_item, word_of}

-- a unit without lines, in its first header, which is at place 3 of the given files
abbrev unit : Draft
unit = record {
  place = 3;
  file = 1;
  next = 1;
  outer = [];
  headers = 1;
  tag_names = [];
  tags = [];
  typedefs = [];
  names = [];
  statics = 0;
  offset = 0;
  params = [];
  blocks = 0;
  scopes = [];
  text = [];
}

-- a token on a line: a mark, a name, and a basic type
abbrev mark : ℕ → Info
mark line = record { text = []; number = 0; line = line }

abbrev word : List ℕ → ℕ → Info
word text line = record { text = text; number = 0; line = line }

abbrev basic : ℕ → Simple
basic n = Simple.basic (record { text = []; number = n; line = 1 })

abbrev shape : List Info → List ℕ → Declarator
shape stars name = record { pointers = stars; name = word name 1; arrays = [] }

abbrev text_of : Result Draft Fault → List ℕ
text_of (Ok u) = u.text
text_of (Err fault) = []

abbrev fault_of : Result Draft Fault → List ℕ
fault_of (Ok u) = []
fault_of (Err fault) = fault.number ∷ fault.place ∷ fault.within ∷ []

decimal_32 : decimal 32 ≡ 51 ∷ 50 ∷ []
decimal_32 = rw (decimal_step 32 (lit≤ tt) (lit< tt), decimal_digit 3 (lit< tt)) refl

-- `struct list { int val; struct list *next; };`
list_item : Item
list_item = Item.struct_alone Qualifiers.plain (mark 1) (word (codes "list") 1) (mark 1)
    (Fields.more Qualifiers.plain (basic 1) (shape [] (codes "val")) (mark 1)
    (Fields.last Qualifiers.plain (Simple.struct_tag (mark 1) (word (codes "list") 1)) (shape (mark 1 ∷ []) (codes "next")) (mark 1) (mark 1))) (mark 1)

list_text : text_of (of_item list_item unit) ≡ codes ".stabs \"list:T(1,1)=s8val:(0,1),0,32;next:*(1,1),32,32;;\",128,0,0,0\n"
unfolding list_item mention cross begin_body add_field close_body complete extent_of declared_size declared_extent word_of
list_text = simp (decimal_digit 0 (lit< tt), decimal_digit 1 (lit< tt), decimal_digit 8 (lit< tt), decimal_32)

-- ---- faults: number, line, and the place of the file

-- `struct s {` / `struct s {` / `int a;` / `} b;` / `};`: again at the inner tag
twice_item : Item
twice_item = Item.struct_alone Qualifiers.plain (mark 1) (word (codes "s") 1) (mark 1)
    (Fields.last_body Qualifiers.plain (mark 2) (word (codes "s") 2) (mark 2)
    (Fields.last Qualifiers.plain (basic 1) (shape [] (codes "a")) (mark 3) (mark 4))
    (shape [] (codes "b")) (mark 4) (mark 5)) (mark 5)

twice : fault_of (of_item twice_item unit) ≡ 82 ∷ 2 ∷ 3 ∷ []
unfolding twice_item mention cross begin_body add_field close_body complete extent_of declared_size declared_extent word_of
twice = refl

-- `struct s {` / `struct s *p;` / `struct s x;` / `};`: a pointer to the tag itself is a field, the tag itself is not complete yet
within_item : Item
within_item = Item.struct_alone Qualifiers.plain (mark 1) (word (codes "s") 1) (mark 1)
    (Fields.more Qualifiers.plain (Simple.struct_tag (mark 2) (word (codes "s") 2)) (shape (mark 2 ∷ []) (codes "p")) (mark 2)
    (Fields.last Qualifiers.plain (Simple.struct_tag (mark 3) (word (codes "s") 3)) (shape [] (codes "x")) (mark 3) (mark 4))) (mark 4)

within : fault_of (of_item within_item unit) ≡ 84 ∷ 3 ∷ 3 ∷ []
unfolding within_item mention cross begin_body add_field close_body complete extent_of declared_size declared_extent word_of
within = refl

-- a parameter whose type is no typedef, in front of a second fault: the first in reading order is told
unknown_item : Item
unknown_item = Item.function (Specifier.of Qualifiers.plain (basic 1)) [] (word (codes "f") 1) (mark 1)
    (Takes.some (Parameters.last (Specifier.of Qualifiers.plain (Simple.named (word (codes "t") 2))) [] (word (codes "a") 2) (mark 2))) (mark 3) []
    (Statements.empty (mark 65536) (Statements.end (mark 65537)))

first_fault : fault_of (of_item unknown_item unit) ≡ 81 ∷ 2 ∷ 3 ∷ []
unfolding unknown_item typedef_type give_name begin_function
first_fault = refl

-- ---- a cross reference and a function

-- `struct s *p;`: a first mention without a body
pointer_item : Item
pointer_item = Item.variable Storage.plain (Specifier.of Qualifiers.plain (Simple.struct_tag (mark 1) (word (codes "s") 1))) (shape (mark 1 ∷ []) (codes "p")) (mark 1)

pointer_text : text_of (of_item pointer_item unit) ≡ codes ".stabs \"s:T(1,1)=xss:\",128,0,0,0\n.comm _p,4\n.stabs \"p:G*(1,1)\",32,0,0,0\n"
unfolding pointer_item mention cross give_name add_variable extent_of declared_size declared_extent word_of
pointer_text = simp (decimal_digit 1 (lit< tt), decimal_digit 4 (lit< tt))

-- `static int f(char *a)` on line 7, `{ { ; } }` with the `;` on line 8
function_item : Item
function_item = Item.static_function (mark 7) (Specifier.of Qualifiers.plain (basic 1)) [] (word (codes "f") 7) (mark 7)
    (Takes.some (Parameters.last (Specifier.of Qualifiers.plain (basic 2)) (mark 7 ∷ []) (word (codes "a") 7) (mark 7))) (mark 7) []
    (Statements.block (mark 8) [] (Statements.empty (mark 8) (Statements.end (mark 8))) (Statements.end (mark 9)))

function_text : text_of (of_item function_item unit) ≡
    codes "_f:\n.stabs \"f:f(0,1)\",36,0,7,_f\n.stabs \"a:p*(0,2)\",160,0,0,8\n.stabn 192,0,0,Lb0-Ltext0\nLb0:\n.stabn 192,0,0,Lb1-Ltext0\nLb1:\n.stabd 68,0,8\n.long 0\nLe1:\n.stabn 224,0,0,Le1-Ltext0\nLe0:\n.stabn 224,0,0,Le0-Ltext0\n"
unfolding function_item give_name begin_function give_param add_param begin_block end_locals add_statement end_block extent_of declared_size declared_extent local_mark block_begin_mark from_start block_end_mark line_mark code_line
function_text = simp (decimal_digit 0 (lit< tt), decimal_digit 1 (lit< tt), decimal_digit 2 (lit< tt), decimal_digit 7 (lit< tt), decimal_digit 8 (lit< tt))
