-- Worked units: the text that the acts of some declarations give, and their faults.
use Rattle.std.proofs.Common.{◌≡◌, ℕ, true, false, List, [], ◌∷◌, Some, Result, Ok, Err, refl}
use Rattle.std.specs.Prelude.{codes, decimal}
use Rattle.std.proofs.lemmas.Fmt.{decimal_digit, decimal_step}
use Rattle.std.proofs.Math.Dec.{lit<, lit≤}
use Rattle.st_base.specs.declared.fault.Fault.{Fault}
use Rattle.c_types.specs.declared.ctype.Word.TheVariants as word
use Rattle.c_types.specs.declared.ctype.CType.{CType}
use Rattle.c_types.specs.declared.ctype.Declared.{Declared}
use Rattle.c_types.specs.declared.ctype.Mention.{Mention}
use Rattle.c_units.specs.declared.draft.Draft.{Draft}
use Rattle.c_types.specs.Acts.{on_ok}
use Rattle.c_types.specs.Types.{basic_type}
use Rattle.c_units.specs.Drafts.{extent_of, declared_size, declared_extent}
use Rattle.c_types.specs.Lines.{local_mark, block_begin_mark, from_start, block_end_mark, line_mark, code_line}
use Rattle.c_types.specs.Types.{tag_type}
use Rattle.c_units.specs.Tags.{mention, begin_body, complete, typedef_type}
use Rattle.c_units.specs.Layouts.{empty, add_field, close_body}
use Rattle.c_units.specs.Declarations.{add_variable, add_extern}
use Rattle.c_units.specs.Functions.{begin_function, give_param, add_param, begin_block, end_locals, give_local, add_local, add_statement, end_block}

-- a unit without lines, whose file that is read has this place and number
abbrev unit_in : ℕ → ℕ → Draft
unit_in place file = record {
  place = place;
  file = file;
  next = 1;
  outer = [];
  headers = file;
  tag_names = [];
  tags = [];
  typedefs = [];
  names = [];
  statics = 0;
  offset = 0;
  params = [];
  blocks = 0;
  scopes = [];
  text = [];
}

abbrev plain : CType → ℕ → List ℕ → Declared
plain base stars lengths = record { qualifiers = record { constant = false; volatile = false }; base = base; stars = stars; lengths = lengths }

abbrev text_of : Result Draft Fault → List ℕ
text_of (Ok u) = u.text
text_of (Err fault) = []

abbrev fault_of : Result Draft Fault → List ℕ
fault_of (Ok u) = []
fault_of (Err fault) = fault.number ∷ fault.place ∷ fault.within ∷ []

decimal_32 : decimal 32 ≡ 51 ∷ 50 ∷ []
decimal_32 = rw (decimal_step 32 (lit≤ tt) (lit< tt), decimal_digit 3 (lit< tt)) refl

-- `struct list { char val; struct list *next; };` in the first header
abbrev list_fields : Mention → Draft → Result Draft Fault
list_fields m u =
    on_ok (begin_body m 1 u) (λ u1.
    on_ok (add_field (codes "val") (plain (basic_type 2) 0 []) 1 u1 (empty word.Struct)) (λ l.
    on_ok (add_field (codes "next") (plain (tag_type m) 1 []) 1 u1 l) (λ l2.
    on_ok (close_body (Some m) l2 1 u1) (λ x. Ok x.1))))

abbrev list_declared : Draft → Result Draft Fault
list_declared u = on_ok (mention word.Struct (codes "list") 1 u) (λ m. list_fields m.0 m.1)

list_text : text_of (list_declared (unit_in 3 1)) ≡ codes ".stabs \"list:T(1,1)=s8val:(0,2),0,8;next:*(1,1),32,32;;\",128,0,0,0\n"
unfolding mention begin_body add_field close_body complete extent_of declared_size declared_extent
list_text = simp (decimal_digit 0 (lit< tt), decimal_digit 1 (lit< tt), decimal_digit 2 (lit< tt), decimal_digit 8 (lit< tt), decimal_32)

-- ---- faults, with line and place of the file

-- a second body of a tag
twice : fault_of (on_ok (list_declared (unit_in 3 1)) (λ u. on_ok (mention word.Struct (codes "list") 7 u) (λ m. begin_body m.0 7 m.1))) ≡ 82 ∷ 7 ∷ 3 ∷ []
unfolding mention begin_body add_field close_body complete extent_of declared_size declared_extent
twice = refl

-- `union list` behind `struct list`
other_word : fault_of (on_ok (list_declared (unit_in 3 1)) (λ u. on_ok (mention word.Union (codes "list") 7 u) (λ m. Ok m.1))) ≡ 82 ∷ 7 ∷ 3 ∷ []
unfolding mention begin_body add_field close_body complete extent_of declared_size declared_extent
other_word = refl

-- a variable of a tag before its body, and an `extern` of it; `extern` arrays of it are not complete
abbrev of_open : (Declared → Draft → Result Draft Fault) → ℕ → List ℕ → Result Draft Fault
of_open act stars lengths = on_ok (mention word.Struct (codes "s") 4 (unit_in 0 0)) (λ m. act (plain (tag_type m.0) stars lengths) m.1)

no_body : fault_of (of_open (λ d u. add_variable (codes "x") d 4 u) 0 []) ≡ 84 ∷ 4 ∷ 0 ∷ []
unfolding mention add_variable extent_of declared_size declared_extent
no_body = refl

a_pointer : fault_of (of_open (λ d u. add_variable (codes "x") d 4 u) 1 (2 ∷ [])) ≡ []
unfolding mention add_variable extent_of declared_size declared_extent
a_pointer = refl

an_extern : fault_of (of_open (λ d u. add_extern d 4 u) 0 []) ≡ []
unfolding mention add_extern extent_of declared_size
an_extern = refl

an_extern_array : fault_of (of_open (λ d u. add_extern d 4 u) 0 (2 ∷ [])) ≡ 84 ∷ 4 ∷ 0 ∷ []
unfolding mention add_extern extent_of declared_size
an_extern_array = refl

-- arrays of chars at the limit and over it
at_limit : fault_of (add_variable (codes "x") (plain (basic_type 2) 0 (134217728 ∷ [])) 9 (unit_in 0 0)) ≡ []
unfolding add_variable extent_of declared_size declared_extent
at_limit = refl

over_limit : fault_of (add_variable (codes "x") (plain (basic_type 2) 0 (134217729 ∷ [])) 9 (unit_in 0 0)) ≡ 85 ∷ 9 ∷ 0 ∷ []
unfolding add_variable extent_of declared_size declared_extent
over_limit = refl

-- a statement on the last line that a stab has room for, and on the next
last_line : fault_of (add_statement 65535 (unit_in 0 0)) ≡ []
unfolding add_statement
last_line = refl

past_line : fault_of (add_statement 65536 (unit_in 2 0)) ≡ 85 ∷ 65536 ∷ 2 ∷ []
unfolding add_statement
past_line = refl

-- a name that is no typedef
unknown : typedef_type (codes "T") 5 (unit_in 1 1) ≡ Err (record { number = 81; place = 5; within = 1 })
unfolding typedef_type
unknown = refl

-- ---- a function

-- `static int f(char *a) { int x; char *y; ; }` with the `;` on line 8
abbrev function_lines : Draft → Result Draft Fault
function_lines u =
    on_ok (begin_function true (codes "f") (plain (basic_type 1) 0 []) 7 u) (λ u1.
    on_ok (give_param (codes "a") 7 u1) (λ u2.
    on_ok (add_param (codes "a") (plain (basic_type 2) 1 []) 7 u2) (λ u3.
    on_ok (give_local (codes "x") 8 (begin_block u3)) (λ u4.
    on_ok (add_local (codes "x") (plain (basic_type 1) 0 []) 8 u4) (λ u5.
    on_ok (add_local (codes "y") (plain (basic_type 2) 1 []) 8 u5) (λ u6.
    on_ok (add_statement 8 (end_locals u6)) (λ u7. Ok (end_block (end_locals u7)))))))))

function_text : text_of (function_lines (unit_in 0 2)) ≡
    codes "_f:\n.stabs \"f:f(0,1)\",36,0,7,_f\n.stabs \"a:p*(0,2)\",160,0,0,8\n.stabs \"x:(0,1)\",128,0,0,-4\n.stabs \"y:(2,1)=*(0,2)\",128,0,0,-8\n.stabn 192,0,0,Lb0-Ltext0\nLb0:\n.stabd 68,0,8\n.long 0\nLe0:\n.stabn 224,0,0,Le0-Ltext0\n"
unfolding begin_function give_param add_param give_local add_local begin_block end_locals add_statement end_block extent_of declared_size declared_extent local_mark block_begin_mark from_start block_end_mark line_mark code_line
function_text = simp (decimal_digit 0 (lit< tt), decimal_digit 1 (lit< tt), decimal_digit 2 (lit< tt), decimal_digit 4 (lit< tt), decimal_digit 7 (lit< tt), decimal_digit 8 (lit< tt))

-- the name of a local again in its block
again : fault_of (on_ok (give_local (codes "x") 8 (begin_block (unit_in 0 0))) (λ u. give_local (codes "x") 9 u)) ≡ 82 ∷ 9 ∷ 0 ∷ []
unfolding give_local begin_block
again = refl
