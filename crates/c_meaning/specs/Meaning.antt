-- What an item means for a unit, by recursion on its tree: the draft behind it, or its first fault in reading order. Each step is an act of
-- `c_units`, and none is opened here.
use Rattle.std.specs.Prelude.{ℕ, ◌==◌, if◌then◌else◌, Bool, true, false, List, [], ◌∷◌, Option, Some, None, Result, Ok, length, map}
use Rattle.st_base.specs.declared.fault.Fault.{Fault}
use Rattle.c_tokens.specs.Tokens.{Info}
use Rattle.c_items.specs.Trees.{Qualifiers, Value, Choices, Simple, Length, Declarator, Fields, Specifier, TypedefSpecifier, Local, Statements, Parameters, Takes, Storage, Item}
use Rattle.c_types.specs.declared.ctype.Qualifiers.{Qualifiers as Marks}
use Rattle.c_types.specs.declared.ctype.CType.{CType}
use Rattle.c_types.specs.declared.ctype.Declared.{Declared}
use Rattle.c_types.specs.declared.ctype.Mention.{Mention}
use Rattle.c_types.specs.declared.ctype.Word.{Word}
use Rattle.c_types.specs.declared.ctype.Word.TheVariants as word
use Rattle.c_units.specs.declared.choices.Whole.{Whole}
use Rattle.c_units.specs.declared.choices.Listed.{Listed}
use Rattle.c_units.specs.declared.layout.Layout.{Layout}
use Rattle.c_units.specs.declared.draft.Draft.{Draft}
use Rattle.c_types.specs.Acts.{on_ok}
use Rattle.c_types.specs.Types.{basic_type}
use Rattle.c_types.specs.Types.{tag_type}
use Rattle.c_units.specs.Tags.{typedef_type, mention, cross, begin_body}
use Rattle.c_units.specs.Choices.{no_choices, add_choice, close_enum}
use Rattle.c_units.specs.Layouts.{empty, add_field, close_body}
use Rattle.c_units.specs.Declarations.{give_name, add_typedef, add_variable, add_static, add_extern}
use Rattle.c_units.specs.Functions.{begin_function, give_param, add_param, begin_block, end_locals, end_block, add_statement, give_local, add_local}

infixl 10 ◌>>=◌
-- go on with the value, or the first fault
abbrev pub ◌>>=◌ : {A B : Type 0} → Result A Fault → (A → Result B Fault) → Result B Fault
v >>= on = on_ok v on

-- ---- declarators

-- the qualifiers that are written
abbrev pub marks_of : Qualifiers → Marks
marks_of Qualifiers.plain = record { constant = false; volatile = false }
marks_of (Qualifiers.with_const i) = record { constant = true; volatile = false }
marks_of (Qualifiers.with_volatile i) = record { constant = false; volatile = true }
marks_of (Qualifiers.with_both i j) = record { constant = true; volatile = true }

-- the lengths that are written, the outermost first
abbrev pub lengths_of : List Length → List ℕ
lengths_of ls = map (λ l. l.size.number) ls

-- the type that a declarator declares over a base
abbrev pub declared_of : Qualifiers → CType → Declarator → Declared
declared_of q t d = record { qualifiers = marks_of q; base = t; stars = length d.pointers; lengths = lengths_of d.arrays }

-- the word of a `struct`, whose number is 0, or of a `union`, whose number is 1
unfoldable pub word_of : ℕ → Word
word_of n = if n == 1 then word.Union else word.Struct

-- ---- types without a structure's body

-- the value that is written for a choice
abbrev pub value_of : Value → Option Whole
value_of Value.counted = None
value_of (Value.number e n) = Some (record { below = false; size = n.number })
value_of (Value.zero_value e n) = Some (record { below = false; size = n.number })
value_of (Value.negative e m n) = Some (record { below = true; size = n.number })
value_of (Value.minus_zero e m n) = Some (record { below = true; size = n.number })

-- the choices of an enum, behind those so far
abbrev pub of_choices : Choices → Draft → Listed → Result Listed Fault
of_choices (Choices.last n v close) u l = add_choice n.text (value_of v) close.line u l
of_choices (Choices.more n v comma cs) u l = add_choice n.text (value_of v) comma.line u l >>= λ l'. of_choices cs u l'

-- the mention goes along
abbrev pub with_mention : Mention → Draft → Result (Mention × Draft) Fault
with_mention m u = Ok (m, u)

-- a tag whose body begins: its mention
abbrev pub open_body : Word → Info → Draft → Result (Mention × Draft) Fault
open_body w t u = mention w t.text t.line u >>= λ m. begin_body m.0 t.line m.1 >>= with_mention m.0

-- the type of a tag without a body
abbrev pub bodiless : Mention × Draft → Result (CType × Draft) Fault
bodiless m = Ok (tag_type m.0, cross m.0 m.1)

-- a type that leaves the draft as it is
abbrev pub with_draft : Draft → CType → Result (CType × Draft) Fault
with_draft u t = Ok (t, u)

-- the choices of an enum, and the type that they give
abbrev pub of_enum : Option Mention → Choices → Draft → Result (CType × Draft) Fault
of_enum tag cs u = of_choices cs u no_choices >>= λ l. Ok (close_enum tag l u)

-- a type other than a structure or union with its body
abbrev pub of_simple : Simple → Draft → Result (CType × Draft) Fault
of_simple (Simple.basic i) u = Ok (basic_type i.number, u)
of_simple (Simple.void i) u = Ok (basic_type 10, u)
of_simple (Simple.named i) u = typedef_type i.text i.line u >>= with_draft u
of_simple (Simple.struct_tag s t) u = mention (word_of s.number) t.text t.line u >>= bodiless
of_simple (Simple.enum_tag e t) u = mention word.Enum t.text t.line u >>= bodiless
of_simple (Simple.enum_body e t brace cs) u = open_body word.Enum t u >>= λ o. of_enum (Some o.0) cs o.1

-- ---- structures and unions

-- a field of this base
abbrev pub of_field : Qualifiers → CType → Declarator → Info → Draft → Layout → Result Layout Fault
of_field q t d semi u l = add_field d.name.text (declared_of q t d) semi.line u l

-- the fields of a body behind its `}`: the draft, the layout, and the line of the `}`
pub record Laid : Type 0 where
  pub draft : Draft
  pub layout : Layout
  pub line : ℕ

-- the body of a tag ends
abbrev pub close_laid : Option Mention → Laid → Result (CType × Draft) Fault
close_laid tag y = close_body tag y.layout y.line y.draft

-- fields, behind those that are laid out
abbrev pub of_fields : Fields → Draft → Layout → Result Laid Fault
of_fields (Fields.last q b d semi close) u l =
    of_simple b u >>= λ x. of_field q x.0 d semi x.1 l >>= λ l'. Ok (record { draft = x.1; layout = l'; line = close.line })
of_fields (Fields.more q b d semi gs) u l =
    of_simple b u >>= λ x. of_field q x.0 d semi x.1 l >>= λ l'. of_fields gs x.1 l'
of_fields (Fields.last_body q s t brace fs d semi close) u l =
    open_body (word_of s.number) t u >>= λ o. of_fields fs o.1 (empty (word_of s.number)) >>= λ y. close_laid (Some o.0) y
    >>= λ x. of_field q x.0 d semi x.1 l >>= λ l'. Ok (record { draft = x.1; layout = l'; line = close.line })
of_fields (Fields.more_body q s t brace fs d semi gs) u l =
    open_body (word_of s.number) t u >>= λ o. of_fields fs o.1 (empty (word_of s.number)) >>= λ y. close_laid (Some o.0) y
    >>= λ x. of_field q x.0 d semi x.1 l >>= λ l'. of_fields gs x.1 l'

-- a structure or union with its tag and body, and the type that it gives
abbrev pub of_body : Word → Info → Fields → Draft → Result (CType × Draft) Fault
of_body w t fs u = open_body w t u >>= λ o. of_fields fs o.1 (empty w) >>= λ y. close_laid (Some o.0) y

-- ---- specifiers

-- what a declaration begins with: its base
abbrev pub of_specifier : Specifier → Draft → Result (CType × Draft) Fault
of_specifier (Specifier.of q b) u = of_simple b u
of_specifier (Specifier.body q s t brace fs) u = of_body (word_of s.number) t fs u

abbrev pub qualifiers_of : Specifier → Qualifiers
qualifiers_of (Specifier.of q b) = q
qualifiers_of (Specifier.body q s t brace fs) = q

-- what a `typedef` gives a name to: a body may have no tag
abbrev pub of_typedef_specifier : TypedefSpecifier → Draft → Result (CType × Draft) Fault
of_typedef_specifier (TypedefSpecifier.tagged s) u = of_specifier s u
of_typedef_specifier (TypedefSpecifier.struct_body q s brace fs) u = of_fields fs u (empty (word_of s.number)) >>= λ y. close_laid None y
of_typedef_specifier (TypedefSpecifier.enum_choices q e brace cs) u = of_enum None cs u

abbrev pub typedef_qualifiers_of : TypedefSpecifier → Qualifiers
typedef_qualifiers_of (TypedefSpecifier.tagged s) = qualifiers_of s
typedef_qualifiers_of (TypedefSpecifier.struct_body q s brace fs) = q
typedef_qualifiers_of (TypedefSpecifier.enum_choices q e brace cs) = q

-- ---- declarations and functions

-- how a name is given, at its line, and how what is declared is added, at the line of the token that ends it
abbrev pub Give : Type 0
Give = List ℕ → ℕ → Draft → Result Draft Fault

abbrev pub Add : Type 0
Add = List ℕ → Declared → ℕ → Draft → Result Draft Fault

-- a declarator behind its specifier: its name is given, and then it is added
abbrev pub of_declared : Give → Add → Qualifiers → Declarator → Info → CType × Draft → Result Draft Fault
of_declared give add q d semi x = give d.name.text d.name.line x.1 >>= λ u. add d.name.text (declared_of q x.0 d) semi.line u

-- a declaration of a variable, a local or a parameter
abbrev pub of_declaration : Give → Add → Specifier → Declarator → Info → Draft → Result Draft Fault
of_declaration give add s d semi u = of_specifier s u >>= of_declared give add (qualifiers_of s) d semi

-- the locals of a block
abbrev pub of_locals : List Local → Draft → Result Draft Fault
of_locals [] u = Ok u
of_locals (l ∷ ls) u = of_declaration give_local add_local l.of l.shape l.semi u >>= λ u'. of_locals ls u'

-- statements, and the end of their block; a block's locals are over before its first statement, and before its `}`
abbrev pub of_statements : Statements → Draft → Result Draft Fault
of_statements (Statements.end close) u = Ok (end_block (end_locals u))
of_statements (Statements.empty semi ss) u = add_statement semi.line (end_locals u) >>= λ u'. of_statements ss u'
of_statements (Statements.block brace ls inner ss) u =
    of_locals ls (begin_block (end_locals u)) >>= λ u'. of_statements inner u' >>= λ u''. of_statements ss u''

-- stars and a name as a declarator
abbrev pub starred : List Info → Info → Declarator
starred ps n = record { pointers = ps; name = n; arrays = [] }

-- parameters
abbrev pub of_parameters : Parameters → Draft → Result Draft Fault
of_parameters (Parameters.last s ps n close) u = of_declaration give_param add_param s (starred ps n) close u
of_parameters (Parameters.more s ps n comma rest) u =
    of_declaration give_param add_param s (starred ps n) comma u >>= λ u'. of_parameters rest u'

-- what a function takes
abbrev pub of_takes : Takes → Draft → Result Draft Fault
of_takes (Takes.nothing i close) u = Ok u
of_takes (Takes.some ps) u = of_parameters ps u

-- a function up to its `(`, static or not
abbrev pub of_head : Bool → Specifier → List Info → Info → Draft → Result Draft Fault
of_head static s ps n u =
    of_specifier s u >>= λ x. give_name n.text n.line x.1 >>= λ u'. begin_function static n.text (declared_of (qualifiers_of s) x.0 (starred ps n)) n.line u'

-- a function
abbrev pub of_function : Bool → Specifier → List Info → Info → Takes → List Local → Statements → Draft → Result Draft Fault
of_function static s ps n ts ls ss u =
    of_head static s ps n u >>= λ u1. of_takes ts u1 >>= λ u2. of_locals ls (begin_block (end_locals u2)) >>= λ u3. of_statements ss u3

-- ---- items

-- a type that is not kept
abbrev pub draft_of : CType × Draft → Result Draft Fault
draft_of x = Ok x.1

-- an item; an include is the matter of who reads files
abbrev pub of_item : Item → Draft → Result Draft Fault
of_item (Item.include i) u = Ok u
of_item (Item.type_name i s d semi) u = of_typedef_specifier s u >>= of_declared give_name add_typedef (typedef_qualifiers_of s) d semi
of_item (Item.struct_alone q s t brace fs semi) u = of_body (word_of s.number) t fs u >>= draft_of
of_item (Item.enum_alone q e t brace cs semi) u = of_simple (Simple.enum_body e t brace cs) u >>= draft_of
of_item (Item.variable Storage.plain s d semi) u = of_declaration give_name add_variable s d semi u
of_item (Item.variable (Storage.static i) s d semi) u = of_declaration give_name add_static s d semi u
of_item (Item.variable (Storage.extern i) s d semi) u = of_specifier s u >>= λ x. add_extern (declared_of (qualifiers_of s) x.0 d) semi.line x.1
of_item (Item.function s ps n lead ts brace ls ss) u = of_function false s ps n ts ls ss u
of_item (Item.static_function i s ps n lead ts brace ls ss) u = of_function true s ps n ts ls ss u
