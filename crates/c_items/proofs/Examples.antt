-- Worked values: an item of each form with the tokens that spell it and their roles, and tokens in front of which no item stands.
-- Each token says its place among all, so that no two can be taken for one another.
use Rattle.std.proofs.Common.{◌≡◌, ℕ, suc, List, [], ◌∷◌, Some, None, refl}
use Rattle.c_tokens.specs.declared.kind.Kind.{Kind}
use Rattle.c_tokens.specs.declared.kind.Kind.TheVariants as k
use Rattle.c_tokens.specs.Tokens.{Info, Token}
use Rattle.c_items.specs.declared.role.Role.{Role}
use Rattle.c_items.specs.declared.role.Role.TheVariants as r
use Rattle.c_items.specs.Trees.{Qualifiers, Value, Choices, Simple, Declarator, Fields, Specifier, TypedefSpecifier, Statements, Parameters, Takes, Storage, Item, item}
use Rattle.c_items.specs.Acts.{Act}
use Rattle.c_items.specs.Steps.{Scanned, declares, scan, start}

-- what the token at a place says
abbrev at : ℕ → Info
at place = record { text = []; number = place; line = 1 }

-- tokens of these kinds, from a place on
abbrev tokens_from : ℕ → List Kind → List Token
tokens_from place [] = []
tokens_from place (kind ∷ kinds) = (kind, at place) ∷ tokens_from (suc place) kinds

-- tokens of these kinds
abbrev tokens : List Kind → List Token
tokens kinds = tokens_from 0 kinds

-- acts with these roles, from a place on
abbrev acts_from : ℕ → List Role → List Act
acts_from place [] = []
acts_from place (role ∷ roles) = (role, at place) ∷ acts_from (suc place) roles

-- what is found where an item of these roles stands in front of tokens of these kinds
abbrev found : List Role → List Token → Scanned
found roles rest = Some (acts_from 0 roles, rest)

-- a name at a place, without stars and lengths
abbrev plain : ℕ → Declarator
plain place = record { pointers = []; name = at place; arrays = [] }

-- `int`, at a place
abbrev basic : ℕ → Specifier
basic place = Specifier.of Qualifiers.plain (Simple.basic (at place))

-- ---- an item of each form

-- `#include "x"`
an_include : item (Item.include (at 0)) [] ≡ tokens (k.Include ∷ [])
an_include = refl

-- `int a; int b;`: the first of two variables
two_variables : item (Item.variable Storage.plain (basic 0) (plain 1) (at 2)) (tokens_from 3 (k.Basic ∷ k.Name ∷ k.Semi ∷ []))
    ≡ tokens (k.Basic ∷ k.Name ∷ k.Semi ∷ k.Basic ∷ k.Name ∷ k.Semi ∷ [])
two_variables = refl

-- and it alone is found, with the roles of its tokens
first_of_two : scan start (tokens (k.Basic ∷ k.Name ∷ k.Semi ∷ k.Basic ∷ k.Name ∷ k.Semi ∷ []))
    ≡ found (r.Basic ∷ r.GivenName ∷ r.VariableEnd ∷ []) (tokens_from 3 (k.Basic ∷ k.Name ∷ k.Semi ∷ []))
unfolding declares
first_of_two = refl

-- `static const volatile char *a[2][3];`
static_variable : item (Item.variable (Storage.static (at 0)) (Specifier.of (Qualifiers.with_both (at 1) (at 2)) (Simple.basic (at 3)))
    (record { pointers = at 4 ∷ []; name = at 5; arrays = record { bracket = at 6; size = at 7; close = at 8 } ∷ record { bracket = at 9; size = at 10; close = at 11 } ∷ [] }) (at 12)) []
    ≡ tokens (k.Static ∷ k.Const ∷ k.Volatile ∷ k.Basic ∷ k.Star ∷ k.Name ∷ k.OpenBracket ∷ k.Number ∷ k.CloseBracket ∷ k.OpenBracket ∷ k.Number ∷ k.CloseBracket ∷ k.Semi ∷ [])
static_variable = refl

-- and the roles of its tokens
static_variable_roles : scan start (tokens (k.Static ∷ k.Const ∷ k.Volatile ∷ k.Basic ∷ k.Star ∷ k.Name ∷ k.OpenBracket ∷ k.Number ∷ k.CloseBracket ∷ k.OpenBracket ∷ k.Number ∷ k.CloseBracket ∷ k.Semi ∷ []))
    ≡ found (r.Quiet ∷ r.Const ∷ r.Volatile ∷ r.Basic ∷ r.Star ∷ r.GivenName ∷ r.Quiet ∷ r.Length ∷ r.Quiet ∷ r.Quiet ∷ r.Length ∷ r.Quiet ∷ r.StaticEnd ∷ []) []
unfolding declares
static_variable_roles = refl

-- `extern struct s *a;`
extern_variable : item (Item.variable (Storage.extern (at 0)) (Specifier.of Qualifiers.plain (Simple.struct_tag (at 1) (at 2)))
    (record { pointers = at 3 ∷ []; name = at 4; arrays = [] }) (at 5)) []
    ≡ tokens (k.Extern ∷ k.Struct ∷ k.Name ∷ k.Star ∷ k.Name ∷ k.Semi ∷ [])
extern_variable = refl

-- `typedef struct { int a; } b;`
type_name : item (Item.type_name (at 0) (TypedefSpecifier.struct_body Qualifiers.plain (at 1) (at 2) (Fields.last Qualifiers.plain (Simple.basic (at 3)) (plain 4) (at 5) (at 6)))
    (plain 7) (at 8)) []
    ≡ tokens (k.Typedef ∷ k.Struct ∷ k.OpenBrace ∷ k.Basic ∷ k.Name ∷ k.Semi ∷ k.CloseBrace ∷ k.Name ∷ k.Semi ∷ [])
type_name = refl

-- and the roles of its tokens
type_name_roles : scan start (tokens (k.Typedef ∷ k.Struct ∷ k.OpenBrace ∷ k.Basic ∷ k.Name ∷ k.Semi ∷ k.CloseBrace ∷ k.Name ∷ k.Semi ∷ []))
    ≡ found (r.Quiet ∷ r.Struct ∷ r.Nameless ∷ r.Basic ∷ r.Declared ∷ r.FieldEnd ∷ r.BodyEnd ∷ r.GivenName ∷ r.TypedefEnd ∷ []) []
unfolding declares
type_name_roles = refl

-- `struct s { union u { T a; } b; struct s *c; };`: a body within a body
struct_alone : item (Item.struct_alone Qualifiers.plain (at 0) (at 1) (at 2)
    (Fields.more_body Qualifiers.plain (at 3) (at 4) (at 5) (Fields.last Qualifiers.plain (Simple.named (at 6)) (plain 7) (at 8) (at 9)) (plain 10) (at 11)
    (Fields.last Qualifiers.plain (Simple.struct_tag (at 12) (at 13)) (record { pointers = at 14 ∷ []; name = at 15; arrays = [] }) (at 16) (at 17))) (at 18)) []
    ≡ tokens (k.Struct ∷ k.Name ∷ k.OpenBrace ∷ k.Struct ∷ k.Name ∷ k.OpenBrace ∷ k.Name ∷ k.Name ∷ k.Semi ∷ k.CloseBrace ∷ k.Name ∷ k.Semi
    ∷ k.Struct ∷ k.Name ∷ k.Star ∷ k.Name ∷ k.Semi ∷ k.CloseBrace ∷ k.Semi ∷ [])
struct_alone = refl

-- and the roles of its tokens
struct_alone_roles : scan start (tokens (k.Struct ∷ k.Name ∷ k.OpenBrace ∷ k.Struct ∷ k.Name ∷ k.OpenBrace ∷ k.Name ∷ k.Name ∷ k.Semi ∷ k.CloseBrace ∷ k.Name ∷ k.Semi
    ∷ k.Struct ∷ k.Name ∷ k.Star ∷ k.Name ∷ k.Semi ∷ k.CloseBrace ∷ k.Semi ∷ []))
    ≡ found (r.Struct ∷ r.Tag ∷ r.Body ∷ r.Struct ∷ r.Tag ∷ r.Body ∷ r.Named ∷ r.Declared ∷ r.FieldEnd ∷ r.BodyEnd ∷ r.Declared ∷ r.FieldEnd
    ∷ r.Struct ∷ r.Tag ∷ r.Star ∷ r.Declared ∷ r.FieldEnd ∷ r.BodyEnd ∷ r.Alone ∷ []) []
unfolding declares
struct_alone_roles = refl

-- `enum e { A, B = 7, C = -0 };`
enum_alone : item (Item.enum_alone Qualifiers.plain (at 0) (at 1) (at 2)
    (Choices.more (at 3) Value.counted (at 4) (Choices.more (at 5) (Value.number (at 6) (at 7)) (at 8) (Choices.last (at 9) (Value.minus_zero (at 10) (at 11) (at 12)) (at 13)))) (at 14)) []
    ≡ tokens (k.Enum ∷ k.Name ∷ k.OpenBrace ∷ k.Name ∷ k.Comma ∷ k.Name ∷ k.Equals ∷ k.Number ∷ k.Comma ∷ k.Name ∷ k.Equals ∷ k.Minus ∷ k.Zero ∷ k.CloseBrace ∷ k.Semi ∷ [])
enum_alone = refl

-- and the roles of its tokens
enum_alone_roles : scan start (tokens (k.Enum ∷ k.Name ∷ k.OpenBrace ∷ k.Name ∷ k.Comma ∷ k.Name ∷ k.Equals ∷ k.Number ∷ k.Comma ∷ k.Name ∷ k.Equals ∷ k.Minus ∷ k.Zero ∷ k.CloseBrace ∷ k.Semi ∷ []))
    ≡ found (r.Enum ∷ r.EnumTag ∷ r.Choices ∷ r.Choice ∷ r.ChoiceEnd ∷ r.Choice ∷ r.Quiet ∷ r.Number ∷ r.ChoiceEnd ∷ r.Choice ∷ r.Quiet ∷ r.Minus ∷ r.Number ∷ r.ChoicesEnd ∷ r.Alone ∷ []) []
enum_alone_roles = refl

-- `void f(void) { }`
a_function : item (Item.function (Specifier.of Qualifiers.plain (Simple.void (at 0))) [] (at 1) (at 2) (Takes.nothing (at 3) (at 4)) (at 5) [] (Statements.end (at 6))) []
    ≡ tokens (k.Void ∷ k.Name ∷ k.OpenParen ∷ k.Void ∷ k.CloseParen ∷ k.OpenBrace ∷ k.CloseBrace ∷ [])
a_function = refl

-- and the roles of its tokens
function_roles : scan start (tokens (k.Void ∷ k.Name ∷ k.OpenParen ∷ k.Void ∷ k.CloseParen ∷ k.OpenBrace ∷ k.CloseBrace ∷ []))
    ≡ found (r.Void ∷ r.GivenName ∷ r.Function ∷ r.Void ∷ r.NoParameters ∷ r.BlockBegin ∷ r.FunctionEnd ∷ []) []
unfolding declares
function_roles = refl

-- `static int f(void *a, int b) { int c; ; { ; } }`: parameters, a local, a block within the block
static_function : item (Item.static_function (at 0) (basic 1) [] (at 2) (at 3)
    (Takes.some (Parameters.more (Specifier.of Qualifiers.plain (Simple.void (at 4))) (at 5 ∷ []) (at 6) (at 7) (Parameters.last (basic 8) [] (at 9) (at 10))))
    (at 11) (record { of = basic 12; shape = plain 13; semi = at 14 } ∷ [])
    (Statements.empty (at 15) (Statements.block (at 16) [] (Statements.empty (at 17) (Statements.end (at 18))) (Statements.end (at 19))))) []
    ≡ tokens (k.Static ∷ k.Basic ∷ k.Name ∷ k.OpenParen ∷ k.Void ∷ k.Star ∷ k.Name ∷ k.Comma ∷ k.Basic ∷ k.Name ∷ k.CloseParen
    ∷ k.OpenBrace ∷ k.Basic ∷ k.Name ∷ k.Semi ∷ k.Semi ∷ k.OpenBrace ∷ k.Semi ∷ k.CloseBrace ∷ k.CloseBrace ∷ [])
static_function = refl

-- and the roles of its tokens
static_function_roles : scan start (tokens (k.Static ∷ k.Basic ∷ k.Name ∷ k.OpenParen ∷ k.Void ∷ k.Star ∷ k.Name ∷ k.Comma ∷ k.Basic ∷ k.Name ∷ k.CloseParen
    ∷ k.OpenBrace ∷ k.Basic ∷ k.Name ∷ k.Semi ∷ k.Semi ∷ k.OpenBrace ∷ k.Semi ∷ k.CloseBrace ∷ k.CloseBrace ∷ []))
    ≡ found (r.Quiet ∷ r.Basic ∷ r.GivenName ∷ r.StaticFunction ∷ r.Void ∷ r.Star ∷ r.ParameterName ∷ r.ParameterEnd ∷ r.Basic ∷ r.ParameterName ∷ r.ParameterEnd
    ∷ r.BlockBegin ∷ r.Basic ∷ r.LocalName ∷ r.LocalEnd ∷ r.Empty ∷ r.BlockBegin ∷ r.Empty ∷ r.BlockEnd ∷ r.FunctionEnd ∷ []) []
unfolding declares
static_function_roles = refl

-- ---- tokens in front of which no item stands

-- none at all
no_token : scan start [] ≡ None
no_token = refl

-- `int a`: the item is not complete
no_end : scan start (tokens (k.Basic ∷ k.Name ∷ [])) ≡ None
unfolding declares
no_end = refl

-- `int f() { }`: between the parentheses nothing stands
empty_parentheses : scan start (tokens (k.Basic ∷ k.Name ∷ k.OpenParen ∷ k.CloseParen ∷ k.OpenBrace ∷ k.CloseBrace ∷ [])) ≡ None
unfolding declares
empty_parentheses = refl

-- `struct { int a; } b;`: a body without a tag outside a typedef
no_tag : scan start (tokens (k.Struct ∷ k.OpenBrace ∷ k.Basic ∷ k.Name ∷ k.Semi ∷ k.CloseBrace ∷ k.Name ∷ k.Semi ∷ [])) ≡ None
no_tag = refl

-- `typedef struct { struct { int a; } b; } c;`: and within the body of one
no_tag_within : scan start (tokens (k.Typedef ∷ k.Struct ∷ k.OpenBrace ∷ k.Struct ∷ k.OpenBrace ∷ k.Basic ∷ k.Name ∷ k.Semi ∷ k.CloseBrace ∷ k.Name ∷ k.Semi ∷ k.CloseBrace ∷ k.Name ∷ k.Semi ∷ [])) ≡ None
no_tag_within = refl

-- `struct s { };`: a body without a field
no_field : scan start (tokens (k.Struct ∷ k.Name ∷ k.OpenBrace ∷ k.CloseBrace ∷ k.Semi ∷ [])) ≡ None
no_field = refl

-- `struct s;`: a tag without a body alone
no_body : scan start (tokens (k.Struct ∷ k.Name ∷ k.Semi ∷ [])) ≡ None
no_body = refl

-- `static struct s { int a; };`: a body alone behind `static`
static_alone : scan start (tokens (k.Static ∷ k.Struct ∷ k.Name ∷ k.OpenBrace ∷ k.Basic ∷ k.Name ∷ k.Semi ∷ k.CloseBrace ∷ k.Semi ∷ [])) ≡ None
unfolding declares
static_alone = refl

-- `int a[0];`: an array of no item
no_length : scan start (tokens (k.Basic ∷ k.Name ∷ k.OpenBracket ∷ k.Zero ∷ k.CloseBracket ∷ k.Semi ∷ [])) ≡ None
unfolding declares
no_length = refl

-- `int f(int a[2]) { }`: a parameter that is an array
array_parameter : scan start (tokens (k.Basic ∷ k.Name ∷ k.OpenParen ∷ k.Basic ∷ k.Name ∷ k.OpenBracket ∷ k.Number ∷ k.CloseBracket ∷ k.CloseParen ∷ k.OpenBrace ∷ k.CloseBrace ∷ [])) ≡ None
unfolding declares
array_parameter = refl

-- `int f(void) { ; int a; }`: a local behind a statement
local_behind_statement : scan start (tokens (k.Basic ∷ k.Name ∷ k.OpenParen ∷ k.Void ∷ k.CloseParen ∷ k.OpenBrace ∷ k.Semi ∷ k.Basic ∷ k.Name ∷ k.Semi ∷ k.CloseBrace ∷ [])) ≡ None
unfolding declares
local_behind_statement = refl

-- `enum e { A, };`: a `,` behind the last choice
comma_behind_last : scan start (tokens (k.Enum ∷ k.Name ∷ k.OpenBrace ∷ k.Name ∷ k.Comma ∷ k.CloseBrace ∷ k.Semi ∷ [])) ≡ None
comma_behind_last = refl
