-- How the end of an item is found: what each token does at each place. What is open is two counts, of bodies and of blocks, so that an
-- item of any depth takes no memory. What this says of items is the matter of `item_laws`: `scan` from the start finds exactly the items
-- of `Trees`, and their acts. In each definition x is the context, and m and n are how many bodies and how many blocks are open.
use Rattle.std.specs.Prelude.{ℕ, zero, suc, pred, List, [], ◌∷◌, Option, None, Some}
use Rattle.c_tokens.specs.declared.kind.Kind.{Kind}
use Rattle.c_tokens.specs.declared.kind.Kind.TheVariants as k
use Rattle.c_items.specs.declared.state.Context.{Context}
use Rattle.c_items.specs.declared.state.Context.TheVariants as c
use Rattle.c_items.specs.declared.state.Place.{Place}
use Rattle.c_items.specs.declared.state.Place.TheVariants as p
use Rattle.c_items.specs.declared.state.State.{State}
use Rattle.c_items.specs.declared.role.Role.{Role}
use Rattle.c_items.specs.declared.role.Role.TheVariants as r
use Rattle.c_items.specs.declared.state.Next.{Next}
use Rattle.c_items.specs.declared.state.Next.TheVariants.{Wrong, Done, Go}
use Rattle.c_tokens.specs.Tokens.{Info, Token}
use Rattle.c_items.specs.Acts.{Act}

-- the state at a place, in a context, with so many bodies and blocks open
abbrev pub at : Place → Context → ℕ → ℕ → State
at q x m n = record { place = q; context = x; bodies = m; blocks = n }

-- the item goes on: the role of the token, and the next state
abbrev pub go : Role → Place → Context → ℕ → ℕ → Next
go a q x m n = Go a (at q x m n)

-- the type of a specifier, behind its `const` and `volatile`
abbrev pub base : Kind → Context → ℕ → ℕ → Next
base k.Basic x m n = go r.Basic p.After x m n
base k.Void x m n = go r.Void p.After x m n
base k.Name x m n = go r.Named p.After x m n
base k.Struct x m n = go r.Struct p.Struct x m n
base k.Enum x m n = go r.Enum p.Enum x m n
base _ x m n = Wrong

-- behind `const`
abbrev pub behind_const : Kind → Context → ℕ → ℕ → Next
behind_const k.Volatile x m n = go r.Volatile p.Volatile x m n
behind_const t x m n = base t x m n

-- where a specifier begins
abbrev pub specifier_step : Kind → Context → ℕ → ℕ → Next
specifier_step k.Const x m n = go r.Const p.Const x m n
specifier_step t x m n = behind_const t x m n

-- behind a field: the `}` of the body, or another field
abbrev pub fields_step : Kind → Context → ℕ → ℕ → Next
fields_step k.CloseBrace x m n = go r.BodyEnd p.Bodied x (pred m) n
fields_step t x m n = specifier_step t x m n

-- a body without a tag: only as the body of a typedef
abbrev pub nameless : Role → Place → Context → ℕ → ℕ → ℕ → Next
nameless a q x (suc b) m n = Wrong
nameless a q c.Typedef zero m n = go a q c.Typedef m n
nameless a q x zero m n = Wrong

-- behind `struct` or `union`
abbrev pub struct_step : Kind → Context → ℕ → ℕ → Next
struct_step k.Name x m n = go r.Tag p.StructTag x m n
struct_step k.OpenBrace x m n = nameless r.Nameless p.Specifier x m (suc m) n
struct_step _ x m n = Wrong

-- behind `enum`
abbrev pub enum_step : Kind → Context → ℕ → ℕ → Next
enum_step k.Name x m n = go r.EnumTag p.EnumTag x m n
enum_step k.OpenBrace x m n = nameless r.NamelessChoices p.Choice x m m n
enum_step _ x m n = Wrong

-- the role of a name that is declared
unfoldable pub declares : Context → ℕ → Role
declares x (suc m) = r.Declared
declares c.Parameter zero = r.ParameterName
declares c.Local zero = r.LocalName
declares c.Extern zero = r.Declared
declares _ zero = r.GivenName

-- behind a type: stars and a name
abbrev pub after : Kind → Context → ℕ → ℕ → Next
after k.Star x m n = go r.Star p.After x m n
after k.Name x m n = go (declares x m) p.Named x m n
after _ x m n = Wrong

-- behind the tag of a structure or union: a body, or stars and a name
abbrev pub struct_tag_step : Kind → Context → ℕ → ℕ → Next
struct_tag_step k.OpenBrace x m n = go r.Body p.Specifier x (suc m) n
struct_tag_step t x m n = after t x m n

-- behind the tag of an enum: choices, or stars and a name
abbrev pub enum_tag_step : Kind → Context → ℕ → ℕ → Next
enum_tag_step k.OpenBrace x m n = go r.Choices p.Choice x m n
enum_tag_step t x m n = after t x m n

-- where a choice begins
abbrev pub choice_step : Kind → Context → ℕ → ℕ → Next
choice_step k.Name x m n = go r.Choice p.Chosen x m n
choice_step _ x m n = Wrong

-- behind a choice with its value
abbrev pub valued_step : Kind → Context → ℕ → ℕ → Next
valued_step k.Comma x m n = go r.ChoiceEnd p.Choice x m n
valued_step k.CloseBrace x m n = go r.ChoicesEnd p.Bodied x m n
valued_step _ x m n = Wrong

-- behind the name of a choice
abbrev pub chosen_step : Kind → Context → ℕ → ℕ → Next
chosen_step k.Equals x m n = go r.Quiet p.Equal x m n
chosen_step t x m n = valued_step t x m n

-- behind the `-` of a choice
abbrev pub minus_step : Kind → Context → ℕ → ℕ → Next
minus_step k.Number x m n = go r.Number p.Valued x m n
minus_step k.Zero x m n = go r.Number p.Valued x m n
minus_step _ x m n = Wrong

-- behind the `=` of a choice
abbrev pub equal_step : Kind → Context → ℕ → ℕ → Next
equal_step k.Minus x m n = go r.Minus p.Minus x m n
equal_step t x m n = minus_step t x m n

-- the `;` right behind a body
abbrev pub alone : Context → ℕ → Next
alone _ (suc m) = Wrong
alone c.Plain zero = Done r.Alone
alone _ zero = Wrong

-- behind the `}` of a body
abbrev pub bodied_step : Kind → Context → ℕ → ℕ → Next
bodied_step k.Semi x m n = alone x m
bodied_step t x m n = after t x m n

-- the `;` of a declaration: a field within a body, else what the context says
abbrev pub ended : Context → ℕ → ℕ → Next
ended x (suc m) n = go r.FieldEnd p.Fields x (suc m) n
ended c.Local zero n = go r.LocalEnd p.Locals c.Local zero n
ended c.Parameter zero n = Wrong
ended c.Typedef zero n = Done r.TypedefEnd
ended c.Plain zero n = Done r.VariableEnd
ended c.Static zero n = Done r.StaticEnd
ended c.Extern zero n = Done r.ExternEnd

-- the `,` or `)` behind a parameter
abbrev pub parameter_end : Kind → ℕ → Next
parameter_end k.Comma n = go r.ParameterEnd p.Specifier c.Parameter zero n
parameter_end k.CloseParen n = go r.ParameterEnd p.Paren c.Parameter zero n
parameter_end _ n = Wrong

-- behind a declared name, where only a parameter may end
abbrev pub parameter : Kind → Context → ℕ → ℕ → Next
parameter t x (suc m) n = Wrong
parameter t c.Parameter zero n = parameter_end t n
parameter t x zero n = Wrong

-- the `[` behind a declared name
abbrev pub bracket : Context → ℕ → ℕ → Next
bracket x (suc m) n = go r.Quiet p.Length x (suc m) n
bracket c.Parameter zero n = Wrong
bracket x zero n = go r.Quiet p.Length x zero n

-- the `(` behind a declared name: a function, static or not
abbrev pub paren : Context → ℕ → ℕ → Next
paren x (suc m) n = Wrong
paren c.Plain zero n = go r.Function p.Parameters c.Parameter zero n
paren c.Static zero n = go r.StaticFunction p.Parameters c.Parameter zero n
paren _ zero n = Wrong

-- behind a declared name
abbrev pub named_step : Kind → Context → ℕ → ℕ → Next
named_step k.Semi x m n = ended x m n
named_step k.OpenBracket x m n = bracket x m n
named_step k.OpenParen x m n = paren x m n
named_step t x m n = parameter t x m n

-- behind `[`
abbrev pub length_step : Kind → Context → ℕ → ℕ → Next
length_step k.Number x m n = go r.Length p.Lengthened x m n
length_step _ x m n = Wrong

-- behind the number of a length
abbrev pub lengthened_step : Kind → Context → ℕ → ℕ → Next
lengthened_step k.CloseBracket x m n = go r.Quiet p.Closed x m n
lengthened_step _ x m n = Wrong

-- behind `]`
abbrev pub closed_step : Kind → Context → ℕ → ℕ → Next
closed_step k.Semi x m n = ended x m n
closed_step k.OpenBracket x m n = bracket x m n
closed_step _ x m n = Wrong

-- behind the `(` of a function
abbrev pub parameters_step : Kind → Context → ℕ → ℕ → Next
parameters_step k.Void x m n = go r.Void p.Void x m n
parameters_step t x m n = specifier_step t x m n

-- behind the `void` there: nothing is taken, or it is the type of a parameter
abbrev pub void_step : Kind → Context → ℕ → ℕ → Next
void_step k.CloseParen x m n = go r.NoParameters p.Paren x m n
void_step t x m n = after t x m n

-- behind the `)` of a function: its block
abbrev pub paren_step : Kind → Context → ℕ → ℕ → Next
paren_step k.OpenBrace x m n = go r.BlockBegin p.Locals c.Local m 1
paren_step _ x m n = Wrong

-- the `}` of a block: of the function where one block is open, else of a block within one
abbrev pub closing : ℕ → Next
closing (suc (suc n)) = go r.BlockEnd p.Statements c.Local zero (suc n)
closing _ = Done r.FunctionEnd

-- behind a statement of a block
abbrev pub statements_step : Kind → Context → ℕ → ℕ → Next
statements_step k.Semi x m n = go r.Empty p.Statements c.Local zero n
statements_step k.OpenBrace x m n = go r.BlockBegin p.Locals c.Local zero (suc n)
statements_step k.CloseBrace x m n = closing n
statements_step _ x m n = Wrong

-- in a block, where a local may begin: a statement or the `}` may stand there too
abbrev pub locals_step : Kind → Context → ℕ → ℕ → Next
locals_step k.Semi x m n = statements_step k.Semi x m n
locals_step k.OpenBrace x m n = statements_step k.OpenBrace x m n
locals_step k.CloseBrace x m n = statements_step k.CloseBrace x m n
locals_step t x m n = specifier_step t x m n

-- the first token of an item
abbrev pub start_step : Kind → Next
start_step k.Include = Done r.Include
start_step k.Typedef = go r.Quiet p.Specifier c.Typedef 0 0
start_step k.Static = go r.Quiet p.Specifier c.Static 0 0
start_step k.Extern = go r.Quiet p.Specifier c.Extern 0 0
start_step t = specifier_step t c.Plain 0 0

-- what a token does at a place
abbrev pub step_at : Place → Kind → Context → ℕ → ℕ → Next
step_at p.Start t x m n = start_step t
step_at p.Specifier t x m n = specifier_step t x m n
step_at p.Const t x m n = behind_const t x m n
step_at p.Volatile t x m n = base t x m n
step_at p.Struct t x m n = struct_step t x m n
step_at p.StructTag t x m n = struct_tag_step t x m n
step_at p.Enum t x m n = enum_step t x m n
step_at p.EnumTag t x m n = enum_tag_step t x m n
step_at p.Choice t x m n = choice_step t x m n
step_at p.Chosen t x m n = chosen_step t x m n
step_at p.Equal t x m n = equal_step t x m n
step_at p.Minus t x m n = minus_step t x m n
step_at p.Valued t x m n = valued_step t x m n
step_at p.Fields t x m n = fields_step t x m n
step_at p.After t x m n = after t x m n
step_at p.Bodied t x m n = bodied_step t x m n
step_at p.Named t x m n = named_step t x m n
step_at p.Length t x m n = length_step t x m n
step_at p.Lengthened t x m n = lengthened_step t x m n
step_at p.Closed t x m n = closed_step t x m n
step_at p.Parameters t x m n = parameters_step t x m n
step_at p.Void t x m n = void_step t x m n
step_at p.Paren t x m n = paren_step t x m n
step_at p.Locals t x m n = locals_step t x m n
step_at p.Statements t x m n = statements_step t x m n

-- what a token does at a state
abbrev pub step : State → Kind → Next
step s t = step_at s.place t s.context s.bodies s.blocks

-- ---- scanning

-- the acts of an item and the tokens behind it, if an item stands in front
abbrev pub Scanned : Type 0
Scanned = Option (List Act × List Token)

-- an act in front of those
abbrev pub before : Act → Scanned → Scanned
before a None = None
before a (Some x) = Some (a ∷ x.0, x.1)

-- what a token comes to, if `on` says what the tokens behind it do at the next state
abbrev pub onward : Next → Info → List Token → (State → Scanned) → Scanned
onward Wrong i ts on = None
onward (Done a) i ts on = Some ((a, i) ∷ [], ts)
onward (Go a s) i ts on = before (a, i) (on s)

-- from a state on, the acts of the item that stands in front, and the tokens behind it; none where no item does
abbrev pub scan : State → List Token → Scanned
scan s [] = None
scan s (t ∷ ts) = onward (step s t.0) t.1 ts (λ s'. scan s' ts)

-- the state before an item
abbrev pub start : State
start = at p.Start c.Plain 0 0
