-- A token opens at most one body and one block.
use Rattle.std.proofs.Common.{ℕ, zero, suc, ◌+◌, ◌≤◌, arith}
use Rattle.c_tokens.specs.declared.kind.Kind.{Kind}
use Rattle.c_tokens.specs.declared.kind.Kind.TheVariants as k
use Rattle.c_items.specs.declared.state.Context.{Context}
use Rattle.c_items.specs.declared.state.Context.TheVariants as c
use Rattle.c_items.specs.declared.state.Place.{Place}
use Rattle.c_items.specs.declared.state.Place.TheVariants as p
use Rattle.c_items.specs.declared.state.State.{State}
use Rattle.c_items.specs.declared.role.Role.{Role}
use Rattle.c_items.specs.declared.role.Role.TheVariants as r
use Rattle.c_items.specs.declared.state.Next.{Next}
use Rattle.c_items.specs.declared.state.Next.TheVariants.{Wrong, Done, Go}
use Rattle.c_items.specs.Steps as steps
use Rattle.c_items.specs.Steps.{step}

-- of so many bodies and blocks at most one more is open then
abbrev pub Small : ℕ → ℕ → Next → Type 0
Small m n Wrong = Unit {0}
Small m n (Done a) = Unit {0}
Small m n (Go a s) = (s.bodies ≤ m + 1) × (s.blocks ≤ n + 1)

-- ---- the same for each part of a step: the lemma of a definition of `Steps` has its name, and their order is the same

base_small : (t : Kind) (x : Context) (m n : ℕ) → Small m n (steps.base t x m n)
base_small k.Basic x m n = (omega arith, omega arith)
base_small k.Void x m n = (omega arith, omega arith)
base_small k.Name x m n = (omega arith, omega arith)
base_small k.Struct x m n = (omega arith, omega arith)
base_small k.Enum x m n = (omega arith, omega arith)
base_small _ x m n = tt

behind_const_small : (t : Kind) (x : Context) (m n : ℕ) → Small m n (steps.behind_const t x m n)
behind_const_small k.Volatile x m n = (omega arith, omega arith)
behind_const_small t x m n = base_small t x m n

specifier_step_small : (t : Kind) (x : Context) (m n : ℕ) → Small m n (steps.specifier_step t x m n)
specifier_step_small k.Const x m n = (omega arith, omega arith)
specifier_step_small t x m n = behind_const_small t x m n

fields_step_small : (t : Kind) (x : Context) (m n : ℕ) → Small m n (steps.fields_step t x m n)
fields_step_small k.CloseBrace x zero n = (omega arith, omega arith)
fields_step_small k.CloseBrace x (suc m) n = (omega arith, omega arith)
fields_step_small t x m n = specifier_step_small t x m n

nameless_small : (a : Role) (q : Place) (x : Context) (b m n : ℕ) → m ≤ suc b → Small b n (steps.nameless a q x b m n)
nameless_small a q x (suc b) m n h = tt
nameless_small a q c.Typedef zero m n h = (omega arith, omega arith)
nameless_small a q x zero m n h = tt

struct_step_small : (t : Kind) (x : Context) (m n : ℕ) → Small m n (steps.struct_step t x m n)
struct_step_small k.Name x m n = (omega arith, omega arith)
struct_step_small k.OpenBrace x m n = nameless_small r.Nameless p.Specifier x m (suc m) n (omega arith)
struct_step_small _ x m n = tt

enum_step_small : (t : Kind) (x : Context) (m n : ℕ) → Small m n (steps.enum_step t x m n)
enum_step_small k.Name x m n = (omega arith, omega arith)
enum_step_small k.OpenBrace x m n = nameless_small r.NamelessChoices p.Choice x m m n (omega arith)
enum_step_small _ x m n = tt

after_small : (t : Kind) (x : Context) (m n : ℕ) → Small m n (steps.after t x m n)
after_small k.Star x m n = (omega arith, omega arith)
after_small k.Name x m n = (omega arith, omega arith)
after_small _ x m n = tt

struct_tag_step_small : (t : Kind) (x : Context) (m n : ℕ) → Small m n (steps.struct_tag_step t x m n)
struct_tag_step_small k.OpenBrace x m n = (omega arith, omega arith)
struct_tag_step_small t x m n = after_small t x m n

enum_tag_step_small : (t : Kind) (x : Context) (m n : ℕ) → Small m n (steps.enum_tag_step t x m n)
enum_tag_step_small k.OpenBrace x m n = (omega arith, omega arith)
enum_tag_step_small t x m n = after_small t x m n

choice_step_small : (t : Kind) (x : Context) (m n : ℕ) → Small m n (steps.choice_step t x m n)
choice_step_small k.Name x m n = (omega arith, omega arith)
choice_step_small _ x m n = tt

valued_step_small : (t : Kind) (x : Context) (m n : ℕ) → Small m n (steps.valued_step t x m n)
valued_step_small k.Comma x m n = (omega arith, omega arith)
valued_step_small k.CloseBrace x m n = (omega arith, omega arith)
valued_step_small _ x m n = tt

chosen_step_small : (t : Kind) (x : Context) (m n : ℕ) → Small m n (steps.chosen_step t x m n)
chosen_step_small k.Equals x m n = (omega arith, omega arith)
chosen_step_small t x m n = valued_step_small t x m n

minus_step_small : (t : Kind) (x : Context) (m n : ℕ) → Small m n (steps.minus_step t x m n)
minus_step_small k.Number x m n = (omega arith, omega arith)
minus_step_small k.Zero x m n = (omega arith, omega arith)
minus_step_small _ x m n = tt

equal_step_small : (t : Kind) (x : Context) (m n : ℕ) → Small m n (steps.equal_step t x m n)
equal_step_small k.Minus x m n = (omega arith, omega arith)
equal_step_small t x m n = minus_step_small t x m n

alone_small : (x : Context) (m n : ℕ) → Small m n (steps.alone x m)
alone_small x (suc m) n = tt
alone_small c.Plain zero n = tt
alone_small x zero n = tt

bodied_step_small : (t : Kind) (x : Context) (m n : ℕ) → Small m n (steps.bodied_step t x m n)
bodied_step_small k.Semi x m n = alone_small x m n
bodied_step_small t x m n = after_small t x m n

ended_small : (x : Context) (m n : ℕ) → Small m n (steps.ended x m n)
ended_small x (suc m) n = (omega arith, omega arith)
ended_small c.Local zero n = (omega arith, omega arith)
ended_small c.Parameter zero n = tt
ended_small c.Typedef zero n = tt
ended_small c.Plain zero n = tt
ended_small c.Static zero n = tt
ended_small c.Extern zero n = tt

parameter_end_small : (t : Kind) (n : ℕ) → Small 0 n (steps.parameter_end t n)
parameter_end_small k.Comma n = (omega arith, omega arith)
parameter_end_small k.CloseParen n = (omega arith, omega arith)
parameter_end_small _ n = tt

parameter_small : (t : Kind) (x : Context) (m n : ℕ) → Small m n (steps.parameter t x m n)
parameter_small t x (suc m) n = tt
parameter_small t c.Parameter zero n = parameter_end_small t n
parameter_small t x zero n = tt

bracket_small : (x : Context) (m n : ℕ) → Small m n (steps.bracket x m n)
bracket_small x (suc m) n = (omega arith, omega arith)
bracket_small c.Parameter zero n = tt
bracket_small x zero n = (omega arith, omega arith)

paren_small : (x : Context) (m n : ℕ) → Small m n (steps.paren x m n)
paren_small x (suc m) n = tt
paren_small c.Plain zero n = (omega arith, omega arith)
paren_small c.Static zero n = (omega arith, omega arith)
paren_small _ zero n = tt

named_step_small : (t : Kind) (x : Context) (m n : ℕ) → Small m n (steps.named_step t x m n)
named_step_small k.Semi x m n = ended_small x m n
named_step_small k.OpenBracket x m n = bracket_small x m n
named_step_small k.OpenParen x m n = paren_small x m n
named_step_small t x m n = parameter_small t x m n

length_step_small : (t : Kind) (x : Context) (m n : ℕ) → Small m n (steps.length_step t x m n)
length_step_small k.Number x m n = (omega arith, omega arith)
length_step_small _ x m n = tt

lengthened_step_small : (t : Kind) (x : Context) (m n : ℕ) → Small m n (steps.lengthened_step t x m n)
lengthened_step_small k.CloseBracket x m n = (omega arith, omega arith)
lengthened_step_small _ x m n = tt

closed_step_small : (t : Kind) (x : Context) (m n : ℕ) → Small m n (steps.closed_step t x m n)
closed_step_small k.Semi x m n = ended_small x m n
closed_step_small k.OpenBracket x m n = bracket_small x m n
closed_step_small _ x m n = tt

parameters_step_small : (t : Kind) (x : Context) (m n : ℕ) → Small m n (steps.parameters_step t x m n)
parameters_step_small k.Void x m n = (omega arith, omega arith)
parameters_step_small t x m n = specifier_step_small t x m n

void_step_small : (t : Kind) (x : Context) (m n : ℕ) → Small m n (steps.void_step t x m n)
void_step_small k.CloseParen x m n = (omega arith, omega arith)
void_step_small t x m n = after_small t x m n

paren_step_small : (t : Kind) (x : Context) (m n : ℕ) → Small m n (steps.paren_step t x m n)
paren_step_small k.OpenBrace x m n = (omega arith, omega arith)
paren_step_small _ x m n = tt

closing_small : (m n : ℕ) → Small m n (steps.closing n)
closing_small m (suc (suc n)) = (omega arith, omega arith)
closing_small m _ = tt

statements_step_small : (t : Kind) (x : Context) (m n : ℕ) → Small m n (steps.statements_step t x m n)
statements_step_small k.Semi x m n = (omega arith, omega arith)
statements_step_small k.OpenBrace x m n = (omega arith, omega arith)
statements_step_small k.CloseBrace x m n = closing_small m n
statements_step_small _ x m n = tt

locals_step_small : (t : Kind) (x : Context) (m n : ℕ) → Small m n (steps.locals_step t x m n)
locals_step_small k.Semi x m n = statements_step_small k.Semi x m n
locals_step_small k.OpenBrace x m n = statements_step_small k.OpenBrace x m n
locals_step_small k.CloseBrace x m n = statements_step_small k.CloseBrace x m n
locals_step_small t x m n = specifier_step_small t x m n

-- what holds of a state with nothing open holds of any
weaker : (m n : ℕ) (x : Next) → Small 0 0 x → Small m n x
weaker m n Wrong h = tt
weaker m n (Done a) h = tt
weaker m n (Go a s) h = (let e : s.bodies ≤ 0 + 1 = h.0 in omega arith, let e : s.blocks ≤ 0 + 1 = h.1 in omega arith)

start_step_small : (t : Kind) (m n : ℕ) → Small m n (steps.start_step t)
start_step_small k.Include m n = tt
start_step_small k.Typedef m n = (omega arith, omega arith)
start_step_small k.Static m n = (omega arith, omega arith)
start_step_small k.Extern m n = (omega arith, omega arith)
start_step_small t m n = weaker m n (steps.specifier_step t c.Plain 0 0) (specifier_step_small t c.Plain 0 0)

-- ---- each token

-- at a place
step_at_small : (q : Place) (t : Kind) (x : Context) (m n : ℕ) → Small m n (steps.step_at q t x m n)
step_at_small p.Start t x m n = start_step_small t m n
step_at_small p.Specifier t x m n = specifier_step_small t x m n
step_at_small p.Const t x m n = behind_const_small t x m n
step_at_small p.Volatile t x m n = base_small t x m n
step_at_small p.Struct t x m n = struct_step_small t x m n
step_at_small p.StructTag t x m n = struct_tag_step_small t x m n
step_at_small p.Enum t x m n = enum_step_small t x m n
step_at_small p.EnumTag t x m n = enum_tag_step_small t x m n
step_at_small p.Choice t x m n = choice_step_small t x m n
step_at_small p.Chosen t x m n = chosen_step_small t x m n
step_at_small p.Equal t x m n = equal_step_small t x m n
step_at_small p.Minus t x m n = minus_step_small t x m n
step_at_small p.Valued t x m n = valued_step_small t x m n
step_at_small p.Fields t x m n = fields_step_small t x m n
step_at_small p.After t x m n = after_small t x m n
step_at_small p.Bodied t x m n = bodied_step_small t x m n
step_at_small p.Named t x m n = named_step_small t x m n
step_at_small p.Length t x m n = length_step_small t x m n
step_at_small p.Lengthened t x m n = lengthened_step_small t x m n
step_at_small p.Closed t x m n = closed_step_small t x m n
step_at_small p.Parameters t x m n = parameters_step_small t x m n
step_at_small p.Void t x m n = void_step_small t x m n
step_at_small p.Paren t x m n = paren_step_small t x m n
step_at_small p.Locals t x m n = locals_step_small t x m n
step_at_small p.Statements t x m n = statements_step_small t x m n

-- at a state
pub step_small : (s : State) (t : Kind) → Small s.bodies s.blocks (step s t)
step_small s t = step_at_small s.place t s.context s.bodies s.blocks
