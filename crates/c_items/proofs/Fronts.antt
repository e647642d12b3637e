-- The part of an item that was read, as a tree with a place in it. `front z ts` are the tokens read, and then ts.
use Rattle.std.proofs.Common.{◌≡◌, ℕ, suc, List, [], ◌∷◌, refl, ap, ◌∙◌}
use Rattle.c_tokens.specs.declared.kind.Kind.TheVariants as k
use Rattle.c_items.specs.declared.state.Context.{Context}
use Rattle.c_items.specs.declared.state.Context.TheVariants as c
use Rattle.c_items.specs.declared.state.Place.{Place}
use Rattle.c_items.specs.declared.state.Place.TheVariants as p
use Rattle.c_items.specs.declared.state.State.{State}
use Rattle.c_tokens.specs.Tokens.{Info, Token}
use Rattle.c_items.specs.Trees.{Qualifiers, Value, Choices, Simple, Length, Declarator, Fields, Specifier, Local, Statements, Parameters, Takes}
use Rattle.c_items.specs.Trees.{qualifiers, value, choices, simple, stars, lengths, declarator, fields, specifier, locals, statements, parameters, takes}
use Rattle.c_items.specs.Steps.{at}

-- ---- lists that were read are kept backwards

-- a list backwards, in front of another
abbrev pub turned : {A : Type 0} → List A → List A → List A
turned [] ys = ys
turned (x ∷ xs) ys = turned xs (x ∷ ys)

-- stars that were read, the last first, and then other tokens
abbrev pub stars_read : List Info → List Token → List Token
stars_read [] r = r
stars_read (i ∷ is) r = stars_read is ((k.Star, i) ∷ r)

-- stars that were read, and those behind them, are the stars of both
pub stars_turned : (is js : List Info) (r : List Token) → stars_read is (stars js r) ≡ stars (turned is js) r
stars_turned [] js r = refl
stars_turned (i ∷ is) js r = stars_turned is (i ∷ js) r

-- lengths that were read, the last first, and then other tokens
abbrev pub lengths_read : List Length → List Token → List Token
lengths_read [] r = r
lengths_read (l ∷ ls) r = lengths_read ls ((k.OpenBracket, l.bracket) ∷ (k.Number, l.size) ∷ (k.CloseBracket, l.close) ∷ r)

-- lengths that were read, and those behind them, are the lengths of both
pub lengths_turned : (ls ms : List Length) (r : List Token) → lengths_read ls (lengths ms r) ≡ lengths (turned ls ms) r
lengths_turned [] ms r = refl
lengths_turned (l ∷ ls) ms r = lengths_turned ls (l ∷ ms) r

-- the declarator of stars and lengths that were read, and a name between them
abbrev pub declared : List Info → Info → List Length → Declarator
declared is i ls = record { pointers = turned is []; name = i; arrays = turned ls [] }

-- stars, a name and lengths that were read are its tokens
pub declared_read : (is : List Info) (i : Info) (ls : List Length) (r : List Token)
    → stars_read is ((k.Name, i) ∷ lengths_read ls r) ≡ declarator (declared is i ls) r
declared_read is i ls r =
    ap (λ t. stars_read is ((k.Name, i) ∷ t)) (lengths_turned ls [] r) ∙ stars_turned is [] ((k.Name, i) ∷ lengths (turned ls []) r)

-- ---- fields

-- a field: its type is simple, or has a body of its own
pub data Field : Type 0 where
  plain : Qualifiers → Simple → Declarator → Info → Field
  body : Qualifiers → Info → Info → Info → Fields → Declarator → Info → Field

-- the tokens of a field, and then others
abbrev pub field : Field → List Token → List Token
field (plain q b d semi) r = qualifiers q (simple b (declarator d ((k.Semi, semi) ∷ r)))
field (body q s t brace fs d semi) r =
    qualifiers q ((k.Struct, s) ∷ (k.Name, t) ∷ (k.OpenBrace, brace) ∷ fields fs (declarator d ((k.Semi, semi) ∷ r)))

-- the field of a specifier, a declarator and `;`
abbrev pub field_of : Specifier → Declarator → Info → Field
field_of (Specifier.of q b) d semi = plain q b d semi
field_of (Specifier.body q s t brace fs) d semi = body q s t brace fs d semi

-- it has their tokens
pub field_is : (sp : Specifier) (d : Declarator) (semi : Info) (r : List Token) → specifier sp (declarator d ((k.Semi, semi) ∷ r)) ≡ field (field_of sp d semi) r
field_is (Specifier.of q b) d semi r = refl
field_is (Specifier.body q s t brace fs) d semi r = refl

-- fields that were read, the last first, and then other tokens
abbrev pub fields_read : List Field → List Token → List Token
fields_read [] r = r
fields_read (f ∷ fs) r = fields_read fs (field f r)

-- a field in front of fields
abbrev pub put : Field → Fields → Fields
put (plain q b d semi) gs = Fields.more q b d semi gs
put (body q s t brace fs d semi) gs = Fields.more_body q s t brace fs d semi gs

-- a field and the `}` behind it
abbrev pub one : Field → Info → Fields
one (plain q b d semi) close = Fields.last q b d semi close
one (body q s t brace fs d semi) close = Fields.last_body q s t brace fs d semi close

-- fields that were read in front of fields
abbrev pub grown : List Field → Fields → Fields
grown [] gs = gs
grown (f ∷ fs) gs = grown fs (put f gs)

-- fields that were read, and fields behind them, are the fields of both
pub grown_read : (fs : List Field) (gs : Fields) (r : List Token) → fields_read fs (fields gs r) ≡ fields (grown fs gs) r
grown_read [] gs r = refl
grown_read (plain q b d semi ∷ fs) gs r = grown_read fs (Fields.more q b d semi gs) r
grown_read (body q s t brace hs d semi ∷ fs) gs r = grown_read fs (Fields.more_body q s t brace hs d semi gs) r

-- the fields that were read, once the `}` comes
abbrev pub closed : Field → List Field → Info → Fields
closed f fs close = grown fs (one f close)

-- they have the tokens that were read, and the `}`
pub closed_read : (f : Field) (fs : List Field) (close : Info) (r : List Token) → fields_read (f ∷ fs) ((k.CloseBrace, close) ∷ r) ≡ fields (closed f fs close) r
closed_read (plain q b d semi) fs close r = grown_read fs (Fields.last q b d semi close) r
closed_read (body q s t brace hs d semi) fs close r = grown_read fs (Fields.last_body q s t brace hs d semi close) r

-- ---- choices

-- a choice and the `,` behind it
pub record Choice : Type 0 where
  pub name : Info
  pub what : Value
  pub comma : Info

-- choices that were read, the last first, and then other tokens
abbrev pub choices_read : List Choice → List Token → List Token
choices_read [] r = r
choices_read (x ∷ xs) r = choices_read xs ((k.Name, x.name) ∷ value x.what ((k.Comma, x.comma) ∷ r))

-- choices that were read in front of choices
abbrev pub choices_grown : List Choice → Choices → Choices
choices_grown [] cs = cs
choices_grown (x ∷ xs) cs = choices_grown xs (Choices.more x.name x.what x.comma cs)

-- choices that were read, and choices behind them, are the choices of both
pub choices_closed : (xs : List Choice) (cs : Choices) (r : List Token) → choices_read xs (choices cs r) ≡ choices (choices_grown xs cs) r
choices_closed [] cs r = refl
choices_closed (x ∷ xs) cs r = choices_closed xs (Choices.more x.name x.what x.comma cs) r

-- ---- functions

-- a function up to its `(`, without or with `static`
pub data Head : Type 0 where
  common : Specifier → List Info → Info → Info → Head
  static : Info → Specifier → List Info → Info → Info → Head

-- the tokens of that, and then others
abbrev pub head : Head → List Token → List Token
head (common sp is i lead) r = specifier sp (stars is ((k.Name, i) ∷ (k.OpenParen, lead) ∷ r))
head (static s sp is i lead) r = (k.Static, s) ∷ specifier sp (stars is ((k.Name, i) ∷ (k.OpenParen, lead) ∷ r))

-- a parameter and the `,` behind it
pub record Parameter : Type 0 where
  pub of : Specifier
  pub pointers : List Info
  pub name : Info
  pub comma : Info

-- parameters that were read, the last first, and then other tokens
abbrev pub parameters_read : List Parameter → List Token → List Token
parameters_read [] r = r
parameters_read (x ∷ xs) r = parameters_read xs (specifier x.of (stars x.pointers ((k.Name, x.name) ∷ (k.Comma, x.comma) ∷ r)))

-- parameters that were read in front of parameters
abbrev pub parameters_grown : List Parameter → Parameters → Parameters
parameters_grown [] ps = ps
parameters_grown (x ∷ xs) ps = parameters_grown xs (Parameters.more x.of x.pointers x.name x.comma ps)

-- parameters that were read, and parameters behind them, are the parameters of both
pub parameters_closed : (xs : List Parameter) (ps : Parameters) (r : List Token) → parameters_read xs (parameters ps r) ≡ parameters (parameters_grown xs ps) r
parameters_closed [] ps r = refl
parameters_closed (x ∷ xs) ps r = parameters_closed xs (Parameters.more x.of x.pointers x.name x.comma ps) r

-- locals that were read, the last first, and then other tokens
abbrev pub locals_read : List Local → List Token → List Token
locals_read [] r = r
locals_read (l ∷ ls) r = locals_read ls (specifier l.of (declarator l.shape ((k.Semi, l.semi) ∷ r)))

-- locals that were read, and those behind them, are the locals of both
pub locals_turned : (ls ms : List Local) (r : List Token) → locals_read ls (locals ms r) ≡ locals (turned ls ms) r
locals_turned [] ms r = refl
locals_turned (l ∷ ls) ms r = locals_turned ls (l ∷ ms) r

-- a statement: `;` or a block
pub data Statement : Type 0 where
  empty : Info → Statement
  block : Info → List Local → Statements → Statement

-- the tokens of a statement, and then others
abbrev pub statement : Statement → List Token → List Token
statement (empty semi) r = (k.Semi, semi) ∷ r
statement (block brace ls ss) r = (k.OpenBrace, brace) ∷ locals ls (statements ss r)

-- statements that were read, the last first, and then other tokens
abbrev pub statements_read : List Statement → List Token → List Token
statements_read [] r = r
statements_read (s ∷ ss) r = statements_read ss (statement s r)

-- a statement in front of statements
abbrev pub before : Statement → Statements → Statements
before (empty semi) ss = Statements.empty semi ss
before (block brace ls inner) ss = Statements.block brace ls inner ss

-- statements that were read in front of statements
abbrev pub statements_grown : List Statement → Statements → Statements
statements_grown [] ss = ss
statements_grown (x ∷ xs) ss = statements_grown xs (before x ss)

-- statements that were read, and statements behind them, are the statements of both
pub statements_closed : (xs : List Statement) (ss : Statements) (r : List Token) → statements_read xs (statements ss r) ≡ statements (statements_grown xs ss) r
statements_closed [] ss r = refl
statements_closed (empty semi ∷ xs) ss r = statements_closed xs (Statements.empty semi ss) r
statements_closed (block brace ls inner ∷ xs) ss r = statements_closed xs (Statements.block brace ls inner ss) r

-- the blocks that are open: the locals and statements in each before the next
pub data Blocks : Type 0 where
  first : Blocks
  within : Blocks → List Local → List Statement → Info → Blocks

-- how many blocks are open within the block of the function
abbrev pub level : Blocks → ℕ
level first = 0
level (within b ls ss brace) = suc (level b)

-- the tokens of the blocks that are open, and then others
abbrev pub blocks_read : Blocks → List Token → List Token
blocks_read first r = r
blocks_read (within b ls ss brace) r = blocks_read b (locals_read ls (statements_read ss ((k.OpenBrace, brace) ∷ r)))

-- ---- places

-- all up to the outermost specifier that is being read
pub data Outer : Type 0 where
  in_typedef : Info → Outer
  in_plain : Outer
  in_static : Info → Outer
  in_extern : Info → Outer
  in_parameters : Head → List Parameter → Outer
  in_locals : Head → Takes → Info → Blocks → List Local → Outer

-- the tokens of that, and then others
abbrev pub outer : Outer → List Token → List Token
outer (in_typedef i) r = (k.Typedef, i) ∷ r
outer in_plain r = r
outer (in_static i) r = (k.Static, i) ∷ r
outer (in_extern i) r = (k.Extern, i) ∷ r
outer (in_parameters h xs) r = head h (parameters_read xs r)
outer (in_locals h t brace b ls) r = head h (takes t ((k.OpenBrace, brace) ∷ blocks_read b (locals_read ls r)))

-- what that specifier belongs to
abbrev pub context : Outer → Context
context (in_typedef i) = c.Typedef
context in_plain = c.Plain
context (in_static i) = c.Static
context (in_extern i) = c.Extern
context (in_parameters h xs) = c.Parameter
context (in_locals h t brace b ls) = c.Local

-- how many blocks are open
abbrev pub open_blocks : Outer → ℕ
open_blocks (in_locals h t brace b ls) = suc (level b)
open_blocks _ = 0

-- a body with a tag, or of a typedef without one, and its fields so far
pub data Under : Type 0 where
  top : Outer → Under
  tagged : Under → Qualifiers → Info → Info → Info → List Field → Under
  nameless : Info → Qualifiers → Info → Info → List Field → Under

-- the tokens of that, and then others
abbrev pub under : Under → List Token → List Token
under (top o) r = outer o r
under (tagged u q s t brace fs) r = under u (qualifiers q ((k.Struct, s) ∷ (k.Name, t) ∷ (k.OpenBrace, brace) ∷ fields_read fs r))
under (nameless i q s brace fs) r = (k.Typedef, i) ∷ qualifiers q ((k.Struct, s) ∷ (k.OpenBrace, brace) ∷ fields_read fs r)

-- what the outermost specifier belongs to
abbrev pub context_of : Under → Context
context_of (top o) = context o
context_of (tagged u q s t brace fs) = context_of u
context_of (nameless i q s brace fs) = c.Typedef

-- how many bodies are open
abbrev pub bodies_of : Under → ℕ
bodies_of (top o) = 0
bodies_of (tagged u q s t brace fs) = suc (bodies_of u)
bodies_of (nameless i q s brace fs) = 1

-- how many blocks are open
abbrev pub blocks_of : Under → ℕ
blocks_of (top o) = open_blocks o
blocks_of (tagged u q s t brace fs) = blocks_of u
blocks_of (nameless i q s brace fs) = 0

-- a place where nothing of a list was read, and one where something was
abbrev pub in_list : {A : Type 0} → Place → Place → List A → Place
in_list q q' [] = q
in_list q q' (x ∷ xs) = q'

-- where a specifier may begin
abbrev pub outer_place : Outer → Place
outer_place (in_typedef i) = p.Specifier
outer_place in_plain = p.Start
outer_place (in_static i) = p.Specifier
outer_place (in_extern i) = p.Specifier
outer_place (in_parameters h xs) = in_list p.Parameters p.Specifier xs
outer_place (in_locals h t brace b ls) = p.Locals

-- where a specifier may begin within bodies
abbrev pub entry_of : Under → Place
entry_of (top o) = outer_place o
entry_of (tagged u q s t brace fs) = in_list p.Specifier p.Fields fs
entry_of (nameless i q s brace fs) = in_list p.Specifier p.Fields fs

-- all up to a specifier, and the specifier
pub data Spot : Type 0 where
  of : Under → Specifier → Spot
  nameless_struct : Info → Qualifiers → Info → Info → Fields → Spot
  nameless_enum : Info → Qualifiers → Info → Info → Choices → Spot

-- the tokens of that, and then others
abbrev pub spot : Spot → List Token → List Token
spot (of u sp) r = under u (specifier sp r)
spot (nameless_struct i q s brace fs) r = (k.Typedef, i) ∷ qualifiers q ((k.Struct, s) ∷ (k.OpenBrace, brace) ∷ fields fs r)
spot (nameless_enum i q s brace cs) r = (k.Typedef, i) ∷ qualifiers q ((k.Enum, s) ∷ (k.OpenBrace, brace) ∷ choices cs r)

-- the state at a place within bodies
abbrev pub at_under : Place → Under → State
at_under q u = at q (context_of u) (bodies_of u) (blocks_of u)

-- the bodies that the specifier stands in
abbrev pub spot_under : Spot → Under
spot_under (of u sp) = u
spot_under (nameless_struct i w s brace fs) = top (in_typedef i)
spot_under (nameless_enum i w s brace cs) = top (in_typedef i)

-- the state at a place behind the specifier
abbrev pub at_spot : Place → Spot → State
at_spot q s = at_under q (spot_under s)

-- an enum's body, and its choices so far
pub data Listing : Type 0 where
  of : Under → Qualifiers → Info → Info → Info → List Choice → Listing
  nameless : Info → Qualifiers → Info → Info → List Choice → Listing

-- the tokens of that, and then others
abbrev pub listing : Listing → List Token → List Token
listing (of u q s t brace xs) r = under u (qualifiers q ((k.Enum, s) ∷ (k.Name, t) ∷ (k.OpenBrace, brace) ∷ choices_read xs r))
listing (nameless i q s brace xs) r = (k.Typedef, i) ∷ qualifiers q ((k.Enum, s) ∷ (k.OpenBrace, brace) ∷ choices_read xs r)

-- the bodies that the enum stands in
abbrev pub listing_under : Listing → Under
listing_under (of u q s t brace xs) = u
listing_under (nameless i q s brace xs) = top (in_typedef i)

-- the state at a place among the choices
abbrev pub at_listing : Place → Listing → State
at_listing q l = at_under q (listing_under l)

-- the part of an item that was read, one form for each place
pub data Front : Type 0 where
  entry : Under → Front
  behind_const : Under → Info → Front
  behind_volatile : Under → Qualifiers → Front
  behind_struct : Under → Qualifiers → Info → Front
  behind_tag : Under → Qualifiers → Info → Info → Front
  behind_enum : Under → Qualifiers → Info → Front
  behind_enum_tag : Under → Qualifiers → Info → Info → Front
  choice : Listing → Front
  chosen : Listing → Info → Front
  equal : Listing → Info → Info → Front
  minus : Listing → Info → Info → Info → Front
  valued : Listing → Info → Value → Front
  after : Spot → List Info → Front
  bodied_struct : Under → Qualifiers → Info → Info → Info → Fields → Front
  bodied_enum : Under → Qualifiers → Info → Info → Info → Choices → Front
  bodied_nameless : Info → Qualifiers → Info → Info → Fields → Front
  bodied_nameless_enum : Info → Qualifiers → Info → Info → Choices → Front
  named : Spot → List Info → Info → Front
  length : Spot → List Info → Info → List Length → Info → Front
  lengthened : Spot → List Info → Info → List Length → Info → Info → Front
  shut : Spot → List Info → Info → List Length → Front
  void : Head → Info → Front
  paren : Head → Takes → Front
  doing : Head → Takes → Info → Blocks → List Local → List Statement → Front

-- the tokens of that, and then others
abbrev pub front : Front → List Token → List Token
front (entry u) r = under u r
front (behind_const u i) r = under u ((k.Const, i) ∷ r)
front (behind_volatile u q) r = under u (qualifiers q r)
front (behind_struct u q s) r = under u (qualifiers q ((k.Struct, s) ∷ r))
front (behind_tag u q s t) r = under u (qualifiers q ((k.Struct, s) ∷ (k.Name, t) ∷ r))
front (behind_enum u q s) r = under u (qualifiers q ((k.Enum, s) ∷ r))
front (behind_enum_tag u q s t) r = under u (qualifiers q ((k.Enum, s) ∷ (k.Name, t) ∷ r))
front (choice l) r = listing l r
front (chosen l i) r = listing l ((k.Name, i) ∷ r)
front (equal l i e) r = listing l ((k.Name, i) ∷ (k.Equals, e) ∷ r)
front (minus l i e m) r = listing l ((k.Name, i) ∷ (k.Equals, e) ∷ (k.Minus, m) ∷ r)
front (valued l i v) r = listing l ((k.Name, i) ∷ value v r)
front (after s is) r = spot s (stars_read is r)
front (bodied_struct u q s t brace fs) r = spot (Spot.of u (Specifier.body q s t brace fs)) r
front (bodied_enum u q s t brace cs) r = spot (Spot.of u (Specifier.of q (Simple.enum_body s t brace cs))) r
front (bodied_nameless i q s brace fs) r = spot (nameless_struct i q s brace fs) r
front (bodied_nameless_enum i q s brace cs) r = spot (nameless_enum i q s brace cs) r
front (named s is i) r = spot s (stars_read is ((k.Name, i) ∷ r))
front (length s is i ls j) r = spot s (stars_read is ((k.Name, i) ∷ lengths_read ls ((k.OpenBracket, j) ∷ r)))
front (lengthened s is i ls j n) r = spot s (stars_read is ((k.Name, i) ∷ lengths_read ls ((k.OpenBracket, j) ∷ (k.Number, n) ∷ r)))
front (shut s is i ls) r = spot s (stars_read is ((k.Name, i) ∷ lengths_read ls r))
front (void h i) r = head h ((k.Void, i) ∷ r)
front (paren h t) r = head h (takes t r)
front (doing h t brace b ls ss) r = head h (takes t ((k.OpenBrace, brace) ∷ blocks_read b (locals_read ls (statements_read ss r))))

-- where in the item that is
abbrev pub state : Front → State
state (entry u) = at_under (entry_of u) u
state (behind_const u i) = at_under p.Const u
state (behind_volatile u q) = at_under p.Volatile u
state (behind_struct u q s) = at_under p.Struct u
state (behind_tag u q s t) = at_under p.StructTag u
state (behind_enum u q s) = at_under p.Enum u
state (behind_enum_tag u q s t) = at_under p.EnumTag u
state (choice l) = at_listing p.Choice l
state (chosen l i) = at_listing p.Chosen l
state (equal l i e) = at_listing p.Equal l
state (minus l i e m) = at_listing p.Minus l
state (valued l i v) = at_listing p.Valued l
state (after s is) = at_spot p.After s
state (bodied_struct u q s t brace fs) = at_under p.Bodied u
state (bodied_enum u q s t brace cs) = at_under p.Bodied u
state (bodied_nameless i q s brace fs) = at_under p.Bodied (top (in_typedef i))
state (bodied_nameless_enum i q s brace cs) = at_under p.Bodied (top (in_typedef i))
state (named s is i) = at_spot p.Named s
state (length s is i ls j) = at_spot p.Length s
state (lengthened s is i ls j n) = at_spot p.Lengthened s
state (shut s is i ls) = at_spot p.Closed s
state (void h i) = at p.Void c.Parameter 0 0
state (paren h t) = at p.Paren c.Parameter 0 0
state (doing h t brace b ls ss) = at p.Statements c.Local 0 (suc (level b))
