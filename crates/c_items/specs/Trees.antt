-- The items of a source in a subset of C, as trees that hold what each of their tokens says, and the tokens that spell them.
-- After the declarations and definitions of C. Nothing here says how an item is found.
--
-- Each spelling takes the tokens that follow: `item it rest` are the tokens of the item `it`, and then `rest`. Where a constructor
-- takes several `Info`s, they are those of its tokens in the order of the spelling in front of it.
use Rattle.std.specs.Prelude.{◌≡◌, List, [], ◌∷◌}
use Rattle.c_tokens.specs.declared.kind.Kind.TheVariants as k
use Rattle.c_tokens.specs.Tokens.{Info, Token}

-- perhaps `const`, and then perhaps `volatile`
pub data Qualifiers : Type 0 where
  plain : Qualifiers
  with_const : Info → Qualifiers
  with_volatile : Info → Qualifiers
  with_both : Info → Info → Qualifiers

-- the tokens of qualifiers, and then others
abbrev pub qualifiers : Qualifiers → List Token → List Token
qualifiers plain r = r
qualifiers (with_const c) r = (k.Const, c) ∷ r
qualifiers (with_volatile v) r = (k.Volatile, v) ∷ r
qualifiers (with_both c v) r = (k.Const, c) ∷ (k.Volatile, v) ∷ r

-- ---- enumerations

-- what gives a choice of an enum its value: the choice before it, or `= 7`, `= 0`, `= -7`, `= -0`
pub data Value : Type 0 where
  counted : Value
  number : Info → Info → Value
  zero_value : Info → Info → Value
  negative : Info → Info → Info → Value
  minus_zero : Info → Info → Info → Value

-- the tokens of a value, and then others
abbrev pub value : Value → List Token → List Token
value counted r = r
value (number e n) r = (k.Equals, e) ∷ (k.Number, n) ∷ r
value (zero_value e n) r = (k.Equals, e) ∷ (k.Zero, n) ∷ r
value (negative e m n) r = (k.Equals, e) ∷ (k.Minus, m) ∷ (k.Number, n) ∷ r
value (minus_zero e m n) r = (k.Equals, e) ∷ (k.Minus, m) ∷ (k.Zero, n) ∷ r

-- one choice of an enum or more, each a name and perhaps a value, with a `,` between them, and the `}` that ends them
pub data Choices : Type 0 where
  last : Info → Value → Info → Choices
  more : Info → Value → Info → Choices → Choices

-- the tokens of choices with their `}`, and then others
abbrev pub choices : Choices → List Token → List Token
choices (last n v close) r = (k.Name, n) ∷ value v ((k.CloseBrace, close) ∷ r)
choices (more n v comma cs) r = (k.Name, n) ∷ value v ((k.Comma, comma) ∷ choices cs r)

-- ---- types and declarators

-- a type that is named: a basic type, `void`, the name of a typedef, `struct TAG` or `union TAG`, `enum TAG`, `enum TAG {` choices `}`;
-- all but a structure or union with its body
pub data Simple : Type 0 where
  basic : Info → Simple
  void : Info → Simple
  named : Info → Simple
  struct_tag : Info → Info → Simple
  enum_tag : Info → Info → Simple
  enum_body : Info → Info → Info → Choices → Simple

-- the tokens of such a type, and then others
abbrev pub simple : Simple → List Token → List Token
simple (basic i) r = (k.Basic, i) ∷ r
simple (void i) r = (k.Void, i) ∷ r
simple (named i) r = (k.Name, i) ∷ r
simple (struct_tag s t) r = (k.Struct, s) ∷ (k.Name, t) ∷ r
simple (enum_tag e t) r = (k.Enum, e) ∷ (k.Name, t) ∷ r
simple (enum_body e t brace cs) r = (k.Enum, e) ∷ (k.Name, t) ∷ (k.OpenBrace, brace) ∷ choices cs r

-- the length of an array: `[`, a number over 0, `]`
pub record Length : Type 0 where
  pub bracket : Info
  pub size : Info
  pub close : Info

-- the stars of a pointer, and then other tokens
abbrev pub stars : List Info → List Token → List Token
stars [] r = r
stars (i ∷ is) r = (k.Star, i) ∷ stars is r

-- the lengths of an array, and then other tokens
abbrev pub lengths : List Length → List Token → List Token
lengths [] r = r
lengths (l ∷ ls) r = (k.OpenBracket, l.bracket) ∷ (k.Number, l.size) ∷ (k.CloseBracket, l.close) ∷ lengths ls r

-- what stands behind a type in a declaration: stars, the name that is declared, lengths of arrays
pub record Declarator : Type 0 where
  pub pointers : List Info
  pub name : Info
  pub arrays : List Length

-- the tokens of a declarator, and then others
abbrev pub declarator : Declarator → List Token → List Token
declarator d r = stars d.pointers ((k.Name, d.name) ∷ lengths d.arrays r)

-- one field of a structure or union or more, and the `}` that ends them. A field is qualifiers, a type, a declarator and `;`; its type is
-- simple (`last`, `more`), or a structure or union with a tag and a body of its own (`last_body`, `more_body`)
pub data Fields : Type 0 where
  last : Qualifiers → Simple → Declarator → Info → Info → Fields
  last_body : Qualifiers → Info → Info → Info → Fields → Declarator → Info → Info → Fields
  more : Qualifiers → Simple → Declarator → Info → Fields → Fields
  more_body : Qualifiers → Info → Info → Info → Fields → Declarator → Info → Fields → Fields

-- the tokens of fields with their `}`, and then others
abbrev pub fields : Fields → List Token → List Token
fields (last q b d semi close) r = qualifiers q (simple b (declarator d ((k.Semi, semi) ∷ (k.CloseBrace, close) ∷ r)))
fields (last_body q s t brace fs d semi close) r =
    qualifiers q ((k.Struct, s) ∷ (k.Name, t) ∷ (k.OpenBrace, brace) ∷ fields fs (declarator d ((k.Semi, semi) ∷ (k.CloseBrace, close) ∷ r)))
fields (more q b d semi gs) r = qualifiers q (simple b (declarator d ((k.Semi, semi) ∷ fields gs r)))
fields (more_body q s t brace fs d semi gs) r =
    qualifiers q ((k.Struct, s) ∷ (k.Name, t) ∷ (k.OpenBrace, brace) ∷ fields fs (declarator d ((k.Semi, semi) ∷ fields gs r)))

-- what a declaration begins with: qualifiers and a type, which may be a structure or union with a tag and a body
pub data Specifier : Type 0 where
  of : Qualifiers → Simple → Specifier
  body : Qualifiers → Info → Info → Info → Fields → Specifier

-- the tokens of a specifier, and then others
abbrev pub specifier : Specifier → List Token → List Token
specifier (of q b) r = qualifiers q (simple b r)
specifier (body q s t brace fs) r = qualifiers q ((k.Struct, s) ∷ (k.Name, t) ∷ (k.OpenBrace, brace) ∷ fields fs r)

-- what a `typedef` gives a name to: here alone a body may stand without a tag
pub data TypedefSpecifier : Type 0 where
  tagged : Specifier → TypedefSpecifier
  struct_body : Qualifiers → Info → Info → Fields → TypedefSpecifier
  enum_choices : Qualifiers → Info → Info → Choices → TypedefSpecifier

-- the tokens of what a `typedef` gives a name to, and then others
abbrev pub typedef_specifier : TypedefSpecifier → List Token → List Token
typedef_specifier (tagged s) r = specifier s r
typedef_specifier (struct_body q s brace fs) r = qualifiers q ((k.Struct, s) ∷ (k.OpenBrace, brace) ∷ fields fs r)
typedef_specifier (enum_choices q e brace cs) r = qualifiers q ((k.Enum, e) ∷ (k.OpenBrace, brace) ∷ choices cs r)

-- ---- functions

-- a local of a block: a specifier, a declarator and `;`
pub record Local : Type 0 where
  pub of : Specifier
  pub shape : Declarator
  pub semi : Info

-- the tokens of locals, and then others
abbrev pub locals : List Local → List Token → List Token
locals [] r = r
locals (l ∷ ls) r = specifier l.of (declarator l.shape ((k.Semi, l.semi) ∷ locals ls r))

-- the statements of a block, which may be none, and the `}` that ends the block. A statement is `;` or a block: `{`, locals, statements, `}`
pub data Statements : Type 0 where
  end : Info → Statements
  empty : Info → Statements → Statements
  block : Info → List Local → Statements → Statements → Statements

-- the tokens of statements with their `}`, and then others
abbrev pub statements : Statements → List Token → List Token
statements (end close) r = (k.CloseBrace, close) ∷ r
statements (empty semi ss) r = (k.Semi, semi) ∷ statements ss r
statements (block brace ls inner ss) r = (k.OpenBrace, brace) ∷ locals ls (statements inner (statements ss r))

-- one parameter or more, each a specifier, stars and a name, with a `,` between them, and the `)` that ends them
pub data Parameters : Type 0 where
  last : Specifier → List Info → Info → Info → Parameters
  more : Specifier → List Info → Info → Info → Parameters → Parameters

-- the tokens of parameters with their `)`, and then others
abbrev pub parameters : Parameters → List Token → List Token
parameters (last s ps n close) r = specifier s (stars ps ((k.Name, n) ∷ (k.CloseParen, close) ∷ r))
parameters (more s ps n comma rest) r = specifier s (stars ps ((k.Name, n) ∷ (k.Comma, comma) ∷ parameters rest r))

-- what a function takes: nothing, `void )`, or parameters
pub data Takes : Type 0 where
  nothing : Info → Info → Takes
  some : Parameters → Takes

-- the tokens of what a function takes with their `)`, and then others
abbrev pub takes : Takes → List Token → List Token
takes (nothing i close) r = (k.Void, i) ∷ (k.CloseParen, close) ∷ r
takes (some ps) r = parameters ps r

-- ---- items

-- perhaps `static` or `extern` in front of a variable
pub data Storage : Type 0 where
  plain : Storage
  static : Info → Storage
  extern : Info → Storage

-- the word in front of a variable, if there is one, and then other tokens
abbrev pub storage : Storage → List Token → List Token
storage plain r = r
storage (static i) r = (k.Static, i) ∷ r
storage (extern i) r = (k.Extern, i) ∷ r

-- an item of a source: the line of an include; a typedef; a structure, union or enum with a tag and a body, and nothing else; a variable;
-- a function, perhaps static, with its block
pub data Item : Type 0 where
  include : Info → Item
  type_name : Info → TypedefSpecifier → Declarator → Info → Item
  struct_alone : Qualifiers → Info → Info → Info → Fields → Info → Item
  enum_alone : Qualifiers → Info → Info → Info → Choices → Info → Item
  variable : Storage → Specifier → Declarator → Info → Item
  function : Specifier → List Info → Info → Info → Takes → Info → List Local → Statements → Item
  static_function : Info → Specifier → List Info → Info → Info → Takes → Info → List Local → Statements → Item

-- the tokens of an item, and then others
abbrev pub item : Item → List Token → List Token
item (include i) r = (k.Include, i) ∷ r
item (type_name i s d semi) r = (k.Typedef, i) ∷ typedef_specifier s (declarator d ((k.Semi, semi) ∷ r))
item (struct_alone q s t brace fs semi) r = qualifiers q ((k.Struct, s) ∷ (k.Name, t) ∷ (k.OpenBrace, brace) ∷ fields fs ((k.Semi, semi) ∷ r))
item (enum_alone q e t brace cs semi) r = qualifiers q ((k.Enum, e) ∷ (k.Name, t) ∷ (k.OpenBrace, brace) ∷ choices cs ((k.Semi, semi) ∷ r))
item (variable st s d semi) r = storage st (specifier s (declarator d ((k.Semi, semi) ∷ r)))
item (function s ps n lead ts brace ls ss) r =
    specifier s (stars ps ((k.Name, n) ∷ (k.OpenParen, lead) ∷ takes ts ((k.OpenBrace, brace) ∷ locals ls (statements ss r))))
item (static_function i s ps n lead ts brace ls ss) r =
    (k.Static, i) ∷ specifier s (stars ps ((k.Name, n) ∷ (k.OpenParen, lead) ∷ takes ts ((k.OpenBrace, brace) ∷ locals ls (statements ss r))))

-- the item `it` stands in front of the tokens, and `rest` are those behind it
abbrev pub BeginsWith : List Token → Item → List Token → Type 0
BeginsWith ts it rest = ts ≡ item it rest
