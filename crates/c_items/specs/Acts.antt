-- What each token of an item is to it: its *role*. An *act* is a role with what the token says, so the acts of an item are all that has to be
-- known of it in order to carry it out. Each list of acts takes those that follow, as the spellings of trees do.
use Rattle.std.specs.Prelude.{List, [], ◌∷◌}
use Rattle.c_items.specs.declared.role.Role.{Role}
use Rattle.c_items.specs.declared.role.Role.TheVariants as r
use Rattle.c_tokens.specs.Tokens.{Info}
use Rattle.c_items.specs.Trees.{Qualifiers, Value, Choices, Simple, Length, Declarator, Fields, Specifier, TypedefSpecifier, Local, Statements, Parameters, Takes, Storage, Item}

-- a token of an item: what it is there, and what it says
abbrev pub Act : Type 0
Act = Role × Info

-- ---- enumerations

-- of a value: a number may have a minus in front
abbrev pub value_acts : Value → List Act → List Act
value_acts Value.counted ws = ws
value_acts (Value.number e n) ws = (r.Quiet, e) ∷ (r.Number, n) ∷ ws
value_acts (Value.zero_value e n) ws = (r.Quiet, e) ∷ (r.Number, n) ∷ ws
value_acts (Value.negative e m n) ws = (r.Quiet, e) ∷ (r.Minus, m) ∷ (r.Number, n) ∷ ws
value_acts (Value.minus_zero e m n) ws = (r.Quiet, e) ∷ (r.Minus, m) ∷ (r.Number, n) ∷ ws

-- of choices: each has its name, and its `,` or the `}` ends it
abbrev pub choices_acts : Choices → List Act → List Act
choices_acts (Choices.last n v close) ws = (r.Choice, n) ∷ value_acts v ((r.ChoicesEnd, close) ∷ ws)
choices_acts (Choices.more n v comma cs) ws = (r.Choice, n) ∷ value_acts v ((r.ChoiceEnd, comma) ∷ choices_acts cs ws)

-- of qualifiers
abbrev pub qualifiers_acts : Qualifiers → List Act → List Act
qualifiers_acts Qualifiers.plain ws = ws
qualifiers_acts (Qualifiers.with_const i) ws = (r.Const, i) ∷ ws
qualifiers_acts (Qualifiers.with_volatile i) ws = (r.Volatile, i) ∷ ws
qualifiers_acts (Qualifiers.with_both i j) ws = (r.Const, i) ∷ (r.Volatile, j) ∷ ws

-- ---- types and declarators

-- of a type other than a structure or union with its body
abbrev pub simple_acts : Simple → List Act → List Act
simple_acts (Simple.basic i) ws = (r.Basic, i) ∷ ws
simple_acts (Simple.void i) ws = (r.Void, i) ∷ ws
simple_acts (Simple.named i) ws = (r.Named, i) ∷ ws
simple_acts (Simple.struct_tag s t) ws = (r.Struct, s) ∷ (r.Tag, t) ∷ ws
simple_acts (Simple.enum_tag e t) ws = (r.Enum, e) ∷ (r.EnumTag, t) ∷ ws
simple_acts (Simple.enum_body e t brace cs) ws = (r.Enum, e) ∷ (r.EnumTag, t) ∷ (r.Choices, brace) ∷ choices_acts cs ws

-- of stars
abbrev pub stars_acts : List Info → List Act → List Act
stars_acts [] ws = ws
stars_acts (i ∷ is) ws = (r.Star, i) ∷ stars_acts is ws

-- of lengths: the number alone says something
abbrev pub lengths_acts : List Length → List Act → List Act
lengths_acts [] ws = ws
lengths_acts (l ∷ ls) ws = (r.Quiet, l.bracket) ∷ (r.Length, l.size) ∷ (r.Quiet, l.close) ∷ lengths_acts ls ws

-- of a declarator, whose name has the given role
abbrev pub declarator_acts : Role → Declarator → List Act → List Act
declarator_acts a d ws = stars_acts d.pointers ((a, d.name) ∷ lengths_acts d.arrays ws)

-- of fields
abbrev pub fields_acts : Fields → List Act → List Act
fields_acts (Fields.last q b d semi close) ws =
    qualifiers_acts q (simple_acts b (declarator_acts r.Declared d ((r.FieldEnd, semi) ∷ (r.BodyEnd, close) ∷ ws)))
fields_acts (Fields.last_body q s t brace fs d semi close) ws =
    qualifiers_acts q ((r.Struct, s) ∷ (r.Tag, t) ∷ (r.Body, brace) ∷ fields_acts fs (declarator_acts r.Declared d ((r.FieldEnd, semi) ∷ (r.BodyEnd, close) ∷ ws)))
fields_acts (Fields.more q b d semi gs) ws =
    qualifiers_acts q (simple_acts b (declarator_acts r.Declared d ((r.FieldEnd, semi) ∷ fields_acts gs ws)))
fields_acts (Fields.more_body q s t brace fs d semi gs) ws =
    qualifiers_acts q ((r.Struct, s) ∷ (r.Tag, t) ∷ (r.Body, brace) ∷ fields_acts fs (declarator_acts r.Declared d ((r.FieldEnd, semi) ∷ fields_acts gs ws)))

-- of a specifier
abbrev pub specifier_acts : Specifier → List Act → List Act
specifier_acts (Specifier.of q b) ws = qualifiers_acts q (simple_acts b ws)
specifier_acts (Specifier.body q s t brace fs) ws = qualifiers_acts q ((r.Struct, s) ∷ (r.Tag, t) ∷ (r.Body, brace) ∷ fields_acts fs ws)

-- of what a `typedef` gives a name to
abbrev pub typedef_specifier_acts : TypedefSpecifier → List Act → List Act
typedef_specifier_acts (TypedefSpecifier.tagged s) ws = specifier_acts s ws
typedef_specifier_acts (TypedefSpecifier.struct_body q s brace fs) ws = qualifiers_acts q ((r.Struct, s) ∷ (r.Nameless, brace) ∷ fields_acts fs ws)
typedef_specifier_acts (TypedefSpecifier.enum_choices q e brace cs) ws = qualifiers_acts q ((r.Enum, e) ∷ (r.NamelessChoices, brace) ∷ choices_acts cs ws)

-- ---- functions

-- of locals
abbrev pub locals_acts : List Local → List Act → List Act
locals_acts [] ws = ws
locals_acts (l ∷ ls) ws = specifier_acts l.of (declarator_acts r.LocalName l.shape ((r.LocalEnd, l.semi) ∷ locals_acts ls ws))

-- of statements: the `}` behind them ends a block within a block, or the function, by the given role
abbrev pub statements_acts : Statements → Role → List Act → List Act
statements_acts (Statements.end close) a ws = (a, close) ∷ ws
statements_acts (Statements.empty semi ss) a ws = (r.Empty, semi) ∷ statements_acts ss a ws
statements_acts (Statements.block brace ls inner ss) a ws =
    (r.BlockBegin, brace) ∷ locals_acts ls (statements_acts inner r.BlockEnd (statements_acts ss a ws))

-- of parameters
abbrev pub parameters_acts : Parameters → List Act → List Act
parameters_acts (Parameters.last s ps n close) ws = specifier_acts s (stars_acts ps ((r.ParameterName, n) ∷ (r.ParameterEnd, close) ∷ ws))
parameters_acts (Parameters.more s ps n comma rest) ws = specifier_acts s (stars_acts ps ((r.ParameterName, n) ∷ (r.ParameterEnd, comma) ∷ parameters_acts rest ws))

-- of what a function takes
abbrev pub takes_acts : Takes → List Act → List Act
takes_acts (Takes.nothing i close) ws = (r.Void, i) ∷ (r.NoParameters, close) ∷ ws
takes_acts (Takes.some ps) ws = parameters_acts ps ws

-- of a function from its specifier on, with the roles of its name and of the `(` behind it
abbrev pub function_acts : Role → Specifier → List Info → Info → Role → Info → Takes → Info → List Local → Statements → List Act
function_acts g sp is i a lead t brace ls ss =
    specifier_acts sp (stars_acts is ((g, i) ∷ (a, lead) ∷ takes_acts t ((r.BlockBegin, brace) ∷ locals_acts ls (statements_acts ss r.FunctionEnd []))))

-- ---- items

-- of an item: all its tokens, each with its role, in their order
abbrev pub item_acts : Item → List Act
item_acts (Item.include i) = (r.Include, i) ∷ []
item_acts (Item.type_name i s d semi) = (r.Quiet, i) ∷ typedef_specifier_acts s (declarator_acts r.GivenName d ((r.TypedefEnd, semi) ∷ []))
item_acts (Item.struct_alone q s t brace fs semi) = qualifiers_acts q ((r.Struct, s) ∷ (r.Tag, t) ∷ (r.Body, brace) ∷ fields_acts fs ((r.Alone, semi) ∷ []))
item_acts (Item.enum_alone q e t brace cs semi) = qualifiers_acts q ((r.Enum, e) ∷ (r.EnumTag, t) ∷ (r.Choices, brace) ∷ choices_acts cs ((r.Alone, semi) ∷ []))
item_acts (Item.variable Storage.plain s d semi) = specifier_acts s (declarator_acts r.GivenName d ((r.VariableEnd, semi) ∷ []))
item_acts (Item.variable (Storage.static i) s d semi) = (r.Quiet, i) ∷ specifier_acts s (declarator_acts r.GivenName d ((r.StaticEnd, semi) ∷ []))
item_acts (Item.variable (Storage.extern i) s d semi) = (r.Quiet, i) ∷ specifier_acts s (declarator_acts r.Declared d ((r.ExternEnd, semi) ∷ []))
item_acts (Item.function s ps n lead t brace ls ss) = function_acts r.GivenName s ps n r.Function lead t brace ls ss
item_acts (Item.static_function i s ps n lead t brace ls ss) = (r.Quiet, i) ∷ function_acts r.GivenName s ps n r.StaticFunction lead t brace ls ss
