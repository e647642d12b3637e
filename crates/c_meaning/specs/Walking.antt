-- What each token of an item does to the walk over it: the open bodies are a list, and nothing recurs.
use Rattle.std.specs.Prelude.{ℕ, suc, List, [], ◌∷◌, ◌++◌, Bool, true, false, Option, Some, None, Result, Ok}
use Rattle.st_base.specs.declared.fault.Fault.{Fault}
use Rattle.c_tokens.specs.Tokens.{Info}
use Rattle.c_items.specs.declared.role.Role.{Role}
use Rattle.c_items.specs.declared.role.Role.TheVariants as r
use Rattle.c_types.specs.declared.ctype.Qualifiers.{Qualifiers as Marks}
use Rattle.c_types.specs.declared.ctype.CType.{CType}
use Rattle.c_types.specs.declared.ctype.Mention.{Mention}
use Rattle.c_types.specs.declared.ctype.Word.TheVariants as word
use Rattle.c_units.specs.declared.draft.Draft.{Draft}
use Rattle.c_types.specs.Types.{basic_type}
use Rattle.c_types.specs.Types.{tag_type}
use Rattle.c_units.specs.Tags.{typedef_type, mention, cross, begin_body}
use Rattle.c_units.specs.Choices.{no_choices, add_choice, close_enum}
use Rattle.c_units.specs.Layouts.{empty, add_field, close_body}
use Rattle.c_units.specs.Declarations.{give_name, add_typedef, add_variable, add_static, add_extern}
use Rattle.c_units.specs.Functions.{begin_function, give_param, add_param, begin_block, end_locals, end_block, add_statement, give_local, add_local}
use Rattle.c_meaning.specs.declared.walk.Frame.{Frame}
use Rattle.c_meaning.specs.declared.walk.Part.{Part}
use Rattle.c_meaning.specs.declared.walk.Walk.{Walk}
use Rattle.c_meaning.specs.Meaning.{◌>>=◌, word_of, Give, Add}

-- ---- states of the walk

-- nothing is known but a type of this base
abbrev pub known : Marks → CType → Part
known q t = record {
  declared = record { qualifiers = q; base = t; stars = 0; lengths = [] };
  word = word.Struct;
  tag = None;
  tag_line = 0;
  name = [];
  name_line = 0;
  listed = no_choices;
  below = false;
  value = None;
}

-- nothing is known; `void` stands for a base that is not known
abbrev pub unknown : Part
unknown = known (record { constant = false; volatile = false }) (basic_type 10)

-- in front of a specifier
abbrev pub ready : Draft → List Frame → Walk
ready u fs = record { draft = u; frames = fs; part = unknown }

-- behind a specifier
abbrev pub based : Marks → CType → Draft → List Frame → Walk
based q t u fs = record { draft = u; frames = fs; part = known q t }

-- behind what ends a part of an item that no body is around
abbrev pub done : Draft → Result Walk Fault
done u = Ok (ready u [])

-- ---- changes of what is known

-- `const`
abbrev pub with_const : Part → Part
with_const p = record p { declared = record p.declared { qualifiers = record p.declared.qualifiers { constant = true } } }

-- `volatile`
abbrev pub with_volatile : Part → Part
with_volatile p = record p { declared = record p.declared { qualifiers = record p.declared.qualifiers { volatile = true } } }

-- the base of the type
abbrev pub with_base : CType → Part → Part
with_base t p = record p { declared = record p.declared { base = t } }

-- a star
abbrev pub starred : Part → Part
starred p = record p { declared = record p.declared { stars = suc p.declared.stars } }

-- the length of an array
abbrev pub with_length : ℕ → Part → Part
with_length n p = record p { declared = record p.declared { lengths = p.declared.lengths ++ n ∷ [] } }

-- the name that is declared
abbrev pub with_name : Info → Part → Part
with_name i p = record p { name = i.text; name_line = i.line }

-- the part changes
abbrev pub changed : Walk → Part → Walk
changed w p = record w { part = p }

-- ---- tags and bodies

-- a tag is met; whether a body follows is known one token later
abbrev pub tag_act : Info → Walk → Result Walk Fault
tag_act i w =
    mention w.part.word i.text i.line w.draft >>= λ m. Ok (record { draft = m.1; frames = w.frames; part = record w.part { tag = Some m.0; tag_line = i.line } })

-- a tag that no body stands behind is the base
abbrev pub settle : Option Mention → Walk → Walk
settle None w = w
settle (Some m) w = based w.part.declared.qualifiers (tag_type m) (cross m w.draft) w.frames

abbrev pub settled : Walk → Walk
settled w = settle w.part.tag w

-- the name of a typedef is the base
abbrev pub typedef_act : Info → Walk → Result Walk Fault
typedef_act i w = typedef_type i.text i.line w.draft >>= λ t. Ok (changed w (with_base t w.part))

-- the body of the tag begins
abbrev pub begun : Walk → Option Mention → Result Draft Fault
begun w None = Ok w.draft
begun w (Some m) = begin_body m w.part.tag_line w.draft

-- the same, as it stands in the walk
abbrev pub begin_act : Walk → Result Walk Fault
begin_act w = begun w w.part.tag >>= λ u. Ok (record w { draft = u })

-- a body is open
abbrev pub opened : Walk → Draft → Walk
opened w u = ready u (record { qualifiers = w.part.declared.qualifiers; tag = w.part.tag; layout = empty w.part.word } ∷ w.frames)

-- the body of the tag begins, and is open
abbrev pub open_act : Walk → Result Walk Fault
open_act w = begun w w.part.tag >>= λ u. Ok (opened w u)

-- a field of the innermost body is over
abbrev pub field_end : Info → Walk → List Frame → Result Walk Fault
field_end i w [] = Ok w
field_end i w (f ∷ fs) =
    add_field w.part.name w.part.declared i.line w.draft f.layout >>= λ l. Ok (ready w.draft (record f { layout = l } ∷ fs))

-- the innermost body is over, and is the base
abbrev pub body_end : Info → Walk → List Frame → Result Walk Fault
body_end i w [] = Ok w
body_end i w (f ∷ fs) = close_body f.tag f.layout i.line w.draft >>= λ x. Ok (based f.qualifiers x.0 x.1 fs)

-- ---- choices

-- a choice is added at the line of the token that ends it
abbrev pub with_choice : ℕ → Walk → Result Walk Fault
with_choice line w = add_choice w.part.name w.part.value line w.draft w.part.listed >>= λ l. Ok (changed w (record w.part { listed = l }))

-- another choice comes
abbrev pub next_choice : Walk → Walk
next_choice w = changed w (record w.part { below = false; value = None; name = [] })

-- the choices end, and are the base
abbrev pub closed : Walk → CType × Draft → Walk
closed w x = based w.part.declared.qualifiers x.0 x.1 w.frames

-- a choice is over
abbrev pub choice_act : Info → Walk → Result Walk Fault
choice_act i w = with_choice i.line w >>= λ v. Ok (next_choice v)

-- the last choice is over
abbrev pub choices_act : Info → Walk → Result Walk Fault
choices_act i w = with_choice i.line w >>= λ v. Ok (closed v (close_enum v.part.tag v.part.listed v.draft))

-- ---- declarations

-- a name is given, and is that of the declaration
abbrev pub name_act : Give → Info → Walk → Result Walk Fault
name_act give i w = give i.text i.line w.draft >>= λ u. Ok (record { draft = u; frames = w.frames; part = with_name i w.part })

-- the lines of a function
abbrev pub function_act : Bool → Walk → Result Walk Fault
function_act static w = begin_function static w.part.name w.part.declared w.part.name_line w.draft >>= done

-- what is declared is added, at the line of the token that ends the declaration
abbrev pub added : Add → ℕ → Walk → Result Walk Fault
added add line w = add w.part.name w.part.declared line w.draft >>= done

-- an `extern` gives nothing
abbrev pub extern_at : ℕ → Walk → Result Walk Fault
extern_at line w = add_extern w.part.declared line w.draft >>= done

-- a name that is in no scope
abbrev pub declared_act : Info → Walk → Result Walk Fault
declared_act i w = Ok (changed (settled w) (with_name i (settled w).part))

-- a block begins
abbrev pub block_act : Walk → Result Walk Fault
block_act w = done (begin_block (end_locals w.draft))

-- a statement, on its line
abbrev pub statement_at : ℕ → Walk → Result Walk Fault
statement_at line w = add_statement line (end_locals w.draft) >>= done

-- a block ends
abbrev pub block_end : Walk → Result Walk Fault
block_end w = done (end_block (end_locals w.draft))

-- ---- acts

-- what the `;`, `)` or `{` does that ends a part of an item, and what a statement does
abbrev pub end_act : Role → Info → Walk → Result Walk Fault
end_act r.TypedefEnd i w = added add_typedef i.line w
end_act r.VariableEnd i w = added add_variable i.line w
end_act r.StaticEnd i w = added add_static i.line w
end_act r.ExternEnd i w = extern_at i.line w
end_act r.ParameterEnd i w = added add_param i.line w
end_act r.LocalEnd i w = added add_local i.line w
end_act r.NoParameters i w = done w.draft
end_act r.Alone i w = done w.draft
end_act r.Function i w = function_act false w
end_act r.StaticFunction i w = function_act true w
end_act r.BlockBegin i w = block_act w
end_act r.Empty i w = statement_at i.line w
end_act r.BlockEnd i w = block_end w
end_act r.FunctionEnd i w = block_end w
end_act _ i w = Ok w

-- what a token of a body or of choices does
abbrev pub body_act : Role → Info → Walk → Result Walk Fault
body_act r.Body i w = open_act w
body_act r.Nameless i w = Ok (opened w w.draft)
body_act r.FieldEnd i w = field_end i w w.frames
body_act r.BodyEnd i w = body_end i w w.frames
body_act r.Choices i w = begin_act w
body_act r.Choice i w = Ok (changed w (record w.part { name = i.text }))
body_act r.Minus i w = Ok (changed w (record w.part { below = true }))
body_act r.Number i w = Ok (changed w (record w.part { value = Some (record { below = w.part.below; size = i.number }) }))
body_act r.ChoiceEnd i w = choice_act i w
body_act r.ChoicesEnd i w = choices_act i w
body_act a i w = end_act a i w

-- what a token of this role does
abbrev pub act : Role → Info → Walk → Result Walk Fault
act r.Const i w = Ok (changed w (with_const w.part))
act r.Volatile i w = Ok (changed w (with_volatile w.part))
act r.Basic i w = Ok (changed w (with_base (basic_type i.number) w.part))
act r.Void i w = Ok (changed w (with_base (basic_type 10) w.part))
act r.Named i w = typedef_act i w
act r.Struct i w = Ok (changed w (record w.part { word = word_of i.number }))
act r.Enum i w = Ok (changed w (record w.part { word = word.Enum }))
act r.Tag i w = tag_act i w
act r.EnumTag i w = tag_act i w
act r.Star i w = Ok (changed (settled w) (starred (settled w).part))
act r.Length i w = Ok (changed w (with_length i.number w.part))
act r.Declared i w = declared_act i w
act r.GivenName i w = name_act give_name i (settled w)
act r.ParameterName i w = name_act give_param i (settled w)
act r.LocalName i w = name_act give_local i (settled w)
act a i w = body_act a i w
