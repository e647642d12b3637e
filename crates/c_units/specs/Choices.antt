-- The choices of an enum and their values.
use Rattle.std.specs.Prelude.{ℕ, ◌+◌, ◌-◌, ◌==◌, nat_le, if◌then◌else◌, Bool, true, false, List, [], ◌∷◌, ◌++◌, Option, Some, None, Result, decimal}
use Rattle.st_base.specs.declared.fault.Fault.{Fault}
use Rattle.st_base.specs.declared.fault.TheConstants.{C_LARGE}
use Rattle.c_types.specs.declared.ctype.CType.{CType}
use Rattle.c_types.specs.declared.ctype.Mention.{Mention}
use Rattle.c_units.specs.declared.choices.Whole.{Whole}
use Rattle.c_units.specs.declared.choices.Listed.{Listed}
use Rattle.c_units.specs.declared.draft.Draft.{Draft}
use Rattle.c_types.specs.Sizes.{word_extent}
use Rattle.c_units.specs.Drafts.{fault, number_limit, is_over, unless}
use Rattle.c_units.specs.Tags.{closed}

-- the digits of a value, behind `-` where it is below 0
abbrev pub whole_text : Whole → List ℕ
whole_text w = if w.size == 0 then 48 ∷ [] else ((if w.below then 45 ∷ [] else []) ++ decimal w.size)

-- a value and 1
abbrev pub next_whole : Whole → Whole
next_whole w =
    if w.below then (if nat_le w.size 1 then record { below = false; size = 1 - w.size } else record { below = true; size = w.size - 1 })
    else record { below = false; size = w.size + 1 }

-- the value that is written, else the next one
abbrev pub chosen : Option Whole → Whole → Whole
chosen None next = next
chosen (Some value) next = value

-- a value over the limit
abbrev pub is_large : Whole → Bool
is_large w = if w.below then false else is_over number_limit w.size

-- no choice yet: the first has the value 0
abbrev pub no_choices : Listed
no_choices = record { text = []; next = record { below = false; size = 0 } }

-- `NAME:VALUE,`
abbrev pub choice_text : List ℕ → Whole → List ℕ
choice_text name value = name ++ (58 ∷ (whole_text value ++ 44 ∷ []))

-- a choice more
abbrev pub with_choice : List ℕ → Whole → Listed → Listed
with_choice name value l = record { text = l.text ++ choice_text name value; next = next_whole value }

-- a choice is added; large at the token that ends it where its value is over the limit
unfoldable pub add_choice : List ℕ → Option Whole → ℕ → Draft → Listed → Result Listed Fault
add_choice name value line u l =
    unless (is_large (chosen value l.next)) (fault C_LARGE line u) (with_choice name (chosen value l.next) l)

-- `e`, the choices and `;`
abbrev pub enum_with : List ℕ → List ℕ
enum_with choices = 101 ∷ (choices ++ 59 ∷ [])

-- the choices end
unfoldable pub close_enum : Option Mention → Listed → Draft → CType × Draft
close_enum tag l u = closed tag word_extent (enum_with l.text) u
