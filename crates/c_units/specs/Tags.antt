-- Tags and the words of types: a mention, a cross reference, a body that begins; a typedef's name.
use Rattle.std.specs.Prelude.{ℕ, ◌+◌, ◌==◌, if◌then◌else◌, true, false, List, [], ◌∷◌, ◌++◌, Option, Some, None, Result, Ok, Err, codes, length, position, slice_get, slice_set}
use Rattle.std.specs.Str.{bytes_eq}
use Rattle.std.specs.Map.{lookup}
use Rattle.st_base.specs.FirstUses.{used}
use Rattle.st_base.specs.declared.fault.Fault.{Fault}
use Rattle.st_base.specs.declared.fault.TheConstants.{C_UNKNOWN, C_AGAIN, C_LARGE}
use Rattle.c_types.specs.declared.sizes.Extent.{Extent}
use Rattle.c_types.specs.declared.sizes.Size.TheVariants as size
use Rattle.c_types.specs.declared.ctype.Word.{Word}
use Rattle.c_types.specs.declared.ctype.TypeNumber.{TypeNumber}
use Rattle.c_types.specs.declared.ctype.Tag.{Tag}
use Rattle.c_types.specs.declared.ctype.Typedef.{Typedef}
use Rattle.c_types.specs.declared.ctype.CType.{CType}
use Rattle.c_types.specs.declared.ctype.Spelling.TheVariants.{Numbered, Body}
use Rattle.c_types.specs.declared.ctype.Mention.{Mention}
use Rattle.c_units.specs.declared.draft.Draft.{Draft}
use Rattle.c_units.specs.Drafts.{fault, number_limit, is_over, unless, with_text, next_number}
use Rattle.c_types.specs.Lines.{definition_line}
use Rattle.c_types.specs.Named.{name_at}
use Rattle.c_types.specs.Types.{letter, tag_type}

-- ---- the type of a word

-- the type of a typedef
abbrev pub typedef_found : Option Typedef → Fault → Result CType Fault
typedef_found None unknown = Err unknown
typedef_found (Some t) unknown = Ok (record { spelling = Numbered t.number; size = t.size })

-- the type of a name in front of a declarator; unknown where it is no typedef
unfoldable pub typedef_type : List ℕ → ℕ → Draft → Result CType Fault
typedef_type name line u = typedef_found (lookup (bytes_eq name) u.typedefs) (fault C_UNKNOWN line u)

-- ---- mentions

-- a tag that was mentioned before; again where it has another word now
abbrev pub mentioned_again : ℕ → Option Tag → Word → Fault → Draft → Result (Mention × Draft) Fault
mentioned_again place None word again u = Err again
mentioned_again place (Some tag) word again u =
    if letter tag.word == letter word then Ok (record { place = place; word = word; number = tag.number; first = false }, u) else Err again

-- the draft with a new tag
abbrev pub with_tag : Word → List ℕ → Draft → Draft
with_tag word name u = record u {
  tag_names = used bytes_eq u.tag_names name;
  tags = u.tags ++ record { word = word; number = next_number u; begun = false; extent = None } ∷ [];
  next = u.next + 1;
}

abbrev pub mentioned : Option ℕ → Word → List ℕ → ℕ → Draft → Result (Mention × Draft) Fault
mentioned (Some place) word name line u = mentioned_again place (slice_get u.tags place) word (fault C_AGAIN line u) u
mentioned None word name line u =
    unless (is_over number_limit u.next) (fault C_LARGE line u)
    (record { place = length u.tags; word = word; number = next_number u; first = true }, with_tag word name u)

-- a tag is met: it has a number from its first mention on
unfoldable pub mention : Word → List ℕ → ℕ → Draft → Result (Mention × Draft) Fault
mention word name line u = mentioned (position (bytes_eq name) u.tag_names) word name line u

-- a cross reference: `xs`, the tag's name and `:`
abbrev pub cross_line : List ℕ → Word → TypeNumber → List ℕ
cross_line name word number = definition_line name (codes "T") number (120 ∷ (letter word ∷ (name ++ 58 ∷ [])))

-- a tag has no body here: a first mention gives a cross reference
unfoldable pub cross : Mention → Draft → Draft
cross m u =
    if m.first then with_text (cross_line (name_at u.tag_names m.place) m.word m.number) u else u

-- ---- bodies of tags

-- the body of the tag begins, again where one has begun before
abbrev pub begun_at : ℕ → Option Tag → Fault → Draft → Result Draft Fault
begun_at place None again u = Ok u
begun_at place (Some tag) again u =
    if tag.begun then Err again else Ok (record u { tags = slice_set u.tags place (record tag { begun = true }) })

-- a body begins behind the tag
unfoldable pub begin_body : Mention → ℕ → Draft → Result Draft Fault
begin_body m line u = begun_at m.place (slice_get u.tags m.place) (fault C_AGAIN line u) u

-- the tags with the extent of one whose body has ended
abbrev pub set_extent : ℕ → Option Tag → Extent → List Tag → List Tag
set_extent place None extent tags = tags
set_extent place (Some tag) extent tags = slice_set tags place (record tag { extent = Some extent })

-- the body of a tag has ended: its symbol is complete, and the tag has a size
unfoldable pub complete : Mention → Extent → List ℕ → Draft → Draft
complete m extent text u =
    with_text (definition_line (name_at u.tag_names m.place) (codes "T") m.number text)
    (record u { tags = set_extent m.place (slice_get u.tags m.place) extent u.tags })

-- the type of a body that has ended: that of its tag, or the body itself where it has none
abbrev pub closed : Option Mention → Extent → List ℕ → Draft → CType × Draft
closed (Some m) extent text u = (tag_type m, complete m extent text u)
closed None extent text u = (record { spelling = Body text; size = size.Known extent }, u)
