-- Where the fields of a structure or a union stand, and how large it is.
use Rattle.std.specs.Prelude.{ℕ, ◌+◌, ◌*◌, nat_le, if◌then◌else◌, List, [], ◌∷◌, ◌++◌, Option, Some, None, Result, Err, decimal}
use Rattle.st_base.specs.declared.fault.Fault.{Fault}
use Rattle.st_base.specs.declared.fault.TheConstants.{C_INCOMPLETE, C_LARGE}
use Rattle.c_types.specs.declared.sizes.Alignment.TheVariants.{One}
use Rattle.c_types.specs.declared.sizes.Extent.{Extent}
use Rattle.c_types.specs.declared.sizes.TheConstants.{SIZE_LIMIT}
use Rattle.c_types.specs.declared.ctype.Word.{Word}
use Rattle.c_types.specs.declared.ctype.Word.TheVariants as word
use Rattle.c_types.specs.declared.ctype.Declared.{Declared}
use Rattle.c_types.specs.declared.ctype.CType.{CType}
use Rattle.c_types.specs.declared.ctype.Mention.{Mention}
use Rattle.c_units.specs.declared.layout.Layout.{Layout}
use Rattle.c_units.specs.declared.draft.Draft.{Draft}
use Rattle.c_types.specs.Sizes.{greater, rounded, cut}
use Rattle.c_units.specs.Drafts.{fault, is_over, unless, declared_extent}
use Rattle.c_units.specs.Tags.{closed}
use Rattle.c_types.specs.Types.{letter, declared_text}

-- a body without fields yet
abbrev pub empty : Word → Layout
empty w = record { word = w; text = []; end = 0; size = 0; alignment = One }

-- where a field of this extent stands: in a union at 0, else at the next place of its alignment behind the fields before it
abbrev pub place_in : Word → ℕ → Extent → ℕ
place_in word.Union end extent = 0
place_in _ end extent = rounded end extent.alignment

abbrev pub larger : ℕ → ℕ → ℕ
larger a b = if nat_le a b then b else a

-- a place and a size as they are written, in bits
abbrev pub bits_text : ℕ → ℕ → List ℕ
bits_text place size = 44 ∷ (decimal (8 * place) ++ (44 ∷ (decimal (8 * size) ++ 59 ∷ [])))

-- a field as it is written: its name and type, its place and its size
abbrev pub field_text : List ℕ → List ℕ → ℕ → ℕ → List ℕ
field_text name text place size = name ++ (58 ∷ (text ++ bits_text place size))

-- a field more
abbrev pub with_field : List ℕ → List ℕ → Extent → Layout → Layout
with_field name text extent l = record l {
  text = l.text ++ field_text name text (place_in l.word l.end extent) extent.size;
  end = cut (place_in l.word l.end extent + extent.size);
  size = larger l.size extent.size;
  alignment = greater l.alignment extent.alignment;
}

abbrev pub placed : Option Extent → List ℕ → Declared → ℕ → Draft → Layout → Result Layout Fault
placed None name d line u l = Err (fault C_INCOMPLETE line u)
placed (Some extent) name d line u l = unless (is_over SIZE_LIMIT extent.size) (fault C_LARGE line u) (with_field name (declared_text d) extent l)

-- a field is added; incomplete where its type has no size now, large where that is over the limit
unfoldable pub add_field : List ℕ → Declared → ℕ → Draft → Layout → Result Layout Fault
add_field name d line u l = placed (declared_extent d u) name d line u l

-- ---- the end of a body

-- the end of the last field of a structure, the greatest size of a field of a union
abbrev pub unpadded : Word → ℕ → ℕ → ℕ
unpadded word.Union end size = size
unpadded _ end size = end

-- padded to the greatest alignment of a field
abbrev pub body_size : Layout → ℕ
body_size l = rounded (unpadded l.word l.end l.size) l.alignment

abbrev pub body_extent : Layout → Extent
body_extent l = record { size = body_size l; alignment = l.alignment }

-- `s` or `u`, the size, the fields and `;`
abbrev pub body_with : Word → ℕ → List ℕ → List ℕ
body_with word size fields = letter word ∷ (decimal size ++ (fields ++ 59 ∷ []))

abbrev pub body_text : Layout → List ℕ
body_text l = body_with l.word (body_size l) l.text

-- the body ends, or is too large at its `}`
unfoldable pub close_body : Option Mention → Layout → ℕ → Draft → Result (CType × Draft) Fault
close_body tag l line u = unless (is_over SIZE_LIMIT (body_size l)) (fault C_LARGE line u) (closed tag (body_extent l) (body_text l) u)
