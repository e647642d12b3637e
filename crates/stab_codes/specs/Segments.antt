-- The segment that the value of an entry moves with. After a.out(5): the bits `N_TYPE` of a kind, 0x1e, are 4 for text, 6 for
-- data and 8 for bss; a stab code is read in the same way.
use Rattle.std.specs.Prelude.{ℕ, bit_and, ◌==◌, if◌then◌else◌}
use Rattle.nlist_codec.specs.declared.kinds.TheConstants.{SEGMENT_BITS, TEXT_SEGMENT, DATA_SEGMENT, BSS_SEGMENT}
use Rattle.stab_codes.specs.declared.segment.Segment.{Segment}
use Rattle.stab_codes.specs.declared.segment.Segment.TheVariants.{Still, Text, Datum, Bss}

-- the segment that these bits name
abbrev pub segment_of_bits : ℕ → Segment
segment_of_bits bits = if bits == TEXT_SEGMENT then Text else (if bits == DATA_SEGMENT then Datum else (if bits == BSS_SEGMENT then Bss else Still))

-- the segment that the value of an entry of this kind moves with
unfoldable pub segment_of : ℕ → Segment
segment_of kind = segment_of_bits (bit_and kind SEGMENT_BITS)
