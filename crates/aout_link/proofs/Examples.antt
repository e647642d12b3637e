-- Worked values of placing, by hand: two objects in little order, linked from address 4096 on. The first calls `_g` of the second, and
-- both ask for a common `_c`; a word of the second's data points into its text.
use Rattle.std.proofs.Common.{◌≡◌, ℕ, List, [], ◌∷◌, true, false, refl, sym, ◌∙◌}
use Rattle.std.specs.Prelude.{Some, None, codes}
use Rattle.st_base.specs.declared.order.Order.TheVariants.{Little, Big}
use Rattle.st_base.specs.Faults.{fault_at}
use Rattle.st_base.specs.declared.fault.Fault.{Fault}
use Rattle.stab_codes.specs.Segments.{segment_of}
use Rattle.nlist_codec.specs.declared.named.Named.{Named}
use Rattle.aout_object.specs.declared.parts.Parts.{Parts}
use Rattle.aout_link.specs.Sources.{Source}
use Rattle.st_base.specs.Multiples.{aligned}
use Rattle.aout_link.specs.Moves.{moved, all_moves}
use Rattle.aout_link.specs.NameTables.{common_sizes, names_table}
use Rattle.aout_link.specs.Placing.{placed_all, texts, datas, bss_of}
use Rattle.aout_link.specs.Refusals.{list_fault, fault_in}
use Rattle.aout_link.specs.Accepted.{Accepted}
use Rattle.aout_link.proofs.AcceptedLemmas.{accepted_exactly}

-- an entry without a description
abbrev entry : ℕ → ℕ → List ℕ → Named
entry kind value name = record { kind = kind; other = 0; desc = 0; value = value; name = name }

-- a source of these segments and entries; the offsets of its names and its string table are of no account
abbrev source : Parts → List Named → Source
source parts named = record { object = record { parts = parts; entries = []; strings = [] }; parts = parts; named = named }

-- five bytes of text, a call whose field counts from the place behind it; `_f` stands at its begin, and its common has 3 bytes
abbrev caller : Source
caller = source (record {
  order = Little;
  machine = 100;
  bss = 0;
  entry = 0;
  text = 232 ∷ 251 ∷ 255 ∷ 255 ∷ 255 ∷ [];
  data_part = [];
  text_relocs = record { address = 1; symbol = 1; pcrel = true; length = 2; external = true } ∷ [];
  data_relocs = [];
}) (entry 5 0 (codes "_f") ∷ entry 1 0 (codes "_g") ∷ entry 1 3 (codes "_c") ∷ [])

-- one byte of text, and a word of data that points to its begin; its common has 6 bytes, and a block begins at 8 from its function on
abbrev callee : Source
callee = source (record {
  order = Little;
  machine = 100;
  bss = 0;
  entry = 0;
  text = 144 ∷ [];
  data_part = 0 ∷ 0 ∷ 0 ∷ 0 ∷ [];
  text_relocs = [];
  data_relocs = record { address = 0; symbol = 4; pcrel = false; length = 2; external = false } ∷ [];
}) (entry 5 0 (codes "_g") ∷ entry 1 6 (codes "_c") ∷ entry 0xc0 8 [] ∷ [])

abbrev both : List Source
both = caller ∷ callee ∷ []

-- a size is padded behind, and a multiple of 4 stays
padded-values : aligned 5 ≡ 8
padded-values = refl

-- text at 4096, data behind 12 bytes of text, bss behind 4 bytes of data
both-moves : all_moves 4096 both ≡ record { text = 4096; datum = 4103; bss = 4107 } ∷ record { text = 4104; datum = 4107; bss = 4107 } ∷ []
both-moves = refl

-- a move down goes round
moved-down : moved 8 4 ≡ 4294967292
moved-down = refl

-- the greater size of the common counts, padded in bss
both-commons : common_sizes both ≡ (codes "_c", 6) ∷ []
both-commons = refl

both-bss : bss_of both ≡ 8
both-bss = refl

-- what the names stand for
both-names : names_table 4096 both
    ≡ (codes "_f", record { kind = 5; value = 4096 }) ∷ (codes "_g", record { kind = 5; value = 4104 }) ∷ (codes "_c", record { kind = 9; value = 4112 }) ∷ []
unfolding segment_of
both-names = refl

-- the placed entries; the begin of a block counts from its function, and stays
both-placed : placed_all (names_table 4096 both) (all_moves 4096 both) both
    ≡ entry 5 4096 (codes "_f") ∷ entry 5 4104 (codes "_g") ∷ entry 9 4112 (codes "_c") ∷ entry 5 4104 (codes "_g") ∷ entry 9 4112 (codes "_c") ∷ entry 0xc0 8 [] ∷ []
unfolding segment_of
both-placed = refl

-- the call goes 3 bytes ahead of the place behind it, and zero bytes follow each text
both-text : texts (names_table 4096 both) (all_moves 4096 both) both ≡ 232 ∷ 3 ∷ 0 ∷ 0 ∷ 0 ∷ 0 ∷ 0 ∷ 0 ∷ 144 ∷ 0 ∷ 0 ∷ 0 ∷ []
unfolding segment_of
both-text = refl

-- the word points to 4104
both-data : datas (names_table 4096 both) (all_moves 4096 both) both ≡ 8 ∷ 16 ∷ 0 ∷ 0 ∷ []
both-data = refl

-- ---- refusals

both-fault : list_fault 4096 both ≡ None
unfolding segment_of
both-fault = refl

no-objects : list_fault 4096 [] ≡ Some (fault_at 95 0)
no-objects = refl

-- the first by itself lacks `_g`
one-undefined : list_fault 4096 (caller ∷ []) ≡ Some (fault_in 92 0 1)
one-undefined = refl

-- `_f` a second time, in the object that also lacks `_g`
again-twice : list_fault 4096 (caller ∷ caller ∷ []) ≡ Some (fault_in 93 1 0)
again-twice = refl

-- the end of bss passes the greatest address by one byte
far-address : list_fault 4294967272 both ≡ Some (fault_at 94 4294967295)
far-address = refl

-- one byte of text that takes the value of `_a`, an absolute name, at an offset; a stab stands behind
abbrev absolute : ℕ → ℕ → ℕ → Source
absolute value at symbol = source (record {
  order = Big;
  machine = 100;
  bss = 0;
  entry = 0;
  text = 0 ∷ [];
  data_part = [];
  text_relocs = record { address = at; symbol = symbol; pcrel = false; length = 0; external = true } ∷ [];
  data_relocs = [];
}) (entry 1 0 (codes "_a") ∷ entry 3 value (codes "_a") ∷ entry 0x64 0 (codes "a.c") ∷ [])

-- the text of it by itself
abbrev absolute_text : ℕ → List ℕ
absolute_text value = texts (names_table 4096 (absolute value 0 0 ∷ [])) (all_moves 4096 (absolute value 0 0 ∷ [])) (absolute value 0 0 ∷ [])

-- what fits a byte, without a sign and with one
most-fits : list_fault 4096 (absolute 255 0 0 ∷ []) ≡ None
unfolding segment_of
most-fits = refl

most-stored : absolute_text 255 ≡ 255 ∷ 0 ∷ 0 ∷ 0 ∷ []
unfolding segment_of
most-stored = refl

least-fits : list_fault 4096 (absolute 4294967168 0 0 ∷ []) ≡ None
unfolding segment_of
least-fits = refl

least-stored : absolute_text 4294967168 ≡ 128 ∷ 0 ∷ 0 ∷ 0 ∷ []
unfolding segment_of
least-stored = refl

-- and what does not
above-fault : list_fault 4096 (absolute 256 0 0 ∷ []) ≡ Some (fault_in 25 0 0)
unfolding segment_of
above-fault = refl

below-fault : list_fault 4096 (absolute 4294967167 0 0 ∷ []) ≡ Some (fault_in 25 0 0)
unfolding segment_of
below-fault = refl

-- a field past the end, before a symbol that is no entry, before a sum that does not fit
past-fault : list_fault 4096 (absolute 256 1 3 ∷ []) ≡ Some (fault_in 23 0 0)
past-fault = refl

no_entry-fault : list_fault 4096 (absolute 256 0 3 ∷ []) ≡ Some (fault_in 24 0 0)
no_entry-fault = refl

-- a stab is none that a relocation may name
stab-fault : list_fault 4096 (absolute 255 0 2 ∷ []) ≡ Some (fault_in 24 0 0)
stab-fault = refl

-- an object of the other order, before one of another machine
other-order : list_fault 4096 (caller ∷ absolute 255 0 0 ∷ []) ≡ Some (fault_at 90 1)
other-order = refl

-- ---- accepted lists

both-accepted : Accepted 4096 both
both-accepted = (accepted_exactly 4096 both).0 both-fault

-- no list is accepted that has no objects
none-accepted : (base : ℕ) → Accepted base [] → ⊥
none-accepted base a = a.some refl

-- nor one that has a fault: `_g` lacks, `_f` is there twice, the end of bss is too great, a sum does not fit, the orders differ
with_fault : (base : ℕ) (os : List Source) (f : Fault) → list_fault base os ≡ Some f → Accepted base os → ⊥
with_fault base os f faulty a = let same : None ≡ Some f = sym ((accepted_exactly base os).1 a) ∙ faulty in cc

undefined-not : Accepted 4096 (caller ∷ []) → ⊥
undefined-not = with_fault 4096 (caller ∷ []) (fault_in 92 0 1) one-undefined

twice-not : Accepted 4096 (caller ∷ caller ∷ []) → ⊥
twice-not = with_fault 4096 (caller ∷ caller ∷ []) (fault_in 93 1 0) again-twice

far-not : Accepted 4294967272 both → ⊥
far-not = with_fault 4294967272 both (fault_at 94 4294967295) far-address

above-not : Accepted 4096 (absolute 256 0 0 ∷ []) → ⊥
above-not = with_fault 4096 (absolute 256 0 0 ∷ []) (fault_in 25 0 0) above-fault

order-not : Accepted 4096 (caller ∷ absolute 255 0 0 ∷ []) → ⊥
order-not = with_fault 4096 (caller ∷ absolute 255 0 0 ∷ []) (fault_at 90 1) other-order
