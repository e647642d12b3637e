-- Worked values of headers, by hand after a.out(5), `struct exec`.
use Rattle.std.proofs.Common.{◌≡◌, ℕ, List, [], ◌∷◌, ◌++◌, refl}
use Rattle.std.specs.Prelude.{Ok, Err, replicate}
use Rattle.st_base.specs.declared.order.Order.TheVariants.{Little, Big}
use Rattle.st_base.specs.Faults.{fault_at}
use Rattle.aout_layout.specs.declared.header.Header.{Header}
use Rattle.aout_layout.specs.Headers.{header_bytes, read}

-- machine word 100, no sizes: the bytes 07 01 64 00 and 28 zero bytes
abbrev bare : Header
bare = record { order = Little; machine = 100; text = 0; data_part = 0; bss = 0; symbols = 0; entry = 0; text_relocs = 0; data_relocs = 0 }

abbrev bare_bytes : List ℕ
bare_bytes = 0x07 ∷ 0x01 ∷ 0x64 ∷ 0x00 ∷ replicate 28 0

read_bare : read bare_bytes ≡ Ok bare
read_bare = refl

written_bare : header_bytes bare ≡ bare_bytes
written_bare = refl

-- the same header in big order: the high half of the first word comes first
abbrev bare_big : Header
bare_big = record { order = Big; machine = 100; text = 0; data_part = 0; bss = 0; symbols = 0; entry = 0; text_relocs = 0; data_relocs = 0 }

read_bare_big : read (0x00 ∷ 0x64 ∷ 0x01 ∷ 0x07 ∷ replicate 28 0) ≡ Ok bare_big
read_bare_big = refl

-- the bytes 07 01 01 07 are the magic in both orders
both_orders : read (0x07 ∷ 0x01 ∷ 0x01 ∷ 0x07 ∷ replicate 28 0) ≡ Err (fault_at 2 0)
both_orders = refl

-- the bytes 08 01 64 00 (NMAGIC) are it in neither
neither_order : read (0x08 ∷ 0x01 ∷ 0x64 ∷ 0x00 ∷ replicate 28 0) ≡ Err (fault_at 1 0)
neither_order = refl

-- 13 bytes of entries and 9 of text relocations: the entries come first
odd_entries : read (0x07 ∷ 0x01 ∷ 0x64 ∷ 0x00 ∷ replicate 12 0 ++ (13 ∷ replicate 7 0 ++ (9 ∷ replicate 7 0))) ≡ Err (fault_at 3 16)
odd_entries = refl

-- 9 bytes of data relocations
odd_relocs : read (0x07 ∷ 0x01 ∷ 0x64 ∷ 0x00 ∷ replicate 24 0 ++ (9 ∷ 0 ∷ 0 ∷ 0 ∷ [])) ≡ Err (fault_at 4 28)
odd_relocs = refl

-- text of 4,294,967,295 bytes at the address 1
past_the_addresses : read (0x07 ∷ 0x01 ∷ 0x64 ∷ 0x00 ∷ 0xff ∷ 0xff ∷ 0xff ∷ 0xff ∷ replicate 12 0 ++ (1 ∷ replicate 11 0)) ≡ Err (fault_at 7 20)
past_the_addresses = refl
