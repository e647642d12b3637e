-- A relocation is read exactly from the bytes that spell it, its bytes spell it, and the bytes that spell it are its bytes.
use Rattle.std.proofs.Common.{◌≡◌, ◌≢◌, ℕ, zero, suc, ◌*◌, ◌^◌, ◌<◌, ◌≤◌, ◌↔◌, Bool, true, false, List, length, take, drop, get_or, refl, sym, ap, subst, ◌∙◌, arith, inl, inr, length-drop}
use Rattle.std.specs.Prelude.{Result, Ok, ◌||◌, bit_or}
use Rattle.std.proofs.lemmas.Bool.{eqb-true, eqb-false, ltb-true, ne_eqb, not-true, not_from_false, or_cases, false≢true, agree_below_at}
use Rattle.std.proofs.lemmas.List.{length-take-le}
use Rattle.std.proofs.lemmas.Nat.{and_le_r}
use Rattle.std.specs.Prelude.{◌==◌, nat_lt}
use Rattle.st_base.specs.declared.fault.Fault.{Fault}
use Rattle.st_base.specs.Number.{number, number_at, bytes_of, IsBytes}
use Rattle.st_base.proofs.BytesLemmas.{IsBytes-items, IsBytes-take, IsBytes-drop, number-bytes_of, number-lt}
use Rattle.st_base.proofs.CheckLemmas.{AllHold, checked-ok, checked-AllHold}
use Rattle.st_base.proofs.FieldLemmas.{field_then, field_last}
use Rattle.st_base.specs.declared.sizes.TheConstants.{RELOC_SIZE}
use Rattle.reloc.specs.declared.reloc.Reloc.{Reloc}
use Rattle.reloc.specs.Relocs.{column_of, has_flag, length_in, has_other_flags, flag_bits, flags_of, flags_at, reloc_of, reloc_bytes, RelocFits, Spells, reloc_checks, read}

-- ---- the flags

-- the two bits of the length make a number below 4
length_in-lt : (big : Bool) (flags : ℕ) → length_in (column_of big) flags < 4
length_in-lt true flags = let bits = and_le_r flags 0x60 in omega (arith, bits)
length_in-lt false flags = let bits = and_le_r flags 0x06 in omega (arith, bits)

-- the flag byte of these flags
abbrev flag_byte : Bool → Bool → ℕ → Bool → ℕ
flag_byte big pcrel len external =
    bit_or (bit_or (flag_bits pcrel (column_of big).pcrel) (len * (column_of big).length_unit)) (flag_bits external (column_of big).external)

-- it is a byte, it holds these flags, and no other
abbrev HoldsFlags : Bool → Bool → Bool → ℕ → Type 0
HoldsFlags big pcrel external len =
    (nat_lt (flag_byte big pcrel len external) 256 ≡ true)
    × (has_flag (flag_byte big pcrel len external) (column_of big).pcrel ≡ pcrel)
    × (length_in (column_of big) (flag_byte big pcrel len external) ≡ len)
    × (has_flag (flag_byte big pcrel len external) (column_of big).external ≡ external)
    × (has_other_flags (column_of big) (flag_byte big pcrel len external) ≡ false)

-- for each of the three lengths
flags_held : (big pcrel external : Bool) → HoldsFlags big pcrel external 0 × HoldsFlags big pcrel external 1 × HoldsFlags big pcrel external 2
flags_held true true true = ((refl, refl, refl, refl, refl), (refl, refl, refl, refl, refl), (refl, refl, refl, refl, refl))
flags_held true true false = ((refl, refl, refl, refl, refl), (refl, refl, refl, refl, refl), (refl, refl, refl, refl, refl))
flags_held true false true = ((refl, refl, refl, refl, refl), (refl, refl, refl, refl, refl), (refl, refl, refl, refl, refl))
flags_held true false false = ((refl, refl, refl, refl, refl), (refl, refl, refl, refl, refl), (refl, refl, refl, refl, refl))
flags_held false true true = ((refl, refl, refl, refl, refl), (refl, refl, refl, refl, refl), (refl, refl, refl, refl, refl))
flags_held false true false = ((refl, refl, refl, refl, refl), (refl, refl, refl, refl, refl), (refl, refl, refl, refl, refl))
flags_held false false true = ((refl, refl, refl, refl, refl), (refl, refl, refl, refl, refl), (refl, refl, refl, refl, refl))
flags_held false false false = ((refl, refl, refl, refl, refl), (refl, refl, refl, refl, refl), (refl, refl, refl, refl, refl))

-- what is written of the flags is read again
flags-written : (big pcrel external : Bool) (len : ℕ) → len ≤ 2 → HoldsFlags big pcrel external len
flags-written big pcrel external zero known = (flags_held big pcrel external).0
flags-written big pcrel external (suc zero) known = (flags_held big pcrel external).1
flags-written big pcrel external (suc (suc zero)) known = (flags_held big pcrel external).2
flags-written big pcrel external (suc (suc (suc len))) known = absurd (omega arith)

-- the flags that were read of a byte make that byte, where no other flag is set: all 256 bytes
flags-read : (big : Bool) (flags : ℕ) → flags < 256 → has_other_flags (column_of big) flags ≡ false
    → flag_byte big (has_flag flags (column_of big).pcrel) (length_in (column_of big) flags) (has_flag flags (column_of big).external) ≡ flags
flags-read true flags below no_others =
    elim (or_cases _ _ (agree_below_at (λ f. has_other_flags (column_of true) f || flag_byte true (has_flag f 0x80) (length_in (column_of true) f) (has_flag f 0x10) == f) (λ f. true) 256 flags refl below))
    [ inl others ↦ absurd (false≢true (sym no_others ∙ others)) | inr same ↦ eqb-true _ _ same ]
flags-read false flags below no_others =
    elim (or_cases _ _ (agree_below_at (λ f. has_other_flags (column_of false) f || flag_byte false (has_flag f 0x01) (length_in (column_of false) f) (has_flag f 0x08) == f) (λ f. true) 256 flags refl below))
    [ inl others ↦ absurd (false≢true (sym no_others ∙ others)) | inr same ↦ eqb-true _ _ same ]

-- ---- what is read is spelled, and what is spelled is read

-- a number of three bytes is below 2^24
symbol-lt : (big : Bool) (bytes : List ℕ) → IsBytes bytes → length bytes ≡ RELOC_SIZE → number_at big bytes 4 3 < 2 ^ 24
symbol-lt big bytes are_bytes whole =
    let rest = length-drop 4 bytes in
    let long : length (take 3 (drop 4 bytes)) ≡ 3 = length-take-le 3 (drop 4 bytes) (omega (arith, rest, whole)) in
    let below = number-lt big (take 3 (drop 4 bytes)) (IsBytes-take 3 (drop 4 bytes) (IsBytes-drop 4 bytes are_bytes)) in
    subst (λ (n : ℕ). number_at big bytes 4 3 < 256 ^ n) long below

-- a relocation that is read is spelled by the bytes
pub read-spelled : (big : Bool) (bytes : List ℕ) (r : Reloc) → IsBytes bytes → length bytes ≡ RELOC_SIZE → read big bytes ≡ Ok r → Spells big r bytes
read-spelled big bytes r are_bytes whole answer =
    let told = checked-ok (reloc_checks big bytes) (reloc_of big bytes) r answer in
    let not_three : (reloc_of big bytes).length ≢ 3 = eqb-false _ _ (not-true _ told.0.0) in
    let below = length_in-lt big (flags_at big bytes) in
    let spelled : Spells big (reloc_of big bytes) bytes = record {
      fields = refl;
      no_others = not-true _ told.0.1.0;
      fits = record { length = omega (arith, below, not_three); symbol = symbol-lt big bytes are_bytes whole; segment = told.0.1.1.0 };
    } in
    subst (λ (x : Reloc). Spells big x bytes) told.1 spelled

-- a relocation that fits passes the checks
checks-pass : (big : Bool) (bytes : List ℕ) → has_other_flags (column_of big) (flags_at big bytes) ≡ false → RelocFits (reloc_of big bytes) → AllHold (reloc_checks big bytes)
checks-pass big bytes no_others fits =
    (not_from_false _ (ne_eqb _ _ (let known = fits.length in omega (arith, known))), (not_from_false _ no_others, (fits.segment, tt)))

-- a relocation that is spelled by the bytes is read
pub spelled-read : (big : Bool) (bytes : List ℕ) (r : Reloc) → Spells big r bytes → read big bytes ≡ Ok r
spelled-read big bytes r spells =
    checked-AllHold (reloc_checks big bytes) (reloc_of big bytes)
    (checks-pass big bytes spells.no_others (subst RelocFits (sym spells.fields) spells.fits))
    ∙ ap (λ (x : Reloc). Ok x) spells.fields

-- an answer that is what reading answers is a relocation exactly where the bytes spell it
pub read_exactly : (big : Bool) (bytes : List ℕ) (answer : Result Reloc Fault) → ((k : ℕ) → get_or bytes k 0 < 256) → length bytes ≡ RELOC_SIZE → answer ≡ read big bytes
    → (r : Reloc) → (answer ≡ Ok r) ↔ Spells big r bytes
read_exactly big bytes answer below whole is r =
    (λ found. read-spelled big bytes r (IsBytes-items bytes below) whole (sym is ∙ found), λ spells. is ∙ spelled-read big bytes r spells)

-- ---- what is written is spelled, and what is spelled is written

-- a relocation made of the fields of a relocation is that relocation
same_reloc : (r : Reloc) (address symbol : ℕ) (pcrel : Bool) (len : ℕ) (external : Bool) → address ≡ r.address → symbol ≡ r.symbol → pcrel ≡ r.pcrel → len ≡ r.length → external ≡ r.external
    → record { address = address; symbol = symbol; pcrel = pcrel; length = len; external = external } ≡ r
same_reloc r a s p l e is_a is_s is_p is_l is_e = rw (is_a, is_s, is_p, is_l, is_e) refl

-- the bytes that are written spell the relocation
pub write-spelled : (big : Bool) (r : Reloc) → r.address < 2 ^ 32 → RelocFits r → Spells big r (reloc_bytes big r)
write-spelled big r address fits =
    let held = flags-written big r.pcrel r.external r.length fits.length in
    let byte : number big (bytes_of big 1 (flags_of (column_of big) r)) ≡ flags_of (column_of big) r =
    number-bytes_of big 1 (flags_of (column_of big) r) (ltb-true _ _ held.0) in
    record {
      fields = same_reloc r _ _ _ _ _ (number-bytes_of big 4 r.address address) (number-bytes_of big 3 r.symbol fits.symbol)
          (ap (λ (f : ℕ). has_flag f (column_of big).pcrel) byte ∙ held.1)
          (ap (λ (f : ℕ). length_in (column_of big) f) byte ∙ held.2)
          (ap (λ (f : ℕ). has_flag f (column_of big).external) byte ∙ held.3);
      no_others = ap (λ (f : ℕ). has_other_flags (column_of big) f) byte ∙ held.4;
      fits = fits;
    }

-- bytes that are those of the relocation spell it
pub written : (big : Bool) (r : Reloc) (bytes : List ℕ) → bytes ≡ reloc_bytes big r → r.address < 2 ^ 32 → RelocFits r → Spells big r bytes
written big r bytes is address fits = subst (Spells big r) (sym is) (write-spelled big r address fits)

-- the flag byte of eight bytes is a byte
flags_at-lt : (big : Bool) (bytes : List ℕ) → IsBytes bytes → length bytes ≡ RELOC_SIZE → flags_at big bytes < 256
flags_at-lt big bytes are_bytes whole =
    let rest = length-drop 7 bytes in
    let long : length (take 1 (drop 7 bytes)) ≡ 1 = length-take-le 1 (drop 7 bytes) (omega (arith, rest, whole)) in
    let below = number-lt big (take 1 (drop 7 bytes)) (IsBytes-take 1 (drop 7 bytes) (IsBytes-drop 7 bytes are_bytes)) in
    subst (λ (n : ℕ). flags_at big bytes < 256 ^ n) long below

-- the fields that were read are written as the bytes
fields-read : (big : Bool) (bytes : List ℕ) → IsBytes bytes → length bytes ≡ RELOC_SIZE → has_other_flags (column_of big) (flags_at big bytes) ≡ false → reloc_bytes big (reloc_of big bytes) ≡ bytes
fields-read big bytes are_bytes whole no_others =
    let flags = flags-read big (flags_at big bytes) (flags_at-lt big bytes are_bytes whole) no_others in
    let address : 4 ≤ length bytes = omega (arith, whole) in
    let symbol : 7 ≤ length bytes = omega (arith, whole) in
    let last : 8 ≡ length bytes = omega (arith, whole) in
    field_then big bytes 0 4 _ are_bytes address
    (field_then big bytes 4 3 _ are_bytes symbol (ap (bytes_of big 1) flags ∙ field_last big bytes 7 1 are_bytes last))

-- the bytes that spell a relocation are the ones that are written
pub spelled-write : (big : Bool) (r : Reloc) (bytes : List ℕ) → IsBytes bytes → length bytes ≡ RELOC_SIZE → Spells big r bytes → reloc_bytes big r ≡ bytes
spelled-write big r bytes are_bytes whole spells =
    ap (reloc_bytes big) (sym spells.fields) ∙ fields-read big bytes are_bytes whole spells.no_others
