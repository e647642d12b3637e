-- A header is read exactly from the bytes that spell it, its bytes spell it, and the bytes that spell it are its bytes.
use Rattle.std.proofs.Common.{◌≡◌, ◌≢◌, ℕ, ◌+◌, ◌*◌, ◌/◌, ◌%◌, ◌<◌, ◌≤◌, ◌↔◌, Bool, true, false, List, [], ◌∷◌, ◌++◌, length, get_or, refl, sym, ap, subst, ◌∙◌, arith}
use Rattle.std.specs.Prelude.{Result, Ok, not, ◌&&◌, ◌||◌}
use Rattle.std.proofs.lemmas.Bool.{eqb-true, eqb-false, eq-eqb, ne_eqb, leb-true, le-leb}
use Rattle.st_base.specs.declared.order.Order.{Order}
use Rattle.st_base.specs.declared.order.Order.TheVariants.{Little, Big}
use Rattle.st_base.specs.declared.fault.Fault.{Fault}
use Rattle.st_base.specs.ByteOrder.{is_big, order_of}
use Rattle.st_base.specs.Faults.{checked}
use Rattle.st_base.specs.Number.{number, number_at, bytes_of, IsBytes}
use Rattle.st_base.proofs.BytesLemmas.{IsBytes-items, number-bytes_of}
use Rattle.st_base.proofs.CheckLemmas.{AllHold, checked-ok, checked-AllHold}
use Rattle.st_base.proofs.FieldLemmas.{field_then, field_last}
use Rattle.st_base.specs.declared.sizes.TheConstants.{HEADER_SIZE}
use Rattle.aout_layout.specs.declared.header.Header.{Header}
use Rattle.aout_layout.specs.declared.header.TheConstants.{OMAGIC, TWO_ORDERS}
use Rattle.aout_layout.specs.Headers.{header_of, has_magic, fields_bytes, header_bytes, HeaderFits, NumbersFit, Spells, size_checks, header_checks, read}

-- ---- the magic in both orders

-- the magic in one order is the machine word 0x0701 in the other
other_order : (big : Bool) (bytes : List ℕ) → IsBytes bytes → 4 ≤ length bytes → (number_at (not big) bytes 0 4 % 65536 ≡ OMAGIC) ↔ (number_at big bytes 0 4 / 65536 ≡ TWO_ORDERS)
other_order big [] are_bytes long = absurd (omega arith)
other_order big (a ∷ []) are_bytes long = absurd (omega arith)
other_order big (a ∷ b ∷ []) are_bytes long = absurd (omega arith)
other_order big (a ∷ b ∷ c ∷ []) are_bytes long = absurd (omega arith)
other_order true (a ∷ b ∷ c ∷ d ∷ rest) are_bytes long = (
  λ magic. omega (arith, magic, are_bytes.0, are_bytes.1.0, are_bytes.1.1.0, are_bytes.1.1.1.0),
  λ machine. omega (arith, machine, are_bytes.0, are_bytes.1.0, are_bytes.1.1.0, are_bytes.1.1.1.0),
)
other_order false (a ∷ b ∷ c ∷ d ∷ rest) are_bytes long = (
  λ magic. omega (arith, magic, are_bytes.0, are_bytes.1.0, are_bytes.1.1.0, are_bytes.1.1.1.0),
  λ machine. omega (arith, machine, are_bytes.0, are_bytes.1.0, are_bytes.1.1.0, are_bytes.1.1.1.0),
)

-- where the other order lacks the magic, the machine word is another
machine_told : (big : Bool) (bytes : List ℕ) → IsBytes bytes → 4 ≤ length bytes → has_magic (not big) bytes ≡ false → number_at big bytes 0 4 / 65536 ≢ TWO_ORDERS
machine_told big bytes are_bytes long lacks = λ machine. eqb-false _ _ lacks ((other_order big bytes are_bytes long).1 machine)

-- where the machine word is another, the other order lacks the magic
other_lacks : (big : Bool) (bytes : List ℕ) → IsBytes bytes → 4 ≤ length bytes → number_at big bytes 0 4 / 65536 ≢ TWO_ORDERS → has_magic (not big) bytes ≡ false
other_lacks big bytes are_bytes long told = ne_eqb _ _ (λ magic. told ((other_order big bytes are_bytes long).0 magic))

-- ---- the checks of the sizes

-- a header that fits passes them
pub sizes-pass : (h : Header) → HeaderFits h → AllHold (size_checks h)
sizes-pass h fits =
    (eq-eqb _ _ fits.whole_entries, (eq-eqb _ _ fits.whole_text_relocs, (eq-eqb _ _ fits.whole_data_relocs, (le-leb _ _ fits.addresses, tt))))

-- a header that passes them fits, where the order of its file is known
pub sizes-fit : (h : Header) → AllHold (size_checks h) → h.machine ≢ TWO_ORDERS → HeaderFits h
sizes-fit h all told = record {
  order_told = told;
  whole_entries = eqb-true _ _ all.0;
  whole_text_relocs = eqb-true _ _ all.1.0;
  whole_data_relocs = eqb-true _ _ all.1.1.0;
  addresses = leb-true _ _ all.1.1.1.0;
}

-- ---- what is read is spelled, and what is spelled is read

-- what reading answers where the order is known: the checks of the sizes, and the header in that order
read_in : (big : Bool) (bytes : List ℕ) → has_magic big bytes ≡ true → has_magic (not big) bytes ≡ false → read bytes ≡ checked (size_checks (header_of big bytes)) (header_of big bytes)
read_in true bytes has lacks = rw (has, lacks) refl
read_in false bytes has lacks = rw (has, lacks) refl

-- where a header is read, its order has the magic and the other has not
order_read : (bytes : List ℕ) → (has_magic false bytes || has_magic true bytes) ≡ true → not (has_magic false bytes && has_magic true bytes) ≡ true
    → (big : Bool) × (has_magic big bytes ≡ true) × (has_magic (not big) bytes ≡ false)
order_read bytes one other = by_tests (has_magic false bytes) (has_magic true bytes) refl refl one other where
  by_tests : (little big : Bool) → has_magic false bytes ≡ little → has_magic true bytes ≡ big → (little || big) ≡ true → not (little && big) ≡ true
      → (order : Bool) × (has_magic order bytes ≡ true) × (has_magic (not order) bytes ≡ false)
  by_tests true true l b o n = absurd cc
  by_tests true false l b o n = (false, l, b)
  by_tests false true l b o n = (true, b, l)
  by_tests false false l b o n = absurd cc

-- the fields in the order that has the magic are spelled by the bytes, where they fit
fields-spelled : (big : Bool) (bytes : List ℕ) → number_at big bytes 0 4 % 65536 ≡ OMAGIC → HeaderFits (header_of big bytes) → Spells (header_of big bytes) bytes
fields-spelled true bytes magic fits = record { magic = magic; fields = refl; fits = fits }
fields-spelled false bytes magic fits = record { magic = magic; fields = refl; fits = fits }

-- a header that is read is spelled by the bytes
pub read-spelled : (bytes : List ℕ) (h : Header) → IsBytes bytes → 4 ≤ length bytes → read bytes ≡ Ok h → Spells h bytes
read-spelled bytes h are_bytes long answer =
    let told = checked-ok (header_checks bytes) (header_of (has_magic true bytes) bytes) h answer in
    let order = order_read bytes told.0.0 told.0.1.0 in
    in_order order.0 order.1 order.2 where
      in_order : (big : Bool) → has_magic big bytes ≡ true → has_magic (not big) bytes ≡ false → Spells h bytes
      in_order big has lacks =
          let sizes = checked-ok (size_checks (header_of big bytes)) (header_of big bytes) h (sym (read_in big bytes has lacks) ∙ answer) in
          let fits : HeaderFits (header_of big bytes) = sizes-fit (header_of big bytes) sizes.0 (machine_told big bytes are_bytes long lacks) in
          subst (λ (x : Header). Spells x bytes) sizes.1 (fields-spelled big bytes (eqb-true _ _ has) fits)

-- a header that is spelled by the bytes is read
pub spelled-read : (bytes : List ℕ) (h : Header) → IsBytes bytes → 4 ≤ length bytes → Spells h bytes → read bytes ≡ Ok h
spelled-read bytes h are_bytes long spells =
    let big : Bool = is_big h.order in
    let machine : number_at big bytes 0 4 / 65536 ≡ h.machine = ap (λ (x : Header). x.machine) spells.fields in
    let told : number_at big bytes 0 4 / 65536 ≢ TWO_ORDERS = λ e. spells.fits.order_told (sym machine ∙ e) in
    read_in big bytes (eq-eqb _ _ spells.magic) (other_lacks big bytes are_bytes long told)
    ∙ ap (λ (x : Header). checked (size_checks x) x) spells.fields
    ∙ checked-AllHold (size_checks h) h (sizes-pass h spells.fits)

-- an answer that is what reading answers is a header exactly where the bytes spell it
pub read_exactly : (bytes : List ℕ) (answer : Result Header Fault) → ((k : ℕ) → get_or bytes k 0 < 256) → length bytes ≡ HEADER_SIZE → answer ≡ read bytes
    → (h : Header) → (answer ≡ Ok h) ↔ Spells h bytes
read_exactly bytes answer below whole is h =
    let are_bytes = IsBytes-items bytes below in
    let long : 4 ≤ length bytes = omega (arith, whole) in
    (λ found. read-spelled bytes h are_bytes long (sym is ∙ found), λ spells. is ∙ spelled-read bytes h are_bytes long spells)

-- ---- what is written is spelled, and what is spelled is written

-- the order of the test of an order
order_of-is_big : (order : Order) → order_of (is_big order) ≡ order
order_of-is_big Little = refl
order_of-is_big Big = refl

-- the first word of a header that is written
first_word : (big : Bool) (h : Header) → NumbersFit h → number big (bytes_of big 4 (h.machine * 65536 + OMAGIC)) ≡ h.machine * 65536 + OMAGIC
first_word big h numbers = number-bytes_of big 4 (h.machine * 65536 + OMAGIC) (omega (arith, numbers.machine))

-- a header made of the fields of a header is that header
same_header : (h : Header) (order : Order) (machine text data_part bss symbols entry text_relocs data_relocs : ℕ) → order ≡ h.order → machine ≡ h.machine
    → text ≡ h.text → data_part ≡ h.data_part → bss ≡ h.bss → symbols ≡ h.symbols → entry ≡ h.entry → text_relocs ≡ h.text_relocs → data_relocs ≡ h.data_relocs
    → record { order = order; machine = machine; text = text; data_part = data_part; bss = bss; symbols = symbols; entry = entry; text_relocs = text_relocs; data_relocs = data_relocs } ≡ h
same_header h o m t d b s e tr dr is_o is_m is_t is_d is_b is_s is_e is_tr is_dr = rw (is_o, is_m, is_t, is_d, is_b, is_s, is_e, is_tr, is_dr) refl

-- the fields that are written are those of the header
fields-written : (big : Bool) (h : Header) → NumbersFit h → order_of big ≡ h.order → header_of big (fields_bytes big h) ≡ h
fields-written big h numbers order =
    same_header h _ _ _ _ _ _ _ _ _ order (ap (λ (n : ℕ). n / 65536) (first_word big h numbers) ∙ omega arith)
    (number-bytes_of big 4 h.text numbers.text)
    (number-bytes_of big 4 h.data_part numbers.data_part)
    (number-bytes_of big 4 h.bss numbers.bss)
    (number-bytes_of big 4 h.symbols numbers.symbols)
    (number-bytes_of big 4 h.entry numbers.entry)
    (number-bytes_of big 4 h.text_relocs numbers.text_relocs)
    (number-bytes_of big 4 h.data_relocs numbers.data_relocs)

-- the bytes that are written spell the header
pub write-spelled : (h : Header) → NumbersFit h → HeaderFits h → Spells h (header_bytes h)
write-spelled h numbers fits =
    let word = first_word (is_big h.order) h numbers in
    record {
      magic = omega (arith, word);
      fields = fields-written (is_big h.order) h numbers (order_of-is_big h.order);
      fits = fits;
    }

-- what is written after the first word of a header that was read
abbrev fields_behind : Bool → List ℕ → List ℕ
fields_behind big bytes =
    bytes_of big 4 (number_at big bytes 4 4) ++ (bytes_of big 4 (number_at big bytes 8 4) ++ (bytes_of big 4 (number_at big bytes 12 4) ++
    (bytes_of big 4 (number_at big bytes 16 4) ++ (bytes_of big 4 (number_at big bytes 20 4) ++ (bytes_of big 4 (number_at big bytes 24 4) ++
    bytes_of big 4 (number_at big bytes 28 4))))))

-- the bytes that are written in the order of the header spell it
pub written_in : (big : Bool) (h : Header) (bytes : List ℕ) → is_big h.order ≡ big → bytes ≡ fields_bytes big h → NumbersFit h → HeaderFits h → Spells h bytes
written_in big h bytes order is numbers fits =
    subst (λ (x : List ℕ). Spells h x) (sym (is ∙ ap (λ (b : Bool). fields_bytes b h) (sym order))) (write-spelled h numbers fits)

-- the fields that were read are written as the bytes
fields-read : (big : Bool) (bytes : List ℕ) → IsBytes bytes → length bytes ≡ HEADER_SIZE → number_at big bytes 0 4 % 65536 ≡ OMAGIC → fields_bytes big (header_of big bytes) ≡ bytes
fields-read big bytes are_bytes whole magic =
    let word : number_at big bytes 0 4 / 65536 * 65536 + OMAGIC ≡ number_at big bytes 0 4 = omega (arith, magic) in
    let first : 4 ≤ length bytes = omega (arith, whole) in
    let text : 8 ≤ length bytes = omega (arith, whole) in
    let data_part : 12 ≤ length bytes = omega (arith, whole) in
    let bss : 16 ≤ length bytes = omega (arith, whole) in
    let symbols : 20 ≤ length bytes = omega (arith, whole) in
    let entry : 24 ≤ length bytes = omega (arith, whole) in
    let text_relocs : 28 ≤ length bytes = omega (arith, whole) in
    let data_relocs : 32 ≡ length bytes = omega (arith, whole) in
    let rest : List ℕ = fields_behind big bytes in
    ap (λ (n : ℕ). bytes_of big 4 n ++ rest) word
    ∙ field_then big bytes 0 4 rest are_bytes first
    (field_then big bytes 4 4 _ are_bytes text (field_then big bytes 8 4 _ are_bytes data_part (field_then big bytes 12 4 _ are_bytes bss
    (field_then big bytes 16 4 _ are_bytes symbols (field_then big bytes 20 4 _ are_bytes entry
    (field_then big bytes 24 4 _ are_bytes text_relocs (field_last big bytes 28 4 are_bytes data_relocs)))))))

-- the bytes that spell a header are the ones that are written
pub spelled-write : (h : Header) (bytes : List ℕ) → IsBytes bytes → length bytes ≡ HEADER_SIZE → Spells h bytes → header_bytes h ≡ bytes
spelled-write h bytes are_bytes whole spells =
    ap (λ (x : Header). fields_bytes (is_big h.order) x) (sym spells.fields)
    ∙ fields-read (is_big h.order) bytes are_bytes whole spells.magic
