-- Each line of a listing is read as the statements of what it shows.
use Rattle.std.proofs.Common.{◌≡◌, ℕ, ◌+◌, ◌<◌, ◌≤◌, Bool, true, false, List, [], ◌∷◌, ◌++◌, map, Some, refl, sym, ap, ◌∙◌, arith, append-nil, zero-add, add-zero}
use Rattle.std.specs.Prelude.{codes, decimal, if◌then◌else◌, nat_le, ◌||◌}
use Rattle.std.proofs.lemmas.Bool.{lt-leb}
use Rattle.st_base.specs.Number.{IsBytes}
use Rattle.nlist_codec.specs.declared.named.Named.{Named}
use Rattle.reloc.specs.declared.reloc.Reloc.{Reloc}
use Rattle.aout_object.specs.Objects.{IsReloc}
use Rattle.asm_statements.specs.Tokens.{Token, tokens, with_token}
use Rattle.asm_statements.specs.Tokens.Token.{Word, Str, Mark}
use Rattle.asm_statements.specs.Operands.{◌>>=◌, number_of, limit, sum_of, plain_of, pieces}
use Rattle.asm_statements.specs.Directives.{fields, stab_with}
use Rattle.asm_statements.specs.SourceLines.{line_of, statements_of}
use Rattle.asm_objects.specs.Meaning.{has_no_zero}
use Rattle.stabs_asm.specs.Listing.{hex_byte, hex_word, bytes_on, byte_line, numbers_of, stabs_line, stabn_line, entry_line, line_for, rel_line, part_word, flags_of}
use Rattle.asm_statements.specs.declared.statement.Part.{Part}
use Rattle.asm_statements.specs.declared.statement.Part.TheVariants as part
use Rattle.asm_statements.specs.declared.statement.Sum.{Sum}
use Rattle.asm_statements.specs.declared.statement.Plain.{Plain}
use Rattle.asm_statements.specs.declared.statement.Width.TheVariants.{Byte}
use Rattle.asm_statements.specs.declared.statement.What.{What}
use Rattle.asm_statements.specs.declared.statement.What.TheVariants as what
use Rattle.stabs_asm.proofs.TokenLemmas.{IsWord, a_word_read, string_read, decimal_word, hex_byte_word, hex_word_word, number_decimal, number_hex_byte, number_hex_word}

-- an entry whose line is read back: it fits its fields, its kind is accepted, and its name is bytes of which none is zero
pub record NamedFits (n : Named) : Type 0 where
  pub kind : n.kind < 256
  pub accepted : (nat_le 32 n.kind || nat_le n.kind 9) ≡ true
  pub other : n.other < 256
  pub desc : n.desc < 65536
  pub value : n.value < 4294967296
  pub name : IsBytes n.name
  pub whole : has_no_zero n.name ≡ true

-- ---- numbers as operands

-- the sum that is a number alone
abbrev pub alone : ℕ → Sum
alone n = record { added = []; taken = []; more = n; less = 0; over = false }

-- a plain number without a sign
abbrev pub plain : ℕ → Plain
plain n = record { more = n; less = 0 }

-- the operand that is the digits of a byte, of a number of 32 bits, or decimal digits
byte_sum : (n : ℕ) → n < 256 → sum_of (Word (hex_byte n) ∷ []) ≡ Some (alone n)
byte_sum n fits = rw (number_hex_byte n fits, lt-leb limit n (omega arith), zero-add n) refl

word_sum : (n : ℕ) → n < limit → sum_of (Word (hex_word n) ∷ []) ≡ Some (alone n)
word_sum n fits = rw (number_hex_word n fits, lt-leb limit n fits, zero-add n) refl

decimal_plain : (n : ℕ) → n < limit → plain_of (Word (decimal n) ∷ []) ≡ Some (plain n)
decimal_plain n fits = rw (number_decimal n fits) refl

-- ---- the line of an entry

-- the tokens of the numbers of an entry
abbrev number_tokens : Named → List Token
number_tokens n = Word (decimal n.kind) ∷ Mark 44 ∷ Word (decimal n.other) ∷ Mark 44 ∷ Word (decimal n.desc) ∷ Mark 44 ∷ Word (hex_word n.value) ∷ []

-- a number and a comma
word_comma : (n : ℕ) (rest : List ℕ) → n < limit → tokens (decimal n ++ (44 ∷ rest)) ≡ with_token (Word (decimal n)) (with_token (Mark 44) (tokens rest))
word_comma n rest fits = a_word_read (decimal n) (44 ∷ rest) (decimal_word n (omega arith)) refl

-- a word at the end
word_end : (w : List ℕ) → IsWord w → tokens w ≡ Some (Word w ∷ [])
word_end w is = ap tokens (sym (append-nil w)) ∙ a_word_read w [] is refl

-- the tokens of the numbers of an entry
numbers_read : (n : Named) → NamedFits n → tokens (numbers_of n) ≡ Some (number_tokens n)
numbers_read n f =
    word_comma n.kind _ (omega (arith, f.kind)) ∙ rw (word_comma n.other (decimal n.desc ++ (44 ∷ hex_word n.value)) (omega (arith, f.other)), word_comma n.desc (hex_word n.value) (omega (arith, f.desc)), word_end (hex_word n.value) (hex_word_word n.value)) refl

-- the statement of an entry
abbrev pub stab_for : Named → What
stab_for n = what.Stab (record { name = n.name; kind = plain n.kind; other = plain n.other; desc = plain n.desc; value = alone n.value })

-- the operands of a stab directive
stab_read : (name : List ℕ) (n : Named) → NamedFits n → stab_with name (pieces (number_tokens n))
    ≡ Some (what.Stab (record { name = name; kind = plain n.kind; other = plain n.other; desc = plain n.desc; value = alone n.value }) ∷ [])
stab_read name n f =
    let k = decimal_plain n.kind (omega (arith, f.kind)) in
    let o = decimal_plain n.other (omega (arith, f.other)) in
    let d = decimal_plain n.desc (omega (arith, f.desc)) in
    let v = word_sum n.value f.value in
    stab_parts name (Word (decimal n.kind) ∷ []) (Word (decimal n.other) ∷ []) (Word (decimal n.desc) ∷ []) (Word (hex_word n.value) ∷ []) k o d v
  where
    stab_parts : (name : List ℕ) (k o d v : List Token) {kind other desc : Plain} {value : Sum} → plain_of k ≡ Some kind → plain_of o ≡ Some other → plain_of d ≡ Some desc → sum_of v ≡ Some value
        → stab_with name (k ∷ o ∷ d ∷ v ∷ []) ≡ Some (what.Stab (record { name = name; kind = kind; other = other; desc = desc; value = value }) ∷ [])
    stab_parts name k o d v a b c e = rw (a, b, c, e) refl

-- the line with a name, and that without one
pub stabs_read : (n : Named) → NamedFits n → line_of (stabs_line n) ≡ Some (stab_for n ∷ [])
stabs_read n f =
    let name : tokens (stabs_line n) ≡ Some (Word (codes ".stabs") ∷ Str n.name ∷ Mark 44 ∷ number_tokens n) = rw (string_read n.name (44 ∷ numbers_of n) f.name, numbers_read n f) refl in
    ap (λ ts. ts >>= statements_of) name ∙ stab_read n.name n f

pub stabn_read : (n : Named) → NamedFits n → n.name ≡ [] → line_of (stabn_line n) ≡ Some (stab_for n ∷ [])
stabn_read n f none =
    let name : tokens (stabn_line n) ≡ Some (Word (codes ".stabn") ∷ number_tokens n) = rw (numbers_read n f) refl in
    ap (λ ts. ts >>= statements_of) name ∙ rw none (stab_read [] n f)

-- the line of any entry
pub entry_read : (n : Named) → NamedFits n → line_of (entry_line n) ≡ Some (stab_for n ∷ [])
entry_read n f = by n.name refl
  where
    by : (name : List ℕ) → n.name ≡ name → line_of (line_for name n) ≡ Some (stab_for n ∷ [])
    by [] e = stabn_read n f e
    by (b ∷ bs) e = stabs_read n f

-- ---- a row of bytes

-- the tokens of the bytes after the first of a row
byte_tokens : List ℕ → List Token
byte_tokens [] = []
byte_tokens (b ∷ bs) = Mark 44 ∷ Word (hex_byte b) ∷ byte_tokens bs

-- the statement of a byte
abbrev pub field_for : ℕ → What
field_for b = what.Field Byte (alone b)

-- the tokens of a row
bytes_read : (b : ℕ) (bs : List ℕ) → tokens (hex_byte b ++ bytes_on bs) ≡ Some (Word (hex_byte b) ∷ byte_tokens bs)
unfolding byte_tokens
bytes_read b [] = a_word_read (hex_byte b) [] (hex_byte_word b) refl
bytes_read b (c ∷ bs) = a_word_read (hex_byte b) (bytes_on (c ∷ bs)) (hex_byte_word b) refl ∙ rw (bytes_read c bs) refl

-- the operands of a row; the bytes before them change nothing, since no field holds `.`
fields_read : (back b : ℕ) (bs : List ℕ) → IsBytes (b ∷ bs) → fields Byte back (pieces (Word (hex_byte b) ∷ byte_tokens bs)) ≡ Some (map field_for (b ∷ bs))
unfolding byte_tokens
fields_read back b [] each = rw (byte_sum b each.0, add-zero b) refl
fields_read back b (c ∷ bs) each = rw (byte_sum b each.0, fields_read (back + 1) c bs each.1, add-zero b) refl

-- the line of a row
pub byte_read : (b : ℕ) (bs : List ℕ) → IsBytes (b ∷ bs) → line_of (byte_line b bs) ≡ Some (map field_for (b ∷ bs))
byte_read b bs each =
    let row : tokens (byte_line b bs) ≡ Some (Word (codes ".byte") ∷ Word (hex_byte b) ∷ byte_tokens bs) = rw (bytes_read b bs) refl in
    ap (λ ts. ts >>= statements_of) row ∙ fields_read 0 b bs each

-- ---- the other lines

-- the lines of the machine word, of the size of bss, and of the entry word
pub machine_read : (n : ℕ) → n < limit → line_of (codes ".machine " ++ decimal n) ≡ Some (what.Machine n ∷ [])
machine_read n fits =
    let ts : tokens (codes ".machine " ++ decimal n) ≡ Some (Word (codes ".machine") ∷ Word (decimal n) ∷ []) = rw (word_end (decimal n) (decimal_word n (omega arith))) refl in
    ap (λ t. t >>= statements_of) ts ∙ rw (number_decimal n fits) refl

pub bsize_read : (n : ℕ) → n < limit → line_of (codes ".bsize " ++ decimal n) ≡ Some (what.Bsize n ∷ [])
bsize_read n fits =
    let ts : tokens (codes ".bsize " ++ decimal n) ≡ Some (Word (codes ".bsize") ∷ Word (decimal n) ∷ []) = rw (word_end (decimal n) (decimal_word n (omega arith))) refl in
    ap (λ t. t >>= statements_of) ts ∙ rw (number_decimal n fits) refl

pub entry_word_read : (n : ℕ) → n < limit → line_of (codes ".entry " ++ hex_word n) ≡ Some (what.Entry n ∷ [])
entry_word_read n fits =
    let ts : tokens (codes ".entry " ++ hex_word n) ≡ Some (Word (codes ".entry") ∷ Word (hex_word n) ∷ []) = rw (word_end (hex_word n) (hex_word_word n)) refl in
    ap (λ t. t >>= statements_of) ts ∙ rw (number_hex_word n fits) refl

-- the statement of a relocation
abbrev pub rel_for : Part → Reloc → What
rel_for q r = what.Rel (record { part = q; address = r.address; symbol = r.symbol; flags = flags_of r })

-- the tokens of a relocation
abbrev rel_tokens : Part → Reloc → List Token
rel_tokens q r = Word (codes ".rel") ∷ Word (part_word q) ∷ Mark 44 ∷ Word (decimal r.address) ∷ Mark 44 ∷ Word (decimal r.symbol) ∷ Mark 44 ∷ Word (decimal (flags_of r)) ∷ []

-- a bit that may be set
bit_small : (b : Bool) (n : ℕ) → (if b then n else 0) ≤ n
bit_small true n = omega arith
bit_small false n = omega arith

-- the flags have four bits
pub flags_small : (r : Reloc) → IsReloc r → flags_of r < 16
flags_small r f = omega (arith, bit_small r.pcrel 1, bit_small r.external 8, f.fits.length)

-- the tokens of the line of a relocation
rel_tokens_read : (q : Part) (r : Reloc) → IsReloc r → tokens (rel_line q r) ≡ Some (rel_tokens q r)
rel_tokens_read q r f =
    let a = word_comma r.address (decimal r.symbol ++ (44 ∷ decimal (flags_of r))) (omega (arith, f.address)) in
    let s = word_comma r.symbol (decimal (flags_of r)) (omega (arith, f.fits.symbol)) in
    let e = word_end (decimal (flags_of r)) (decimal_word (flags_of r) (omega (arith, flags_small r f))) in
    by q a s e
  where
    by : (q : Part) → tokens (decimal r.address ++ (44 ∷ (decimal r.symbol ++ (44 ∷ decimal (flags_of r))))) ≡ with_token (Word (decimal r.address)) (with_token (Mark 44) (tokens (decimal r.symbol ++ (44 ∷ decimal (flags_of r)))))
        → tokens (decimal r.symbol ++ (44 ∷ decimal (flags_of r))) ≡ with_token (Word (decimal r.symbol)) (with_token (Mark 44) (tokens (decimal (flags_of r))))
        → tokens (decimal (flags_of r)) ≡ Some (Word (decimal (flags_of r)) ∷ []) → tokens (rel_line q r) ≡ Some (rel_tokens q r)
    by part.Text a s e = rw (a, s, e) refl
    by part.Data a s e = rw (a, s, e) refl

-- the line of a relocation
pub rel_read : (q : Part) (r : Reloc) → IsReloc r → line_of (rel_line q r) ≡ Some (rel_for q r ∷ [])
rel_read q r f =
    ap (λ t. t >>= statements_of) (rel_tokens_read q r f)
    ∙ by q (number_decimal r.address f.address) (number_decimal r.symbol (omega (arith, f.fits.symbol))) (number_decimal (flags_of r) (omega (arith, flags_small r f)))
  where
    by : (q : Part) → number_of (decimal r.address) ≡ Some r.address → number_of (decimal r.symbol) ≡ Some r.symbol → number_of (decimal (flags_of r)) ≡ Some (flags_of r)
        → statements_of (rel_tokens q r) ≡ Some (rel_for q r ∷ [])
    by part.Text a s e = rw (a, s, e) refl
    by part.Data a s e = rw (a, s, e) refl
