-- The whole text of an object is read as the statements of its lines.
use Rattle.std.proofs.Common.{◌≡◌, ℕ, zero, suc, ◌+◌, ◌/◌, ◌%◌, ◌<◌, ◌≤◌, Bool, true, false, not, List, [], ◌∷◌, ◌++◌, map, Some, Ok, refl, sym, ap, ◌∙◌, inl, inr, arith}
use Rattle.std.specs.Prelude.{codes, decimal, flat_map, ◌==◌, ◌||◌, ◌&&◌}
use Rattle.std.specs.List.{AllByRecursion}
use Rattle.std.proofs.lemmas.Bool.{cases_Bool, eqb-true, ne_eqb, and_parts, or_cases, not-true}
use Rattle.std.proofs.lemmas.Bool.Decides.{nat_tests}
use Rattle.st_base.specs.Number.{IsBytes}
use Rattle.nlist_codec.specs.declared.named.Named.{Named}
use Rattle.reloc.specs.declared.reloc.Reloc.{Reloc}
use Rattle.aout_object.specs.declared.parts.Parts.{Parts}
use Rattle.aout_object.specs.Objects.{IsReloc}
use Rattle.asm_statements.specs.Tokens.{in_word, is_within}
use Rattle.asm_statements.specs.Operands.{limit}
use Rattle.asm_statements.specs.SourceLines.{line_of, lines_of, read_lines, read_source, at_line}
use Rattle.stabs_asm.specs.Listing.{hex_byte, hex_word, bytes_on, byte_line, numbers_of, entry_line, line_for, text_of, escaped, rel_line, part_word, flags_of, cut_rows, rows_of, lines_for}
use Rattle.asm_statements.specs.declared.statement.Part.{Part}
use Rattle.asm_statements.specs.declared.statement.Part.TheVariants as part
use Rattle.asm_statements.specs.declared.statement.What.{What}
use Rattle.asm_statements.specs.declared.statement.What.TheVariants as what
use Rattle.asm_statements.specs.declared.statement.Statement.{Statement}
use Rattle.asm_statements.proofs.ScanLemmas.{Each}
use Rattle.stabs_asm.proofs.TokenLemmas.{Each-append, IsWord, decimal_word, hex_byte_word, hex_word_word}
use Rattle.stabs_asm.proofs.ListLemmas.{NamedFits, stab_for, field_for, rel_for, entry_read, byte_read, machine_read, bsize_read, entry_word_read, rel_read, flags_small}

-- what is listed of an object: its parts, and its entries with their names
pub record Listed : Type 0 where
  pub parts : Parts
  pub named : List Named

-- what is listed fits its lines
pub record ListedFits (o : Listed) : Type 0 where
  pub entry : o.parts.entry < 4294967296
  pub machine : o.parts.machine < 65536
  pub told : (o.parts.machine == 1793) ≡ false
  pub bss : o.parts.bss < 4294967296
  pub text : IsBytes o.parts.text
  pub datum : IsBytes o.parts.data_part
  pub text_relocs : AllByRecursion IsReloc o.parts.text_relocs
  pub data_relocs : AllByRecursion IsReloc o.parts.data_relocs
  pub named : AllByRecursion NamedFits o.named

-- ---- lines hold no line feed

-- no line feed
abbrev pub feedless : ℕ → Bool
feedless b = not (b == 10)

-- the same as a test, which computes
all_of : (ℕ → Bool) → List ℕ → Bool
all_of test [] = true
all_of test (b ∷ bs) = test b && all_of test bs

-- so all pass
each_from : (test : ℕ → Bool) (bs : List ℕ) → all_of test bs ≡ true → Each test bs
unfolding all_of
each_from test [] h = tt
each_from test (b ∷ bs) h = let p = and_parts (test b) (all_of test bs) h in (p.0, each_from test bs p.1)

-- a byte of a word is no line feed
word_feedless : (b : ℕ) → in_word b ≡ true → feedless b ≡ true
word_feedless b h = grind (arith, nat_tests)

-- words hold none
word_each : (w : List ℕ) → Each in_word w → Each feedless w
word_each [] h = tt
word_each (b ∷ w) h = (word_feedless b h.0, word_each w h.1)

is_word_each : (w : List ℕ) → IsWord w → Each feedless w
is_word_each [] is = absurd is
is_word_each (b ∷ w) is = (word_feedless b is.0, word_each w is.1)

-- nor do numbers
decimal_each : (n : ℕ) → n < limit → Each feedless (decimal n)
decimal_each n h = is_word_each (decimal n) (decimal_word n (omega arith))

byte_digits : (n : ℕ) → Each feedless (hex_byte n)
byte_digits n = is_word_each (hex_byte n) (hex_byte_word n)

word_digits : (n : ℕ) → Each feedless (hex_word n)
word_digits n = is_word_each (hex_word n) (hex_word_word n)

-- nor do bytes above it
above_feedless : (b : ℕ) → 11 ≤ b → feedless b ≡ true
above_feedless b h = rw (ne_eqb b 10 (λ e. absurd (omega arith))) refl

-- nor does a byte with its escape
escaped_each : (b : ℕ) → Each feedless (escaped b)
escaped_each b =
    elim (cases_Bool (b == 34 || b == 92)) [
      | inl h ↦ rw h (refl, (elim (or_cases (b == 34) (b == 92) h) [ inl e ↦ rw (eqb-true b 34 e) refl | inr e ↦ rw (eqb-true b 92 e) refl ], tt))
      | inr h ↦ elim (cases_Bool (is_within 32 126 b)) [
        | inl k ↦ rw (h, k) (within_feedless b k, tt)
        | inr k ↦ rw (h, k) (refl, (above_feedless (48 + b / 64) (omega arith), (above_feedless (48 + b / 8 % 8) (omega arith), (above_feedless (48 + b % 8) (omega arith), tt))))
      ]
    ]
  where
    within_feedless : (b : ℕ) → is_within 32 126 b ≡ true → feedless b ≡ true
    within_feedless b h = grind (arith, nat_tests)

-- nor does a name
name_each : (name : List ℕ) → Each feedless (flat_map escaped name)
name_each [] = tt
name_each (b ∷ name) = Each-append feedless (escaped b) (flat_map escaped name) (escaped_each b) (name_each name)

-- nor do the numbers of an entry
numbers_each : (n : Named) → NamedFits n → Each feedless (numbers_of n)
numbers_each n f =
    let value : Each feedless (44 ∷ hex_word n.value) = (refl, word_digits n.value) in
    let desc : Each feedless (44 ∷ (decimal n.desc ++ (44 ∷ hex_word n.value))) =
    (refl, Each-append feedless (decimal n.desc) (44 ∷ hex_word n.value) (decimal_each n.desc (omega (arith, f.desc))) value) in
    let other : Each feedless (44 ∷ (decimal n.other ++ (44 ∷ (decimal n.desc ++ (44 ∷ hex_word n.value))))) =
    (refl, Each-append feedless (decimal n.other) (44 ∷ (decimal n.desc ++ (44 ∷ hex_word n.value))) (decimal_each n.other (omega (arith, f.other))) desc) in
    Each-append feedless (decimal n.kind) (44 ∷ (decimal n.other ++ (44 ∷ (decimal n.desc ++ (44 ∷ hex_word n.value))))) (decimal_each n.kind (omega (arith, f.kind))) other

-- nor does the line of an entry
entry_each : (n : Named) → NamedFits n → Each feedless (entry_line n)
unfolding all_of
entry_each n f = by n.name
  where
    by : (name : List ℕ) → Each feedless (line_for name n)
    by [] = Each-append feedless (codes ".stabn ") (numbers_of n) (each_from feedless (codes ".stabn ") refl) (numbers_each n f)
    by (b ∷ bs) =
        let behind : Each feedless (34 ∷ 44 ∷ numbers_of n) = (refl, (refl, numbers_each n f)) in
        let quoted : Each feedless (34 ∷ (flat_map escaped n.name ++ (34 ∷ 44 ∷ numbers_of n))) = (refl, Each-append feedless (flat_map escaped n.name) (34 ∷ 44 ∷ numbers_of n) (name_each n.name) behind) in
        Each-append feedless (codes ".stabs ") (34 ∷ (flat_map escaped n.name ++ (34 ∷ 44 ∷ numbers_of n))) (each_from feedless (codes ".stabs ") refl) quoted

-- nor does a row of bytes
bytes_each : (bs : List ℕ) → Each feedless (bytes_on bs)
bytes_each [] = tt
bytes_each (b ∷ bs) = (refl, Each-append feedless (hex_byte b) (bytes_on bs) (byte_digits b) (bytes_each bs))

byte_each : (b : ℕ) (bs : List ℕ) → Each feedless (byte_line b bs)
unfolding all_of
byte_each b bs =
    Each-append feedless (codes ".byte ") (hex_byte b ++ bytes_on bs) (each_from feedless (codes ".byte ") refl) (Each-append feedless (hex_byte b) (bytes_on bs) (byte_digits b) (bytes_each bs))

-- nor does the line of a relocation
rel_each : (q : Part) (r : Reloc) → IsReloc r → Each feedless (rel_line q r)
unfolding all_of
rel_each q r f =
    let flags : Each feedless (44 ∷ decimal (flags_of r)) = (refl, decimal_each (flags_of r) (omega (arith, flags_small r f))) in
    let symbol : Each feedless (44 ∷ (decimal r.symbol ++ (44 ∷ decimal (flags_of r)))) = (refl, Each-append feedless (decimal r.symbol) (44 ∷ decimal (flags_of r)) (decimal_each r.symbol (omega (arith, f.fits.symbol))) flags) in
    let address : Each feedless (44 ∷ (decimal r.address ++ (44 ∷ (decimal r.symbol ++ (44 ∷ decimal (flags_of r)))))) =
    (refl, Each-append feedless (decimal r.address) (44 ∷ (decimal r.symbol ++ (44 ∷ decimal (flags_of r)))) (decimal_each r.address f.address) symbol) in
    Each-append feedless (codes ".rel ") (part_word q ++ (44 ∷ (decimal r.address ++ (44 ∷ (decimal r.symbol ++ (44 ∷ decimal (flags_of r))))))) (each_from feedless (codes ".rel ") refl)
    (Each-append feedless (part_word q) (44 ∷ (decimal r.address ++ (44 ∷ (decimal r.symbol ++ (44 ∷ decimal (flags_of r)))))) (word q) address)
  where
    word : (q : Part) → Each feedless (part_word q)
    word part.Text = each_from feedless (codes "text") refl
    word part.Data = each_from feedless (codes "data") refl

-- ---- reading rows

-- a line and its statements
pub record Row : Type 0 where
  pub line : List ℕ
  pub whats : List What

-- its line holds no line feed, and is read as its statements
pub record Prints (r : Row) : Type 0 where
  pub feeds : Each feedless r.line
  pub reads : line_of r.line ≡ Some r.whats

-- a line ends at its line feed
line_cut : (l rest : List ℕ) → Each feedless l → lines_of (l ++ (10 ∷ rest)) ≡ l ∷ lines_of rest
line_cut [] rest each = refl
line_cut (b ∷ l) rest each = let no : (b == 10) ≡ false = not-true (b == 10) each.0 in rw (no, line_cut l rest each.1) refl

-- the statements of rows, each with the number of its line
abbrev pub numbered : ℕ → List Row → List Statement
numbered n [] = []
numbered n (r ∷ rs) = map (at_line n) r.whats ++ numbered (n + 1) rs

-- the lines of rows
abbrev pub row_lines : List Row → List (List ℕ)
row_lines rs = map (λ r. r.line) rs

-- the text of rows is read as their statements
rows_read : (n : ℕ) (rs : List Row) → AllByRecursion Prints rs → read_lines n (lines_of (text_of (row_lines rs))) ≡ Ok (numbered n rs)
rows_read n [] all = refl
rows_read n (r ∷ rs) all =
    ap (read_lines n) (line_cut r.line (text_of (row_lines rs)) all.0.feeds)
    ∙ rw (all.0.reads, rows_read (n + 1) rs all.1) refl

-- ---- the rows of an object

-- a row of bytes, a relocation, an entry, and a line with one statement
unfoldable pub byte_row : ℕ × List ℕ → Row
byte_row r = record { line = byte_line r.0 r.1; whats = map field_for (r.0 ∷ r.1) }

unfoldable pub rel_row : Part → Reloc → Row
rel_row q r = record { line = rel_line q r; whats = rel_for q r ∷ [] }

unfoldable pub entry_row : Named → Row
entry_row n = record { line = entry_line n; whats = stab_for n ∷ [] }

abbrev pub row_of : List ℕ → What → Row
row_of line w = record { line = line; whats = w ∷ [] }

-- the rows of what is listed
abbrev pub rows_for : Listed → List Row
rows_for o =
    row_of (codes ".machine " ++ decimal o.parts.machine) (what.Machine o.parts.machine) ∷ row_of (codes ".entry " ++ hex_word o.parts.entry) (what.Entry o.parts.entry)
    ∷ row_of (codes ".bsize " ++ decimal o.parts.bss) (what.Bsize o.parts.bss) ∷ row_of (codes ".text") (what.Switch part.Text)
    ∷ (map byte_row (rows_of o.parts.text) ++ (row_of (codes ".data") (what.Switch part.Data) ∷ (map byte_row (rows_of o.parts.data_part)
    ++ (map (rel_row part.Text) o.parts.text_relocs ++ (map (rel_row part.Data) o.parts.data_relocs ++ map entry_row o.named)))))

-- the lines of rows that are made of a list
lines_map : {A : Type 0} (f : A → Row) (g : A → List ℕ) → ((x : A) → (f x).line ≡ g x) → (xs : List A) (rs : List Row) → row_lines (map f xs ++ rs) ≡ map g xs ++ row_lines rs
lines_map f g same [] rs = refl
lines_map f g same (x ∷ xs) rs = rw (lines_map f g same xs rs, same x) refl

lines_alone : {A : Type 0} (f : A → Row) (g : A → List ℕ) → ((x : A) → (f x).line ≡ g x) → (xs : List A) → row_lines (map f xs) ≡ map g xs
lines_alone f g same [] = refl
lines_alone f g same (x ∷ xs) = rw (lines_alone f g same xs, same x) refl

-- the lines of the rows are those of the listing
rows_lines : (o : Listed) → row_lines (rows_for o) ≡ lines_for o.parts o.named
unfolding byte_row rel_row entry_row
rows_lines o =
    let named = lines_alone entry_row entry_line (λ n. refl) o.named in
    let data_relocs = lines_map (rel_row part.Data) (rel_line part.Data) (λ r. refl) o.parts.data_relocs (map entry_row o.named) in
    let text_relocs = lines_map (rel_row part.Text) (rel_line part.Text) (λ r. refl) o.parts.text_relocs (map (rel_row part.Data) o.parts.data_relocs ++ map entry_row o.named) in
    let datum = lines_map byte_row (λ r. byte_line r.0 r.1) (λ r. refl) (rows_of o.parts.data_part) (map (rel_row part.Text) o.parts.text_relocs ++ (map (rel_row part.Data) o.parts.data_relocs ++ map entry_row o.named)) in
    let text = lines_map byte_row (λ r. byte_line r.0 r.1) (λ r. refl) (rows_of o.parts.text) (row_of (codes ".data") (what.Switch part.Data) ∷ (map byte_row (rows_of o.parts.data_part) ++ (map (rel_row part.Text) o.parts.text_relocs ++ (map (rel_row part.Data) o.parts.data_relocs ++ map entry_row o.named)))) in
    rw (text, datum, text_relocs, data_relocs, named) refl

-- ---- each row prints its statements

-- rows that are made of a list
fit_map : {A : Type 0} (P : A → Type 0) (f : A → Row) → ((x : A) → P x → Prints (f x)) → (xs : List A) (rs : List Row) → AllByRecursion P xs → AllByRecursion Prints rs → AllByRecursion Prints (map f xs ++ rs)
fit_map P f each [] rs all rest = rest
fit_map P f each (x ∷ xs) rs all rest = (each x all.0, fit_map P f each xs rs all.1 rest)

fit_alone : {A : Type 0} (P : A → Type 0) (f : A → Row) → ((x : A) → P x → Prints (f x)) → (xs : List A) → AllByRecursion P xs → AllByRecursion Prints (map f xs)
fit_alone P f each [] all = tt
fit_alone P f each (x ∷ xs) all = (each x all.0, fit_alone P f each xs all.1)

-- a row holds bytes
RowFits : ℕ × List ℕ → Type 0
RowFits r = IsBytes (r.0 ∷ r.1)

-- bytes are cut into rows of bytes
rows_fit : (k : ℕ) (bytes : List ℕ) → IsBytes bytes → IsBytes (cut_rows k bytes).0 × AllByRecursion RowFits (cut_rows k bytes).1
unfolding RowFits
rows_fit k [] all = (tt, tt)
rows_fit zero (b ∷ bs) all = let r = rows_fit 15 bs all.1 in (tt, ((all.0, r.0), r.1))
rows_fit (suc k) (b ∷ bs) all = let r = rows_fit k bs all.1 in ((all.0, r.0), r.1)

-- a line of one word and a number
line_prints : (word number : List ℕ) (w : What) → all_of feedless word ≡ true → Each feedless number → line_of (word ++ number) ≡ Some (w ∷ []) → Prints (row_of (word ++ number) w)
line_prints word number w feeds digits reads = record { feeds = Each-append feedless word number (each_from feedless word feeds) digits; reads = reads }

-- the rows of bytes
bytes_print : (bytes : List ℕ) (rs : List Row) → IsBytes bytes → AllByRecursion Prints rs → AllByRecursion Prints (map byte_row (rows_of bytes) ++ rs)
unfolding byte_row RowFits
bytes_print bytes rs are = fit_map RowFits byte_row row (rows_of bytes) rs (rows_fit 0 bytes are).1
  where
    row : (r : ℕ × List ℕ) → RowFits r → Prints (byte_row r)
    row r h = record { feeds = byte_each r.0 r.1; reads = byte_read r.0 r.1 h }

-- all rows of what is listed
rows_print : (o : Listed) → ListedFits o → AllByRecursion Prints (rows_for o)
unfolding rel_row entry_row all_of
rows_print o f =
    let machine = line_prints (codes ".machine ") (decimal o.parts.machine) (what.Machine o.parts.machine) refl (decimal_each o.parts.machine (omega (arith, f.machine))) (machine_read o.parts.machine (omega (arith, f.machine))) in
    let address = line_prints (codes ".entry ") (hex_word o.parts.entry) (what.Entry o.parts.entry) refl (word_digits o.parts.entry) (entry_word_read o.parts.entry f.entry) in
    let bss = line_prints (codes ".bsize ") (decimal o.parts.bss) (what.Bsize o.parts.bss) refl (decimal_each o.parts.bss f.bss) (bsize_read o.parts.bss f.bss) in
    let text : Prints (row_of (codes ".text") (what.Switch part.Text)) = record { feeds = each_from feedless (codes ".text") refl; reads = refl } in
    let datum : Prints (row_of (codes ".data") (what.Switch part.Data)) = record { feeds = each_from feedless (codes ".data") refl; reads = refl } in
    let entries = fit_alone NamedFits entry_row entry o.named f.named in
    let relocs = fit_map IsReloc (rel_row part.Text) (rel part.Text) o.parts.text_relocs _ f.text_relocs (fit_map IsReloc (rel_row part.Data) (rel part.Data) o.parts.data_relocs _ f.data_relocs entries) in
    let bytes = bytes_print o.parts.text _ f.text (datum, bytes_print o.parts.data_part _ f.datum relocs) in
    (machine, (address, (bss, (text, bytes))))
  where
    rel : (q : Part) (r : Reloc) → IsReloc r → Prints (rel_row q r)
    rel q r h = record { feeds = rel_each q r h; reads = rel_read q r h }

    entry : (n : Named) → NamedFits n → Prints (entry_row n)
    entry n h = record { feeds = entry_each n h; reads = entry_read n h }

-- the text of what is listed is read as the statements of its rows
pub listing_read : (o : Listed) → ListedFits o → read_source (text_of (lines_for o.parts o.named)) ≡ Ok (numbered 1 (rows_for o))
listing_read o f = ap (λ ls. read_lines 1 (lines_of (text_of ls))) (sym (rows_lines o)) ∙ rows_read 1 (rows_for o) (rows_print o f)
