-- The statements of a listing make the parts and the entries that were listed.
use Rattle.std.proofs.Common.{◌≡◌, ℕ, ◌+◌, ◌-◌, ◌*◌, ◌/◌, ◌%◌, ◌<◌, max, Bool, true, false, List, [], ◌∷◌, ◌++◌, fold, refl, sym, ap, ◌∙◌, arith, append-nil}
use Rattle.std.specs.Prelude.{flat_map, if◌then◌else◌, nat_le, ◌==◌}
use Rattle.std.proofs.lemmas.Bool.{le-leb, lt-leb, eq-eqb, ne_eqb}
use Rattle.st_base.specs.ByteOrder.{is_big}
use Rattle.nlist_codec.specs.declared.named.Named.{Named}
use Rattle.reloc.specs.declared.reloc.Reloc.{Reloc}
use Rattle.aout_object.specs.Objects.{IsReloc}
use Rattle.std.specs.Str.{bytes_eq}
use Rattle.st_base.specs.FirstUses.{used}
use Rattle.asm_objects.specs.Layout.{each, after, moved, start, end_of, table_of, grown_in, listed, entry_word, machine_word, bss_size, last}
use Rattle.asm_objects.specs.Meaning.{bytes_in, if_in, relocs_in, reloc_part, entries_in, undefined_of, outer, written}
use Rattle.asm_objects.specs.SourceMaking.{parts_of, entries_of}
use Rattle.stabs_asm.specs.Listing.{flags_of}
use Rattle.asm_statements.specs.declared.statement.Part.{Part}
use Rattle.asm_statements.specs.declared.statement.Part.TheVariants as part
use Rattle.asm_statements.specs.declared.statement.What.{What}
use Rattle.asm_statements.specs.declared.statement.What.TheVariants as what
use Rattle.asm_statements.specs.declared.statement.Statement.{Statement}
use Rattle.asm_objects.specs.declared.table.Places.{Places}
use Rattle.asm_objects.specs.declared.table.Table.{Table}
use Rattle.stabs_asm.proofs.ListLemmas.{NamedFits, stab_for, field_for}
use Rattle.stabs_asm.proofs.RowLemmas.{Listed, ListedFits}
use Rattle.stabs_asm.proofs.EachLemmas.{Says, none, flat_none, flat_one, listed_statements, given, given_words, given_none}

-- ---- bytes

-- an empty list in any segment
if_in_nil : {X : Type 0} (q r : Part) → if_in {X = X} q r [] ≡ []
if_in_nil part.Text part.Text = refl
if_in_nil part.Text part.Data = refl
if_in_nil part.Data part.Text = refl
if_in_nil part.Data part.Data = refl

-- a list in a segment that is known
if_in_at : {X : Type 0} (q r s : Part) (xs : List X) → r ≡ s → if_in q r xs ≡ if_in q s xs
if_in_at q r s xs e = ap (λ z. if_in q z xs) e

-- the byte of a field
byte_given : (big : Bool) (t : Table) (p : Places) (b : ℕ) → b < 256 → bytes_in big t p (field_for b) ≡ b ∷ []
byte_given true t p b h = let e : (0 + b + 4294967296 - 0) % 4294967296 % 256 % 256 ≡ b = omega arith in ap (λ z. z ∷ []) e
byte_given false t p b h = let e : (0 + b + 4294967296 - 0) % 4294967296 % 256 % 256 ≡ b = omega arith in ap (λ z. z ∷ []) e

-- the bytes of text
text_given : (big : Bool) (t : Table) (o : Listed) → ListedFits o → each (λ p w. if_in part.Text p.part (bytes_in big t p w)) start (listed_statements o) ≡ o.parts.text
text_given big t o fits =
    given _ o [] [] [] (λ b. b ∷ []) none (λ q. none) none says fits
    ∙ rw (flat_one o.parts.text, flat_none {A = ℕ} {X = ℕ} o.parts.data_part, flat_none {A = Reloc} {X = ℕ} o.parts.text_relocs, flat_none {A = Reloc} {X = ℕ} o.parts.data_relocs, flat_none {A = Named} {X = ℕ} o.named) (append-nil o.parts.text)
  where
    says : Says (λ p w. if_in part.Text p.part (bytes_in big t p w)) o [] [] [] (λ b. b ∷ []) none (λ q. none) none
    says = record {
      machine = λ p. if_in_nil part.Text p.part;
      entry = λ p. if_in_nil part.Text p.part;
      bsize = λ p. if_in_nil part.Text p.part;
      switch = λ p q. if_in_nil part.Text p.part;
      text = λ p b e h. if_in_at part.Text p.part part.Text (bytes_in big t p (field_for b)) e ∙ byte_given big t p b h;
      datum = λ p b e h. if_in_at part.Text p.part part.Data (bytes_in big t p (field_for b)) e;
      rel = λ p q r h. if_in_nil part.Text p.part;
      stab = λ p n h. if_in_nil part.Text p.part;
    }

-- the bytes of data
datum_given : (big : Bool) (t : Table) (o : Listed) → ListedFits o → each (λ p w. if_in part.Data p.part (bytes_in big t p w)) start (listed_statements o) ≡ o.parts.data_part
datum_given big t o fits =
    given _ o [] [] [] none (λ b. b ∷ []) (λ q. none) none says fits
    ∙ rw (flat_one o.parts.data_part, flat_none {A = ℕ} {X = ℕ} o.parts.text, flat_none {A = Reloc} {X = ℕ} o.parts.text_relocs, flat_none {A = Reloc} {X = ℕ} o.parts.data_relocs, flat_none {A = Named} {X = ℕ} o.named) (append-nil o.parts.data_part)
  where
    says : Says (λ p w. if_in part.Data p.part (bytes_in big t p w)) o [] [] [] none (λ b. b ∷ []) (λ q. none) none
    says = record {
      machine = λ p. if_in_nil part.Data p.part;
      entry = λ p. if_in_nil part.Data p.part;
      bsize = λ p. if_in_nil part.Data p.part;
      switch = λ p q. if_in_nil part.Data p.part;
      text = λ p b e h. if_in_at part.Data p.part part.Text (bytes_in big t p (field_for b)) e;
      datum = λ p b e h. if_in_at part.Data p.part part.Data (bytes_in big t p (field_for b)) e ∙ byte_given big t p b h;
      rel = λ p q r h. if_in_nil part.Data p.part;
      stab = λ p n h. if_in_nil part.Data p.part;
    }

-- the bits of the flags
flag_bits : (c e : Bool) (l : ℕ) → l < 3
    → ((((if c then 1 else 0) + 2 * l + (if e then 8 else 0)) % 2 == 1) ≡ c) × (((if c then 1 else 0) + 2 * l + (if e then 8 else 0)) / 2 % 4 ≡ l) × (nat_le 8 ((if c then 1 else 0) + 2 * l + (if e then 8 else 0)) ≡ e)
flag_bits true true l h = (eq-eqb ((1 + 2 * l + 8) % 2) 1 (omega arith), omega arith, le-leb 8 (1 + 2 * l + 8) (omega arith))
flag_bits true false l h = (eq-eqb ((1 + 2 * l + 0) % 2) 1 (omega arith), omega arith, lt-leb 8 (1 + 2 * l + 0) (omega arith))
flag_bits false true l h = (ne_eqb ((0 + 2 * l + 8) % 2) 1 (λ e. absurd (omega arith)), omega arith, le-leb 8 (0 + 2 * l + 8) (omega arith))
flag_bits false false l h = (ne_eqb ((0 + 2 * l + 0) % 2) 1 (λ e. absurd (omega arith)), omega arith, lt-leb 8 (0 + 2 * l + 0) (omega arith))

-- the flags of a relocation are told apart
pub flags_back : (r : Reloc) → IsReloc r → ((flags_of r % 2 == 1) ≡ r.pcrel) × (flags_of r / 2 % 4 ≡ r.length) × (nat_le 8 (flags_of r) ≡ r.external)
flags_back r f = flag_bits r.pcrel r.external r.length (omega (arith, f.fits.length))

-- the relocation that is written is the one that was printed
written_back : (q : Part) (r : Reloc) → IsReloc r → written (record { part = q; address = r.address; symbol = r.symbol; flags = flags_of r }) ≡ r
written_back q r f = let b = flags_back r f in rw (b.0, b.1, b.2) refl

-- the relocations of text
text_relocs_given : (t : Table) (u : List (List ℕ)) (o : Listed) → ListedFits o → each (λ p w. if_in part.Text (reloc_part p w) (relocs_in t u p w)) start (listed_statements o) ≡ o.parts.text_relocs
text_relocs_given t u o fits =
    given _ o [] [] [] none none (λ q r. if_in part.Text q (r ∷ [])) none says fits
    ∙ rw (flat_none {A = ℕ} {X = Reloc} o.parts.text, flat_none {A = ℕ} {X = Reloc} o.parts.data_part, flat_one o.parts.text_relocs, flat_none {A = Reloc} {X = Reloc} o.parts.data_relocs, flat_none {A = Named} {X = Reloc} o.named) (append-nil o.parts.text_relocs)
  where
    says : Says (λ p w. if_in part.Text (reloc_part p w) (relocs_in t u p w)) o [] [] [] none none (λ q r. if_in part.Text q (r ∷ [])) none
    says = record {
      machine = λ p. if_in_nil part.Text p.part;
      entry = λ p. if_in_nil part.Text p.part;
      bsize = λ p. if_in_nil part.Text p.part;
      switch = λ p q. if_in_nil part.Text p.part;
      text = λ p b e h. if_in_nil part.Text p.part;
      datum = λ p b e h. if_in_nil part.Text p.part;
      rel = λ p q r h. ap (λ z. if_in part.Text q (z ∷ [])) (written_back q r h);
      stab = λ p n h. if_in_nil part.Text p.part;
    }

-- the relocations of data
data_relocs_given : (t : Table) (u : List (List ℕ)) (o : Listed) → ListedFits o → each (λ p w. if_in part.Data (reloc_part p w) (relocs_in t u p w)) start (listed_statements o) ≡ o.parts.data_relocs
data_relocs_given t u o fits =
    given _ o [] [] [] none none (λ q r. if_in part.Data q (r ∷ [])) none says fits
    ∙ rw (flat_none {A = ℕ} {X = Reloc} o.parts.text, flat_none {A = ℕ} {X = Reloc} o.parts.data_part, flat_none {A = Reloc} {X = Reloc} o.parts.text_relocs, flat_one o.parts.data_relocs, flat_none {A = Named} {X = Reloc} o.named) (append-nil o.parts.data_relocs)
  where
    says : Says (λ p w. if_in part.Data (reloc_part p w) (relocs_in t u p w)) o [] [] [] none none (λ q r. if_in part.Data q (r ∷ [])) none
    says = record {
      machine = λ p. if_in_nil part.Data p.part;
      entry = λ p. if_in_nil part.Data p.part;
      bsize = λ p. if_in_nil part.Data p.part;
      switch = λ p q. if_in_nil part.Data p.part;
      text = λ p b e h. if_in_nil part.Data p.part;
      datum = λ p b e h. if_in_nil part.Data p.part;
      rel = λ p q r h. ap (λ z. if_in part.Data q (z ∷ [])) (written_back q r h);
      stab = λ p n h. if_in_nil part.Data p.part;
    }

-- the entry of a stab directive
entry_given : (t : Table) (p : Places) (n : Named) → NamedFits n → entries_in t p (stab_for n) ≡ n ∷ []
entry_given t p n f =
    let k : (n.kind + 4294967296 - 0) % 4294967296 % 256 ≡ n.kind = omega (arith, f.kind) in
    let o : (n.other + 4294967296 - 0) % 4294967296 % 256 ≡ n.other = omega (arith, f.other) in
    let d : (n.desc + 4294967296 - 0) % 4294967296 % 65536 ≡ n.desc = omega (arith, f.desc) in
    let v : (0 + n.value + 4294967296 - 0) % 4294967296 ≡ n.value = omega (arith, f.value) in
    rw (k, o, d, v) refl

-- the entries
named_given : (t : Table) (o : Listed) → ListedFits o → each (entries_in t) start (listed_statements o) ≡ o.named
named_given t o fits =
    given (entries_in t) o [] [] [] none none (λ q. none) (λ n. n ∷ []) says fits
    ∙ rw (flat_none {A = ℕ} {X = Named} o.parts.text, flat_none {A = ℕ} {X = Named} o.parts.data_part, flat_none {A = Reloc} {X = Named} o.parts.text_relocs, flat_none {A = Reloc} {X = Named} o.parts.data_relocs, flat_one o.named) (append-nil o.named)
  where
    says : Says (entries_in t) o [] [] [] none none (λ q. none) (λ n. n ∷ [])
    says = record {
      machine = λ p. refl;
      entry = λ p. refl;
      bsize = λ p. refl;
      switch = λ p q. refl;
      text = λ p b e h. refl;
      datum = λ p b e h. refl;
      rel = λ p q r h. refl;
      stab = entry_given t;
    }

-- no undefined names
outer_given : (t : Table) (o : Listed) → ListedFits o → undefined_of t (listed_statements o) ≡ []
outer_given t o fits = ap (fold (used bytes_eq) []) (sym (constant (listed_statements o) start) ∙ given_none (λ p. outer t) o says fits)
  where
    constant : (ss : List Statement) (p : Places) → each (λ p. outer t) p ss ≡ flat_map (λ s. outer t s.what) ss
    constant [] p = refl
    constant (s ∷ ss) p = ap (λ l. outer t s.what ++ l) (constant ss (after p s))

    says : Says (λ p. outer t) o [] [] [] none none (λ q. none) none
    says = record { machine = λ p. refl; entry = λ p. refl; bsize = λ p. refl; switch = λ p q. refl; text = λ p b e h. refl; datum = λ p b e h. refl; rel = λ p q r h. refl; stab = λ p n h. refl }

-- the words
entry_word_given : (o : Listed) → ListedFits o → each (λ p. entry_word) start (listed_statements o) ≡ o.parts.entry ∷ []
entry_word_given o fits = given_words (λ p. entry_word) o [] (o.parts.entry ∷ []) [] says fits
  where
    says : Says (λ p. entry_word) o [] (o.parts.entry ∷ []) [] none none (λ q. none) none
    says = record { machine = λ p. refl; entry = λ p. refl; bsize = λ p. refl; switch = λ p q. refl; text = λ p b e h. refl; datum = λ p b e h. refl; rel = λ p q r h. refl; stab = λ p n h. refl }

machine_word_given : (o : Listed) → ListedFits o → each (λ p. machine_word) start (listed_statements o) ≡ o.parts.machine ∷ []
machine_word_given o fits = given_words (λ p. machine_word) o (o.parts.machine ∷ []) [] [] says fits
  where
    says : Says (λ p. machine_word) o (o.parts.machine ∷ []) [] [] none none (λ q. none) none
    says = record { machine = λ p. refl; entry = λ p. refl; bsize = λ p. refl; switch = λ p q. refl; text = λ p b e h. refl; datum = λ p b e h. refl; rel = λ p q r h. refl; stab = λ p n h. refl }

bss_size_given : (o : Listed) → ListedFits o → each (λ p. bss_size) start (listed_statements o) ≡ o.parts.bss ∷ []
bss_size_given o fits = given_words (λ p. bss_size) o [] [] (o.parts.bss ∷ []) says fits
  where
    says : Says (λ p. bss_size) o [] [] (o.parts.bss ∷ []) none none (λ q. none) none
    says = record { machine = λ p. refl; entry = λ p. refl; bsize = λ p. refl; switch = λ p q. refl; text = λ p b e h. refl; datum = λ p b e h. refl; rel = λ p q r h. refl; stab = λ p n h. refl }

-- bss stays empty
abbrev reserves : What → List ℕ
reserves (what.Lcomm name n) = n ∷ []
reserves _ = []

-- no statement but `.lcomm` adds to bss
grown_bss : (q : Part) (p : Places) (n : ℕ) → (grown_in q p n).bss ≡ p.bss
grown_bss part.Text p n = refl
grown_bss part.Data p n = refl

listed_bss : (p : Places) (b : Bool) → (listed p b).bss ≡ p.bss
listed_bss p true = refl
listed_bss p false = refl

moved_bss : (p : Places) (w : What) (rest : List ℕ) → reserves w ++ rest ≡ [] → ((moved p w).bss ≡ p.bss) × (rest ≡ [])
moved_bss p (what.Label name) rest e = (listed_bss p _, e)
moved_bss p (what.Switch q) rest e = (refl, e)
moved_bss p (what.Field w sum) rest e = (grown_bss p.part p _, e)
moved_bss p (what.Space n) rest e = (grown_bss p.part p n, e)
moved_bss p (what.Globl name) rest e = (refl, e)
moved_bss p (what.Comm name n) rest e = (refl, e)
moved_bss p (what.Lcomm name n) rest e = absurd cc
moved_bss p (what.Stab s) rest e = (refl, e)
moved_bss p (what.Bytes bytes) rest e = (grown_bss p.part p _, e)
moved_bss p (what.Align n) rest e = (grown_bss p.part p _, e)
moved_bss p (what.Entry n) rest e = (refl, e)
moved_bss p (what.Machine n) rest e = (refl, e)
moved_bss p (what.Bsize n) rest e = (refl, e)
moved_bss p (what.Rel r) rest e = (refl, e)

-- the statements of a listing keep the size of bss
end_bss : (p : Places) (ss : List Statement) → each (λ p. reserves) p ss ≡ [] → (end_of p ss).bss ≡ p.bss
end_bss p [] e = refl
end_bss p (s ∷ ss) e = let m = moved_bss p s.what (each (λ p. reserves) (after p s) ss) e in end_bss (after p s) ss m.1 ∙ m.0

bss_given : (o : Listed) → ListedFits o → (end_of start (listed_statements o)).bss ≡ 0
bss_given o fits = end_bss start (listed_statements o) (given_none (λ p. reserves) o says fits)
  where
    says : Says (λ p. reserves) o [] [] [] none none (λ q. none) none
    says = record { machine = λ p. refl; entry = λ p. refl; bsize = λ p. refl; switch = λ p q. refl; text = λ p b e h. refl; datum = λ p b e h. refl; rel = λ p q r h. refl; stab = λ p n h. refl }

-- ---- what the statements make

-- the parts
pub parts_given : (o : Listed) → ListedFits o → parts_of o.parts.order (listed_statements o) ≡ o.parts
parts_given o fits =
    let t : Table = table_of (listed_statements o) in
    let machine = ap (fold last 0) (machine_word_given o fits) in
    let entry = ap (fold last 0) (entry_word_given o fits) in
    let big : Bool = is_big o.parts.order in
    let undefined : List (List ℕ) = undefined_of t (listed_statements o) in
    rw (machine, entry, bss, text_given big t o fits, datum_given big t o fits, text_relocs_given t undefined o fits, data_relocs_given t undefined o fits) refl
  where
    bss : max (fold last 0 (each (λ p. bss_size) start (listed_statements o))) (end_of start (listed_statements o)).bss ≡ o.parts.bss
    bss = rw (bss_size_given o fits, bss_given o fits) (let e : max o.parts.bss 0 ≡ o.parts.bss = omega arith in e)

-- the entries
pub entries_given : (o : Listed) → ListedFits o → entries_of (listed_statements o) ≡ o.named
entries_given o fits =
    let t : Table = table_of (listed_statements o) in
    rw (outer_given t o fits, named_given t o fits) (append-nil o.named)
