-- How many bytes and entries statements give: as many as their places say.
use Rattle.std.proofs.Common.{◌≡◌, ℕ, ◌+◌, ◌%◌, Bool, true, false, List, [], ◌∷◌, length, refl, ap, arith, length-append}
use Rattle.std.proofs.lemmas.List.{length-replicate}
use Rattle.st_base.proofs.BytesLemmas.{length-bytes_of}
use Rattle.nlist_codec.specs.declared.named.Named.{Named as Named'}
use Rattle.asm_statements.specs.Directives.{size_of_width}
use Rattle.asm_objects.specs.Layout.{after, moved, grown_in, listed, reserved, is_local, padding, offset_in, end_of, each}
use Rattle.asm_objects.specs.Meaning.{bytes_in, field_bytes, if_in, entries_in, unless_local, word, plus, minus}
use Rattle.asm_statements.specs.declared.statement.Part.{Part}
use Rattle.asm_statements.specs.declared.statement.Part.TheVariants as part
use Rattle.asm_statements.specs.declared.statement.Width.{Width}
use Rattle.asm_statements.specs.declared.statement.Width.TheVariants.{Byte, Short, Long}
use Rattle.asm_statements.specs.declared.statement.Statement.{Statement}
use Rattle.asm_statements.specs.declared.statement.What.{What}
use Rattle.asm_statements.specs.declared.statement.What.TheVariants as what
use Rattle.asm_objects.specs.declared.table.Places.{Places}
use Rattle.asm_objects.specs.declared.table.Table.{Table}

-- these bytes lie between the places
record Sized (p q : Places) (bytes : List ℕ) : Type 0 where
  text : p.text + length (if_in part.Text p.part bytes) ≡ q.text
  datum : p.datum + length (if_in part.Data p.part bytes) ≡ q.datum

-- a list in a segment, and in the other
all_in : (q : Part) (p : Places) (bytes : List ℕ) (n : ℕ) → length bytes ≡ n
    → (p.text + length (if_in part.Text q bytes) ≡ (grown_in q p n).text) × (p.datum + length (if_in part.Data q bytes) ≡ (grown_in q p n).datum)
all_in part.Text p bytes n e = (ap (λ k. p.text + k) e, omega arith)
all_in part.Data p bytes n e = (omega arith, ap (λ k. p.datum + k) e)

-- an empty list
none_in : (q r : Part) → length (if_in {X = ℕ} q r []) ≡ 0
none_in part.Text part.Text = refl
none_in part.Text part.Data = refl
none_in part.Data part.Text = refl
none_in part.Data part.Data = refl

-- a segment that grows by these bytes, and one that gets none
sized_grown : (p : Places) (bytes : List ℕ) (n : ℕ) → length bytes ≡ n → Sized p (grown_in p.part p n) bytes
sized_grown p bytes n e = let both = all_in p.part p bytes n e in record { text = both.0; datum = both.1 }

sized_none : (p q : Places) → q.text ≡ p.text → q.datum ≡ p.datum → Sized p q []
sized_none p q text datum = record { text = omega (arith, none_in part.Text p.part, text); datum = omega (arith, none_in part.Data p.part, datum) }

-- an entry takes no bytes
listed_text : (p : Places) (without : Bool) → ((listed p without).text ≡ p.text) × ((listed p without).datum ≡ p.datum)
listed_text p true = (refl, refl)
listed_text p false = (refl, refl)

-- a field has its width
length-field : (big : Bool) (width : Width) (n : ℕ) → length (field_bytes big width n) ≡ size_of_width width
length-field big Byte n = length-bytes_of big 1 (n % 256)
length-field big Short n = length-bytes_of big 2 (n % 65536)
length-field big Long n = length-bytes_of big 4 n

-- the bytes of a statement
sized : (big : Bool) (t : Table) (p : Places) (w : What) → Sized p (moved p w) (bytes_in big t p w)
sized big t p (what.Label name) = let l = listed_text p (is_local name) in sized_none p _ l.0 l.1
sized big t p (what.Field width sum) = sized_grown p _ _ (length-field big width (word (plus t p sum) (minus t p sum)))
sized big t p (what.Space n) = sized_grown p _ n (length-replicate n 0)
sized big t p (what.Lcomm name n) = let l = listed_text (reserved p n) (is_local name) in sized_none p _ l.0 l.1
sized big t p (what.Bytes bytes) = sized_grown p bytes _ refl
sized big t p (what.Align n) = sized_grown p _ _ (length-replicate (padding n (offset_in p)) 0)
sized big t p _ = sized_none p _ refl refl

-- the bytes of text
pub length-text : (big : Bool) (t : Table) (p : Places) (ss : List Statement)
    → p.text + length (each (λ p w. if_in part.Text p.part (bytes_in big t p w)) p ss) ≡ (end_of p ss).text
length-text big t p [] = omega arith
length-text big t p (s ∷ ss) =
    let here = (sized big t p s.what).text in
    let both = length-append (if_in part.Text p.part (bytes_in big t p s.what)) (each (λ p w. if_in part.Text p.part (bytes_in big t p w)) (after p s) ss) in
    omega (arith, here, both, length-text big t (after p s) ss)

-- the bytes of data
pub length-data : (big : Bool) (t : Table) (p : Places) (ss : List Statement)
    → p.datum + length (each (λ p w. if_in part.Data p.part (bytes_in big t p w)) p ss) ≡ (end_of p ss).datum
length-data big t p [] = omega arith
length-data big t p (s ∷ ss) =
    let here = (sized big t p s.what).datum in
    let both = length-append (if_in part.Data p.part (bytes_in big t p s.what)) (each (λ p w. if_in part.Data p.part (bytes_in big t p w)) (after p s) ss) in
    omega (arith, here, both, length-data big t (after p s) ss)

-- ---- entries

-- an entry, unless there is none
one_entry : (p q : Places) (without : Bool) (entry : Named') → q.entries ≡ p.entries → p.entries + length (unless_local without entry) ≡ (listed q without).entries
one_entry p q true entry e = omega (arith, e)
one_entry p q false entry e = omega (arith, e)

-- bytes are no entries
same_entries : (q : Part) (p : Places) (n : ℕ) → (grown_in q p n).entries ≡ p.entries
same_entries part.Text p n = refl
same_entries part.Data p n = refl

-- the entries of a statement
entries_here : (t : Table) (p : Places) (w : What) → p.entries + length (entries_in t p w) ≡ (moved p w).entries
entries_here t p (what.Label name) = one_entry p p (is_local name) _ refl
entries_here t p (what.Field width sum) = omega (arith, same_entries p.part p (size_of_width width))
entries_here t p (what.Space n) = omega (arith, same_entries p.part p n)
entries_here t p (what.Lcomm name n) = one_entry p (reserved p n) (is_local name) _ refl
entries_here t p (what.Bytes bytes) = omega (arith, same_entries p.part p (length bytes))
entries_here t p (what.Align n) = omega (arith, same_entries p.part p (padding n (offset_in p)))
entries_here t p _ = omega arith

-- the entries of statements
pub length-entries : (t : Table) (p : Places) (ss : List Statement) → p.entries + length (each (entries_in t) p ss) ≡ (end_of p ss).entries
length-entries t p [] = omega arith
length-entries t p (s ∷ ss) =
    let here = entries_here t p s.what in
    let both = length-append (entries_in t p s.what) (each (entries_in t) (after p s) ss) in
    omega (arith, here, both, length-entries t (after p s) ss)
