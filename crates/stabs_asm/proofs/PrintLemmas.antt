-- The text that is printed is the listing.
use Rattle.std.proofs.Common.{◌≡◌, ℕ, zero, suc, ◌-◌, ◌≤◌, List, [], ◌∷◌, ◌++◌, length, map, take, drop, refl, sym, ap, ◌∙◌, arith, append_assoc, get_or}
use Rattle.std.specs.Prelude.{codes, decimal, flat_map}
use Rattle.std.proofs.lemmas.List.{take_all}
use Rattle.nlist_codec.specs.declared.entry.Entry.{Entry}
use Rattle.reloc.specs.declared.reloc.Reloc.{Reloc}
use Rattle.aout_object.specs.Objects.{Contents, named_entry, all_named, named_of}
use Rattle.stabs_asm.specs.Listing.{hex_word, cut_rows, rows_of, byte_lines, byte_line, text_of, listing, rel_line, entry_line}
use Rattle.asm_statements.specs.declared.statement.Part.{Part}
use Rattle.asm_statements.specs.declared.statement.Part.TheVariants as part

-- the rows are cut at every sixteenth byte
record Cut (k : ℕ) (bytes : List ℕ) : Type 0 where
  front : (cut_rows k bytes).0 ≡ take k bytes
  rows : (cut_rows k bytes).1 ≡ rows_of (drop k bytes)

-- of any bytes
cut_is : (k : ℕ) (bytes : List ℕ) → Cut k bytes
cut_is zero [] = record { front = refl; rows = refl }
cut_is (suc k) [] = record { front = refl; rows = refl }
cut_is zero (b ∷ bs) = record { front = refl; rows = refl }
cut_is (suc k) (b ∷ bs) = let c = cut_is k bs in record { front = ap (λ l. b ∷ l) c.front; rows = c.rows }

-- the first row of bytes, and the rows after it
pub rows_more : (b : ℕ) (more : List ℕ) → text_of (byte_lines (rows_of (b ∷ more))) ≡ (byte_line b (take 15 more) ++ 10 ∷ []) ++ text_of (byte_lines (rows_of (drop 15 more)))
rows_more b more =
    let c = cut_is 15 more in
    rw (c.front, c.rows) (sym (append_assoc (byte_line b (take 15 more)) (10 ∷ []) (text_of (byte_lines (rows_of (drop 15 more))))))

-- the text of lines, one part after the other
text_append : (ls ms : List (List ℕ)) → text_of (ls ++ ms) ≡ text_of ls ++ text_of ms
text_append [] ms = refl
text_append (l ∷ ls) ms = ap (λ t. l ++ (10 ∷ t)) (text_append ls ms) ∙ sym (append_assoc l (10 ∷ text_of ls) (text_of ms))

-- the text of lines that are made of a list
text_map : {A : Type 0} (f : A → List ℕ) (xs : List A) → text_of (map f xs) ≡ flat_map (λ x. f x ++ 10 ∷ []) xs
text_map f [] = refl
text_map f (x ∷ xs) = ap (λ t. f x ++ (10 ∷ t)) (text_map f xs) ∙ sym (append_assoc (f x) (10 ∷ []) (flat_map (λ x. f x ++ 10 ∷ []) xs))

-- one row more
pub rows_next : (start out next rest others behind : List ℕ) (first : ℕ) (whole : List ℕ) → out ++ text_of (byte_lines (rows_of rest)) ≡ whole → 1 ≤ length rest → first ≡ get_or rest 0 0
    → others ≡ take 15 (take (length rest - 1) (drop 1 rest)) → behind ≡ drop 15 (take (length rest - 1) (drop 1 rest)) → next ≡ out ++ (byte_line first others ++ 10 ∷ [])
    → next ++ text_of (byte_lines (rows_of behind)) ≡ whole
rows_next start out next [] others behind first whole was some is a b puts = absurd (omega arith)
rows_next start out next (c ∷ more) others behind first whole was some is a b puts =
    let all : take (length (c ∷ more) - 1) more ≡ more = take_all (length (c ∷ more) - 1) more (omega arith) in
    let o : others ≡ take 15 more = a ∙ ap (take 15) all in
    let d : behind ≡ drop 15 more = b ∙ ap (drop 15) all in
    rw (puts, is, o, d) (append_assoc out (byte_line c (take 15 more) ++ 10 ∷ []) (text_of (byte_lines (rows_of (drop 15 more)))) ∙ ap (λ l. out ++ l) (sym (rows_more c more)) ∙ was)

-- each entry with its line feed
text_entries : (strings : List ℕ) (es : List Entry) → text_of (map entry_line (all_named strings es)) ≡ flat_map (λ e. entry_line (named_entry strings e) ++ 10 ∷ []) es
text_entries strings [] = refl
text_entries strings (e ∷ es) =
    ap (λ t. entry_line (named_entry strings e) ++ (10 ∷ t)) (text_entries strings es)
    ∙ sym (append_assoc (entry_line (named_entry strings e)) (10 ∷ []) (flat_map (λ e. entry_line (named_entry strings e) ++ 10 ∷ []) es))

-- what was put one after another is the whole
lines_joined : (a b c d x e y f g n : List ℕ) → (((((((((([] ++ (a ++ 10 ∷ [])) ++ (b ++ 10 ∷ [])) ++ (c ++ 10 ∷ [])) ++ (d ++ 10 ∷ [])) ++ x) ++ (e ++ 10 ∷ [])) ++ y) ++ f) ++ g) ++ n)
    ≡ a ++ (10 ∷ (b ++ (10 ∷ (c ++ (10 ∷ (d ++ (10 ∷ (x ++ (e ++ (10 ∷ (y ++ (f ++ (g ++ n)))))))))))))
lines_joined a b c d x e y f g n = simp append_assoc

-- the lines of the parts of a listing
abbrev machine_of : Contents → List ℕ
machine_of o = codes ".machine " ++ decimal o.parts.machine

abbrev address_of : Contents → List ℕ
address_of o = codes ".entry " ++ hex_word o.parts.entry

abbrev bss_of : Contents → List ℕ
bss_of o = codes ".bsize " ++ decimal o.parts.bss

abbrev bytes_of : List ℕ → List ℕ
bytes_of bytes = text_of (byte_lines (rows_of bytes))

abbrev rels_of : Part → List Reloc → List ℕ
rels_of q relocs = flat_map (λ r. rel_line q r ++ 10 ∷ []) relocs

abbrev entries_of : Contents → List ℕ
entries_of o = flat_map (λ e. entry_line (named_entry o.strings e) ++ 10 ∷ []) o.entries

-- the listing, part by part
parts_of : (o : Contents) → listing o ≡ machine_of o ++ (10 ∷ (address_of o ++ (10 ∷ (bss_of o ++ (10 ∷ (codes ".text" ++ (10 ∷
    (bytes_of o.parts.text ++ (codes ".data" ++ (10 ∷ (bytes_of o.parts.data_part
    ++ (rels_of part.Text o.parts.text_relocs ++ (rels_of part.Data o.parts.data_relocs ++ entries_of o)))))))))))))
parts_of o =
    let ns : List (List ℕ) = map entry_line (named_of o) in
    let ds : List (List ℕ) = map (rel_line part.Data) o.parts.data_relocs in
    let ts : List (List ℕ) = map (rel_line part.Text) o.parts.text_relocs in
    let ys : List (List ℕ) = byte_lines (rows_of o.parts.data_part) in
    let xs : List (List ℕ) = byte_lines (rows_of o.parts.text) in
    let d = text_append ds ns in
    let t = text_append ts (ds ++ ns) in
    let y = text_append ys (ts ++ (ds ++ ns)) in
    let x = text_append xs (codes ".data" ∷ (ys ++ (ts ++ (ds ++ ns)))) in
    rw (x, y, t, d, text_map (rel_line part.Text) o.parts.text_relocs, text_map (rel_line part.Data) o.parts.data_relocs, text_entries o.strings o.entries) refl

-- the text after each part is the listing in the end
pub listing_joined : (o : Contents) (t0 t1 t2 t3 t4 t5 t6 t7 t8 t9 t10 : List ℕ) → t0 ≡ [] → t1 ≡ t0 ++ (machine_of o ++ 10 ∷ []) → t2 ≡ t1 ++ (address_of o ++ 10 ∷ [])
    → t3 ≡ t2 ++ (bss_of o ++ 10 ∷ []) → t4 ≡ t3 ++ (codes ".text" ++ 10 ∷ []) → t5 ≡ t4 ++ bytes_of o.parts.text → t6 ≡ t5 ++ (codes ".data" ++ 10 ∷ [])
    → t7 ≡ t6 ++ bytes_of o.parts.data_part → t8 ≡ t7 ++ rels_of part.Text o.parts.text_relocs → t9 ≡ t8 ++ rels_of part.Data o.parts.data_relocs
    → t10 ≡ t9 ++ entries_of o → t10 ≡ listing o
listing_joined o t0 t1 t2 t3 t4 t5 t6 t7 t8 t9 t10 e0 e1 e2 e3 e4 e5 e6 e7 e8 e9 e10 =
    rw (e10, e9, e8, e7, e6, e5, e4, e3, e2, e1, e0)
    (lines_joined (machine_of o) (address_of o) (bss_of o) (codes ".text") (bytes_of o.parts.text) (codes ".data") (bytes_of o.parts.data_part) (rels_of part.Text o.parts.text_relocs)
    (rels_of part.Data o.parts.data_relocs) (entries_of o) ∙ sym (parts_of o))
