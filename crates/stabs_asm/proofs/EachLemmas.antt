-- What the statements of a listing give, each in its order.
use Rattle.std.proofs.Common.{◌≡◌, ℕ, zero, suc, ◌+◌, ◌<◌, List, [], ◌∷◌, ◌++◌, map, refl, sym, ap, ◌∙◌, append_assoc, append-nil}
use Rattle.std.specs.Prelude.{codes, flat_map}
use Rattle.std.specs.List.{AllByRecursion}
use Rattle.st_base.specs.Number.{IsBytes}
use Rattle.nlist_codec.specs.declared.named.Named.{Named}
use Rattle.reloc.specs.declared.reloc.Reloc.{Reloc}
use Rattle.aout_object.specs.Objects.{IsReloc}
use Rattle.asm_objects.specs.Layout.{each, after, moved, start, grown_in}
use Rattle.asm_statements.specs.SourceLines.{at_line}
use Rattle.stabs_asm.specs.Listing.{cut_rows, rows_of}
use Rattle.asm_statements.specs.declared.statement.Part.{Part}
use Rattle.asm_statements.specs.declared.statement.Part.TheVariants as part
use Rattle.asm_statements.specs.declared.statement.What.{What}
use Rattle.asm_statements.specs.declared.statement.What.TheVariants as what
use Rattle.asm_statements.specs.declared.statement.Statement.{Statement}
use Rattle.asm_objects.specs.declared.table.Places.{Places}
use Rattle.stabs_asm.proofs.ListLemmas.{NamedFits, stab_for, field_for, rel_for}
use Rattle.stabs_asm.proofs.RowLemmas.{Listed, ListedFits, Row, numbered, byte_row, rel_row, entry_row, row_of, rows_for}

-- ---- statements without their lines

-- the places after a statement without its line
abbrev after_w : Places → What → Places
after_w p w = record (moved p w) { number = p.number + 1 }

-- what each statement gives
abbrev each_w : {X : Type 0} → (Places → What → List X) → Places → List What → List X
each_w f p [] = []
each_w f p (w ∷ ws) = f p w ++ each_w f (after_w p w) ws

-- statements without their lines
abbrev whats_in : List Statement → List What
whats_in ss = map (λ s. s.what) ss

-- no statement gives anything by its line
each_whats : {X : Type 0} (f : Places → What → List X) (p : Places) (ss : List Statement) → each f p ss ≡ each_w f p (whats_in ss)
each_whats f p [] = refl
each_whats f p (s ∷ ss) = ap (λ l. f p s.what ++ l) (each_whats f (after p s) ss)

-- the statements of rows
abbrev whats_of : List Row → List What
whats_of [] = []
whats_of (r ∷ rs) = r.whats ++ whats_of rs

-- those of one line
whats_line : (n : ℕ) (ws : List What) (ss : List Statement) → whats_in (map (at_line n) ws ++ ss) ≡ ws ++ whats_in ss
whats_line n [] ss = refl
whats_line n (w ∷ ws) ss = ap (λ l. w ∷ l) (whats_line n ws ss)

-- the rows give their statements
numbered_whats : (n : ℕ) (rs : List Row) → whats_in (numbered n rs) ≡ whats_of rs
numbered_whats n [] = refl
numbered_whats n (r ∷ rs) = whats_line n r.whats (numbered (n + 1) rs) ∙ ap (λ l. r.whats ++ l) (numbered_whats (n + 1) rs)

-- ---- the statements of an object

-- the statements of what is listed
abbrev list_whats : Listed → List What
list_whats o =
    what.Machine o.parts.machine ∷ what.Entry o.parts.entry ∷ what.Bsize o.parts.bss ∷ what.Switch part.Text ∷ (map field_for o.parts.text ++ (what.Switch part.Data ∷ (map field_for o.parts.data_part
    ++ (map (rel_for part.Text) o.parts.text_relocs ++ (map (rel_for part.Data) o.parts.data_relocs ++ map stab_for o.named)))))

-- the bytes of rows
abbrev flat_rows : List (ℕ × List ℕ) → List ℕ
flat_rows [] = []
flat_rows (r ∷ rs) = (r.0 ∷ r.1) ++ flat_rows rs

-- cutting bytes into rows keeps them
rows_flat : (k : ℕ) (bytes : List ℕ) → (cut_rows k bytes).0 ++ flat_rows (cut_rows k bytes).1 ≡ bytes
rows_flat k [] = refl
rows_flat zero (b ∷ bs) = ap (λ l. b ∷ l) (rows_flat 15 bs)
rows_flat (suc k) (b ∷ bs) = ap (λ l. b ∷ l) (rows_flat k bs)

bytes_back : (bytes : List ℕ) → flat_rows (rows_of bytes) ≡ bytes
bytes_back [] = refl
bytes_back (b ∷ bs) = rows_flat 0 (b ∷ bs)

-- the statements of bytes, one part after the other
map_join : (xs ys : List ℕ) (rest : List What) → map field_for (xs ++ ys) ++ rest ≡ map field_for xs ++ (map field_for ys ++ rest)
map_join [] ys rest = refl
map_join (x ∷ xs) ys rest = ap (λ l. field_for x ∷ l) (map_join xs ys rest)

-- the statements of rows of bytes
whats_bytes : (rows : List (ℕ × List ℕ)) (rs : List Row) → whats_of (map byte_row rows ++ rs) ≡ map field_for (flat_rows rows) ++ whats_of rs
unfolding byte_row
whats_bytes [] rs = refl
whats_bytes (r ∷ rows) rs = ap (λ l. map field_for (r.0 ∷ r.1) ++ l) (whats_bytes rows rs) ∙ sym (map_join (r.0 ∷ r.1) (flat_rows rows) (whats_of rs))

-- the statements of rows that have one each
whats_one : {A : Type 0} (f : A → Row) (g : A → What) → ((x : A) → (f x).whats ≡ g x ∷ []) → (xs : List A) (rs : List Row) → whats_of (map f xs ++ rs) ≡ map g xs ++ whats_of rs
whats_one f g same [] rs = refl
whats_one f g same (x ∷ xs) rs = rw (same x, whats_one f g same xs rs) refl

whats_alone : {A : Type 0} (f : A → Row) (g : A → What) → ((x : A) → (f x).whats ≡ g x ∷ []) → (xs : List A) → whats_of (map f xs) ≡ map g xs
whats_alone f g same [] = refl
whats_alone f g same (x ∷ xs) = rw (same x, whats_alone f g same xs) refl

-- the statements of the rows are those of what is listed
rows_whats : (o : Listed) → whats_of (rows_for o) ≡ list_whats o
unfolding rel_row entry_row
rows_whats o =
    let named = whats_alone entry_row stab_for (λ n. refl) o.named in
    let data_relocs = whats_one (rel_row part.Data) (rel_for part.Data) (λ r. refl) o.parts.data_relocs (map entry_row o.named) in
    let text_relocs = whats_one (rel_row part.Text) (rel_for part.Text) (λ r. refl) o.parts.text_relocs (map (rel_row part.Data) o.parts.data_relocs ++ map entry_row o.named) in
    let datum = whats_bytes (rows_of o.parts.data_part) (map (rel_row part.Text) o.parts.text_relocs ++ (map (rel_row part.Data) o.parts.data_relocs ++ map entry_row o.named)) in
    let text = whats_bytes (rows_of o.parts.text) (row_of (codes ".data") (what.Switch part.Data) ∷ (map byte_row (rows_of o.parts.data_part) ++ (map (rel_row part.Text) o.parts.text_relocs ++ (map (rel_row part.Data) o.parts.data_relocs ++ map entry_row o.named)))) in
    rw (text, datum, text_relocs, data_relocs, named, bytes_back o.parts.text, bytes_back o.parts.data_part) refl

-- ---- what each gives

-- a list of one kind of statement, in a segment that they leave
each_map : {X A : Type 0} (f : Places → What → List X) (q : Part) (g : A → What) (h : A → List X) (P : A → Type 0)
    → ((p : Places) (a : A) → p.part ≡ q → P a → (f p (g a) ≡ h a) × ((after_w p (g a)).part ≡ q))
    → (p : Places) (xs : List A) (ws : List What) (whole : List X) → p.part ≡ q → AllByRecursion P xs → ((p : Places) → p.part ≡ q → each_w f p ws ≡ whole)
    → each_w f p (map g xs ++ ws) ≡ flat_map h xs ++ whole
each_map f q g h P one p [] ws whole is all rest = rest p is
each_map f q g h P one p (x ∷ xs) ws whole is all rest =
    let s = one p x is all.0 in
    rw (s.0, each_map f q g h P one (after_w p (g x)) xs ws whole s.1 all.1 rest) (sym (append_assoc (h x) (flat_map h xs) whole))

-- a segment that grows stays the segment
part_stays : (q : Part) (p : Places) (n : ℕ) → (grown_in q p n).part ≡ p.part
part_stays part.Text p n = refl
part_stays part.Data p n = refl

-- a byte
IsByte : ℕ → Type 0
IsByte b = b < 256

-- each item is one
all_bytes : (bs : List ℕ) → IsBytes bs → AllByRecursion IsByte bs
unfolding IsByte
all_bytes [] all = tt
all_bytes (b ∷ bs) all = (all.0, all_bytes bs all.1)

-- what each statement of a listing gives
pub record Says {X : Type 0} (f : Places → What → List X) (o : Listed) (hm he hb : List X) (ht hd : ℕ → List X) (hr : Part → Reloc → List X) (hs : Named → List X) : Type 0 where
  pub machine : (p : Places) → f p (what.Machine o.parts.machine) ≡ hm
  pub entry : (p : Places) → f p (what.Entry o.parts.entry) ≡ he
  pub bsize : (p : Places) → f p (what.Bsize o.parts.bss) ≡ hb
  pub switch : (p : Places) (q : Part) → f p (what.Switch q) ≡ []
  pub text : (p : Places) (b : ℕ) → p.part ≡ part.Text → b < 256 → f p (field_for b) ≡ ht b
  pub datum : (p : Places) (b : ℕ) → p.part ≡ part.Data → b < 256 → f p (field_for b) ≡ hd b
  pub rel : (p : Places) (q : Part) (r : Reloc) → IsReloc r → f p (rel_for q r) ≡ hr q r
  pub stab : (p : Places) (n : Named) → NamedFits n → f p (stab_for n) ≡ hs n

-- what each statement of a listing gives, in order
each_listed : {X : Type 0} (f : Places → What → List X) (o : Listed) (hm he hb : List X) (ht hd : ℕ → List X) (hr : Part → Reloc → List X) (hs : Named → List X)
    → Says f o hm he hb ht hd hr hs → ListedFits o
    → each_w f start (list_whats o) ≡ hm ++ (he ++ (hb ++ (flat_map ht o.parts.text ++ (flat_map hd o.parts.data_part ++ (flat_map (hr part.Text) o.parts.text_relocs ++ (flat_map (hr part.Data) o.parts.data_relocs ++ (flat_map hs o.named ++ [])))))))
unfolding IsByte
each_listed f o hm he hb ht hd hr hs says fits =
    rw (says.machine start, says.entry p1, says.bsize p2, says.switch p3 part.Text, texts p4 refl) refl
  where
    p1 : Places
    p1 = after_w start (what.Machine o.parts.machine)

    p2 : Places
    p2 = after_w p1 (what.Entry o.parts.entry)

    p3 : Places
    p3 = after_w p2 (what.Bsize o.parts.bss)

    p4 : Places
    p4 = after_w p3 (what.Switch part.Text)

    stabs : (p : Places) → p.part ≡ part.Data → each_w f p (map stab_for o.named) ≡ flat_map hs o.named ++ []
    stabs p is =
        ap (each_w f p) (sym (append-nil (map stab_for o.named)))
        ∙ each_map f part.Data stab_for hs NamedFits (λ q n i h. (says.stab q n h, i)) p o.named [] [] is fits.named (λ q i. refl)

    data_relocs : (p : Places) → p.part ≡ part.Data → each_w f p (map (rel_for part.Data) o.parts.data_relocs ++ map stab_for o.named) ≡ flat_map (hr part.Data) o.parts.data_relocs ++ (flat_map hs o.named ++ [])
    data_relocs p is = each_map f part.Data (rel_for part.Data) (hr part.Data) IsReloc (λ q r i h. (says.rel q part.Data r h, i)) p o.parts.data_relocs (map stab_for o.named) _ is fits.data_relocs stabs

    text_relocs : (p : Places) → p.part ≡ part.Data → each_w f p (map (rel_for part.Text) o.parts.text_relocs ++ (map (rel_for part.Data) o.parts.data_relocs ++ map stab_for o.named))
        ≡ flat_map (hr part.Text) o.parts.text_relocs ++ (flat_map (hr part.Data) o.parts.data_relocs ++ (flat_map hs o.named ++ []))
    text_relocs p is = each_map f part.Data (rel_for part.Text) (hr part.Text) IsReloc (λ q r i h. (says.rel q part.Text r h, i)) p o.parts.text_relocs (map (rel_for part.Data) o.parts.data_relocs ++ map stab_for o.named) _ is fits.text_relocs data_relocs

    datums : (p : Places) → p.part ≡ part.Data → each_w f p (map field_for o.parts.data_part ++ (map (rel_for part.Text) o.parts.text_relocs ++ (map (rel_for part.Data) o.parts.data_relocs ++ map stab_for o.named)))
        ≡ flat_map hd o.parts.data_part ++ (flat_map (hr part.Text) o.parts.text_relocs ++ (flat_map (hr part.Data) o.parts.data_relocs ++ (flat_map hs o.named ++ [])))
    datums p is = each_map f part.Data field_for hd IsByte (λ q b i h. (says.datum q b i h, part_stays q.part q 1 ∙ i)) p o.parts.data_part _ _ is (all_bytes o.parts.data_part fits.datum) text_relocs

    texts : (p : Places) → p.part ≡ part.Text → each_w f p (map field_for o.parts.text ++ (what.Switch part.Data ∷ (map field_for o.parts.data_part ++ (map (rel_for part.Text) o.parts.text_relocs ++ (map (rel_for part.Data) o.parts.data_relocs ++ map stab_for o.named)))))
        ≡ flat_map ht o.parts.text ++ (flat_map hd o.parts.data_part ++ (flat_map (hr part.Text) o.parts.text_relocs ++ (flat_map (hr part.Data) o.parts.data_relocs ++ (flat_map hs o.named ++ []))))
    texts p is = each_map f part.Text field_for ht IsByte (λ q b i h. (says.text q b i h, part_stays q.part q 1 ∙ i)) p o.parts.text _ _ is (all_bytes o.parts.text fits.text)
        (λ q i. rw (says.switch q part.Data) (datums (after_w q (what.Switch part.Data)) refl))

-- ---- lists that are given

-- nothing
abbrev pub none : {A X : Type 0} → A → List X
none a = []

-- nothing of each item is nothing, and each item of each is the list
pub flat_none : {A X : Type 0} (xs : List A) → flat_map (none {A = A} {X = X}) xs ≡ []
flat_none [] = refl
flat_none {A} {X} (x ∷ xs) = flat_none {A = A} {X = X} xs

pub flat_one : {A : Type 0} (xs : List A) → flat_map (λ x. x ∷ []) xs ≡ xs
flat_one [] = refl
flat_one (x ∷ xs) = ap (λ l. x ∷ l) (flat_one xs)

-- the statements of a listing
abbrev pub listed_statements : Listed → List Statement
listed_statements o = numbered 1 (rows_for o)

-- they are those of the rows
listed_whats : (o : Listed) → whats_in (listed_statements o) ≡ list_whats o
listed_whats o = numbered_whats 1 (rows_for o) ∙ rows_whats o

-- what they give
pub given : {X : Type 0} (f : Places → What → List X) (o : Listed) (hm he hb : List X) (ht hd : ℕ → List X) (hr : Part → Reloc → List X) (hs : Named → List X)
    → Says f o hm he hb ht hd hr hs → ListedFits o
    → each f start (listed_statements o) ≡ hm ++ (he ++ (hb ++ (flat_map ht o.parts.text ++ (flat_map hd o.parts.data_part ++ (flat_map (hr part.Text) o.parts.text_relocs ++ (flat_map (hr part.Data) o.parts.data_relocs ++ (flat_map hs o.named ++ [])))))))
given f o hm he hb ht hd hr hs says fits =
    each_whats f start (listed_statements o) ∙ ap (each_w f start) (listed_whats o) ∙ each_listed f o hm he hb ht hd hr hs says fits

-- where only the first three lines give anything
pub given_words : {X : Type 0} (f : Places → What → List X) (o : Listed) (hm he hb : List X) → Says f o hm he hb none none (λ q. none) none → ListedFits o
    → each f start (listed_statements o) ≡ hm ++ (he ++ (hb ++ []))
given_words {X} f o hm he hb says fits =
    given f o hm he hb none none (λ q. none) none says fits
    ∙ rw (flat_none {A = ℕ} {X = X} o.parts.text, flat_none {A = ℕ} {X = X} o.parts.data_part, flat_none {A = Reloc} {X = X} o.parts.text_relocs, flat_none {A = Reloc} {X = X} o.parts.data_relocs, flat_none {A = Named} {X = X} o.named) refl

-- where no line gives anything
pub given_none : {X : Type 0} (f : Places → What → List X) (o : Listed) → Says f o [] [] [] none none (λ q. none) none → ListedFits o → each f start (listed_statements o) ≡ []
given_none f o says fits = given_words f o [] [] [] says fits
