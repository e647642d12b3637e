-- The tokens of files come to an outcome: each item takes tokens, and each header that is begun was not read before.
use Rattle.std.proofs.Common.{◌≡◌, ◌<◌, ◌≤◌, ℕ, zero, suc, ◌+◌, List, [], ◌∷◌, length, Option, Some, None, Result, Ok, Err, refl, sym, subst, inl, inr, arith}
use Rattle.std.specs.Prelude.{◌⊎◌, slice_get, slice_set}
use Rattle.st_base.specs.declared.fault.Fault.{Fault}
use Rattle.st_base.specs.declared.fault.TheConstants.{C_SYNTAX}
use Rattle.c_tokens.specs.Tokens.{Info, Token}
use Rattle.c_items.specs.Trees.{Item, BeginsWith}
use Rattle.c_items.specs.Steps.{scan, start}
use Rattle.c_items.specs.Ends.{behind}
use Rattle.c_items.proofs.OnceLemmas.{item_stands, none_stands, item_shorter}
use Rattle.c_units.specs.declared.draft.Draft.{Draft}
use Rattle.c_units.specs.Drafts.{fault}
use Rattle.c_units.specs.Files.{enter}
use Rattle.cdecl_producer.specs.declared.source.Source.{Source}
use Rattle.cdecl_producer.specs.declared.source.Progress.{Progress}
use Rattle.cdecl_producer.specs.declared.source.Progress.TheVariants.{Unread, Open, Done}
use Rattle.cdecl_producer.specs.declared.reading.Reading.{Reading}
use Rattle.cdecl_producer.specs.Files.{Meaning, Header, Wanted, Reads, IsDeclaration, wanted, wanted_at, wanted_of, header_at, left, place_of, tokens_at}

-- ---- how many given files were not begun

abbrev bit : Progress → ℕ
bit Unread = 1
bit Open = 0
bit Done = 0

abbrev pub unread : List Progress → ℕ
unread [] = 0
unread (x ∷ xs) = bit x + unread xs

-- a file that is done with is none of them
done_less : (xs : List Progress) (p : ℕ) → unread (slice_set xs p Done) ≤ unread xs
done_less [] p = omega arith
done_less (x ∷ xs) zero = omega arith
done_less (x ∷ xs) (suc p) = let h = done_less xs p in omega arith

-- a file that is begun was one of them
open_less : (xs : List Progress) (p : ℕ) → slice_get xs p ≡ Some Unread → unread (slice_set xs p Open) < unread xs
open_less [] p e = absurd cc
open_less (x ∷ xs) zero e = let h : x ≡ Unread = cc in rw h (omega arith)
open_less (x ∷ xs) (suc p) e = let h = open_less xs p e in omega arith

-- what a header that begins does to the progress
abbrev pub Begins : Reading → Wanted → Type 0
Begins s (Ok (Some h)) = (slice_get s.progress h.place ≡ Some Unread) × (h.reading.progress ≡ slice_set s.progress h.place Open)
Begins s _ = Unit {0}

begins_in : (s : Reading) (p : ℕ) (v : Result Draft Fault) → slice_get s.progress p ≡ Some Unread → Begins s (header_at p s.progress v)
begins_in s p (Ok d) e = (e, refl)
begins_in s p (Err f) e = tt

begins_of : (name : List ℕ) (line : ℕ) (s : Reading) (p : ℕ) (v : Option Progress) → slice_get s.progress p ≡ v → Begins s (wanted_of name line s p v)
begins_of name line s p None e = tt
begins_of name line s p (Some Open) e = tt
begins_of name line s p (Some Done) e = tt
begins_of name line s p (Some Unread) e = begins_in s p (enter p name line s.draft) e

pub begins_at : (name : List ℕ) (line : ℕ) (s : Reading) (v : Option ℕ) → Begins s (wanted_at name line s v)
begins_at name line s None = tt
begins_at name line s (Some p) = begins_of name line s p (slice_get s.progress p) refl

-- a header that begins was not read before
header_falls : (fs : List Source) (i : Info) (s : Reading) (h : Header) → wanted fs i s ≡ Ok (Some h) → unread h.reading.progress < unread s.progress
unfolding wanted
header_falls fs i s h e =
    let b = subst (λ v. Begins s v) e (begins_at i.text i.line s (place_of i.text fs)) in
    rw (b.1) (open_less s.progress h.place b.0)

-- one that ends makes them no more
left_less : (p : ℕ) (s : Reading) → unread (left p s).progress ≤ unread s.progress
unfolding left
left_less p s = done_less s.progress p

-- ---- an outcome

abbrev Keeps : ℕ → Result Reading Fault → Type 0
Keeps m (Ok s) = unread s.progress ≤ m
Keeps m (Err f) = Unit {0}

abbrev Leads : Meaning → List Source → ℕ → List Token → Reading → Type 0
Leads means fs m ts s = (o : Result Reading Fault) × Reads means fs ts s o × Keeps m o

abbrev Deeper : Meaning → List Source → ℕ → Type 0
Deeper means fs k = (ts : List Token) (s : Reading) → unread s.progress < k → Leads means fs (unread s.progress) ts s

which : (it : Item) → ((i : Info) × (it ≡ Item.include i)) ⊎ IsDeclaration it
which (Item.include i) = inl (i, refl)
which (Item.type_name i s d semi) = inr tt
which (Item.struct_alone q s t brace fs semi) = inr tt
which (Item.enum_alone q s t brace cs semi) = inr tt
which (Item.variable st s d semi) = inr tt
which (Item.function s ps n lead ts brace ls ss) = inr tt
which (Item.static_function i s ps n lead ts brace ls ss) = inr tt

weaker : (m n : ℕ) (o : Result Reading Fault) → m ≤ n → Keeps m o → Keeps n o
weaker m n (Ok s) h kept = let k : unread s.progress ≤ m = kept in omega arith
weaker m n (Err f) h kept = tt

at_header : (means : Meaning) (fs : List Source) (m : ℕ) → Deeper means fs m → (ts us : List Token) (i : Info) (p : Header) (s : Reading) → unread s.progress ≤ m
    → BeginsWith ts (Item.include i) us → wanted fs i s ≡ Ok (Some p)
    → ((s' : Reading) → unread s'.progress ≤ m → Leads means fs (unread s'.progress) us s') → Leads means fs (unread s.progress) ts s
at_header means fs m deep ts us i p s h e w rec = by (deep (tokens_at p.place fs) p.reading (omega (arith, header_falls fs i s p w)))
  where
    by : Leads means fs (unread p.reading.progress) (tokens_at p.place fs) p.reading → Leads means fs (unread s.progress) ts s
    by (Err f, d, kept) = (Err f, Reads.header_wrong ts us i p s f e w d, tt)
    by (Ok s', d, kept) =
        let a = left_less p.place s' in
        let b : unread s'.progress ≤ unread p.reading.progress = kept in
        let l = header_falls fs i s p w in
        let c : Leads means fs (unread (left p.place s').progress) us (left p.place s') = rec (left p.place s') (omega arith) in
        (c.0, Reads.header ts us i p s s' c.0 e w d c.1, weaker (unread (left p.place s').progress) (unread s.progress) c.0 (omega arith) c.2)

inner : (means : Meaning) (fs : List Source) (m : ℕ) → Deeper means fs m → (n : ℕ) (ts : List Token) (s : Reading) → unread s.progress ≤ m → length ts ≤ n → Leads means fs (unread s.progress) ts s
inner means fs m deep n [] s h l = (Ok s, Reads.ended s, omega arith)
inner means fs m deep zero (t ∷ ts) s h l = absurd (omega arith)
inner means fs m deep (suc n) (t ∷ ts) s h l =
    by (behind (scan start (t ∷ ts))) refl (λ us s' h' l'. inner means fs m deep n us s' h' l')
  where
    declared : (us : List Token) (it : Item) → BeginsWith (t ∷ ts) it us → IsDeclaration it → length us ≤ n
        → ((us : List Token) (s' : Reading) → unread s'.progress ≤ m → length us ≤ n → Leads means fs (unread s'.progress) us s')
        → (v : Result Draft Fault) → means it s.draft ≡ v → Leads means fs (unread s.progress) (t ∷ ts) s
    declared us it e d small rec (Err f) g = (Err (f), Reads.wrong (t ∷ ts) us it s f e d g, tt)
    declared us it e d small rec (Ok u) g =
        let c : Leads means fs (unread s.progress) us (record s { draft = u }) = rec us (record s { draft = u }) h small in
        (c.0, Reads.item (t ∷ ts) us it s u c.0 e d g c.1, c.2)

    included : (us : List Token) (i : Info) → BeginsWith (t ∷ ts) (Item.include i) us → length us ≤ n
        → ((us : List Token) (s' : Reading) → unread s'.progress ≤ m → length us ≤ n → Leads means fs (unread s'.progress) us s')
        → (v : Result (Option Header) Fault) → wanted fs i s ≡ v → Leads means fs (unread s.progress) (t ∷ ts) s
    included us i e small rec (Err f) g = (Err f, Reads.refused (t ∷ ts) us i s f e g, tt)
    included us i e small rec (Ok None) g =
        let c : Leads means fs (unread s.progress) us s = rec us s h small in
        (c.0, Reads.again (t ∷ ts) us i s c.0 e g c.1, c.2)
    included us i e small rec (Ok (Some p)) g = at_header means fs m deep (t ∷ ts) us i p s h e g (λ s' h'. rec us s' h' small)

    by : (v : Option (List Token)) → behind (scan start (t ∷ ts)) ≡ v
        → ((us : List Token) (s' : Reading) → unread s'.progress ≤ m → length us ≤ n → Leads means fs (unread s'.progress) us s')
        → Leads means fs (unread s.progress) (t ∷ ts) s
    by None e rec = (Err (fault C_SYNTAX t.1.line s.draft), Reads.broken t ts s (none_stands (t ∷ ts) e), tt)
    by (Some us) e rec =
        let f = item_stands (t ∷ ts) us e in
        let a : length us < length (t ∷ ts) = subst (λ y. length us < length y) (sym f.1) (item_shorter f.0 us) in
        let b : length us ≤ n = omega arith in
        elim (which f.0) [
          | inl g ↦ included us g.0 (subst (λ y. BeginsWith (t ∷ ts) y us) g.1 f.1) b rec (wanted fs g.0 s) refl
          | inr d ↦ declared us f.0 f.1 d b rec (means f.0 s.draft) refl
        ]

total : (means : Meaning) (fs : List Source) (k : ℕ) → Deeper means fs k
total means fs zero ts s h = absurd (omega arith)
total means fs (suc k) ts s h = inner means fs k (total means fs k) (length ts) ts s (omega arith) (omega arith)

-- tokens of files come to an outcome
pub an_outcome : (means : Meaning) (fs : List Source) (ts : List Token) (s : Reading) → (o : Result Reading Fault) × Reads means fs ts s o
an_outcome means fs ts s =
    let c : Leads means fs (unread s.progress) ts s = total means fs (suc (unread s.progress)) ts s (omega arith) in
    (c.0, c.1)
