-- The tokens of files come to one outcome at most: what stands in front decides the rule, and an include is no other item.
use Rattle.std.proofs.Common.{◌≡◌, List, [], ◌∷◌, Bool, true, false, Option, Some, None, Result, Ok, Err, refl, sym, ap, ◌∙◌, subst, inl, inr}
use Rattle.std.specs.Prelude.{◌⊎◌}
use Rattle.st_base.specs.declared.fault.Fault.{Fault}
use Rattle.st_base.specs.declared.fault.TheConstants.{C_SYNTAX}
use Rattle.c_tokens.specs.declared.kind.Kind.{Kind}
use Rattle.c_tokens.specs.declared.kind.Kind.TheVariants as k
use Rattle.c_tokens.specs.Tokens.{Info, Token}
use Rattle.c_items.specs.Trees as tree
use Rattle.c_items.specs.Trees.{Qualifiers, Simple, Specifier, Storage, Item, BeginsWith}
use Rattle.c_items.specs.Steps.{scan, start}
use Rattle.c_items.proofs.TakenLemmas.{item_taken}
use Rattle.c_items.proofs.OnceLemmas.{one_end}
use Rattle.c_units.specs.declared.draft.Draft.{Draft}
use Rattle.c_units.specs.Drafts.{fault}
use Rattle.cdecl_producer.specs.declared.source.Source.{Source}
use Rattle.cdecl_producer.specs.declared.reading.Reading.{Reading}
use Rattle.cdecl_producer.specs.Files.{Meaning, Header, Reads, IsDeclaration, NoItem, wanted, left, tokens_at}
use Rattle.cdecl_producer.specs.Outcomes.{OneMeaning}

-- ---- an include is no other item

abbrev kind_is_include : Kind → Bool
kind_is_include k.Include = true
kind_is_include _ = false

abbrev is_include : List Token → Bool
is_include [] = false
is_include (t ∷ ts) = kind_is_include t.0

specifier_no : (s : Specifier) (ts : List Token) → is_include (tree.specifier s ts) ≡ false
specifier_no (Specifier.of Qualifiers.plain (Simple.basic i)) ts = refl
specifier_no (Specifier.of Qualifiers.plain (Simple.void i)) ts = refl
specifier_no (Specifier.of Qualifiers.plain (Simple.named i)) ts = refl
specifier_no (Specifier.of Qualifiers.plain (Simple.struct_tag s t)) ts = refl
specifier_no (Specifier.of Qualifiers.plain (Simple.enum_tag s t)) ts = refl
specifier_no (Specifier.of Qualifiers.plain (Simple.enum_body s t brace cs)) ts = refl
specifier_no (Specifier.of (Qualifiers.with_const i) b) ts = refl
specifier_no (Specifier.of (Qualifiers.with_volatile i) b) ts = refl
specifier_no (Specifier.of (Qualifiers.with_both i j) b) ts = refl
specifier_no (Specifier.body Qualifiers.plain s t brace fs) ts = refl
specifier_no (Specifier.body (Qualifiers.with_const i) s t brace fs) ts = refl
specifier_no (Specifier.body (Qualifiers.with_volatile i) s t brace fs) ts = refl
specifier_no (Specifier.body (Qualifiers.with_both i j) s t brace fs) ts = refl

qualifiers_no : (q : Qualifiers) (t : Token) (ts : List Token) → kind_is_include t.0 ≡ false → is_include (tree.qualifiers q (t ∷ ts)) ≡ false
qualifiers_no Qualifiers.plain t ts h = h
qualifiers_no (Qualifiers.with_const i) t ts h = refl
qualifiers_no (Qualifiers.with_volatile i) t ts h = refl
qualifiers_no (Qualifiers.with_both i j) t ts h = refl

item_no : (it : Item) → IsDeclaration it → (us : List Token) → is_include (tree.item it us) ≡ false
item_no (Item.include i) d us = absurd d
item_no (Item.type_name i s dd semi) d us = refl
item_no (Item.struct_alone q s t brace fs semi) d us = qualifiers_no q (k.Struct, s) ((k.Name, t) ∷ (k.OpenBrace, brace) ∷ tree.fields fs ((k.Semi, semi) ∷ us)) refl
item_no (Item.enum_alone q s t brace cs semi) d us = qualifiers_no q (k.Enum, s) ((k.Name, t) ∷ (k.OpenBrace, brace) ∷ tree.choices cs ((k.Semi, semi) ∷ us)) refl
item_no (Item.variable Storage.plain s dd semi) d us = specifier_no s (tree.declarator dd ((k.Semi, semi) ∷ us))
item_no (Item.variable (Storage.static i) s dd semi) d us = refl
item_no (Item.variable (Storage.extern i) s dd semi) d us = refl
item_no (Item.function s ps n lead ts brace ls ss) d us = specifier_no s (tree.stars ps ((k.Name, n) ∷ (k.OpenParen, lead) ∷ tree.takes ts ((k.OpenBrace, brace) ∷ tree.locals ls (tree.statements ss us))))
item_no (Item.static_function i s ps n lead ts brace ls ss) d us = refl

not_both : (it : Item) → IsDeclaration it → (us ts vs : List Token) (i : Info) → BeginsWith ts it us → BeginsWith ts (Item.include i) vs → ⊥
not_both it d us ts vs i e h =
    let a : true ≡ false = sym (ap (λ y. is_include y) h) ∙ (ap (λ y. is_include y) e ∙ item_no it d us) in
    cc

-- tokens that are none hold no item
abbrev holds : List Token → Bool
holds [] = false
holds (t ∷ ts) = true

no_empty : (it : Item) (us : List Token) → [] ≡ tree.item it us → ⊥
no_empty it us e =
    let a : scan start (tree.item it us) ≡ None = ap (λ y. scan start y) (sym e) in
    let b = item_taken it us in
    cc

-- ---- what stands in front decides the rule

abbrev After : Meaning → List Source → Result Draft Fault → List Token → Reading → Result Reading Fault → Type 0
After means fs (Ok u) us s o = Reads means fs us (record s { draft = u }) o
After means fs (Err f) us s o = o ≡ Err (f)

after_item : (means : Meaning) (one : OneMeaning means) (fs : List Source) (ts us : List Token) (it : Item) (s : Reading) (o : Result Reading Fault)
    → Reads means fs ts s o → BeginsWith ts it us → IsDeclaration it → After means fs (means it s.draft) us s o
after_item means one fs _ us it s o (Reads.ended _) e d = absurd (no_empty it us e)
after_item means one fs _ us it s o (Reads.broken t ts _ n) e d = absurd (n it us e)
after_item means one fs _ us it s o (Reads.item ts vs jt _ u _ h d' m c) e d =
    let a : us ≡ vs = one_end ts us vs it jt e h in
    let b : means it s.draft ≡ Ok u = one ts us vs it jt s.draft e h ∙ m in
    subst (λ v. After means fs v us s o) (sym b) (subst (λ y. Reads means fs y (record s { draft = u }) o) (sym a) c)
after_item means one fs _ us it s _ (Reads.wrong ts vs jt _ f h d' m) e d =
    let b : means it s.draft ≡ Err f = one ts us vs it jt s.draft e h ∙ m in
    subst (λ v. After means fs v us s (Err (f))) (sym b) refl
after_item means one fs _ us it s _ (Reads.refused ts vs i _ f h w) e d = absurd (not_both it d us ts vs i e h)
after_item means one fs _ us it s o (Reads.again ts vs i _ _ h w c) e d = absurd (not_both it d us ts vs i e h)
after_item means one fs _ us it s o (Reads.header ts vs i p _ s' _ h w c c') e d = absurd (not_both it d us ts vs i e h)
after_item means one fs _ us it s _ (Reads.header_wrong ts vs i p _ f h w c) e d = absurd (not_both it d us ts vs i e h)

abbrev AtInclude : Meaning → List Source → Info → Result (Option Header) Fault → List Token → Reading → Result Reading Fault → Type 0
AtInclude means fs i (Err f) us s o = o ≡ Err f
AtInclude means fs i (Ok None) us s o = Reads means fs us s o
AtInclude means fs i (Ok (Some p)) us s o =
    ((s' : Reading) × Reads means fs (tokens_at p.place fs) p.reading (Ok s') × Reads means fs us (left p.place s') o)
    ⊎ ((f : Fault) × Reads means fs (tokens_at p.place fs) p.reading (Err f) × (o ≡ Err f))

second : (ts us vs : List Token) (i j : Info) → BeginsWith ts (Item.include i) us → BeginsWith ts (Item.include j) vs → us ≡ vs
second ts us vs i j e h = one_end ts us vs (Item.include i) (Item.include j) e h

abbrev info_of : Info → List Token → Info
info_of d [] = d
info_of d (t ∷ ts) = t.1

first : (ts us vs : List Token) (i j : Info) → BeginsWith ts (Item.include i) us → BeginsWith ts (Item.include j) vs → i ≡ j
first ts us vs i j e h = ap (λ y. info_of i y) (sym e ∙ h)

at_include : (means : Meaning) (fs : List Source) (ts us : List Token) (i : Info) (s : Reading) (o : Result Reading Fault)
    → Reads means fs ts s o → BeginsWith ts (Item.include i) us → AtInclude means fs i (wanted fs i s) us s o
at_include means fs _ us i s o (Reads.ended _) e = absurd (no_empty (Item.include i) us e)
at_include means fs _ us i s o (Reads.broken t ts _ n) e = absurd (n (Item.include i) us e)
at_include means fs _ us i s o (Reads.item ts vs jt _ u _ h d m c) e = absurd (not_both jt d vs ts us i h e)
at_include means fs _ us i s _ (Reads.wrong ts vs jt _ f h d m) e = absurd (not_both jt d vs ts us i h e)
at_include means fs _ us i s _ (Reads.refused ts vs j _ f h w) e =
    let b : wanted fs i s ≡ Err f = ap (λ y. wanted fs y s) (first ts us vs i j e h) ∙ w in
    subst (λ v. AtInclude means fs i v us s (Err f)) (sym b) refl
at_include means fs _ us i s o (Reads.again ts vs j _ _ h w c) e =
    let b : wanted fs i s ≡ Ok None = ap (λ y. wanted fs y s) (first ts us vs i j e h) ∙ w in
    subst (λ v. AtInclude means fs i v us s o) (sym b) (subst (λ y. Reads means fs y s o) (sym (second ts us vs i j e h)) c)
at_include means fs _ us i s o (Reads.header ts vs j p _ s' _ h w c c') e =
    let b : wanted fs i s ≡ Ok (Some p) = ap (λ y. wanted fs y s) (first ts us vs i j e h) ∙ w in
    subst (λ v. AtInclude means fs i v us s o) (sym b)
    (inl (
      s',
      c,
      subst (λ y. Reads means fs y (left p.place s') o) (sym (second ts us vs i j e h)) c',
    ))
at_include means fs _ us i s _ (Reads.header_wrong ts vs j p _ f h w c) e =
    let b : wanted fs i s ≡ Ok (Some p) = ap (λ y. wanted fs y s) (first ts us vs i j e h) ∙ w in
    subst (λ v. AtInclude means fs i v us s (Err f)) (sym b)
    (inr (f, c, refl))

at_end : (means : Meaning) (fs : List Source) (s : Reading) (o : Result Reading Fault) → Reads means fs [] s o → o ≡ Ok s
at_end means fs s _ (Reads.ended _) = refl
at_end means fs s o (Reads.item _ us it _ u _ e d m c) = absurd (no_empty it us e)
at_end means fs s _ (Reads.wrong _ us it _ f e d m) = absurd (no_empty it us e)
at_end means fs s _ (Reads.refused _ us i _ f e w) = absurd (no_empty (Item.include i) us e)
at_end means fs s o (Reads.again _ us i _ _ e w c) = absurd (no_empty (Item.include i) us e)
at_end means fs s o (Reads.header _ us i p _ s' _ e w c c') = absurd (no_empty (Item.include i) us e)
at_end means fs s _ (Reads.header_wrong _ us i p _ f e w c) = absurd (no_empty (Item.include i) us e)

at_broken : (means : Meaning) (fs : List Source) (t : Token) (ts : List Token) (s : Reading) (o : Result Reading Fault) → NoItem (t ∷ ts) → Reads means fs (t ∷ ts) s o
    → o ≡ Err (fault C_SYNTAX t.1.line s.draft)
at_broken means fs t ts s _ n (Reads.broken _ _ _ _) = refl
at_broken means fs t ts s o n (Reads.item _ us it _ u _ e d m c) = absurd (n it us e)
at_broken means fs t ts s _ n (Reads.wrong _ us it _ f e d m) = absurd (n it us e)
at_broken means fs t ts s _ n (Reads.refused _ us i _ f e w) = absurd (n (Item.include i) us e)
at_broken means fs t ts s o n (Reads.again _ us i _ _ e w c) = absurd (n (Item.include i) us e)
at_broken means fs t ts s o n (Reads.header _ us i p _ s' _ e w c c') = absurd (n (Item.include i) us e)
at_broken means fs t ts s _ n (Reads.header_wrong _ us i p _ f e w c) = absurd (n (Item.include i) us e)

-- one outcome at most
pub one_outcome : (means : Meaning) (one : OneMeaning means) (fs : List Source) (ts : List Token) (s : Reading) (o o' : Result Reading Fault) → Reads means fs ts s o → Reads means fs ts s o' → o ≡ o'
one_outcome means one fs _ s _ o' (Reads.ended _) g = sym (at_end means fs s o' g)
one_outcome means one fs _ s _ o' (Reads.broken t ts _ n) g = sym (at_broken means fs t ts s o' n g)
one_outcome means one fs _ s o o' (Reads.item ts us it _ u _ e d m c) g =
    one_outcome means one fs us (record s { draft = u }) o o' c (subst (λ v. After means fs v us s o') m (after_item means one fs ts us it s o' g e d))
one_outcome means one fs _ s _ o' (Reads.wrong ts us it _ f e d m) g =
    sym (subst (λ v. After means fs v us s o') m (after_item means one fs ts us it s o' g e d))
one_outcome means one fs _ s _ o' (Reads.refused ts us i _ f e w) g = sym (subst (λ v. AtInclude means fs i v us s o') w (at_include means fs ts us i s o' g e))
one_outcome means one fs _ s o o' (Reads.again ts us i _ _ e w c) g = one_outcome means one fs us s o o' c (subst (λ v. AtInclude means fs i v us s o') w (at_include means fs ts us i s o' g e))
one_outcome means one fs _ s o o' (Reads.header ts us i p _ s' _ e w c c') g =
    by (subst (λ v. AtInclude means fs i v us s o') w (at_include means fs ts us i s o' g e)) (λ q h. one_outcome means one fs (tokens_at p.place fs) p.reading (Ok s') q c h) (λ q h. one_outcome means one fs us (left p.place s') o q c' h)
  where
    by : AtInclude means fs i (Ok (Some p)) us s o' → ((q : Result Reading Fault) → Reads means fs (tokens_at p.place fs) p.reading q → Ok s' ≡ q)
        → ((q : Result Reading Fault) → Reads means fs us (left p.place s') q → o ≡ q) → o ≡ o'
    by (inl h) inside behind =
        let a : s' ≡ h.0 = cc (inside (Ok h.0) h.1) in
        behind o' (subst (λ y. Reads means fs us (left p.place y) o') (sym a) h.2)
    by (inr h) inside behind = let a : Result.Ok s' ≡ Result.Err h.0 = inside (Err h.0) h.1 in absurd cc
one_outcome means one fs _ s _ o' (Reads.header_wrong ts us i p _ f e w c) g =
    by (subst (λ v. AtInclude means fs i v us s o') w (at_include means fs ts us i s o' g e)) (λ q h. one_outcome means one fs (tokens_at p.place fs) p.reading (Err f) q c h)
  where
    by : AtInclude means fs i (Ok (Some p)) us s o' → ((q : Result Reading Fault) → Reads means fs (tokens_at p.place fs) p.reading q → Err f ≡ q) → Err f ≡ o'
    by (inl h) inside = let a : Result.Err f ≡ Result.Ok h.0 = inside (Ok h.0) h.1 in absurd cc
    by (inr h) inside = inside (Err h.0) h.1 ∙ sym h.2
