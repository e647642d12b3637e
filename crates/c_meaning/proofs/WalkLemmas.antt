-- The walk over the tokens of an item gives what the recursion on its tree gives.
use Rattle.std.proofs.Common.{◌≡◌, ℕ, suc, ◌+◌, length, List, [], ◌∷◌, ◌++◌, Bool, true, false, Option, Some, None, Result, Ok, Err, refl, sym, ap, ◌∙◌}
use Rattle.std.proofs.Math.Nat.{add-suc, add-zero, suc-add, zero-add}
use Rattle.std.proofs.lemmas.List.{append_assoc, append-nil}
use Rattle.st_base.specs.declared.fault.Fault.{Fault}
use Rattle.c_tokens.specs.Tokens.{Info, Token}
use Rattle.c_items.specs.declared.role.Role.{Role}
use Rattle.c_items.specs.declared.role.Role.TheVariants as r
use Rattle.c_items.specs.Trees.{Qualifiers, Value, Choices, Simple, Length, Declarator, Fields, Specifier, TypedefSpecifier, Local, Statements, Parameters, Takes, Storage, Item, BeginsWith}
use Rattle.c_items.specs.Acts.{Act, qualifiers_acts, simple_acts, stars_acts, lengths_acts, declarator_acts, fields_acts, choices_acts, value_acts, specifier_acts, typedef_specifier_acts, item_acts, locals_acts, statements_acts, parameters_acts, takes_acts, function_acts}
use Rattle.c_items.specs.Acting.{all_acted, on_ok}
use Rattle.c_items.proofs.OnceLemmas.{one_acts}
use Rattle.c_types.specs.declared.ctype.Qualifiers.{Qualifiers as Marks}
use Rattle.c_types.specs.declared.ctype.CType.{CType}
use Rattle.c_types.specs.declared.ctype.Mention.{Mention}
use Rattle.c_types.specs.declared.ctype.Word.{Word}
use Rattle.c_types.specs.declared.ctype.Word.TheVariants as word
use Rattle.c_units.specs.declared.choices.Whole.{Whole}
use Rattle.c_units.specs.declared.choices.Listed.{Listed}
use Rattle.c_units.specs.declared.layout.Layout.{Layout}
use Rattle.c_units.specs.declared.draft.Draft.{Draft}
use Rattle.c_types.specs.Types.{tag_type}
use Rattle.c_units.specs.Tags.{typedef_type, mention, cross, begin_body}
use Rattle.c_units.specs.Choices.{no_choices, add_choice, close_enum}
use Rattle.c_units.specs.Layouts.{empty, close_body}
use Rattle.c_units.specs.Declarations.{give_name, add_typedef, add_variable, add_static, add_extern}
use Rattle.c_units.specs.Functions.{begin_function, give_param, add_param, begin_block, end_locals, end_block, add_statement, give_local, add_local}
use Rattle.c_meaning.specs.declared.walk.Frame.{Frame}
use Rattle.c_meaning.specs.declared.walk.Walk.{Walk}
use Rattle.c_meaning.specs.Meaning.{◌>>=◌, marks_of, lengths_of, declared_of, word_of, value_of, of_choices, with_mention, open_body, bodiless, with_draft, of_enum, of_simple, of_field, Laid, close_laid, of_fields, of_body, of_specifier, qualifiers_of, of_typedef_specifier, typedef_qualifiers_of, Give, Add, of_declared, of_declaration, of_locals, of_statements, starred, of_parameters, of_takes, of_head, of_function, draft_of, of_item}
use Rattle.c_meaning.specs.Walking.{known, unknown, ready, based, done, act, function_act, added, closed, next_choice}

-- ---- going on

then_then : {A B C : Type 0} (v : Result A Fault) (f : A → Result B Fault) (g : B → Result C Fault) → ((v >>= f) >>= g) ≡ (v >>= λ a. f a >>= g)
then_then (Ok a) f g = refl
then_then (Err e) f g = refl

then_same : {A B : Type 0} (v : Result A Fault) (f g : A → Result B Fault) → ((a : A) → f a ≡ g a) → (v >>= f) ≡ (v >>= g)
then_same (Ok a) f g h = h a
then_same (Err e) f g h = refl

-- two steps, and what follows them
two : {A B C D : Type 0} (a : Result A Fault) (b : A → Result B Fault) (e : A → B → Result C Fault) (k : C → Result D Fault)
    → ((a >>= λ x. b x >>= λ y. e x y) >>= k) ≡ (a >>= λ x. b x >>= λ y. e x y >>= k)
two (Ok x) b e k = then_then (b x) (λ y. e x y) k
two (Err f) b e k = refl

two_same : {A B C : Type 0} (a : Result A Fault) (b : A → Result B Fault) (f g : A → B → Result C Fault) → ((x : A) (y : B) → f x y ≡ g x y)
    → (a >>= λ x. b x >>= λ y. f x y) ≡ (a >>= λ x. b x >>= λ y. g x y)
two_same (Ok x) b f g h = then_same (b x) (λ y. f x y) (λ y. g x y) (h x)
two_same (Err e) b f g h = refl

-- four steps, and what follows them
four : {A B C D E G : Type 0} (a : Result A Fault) (b : A → Result B Fault) (c : A → B → Result C Fault) (d : C → Result D Fault) (e : C → D → Result E Fault) (k : E → Result G Fault)
    → ((a >>= λ u. b u >>= λ y. c u y >>= λ x. d x >>= λ l. e x l) >>= k) ≡ (a >>= λ u. b u >>= λ y. c u y >>= λ x. d x >>= λ l. e x l >>= k)
four {B = B} (Ok u) b c d e k = three (b u)
  where
    three : (v : Result B Fault) → ((v >>= λ y. c u y >>= λ x. d x >>= λ l. e x l) >>= k) ≡ (v >>= λ y. c u y >>= λ x. d x >>= λ l. e x l >>= k)
    three (Ok y) = two (c u y) d e k
    three (Err f) = refl
four (Err f) b c d e k = refl

four_same : {A B C D E : Type 0} (a : Result A Fault) (b : A → Result B Fault) (c : A → B → Result C Fault) (d : C → Result D Fault) (f g : C → D → Result E Fault)
    → ((x : C) (y : D) → f x y ≡ g x y)
    → (a >>= λ u. b u >>= λ y. c u y >>= λ x. d x >>= λ l. f x l) ≡ (a >>= λ u. b u >>= λ y. c u y >>= λ x. d x >>= λ l. g x l)
four_same {B = B} (Ok u) b c d f g h = three (b u)
  where
    three : (v : Result B Fault) → (v >>= λ y. c u y >>= λ x. d x >>= λ l. f x l) ≡ (v >>= λ y. c u y >>= λ x. d x >>= λ l. g x l)
    three (Ok y) = two_same (c u y) d f g h
    three (Err e) = refl
four_same (Err e) b c d f g h = refl

-- the walk over acts
abbrev run : List Act → Walk → Result Walk Fault
run [] w = Ok w
run (a ∷ ws) w = act a.0 a.1 w >>= λ w'. run ws w'

-- ---- declarators

-- behind a specifier and some of its declarator
abbrev typed : Marks → CType → ℕ → List ℕ → List ℕ → ℕ → Draft → List Frame → Walk
typed q t n ns name line u fs = record {
  draft = u;
  frames = fs;
  part = record (known q t) { declared = record { qualifiers = q; base = t; stars = n; lengths = ns }; name = name; name_line = line };
}

stars_run : (is : List Info) (n : ℕ) (ws : List Act) (q : Marks) (t : CType) (u : Draft) (fs : List Frame)
    → run (stars_acts is ws) (typed q t n [] [] 0 u fs) ≡ run ws (typed q t (n + length is) [] [] 0 u fs)
stars_run [] n ws q t u fs = ap (λ k. run ws (typed q t k [] [] 0 u fs)) (sym (add-zero n))
stars_run (i ∷ is) n ws q t u fs =
    stars_run is (suc n) ws q t u fs ∙ ap (λ k. run ws (typed q t k [] [] 0 u fs)) (suc-add n (length is) ∙ sym (add-suc n (length is)))

all_stars : (is : List Info) (ws : List Act) (q : Marks) (t : CType) (u : Draft) (fs : List Frame)
    → run (stars_acts is ws) (based q t u fs) ≡ run ws (typed q t (length is) [] [] 0 u fs)
all_stars is ws q t u fs = stars_run is 0 ws q t u fs ∙ ap (λ k. run ws (typed q t k [] [] 0 u fs)) (zero-add (length is))

lengths_run : (ls : List Length) (ns : List ℕ) (ws : List Act) (q : Marks) (t : CType) (n : ℕ) (name : List ℕ) (line : ℕ) (u : Draft) (fs : List Frame)
    → run (lengths_acts ls ws) (typed q t n ns name line u fs) ≡ run ws (typed q t n (ns ++ lengths_of ls) name line u fs)
lengths_run [] ns ws q t n name line u fs = ap (λ ks. run ws (typed q t n ks name line u fs)) (sym (append-nil ns))
lengths_run (l ∷ ls) ns ws q t n name line u fs =
    lengths_run ls (ns ++ l.size.number ∷ []) ws q t n name line u fs
    ∙ ap (λ ks. run ws (typed q t n ks name line u fs)) (append_assoc ns (l.size.number ∷ []) (lengths_of ls))

-- behind a declarator
abbrev declaring : Marks → CType → Declarator → Draft → List Frame → Walk
declaring q t d u fs = typed q t (length d.pointers) (lengths_of d.arrays) d.name.text d.name.line u fs

declarator_run : (d : Declarator) (ws : List Act) (q : Marks) (t : CType) (u : Draft) (fs : List Frame)
    → run (declarator_acts r.Declared d ws) (based q t u fs) ≡ run ws (declaring q t d u fs)
declarator_run d ws q t u fs =
    all_stars d.pointers ((r.Declared, d.name) ∷ lengths_acts d.arrays ws) q t u fs
    ∙ lengths_run d.arrays [] ws q t (length d.pointers) d.name.text d.name.line u fs

field_run : (q : Qualifiers) (d : Declarator) (semi : Info) (ws : List Act) (t : CType) (u : Draft) (f : Frame) (fs : List Frame)
    → run (declarator_acts r.Declared d ((r.FieldEnd, semi) ∷ ws)) (based (marks_of q) t u (f ∷ fs))
    ≡ (of_field q t d semi u f.layout >>= λ l. run ws (ready u (record f { layout = l } ∷ fs)))
field_run q d semi ws t u f fs =
    declarator_run d ((r.FieldEnd, semi) ∷ ws) (marks_of q) t u (f ∷ fs)
    ∙ then_then (of_field q t d semi u f.layout) (λ l. Ok (ready u (record f { layout = l } ∷ fs))) (λ w. run ws w)

-- ---- specifiers

-- behind qualifiers
abbrev qualified : Marks → Draft → List Frame → Walk
qualified q u fs = typed q unknown.declared.base 0 [] [] 0 u fs

qualifiers_run : (q : Qualifiers) (ws : List Act) (u : Draft) (fs : List Frame) → run (qualifiers_acts q ws) (ready u fs) ≡ run ws (qualified (marks_of q) u fs)
qualifiers_run Qualifiers.plain ws u fs = refl
qualifiers_run (Qualifiers.with_const i) ws u fs = refl
qualifiers_run (Qualifiers.with_volatile i) ws u fs = refl
qualifiers_run (Qualifiers.with_both i j) ws u fs = refl

-- behind a word, and behind its tag
abbrev worded : Word → Marks → Draft → List Frame → Walk
worded w q u fs = record { draft = u; frames = fs; part = record (known q unknown.declared.base) { word = w } }

abbrev tagged : Word → Mention → ℕ → Marks → Draft → List Frame → Walk
tagged w m line q u fs = record { draft = u; frames = fs; part = record (known q unknown.declared.base) { word = w; tag = Some m; tag_line = line } }

-- a name settles a tag without a body
abbrev Names : Role → Info → Type 0
Names a n = (w : Word) (m : Mention) (line : ℕ) (q : Marks) (u : Draft) (fs : List Frame)
    → act a n (tagged w m line q u fs) ≡ act a n (based q (tag_type m) (cross m u) fs)

settled_run : (a : Role) (is : List Info) (n : Info) → Names a n → (ws : List Act) (w : Word) (m : Mention) (line : ℕ) (q : Marks) (u : Draft) (fs : List Frame)
    → run (stars_acts is ((a, n) ∷ ws)) (tagged w m line q u fs) ≡ run (stars_acts is ((a, n) ∷ ws)) (based q (tag_type m) (cross m u) fs)
settled_run a [] n h ws w m line q u fs = ap (λ v. v >>= λ x. run ws x) (h w m line q u fs)
settled_run a (i ∷ is) n h ws w m line q u fs = refl

tag_run : (w : Word) (t : Info) (a : Role) (is : List Info) (n : Info) → Names a n → (ws : List Act) (q : Marks) (u : Draft) (fs : List Frame)
    → (act r.Tag t (worded w q u fs) >>= λ x. run (stars_acts is ((a, n) ∷ ws)) x)
    ≡ ((mention w t.text t.line u >>= bodiless) >>= λ x. run (stars_acts is ((a, n) ∷ ws)) (based q x.0 x.1 fs))
tag_run w t a is n h ws q u fs = by (mention w t.text t.line u)
  where
    by : (v : Result (Mention × Draft) Fault)
        → ((v >>= λ m. Ok (tagged w m.0 t.line q m.1 fs)) >>= λ x. run (stars_acts is ((a, n) ∷ ws)) x)
        ≡ ((v >>= bodiless) >>= λ x. run (stars_acts is ((a, n) ∷ ws)) (based q x.0 x.1 fs))
    by (Ok m) = settled_run a is n h ws w m.0 t.line q m.1 fs
    by (Err e) = refl

-- ---- enums

-- within choices; the tag of an enum that has one stands in front of them
abbrev listing_in : Marks → Option Mention → ℕ → Listed → Draft → List Frame → Walk
listing_in q b line l u fs =
    record { draft = u; frames = fs; part = record (known q unknown.declared.base) { word = word.Enum; tag = b; tag_line = line; listed = l } }

abbrev behind_enum : Marks → Option Mention → Draft → List Frame → List Act → Listed → Result Walk Fault
behind_enum q b u fs ws l = run ws (based q (close_enum b l u).0 (close_enum b l u).1 fs)

-- behind a choice and its value
abbrev chosen_in : Marks → Option Mention → ℕ → Listed → Draft → List Frame → List ℕ → Bool → Option Whole → Walk
chosen_in q b line l u fs name below value = record {
  draft = u;
  frames = fs;
  part = record (known q unknown.declared.base) { word = word.Enum; tag = b; tag_line = line; listed = l; name = name; below = below; value = value };
}

last_choice : (i : Info) (q : Marks) (b : Option Mention) (line : ℕ) (l : Listed) (u : Draft) (fs : List Frame) (name : List ℕ) (below : Bool) (o : Option Whole) (ws : List Act)
    → (act r.ChoicesEnd i (chosen_in q b line l u fs name below o) >>= λ w. run ws w) ≡ (add_choice name o i.line u l >>= behind_enum q b u fs ws)
last_choice i q b line l u fs name below o ws = by (add_choice name o i.line u l)
  where
    by : (v : Result Listed Fault)
        → (((v >>= λ l'. Ok (chosen_in q b line l' u fs name below o)) >>= λ w. Ok (closed w (close_enum w.part.tag w.part.listed w.draft))) >>= λ w. run ws w)
        ≡ (v >>= behind_enum q b u fs ws)
    by (Ok l') = refl
    by (Err f) = refl

more_choice : (i : Info) (q : Marks) (b : Option Mention) (line : ℕ) (l : Listed) (u : Draft) (fs : List Frame) (name : List ℕ) (below : Bool) (o : Option Whole) (cs : Choices) (ws : List Act)
    → ((l' : Listed) → run (choices_acts cs ws) (listing_in q b line l' u fs) ≡ (of_choices cs u l' >>= behind_enum q b u fs ws))
    → (act r.ChoiceEnd i (chosen_in q b line l u fs name below o) >>= λ w. run (choices_acts cs ws) w)
    ≡ ((add_choice name o i.line u l >>= λ l'. of_choices cs u l') >>= behind_enum q b u fs ws)
more_choice i q b line l u fs name below o cs ws rec = by (add_choice name o i.line u l)
  where
    by : (v : Result Listed Fault)
        → (((v >>= λ l'. Ok (chosen_in q b line l' u fs name below o)) >>= λ w. Ok (next_choice w)) >>= λ w. run (choices_acts cs ws) w)
        ≡ ((v >>= λ l'. of_choices cs u l') >>= behind_enum q b u fs ws)
    by (Ok l') = rec l'
    by (Err f) = refl

choices_run : (cs : Choices) (ws : List Act) (q : Marks) (b : Option Mention) (line : ℕ) (l : Listed) (u : Draft) (fs : List Frame)
    → run (choices_acts cs ws) (listing_in q b line l u fs) ≡ (of_choices cs u l >>= behind_enum q b u fs ws)
choices_run (Choices.last n v close) ws q b line l u fs = by v
  where
    by : (v : Value) → run ((r.Choice, n) ∷ value_acts v ((r.ChoicesEnd, close) ∷ ws)) (listing_in q b line l u fs)
        ≡ (add_choice n.text (value_of v) close.line u l >>= behind_enum q b u fs ws)
    by Value.counted = last_choice close q b line l u fs n.text false (value_of Value.counted) ws
    by (Value.number e m) = last_choice close q b line l u fs n.text false (value_of (Value.number e m)) ws
    by (Value.zero_value e m) = last_choice close q b line l u fs n.text false (value_of (Value.zero_value e m)) ws
    by (Value.negative e j m) = last_choice close q b line l u fs n.text true (value_of (Value.negative e j m)) ws
    by (Value.minus_zero e j m) = last_choice close q b line l u fs n.text true (value_of (Value.minus_zero e j m)) ws
choices_run (Choices.more n v comma cs) ws q b line l u fs = by (λ l'. choices_run cs ws q b line l' u fs) v
  where
    by : ((l' : Listed) → run (choices_acts cs ws) (listing_in q b line l' u fs) ≡ (of_choices cs u l' >>= behind_enum q b u fs ws)) → (v : Value)
        → run ((r.Choice, n) ∷ value_acts v ((r.ChoiceEnd, comma) ∷ choices_acts cs ws)) (listing_in q b line l u fs)
        ≡ ((add_choice n.text (value_of v) comma.line u l >>= λ l'. of_choices cs u l') >>= behind_enum q b u fs ws)
    by rec Value.counted = more_choice comma q b line l u fs n.text false (value_of Value.counted) cs ws rec
    by rec (Value.number e m) = more_choice comma q b line l u fs n.text false (value_of (Value.number e m)) cs ws rec
    by rec (Value.zero_value e m) = more_choice comma q b line l u fs n.text false (value_of (Value.zero_value e m)) cs ws rec
    by rec (Value.negative e j m) = more_choice comma q b line l u fs n.text true (value_of (Value.negative e j m)) cs ws rec
    by rec (Value.minus_zero e j m) = more_choice comma q b line l u fs n.text true (value_of (Value.minus_zero e j m)) cs ws rec

-- ---- types without a structure's body

abbrev on_base : List Act → Marks → List Frame → CType × Draft → Result Walk Fault
on_base ws q fs x = run ws (based q x.0 x.1 fs)

enum_run : (cs : Choices) (ws : List Act) (q : Marks) (b : Option Mention) (line : ℕ) (u : Draft) (fs : List Frame)
    → run (choices_acts cs ws) (listing_in q b line no_choices u fs) ≡ (of_enum b cs u >>= on_base ws q fs)
enum_run cs ws q b line u fs =
    choices_run cs ws q b line no_choices u fs ∙ sym (then_then (of_choices cs u no_choices) (λ l. Ok (close_enum b l u)) (on_base ws q fs))

enum_body_run : (e t brace : Info) (cs : Choices) (ws : List Act) (q : Marks) (u : Draft) (fs : List Frame)
    → run (simple_acts (Simple.enum_body e t brace cs) ws) (qualified q u fs) ≡ (of_simple (Simple.enum_body e t brace cs) u >>= on_base ws q fs)
enum_body_run e t brace cs ws q u fs = by (mention word.Enum t.text t.line u)
  where
    within : (m : Mention) (v : Result Draft Fault)
        → ((v >>= λ u'. Ok (listing_in q (Some m) t.line no_choices u' fs)) >>= λ w. run (choices_acts cs ws) w)
        ≡ (((v >>= with_mention m) >>= λ o. of_enum (Some o.0) cs o.1) >>= on_base ws q fs)
    within m (Ok u') = enum_run cs ws q (Some m) t.line u' fs
    within m (Err e) = refl

    by : (v : Result (Mention × Draft) Fault)
        → ((v >>= λ m. Ok (tagged word.Enum m.0 t.line q m.1 fs)) >>= λ w. run ((r.Choices, brace) ∷ choices_acts cs ws) w)
        ≡ (((v >>= λ m. begin_body m.0 t.line m.1 >>= with_mention m.0) >>= λ o. of_enum (Some o.0) cs o.1) >>= on_base ws q fs)
    by (Ok m) = within m.0 (begin_body m.0 t.line m.1)
    by (Err e) = refl

abbrev on_declared : Role → List Info → Info → List Act → Marks → List Frame → CType × Draft → Result Walk Fault
on_declared a is n ws q fs x = run (stars_acts is ((a, n) ∷ ws)) (based q x.0 x.1 fs)

simple_run : (b : Simple) (a : Role) (is : List Info) (n : Info) → Names a n → (ws : List Act) (q : Marks) (u : Draft) (fs : List Frame)
    → run (simple_acts b (stars_acts is ((a, n) ∷ ws))) (qualified q u fs) ≡ (of_simple b u >>= on_declared a is n ws q fs)
simple_run (Simple.basic i) a is n h ws q u fs = refl
simple_run (Simple.void i) a is n h ws q u fs = refl
simple_run (Simple.named i) a is n h ws q u fs = by (typedef_type i.text i.line u)
  where
    by : (v : Result CType Fault)
        → ((v >>= λ t. Ok (based q t u fs)) >>= λ w. run (stars_acts is ((a, n) ∷ ws)) w) ≡ ((v >>= with_draft u) >>= on_declared a is n ws q fs)
    by (Ok t) = refl
    by (Err e) = refl
simple_run (Simple.struct_tag s t) a is n h ws q u fs = tag_run (word_of s.number) t a is n h ws q u fs
simple_run (Simple.enum_tag e t) a is n h ws q u fs = tag_run word.Enum t a is n h ws q u fs
simple_run (Simple.enum_body e t brace cs) a is n h ws q u fs = enum_body_run e t brace cs (stars_acts is ((a, n) ∷ ws)) q u fs

-- ---- fields

-- a field without a body
plain_run : (q : Qualifiers) (b : Simple) (d : Declarator) (semi : Info) (ws : List Act) (u : Draft) (f : Frame) (fs : List Frame)
    → run (qualifiers_acts q (simple_acts b (declarator_acts r.Declared d ((r.FieldEnd, semi) ∷ ws)))) (ready u (f ∷ fs))
    ≡ (of_simple b u >>= λ x. of_field q x.0 d semi x.1 f.layout >>= λ l. run ws (ready x.1 (record f { layout = l } ∷ fs)))
plain_run q b d semi ws u f fs =
    qualifiers_run q (simple_acts b (declarator_acts r.Declared d ((r.FieldEnd, semi) ∷ ws))) u (f ∷ fs)
    ∙ (simple_run b r.Declared d.pointers d.name (λ w m line q u fs. refl) (lengths_acts d.arrays ((r.FieldEnd, semi) ∷ ws)) (marks_of q) u (f ∷ fs)
    ∙ then_same (of_simple b u) (on_declared r.Declared d.pointers d.name (lengths_acts d.arrays ((r.FieldEnd, semi) ∷ ws)) (marks_of q) (f ∷ fs))
    (λ x. of_field q x.0 d semi x.1 f.layout >>= λ l. run ws (ready x.1 (record f { layout = l } ∷ fs)))
    (λ x. field_run q d semi ws x.0 x.1 f fs))

-- the frame of a body
abbrev frame_of : Qualifiers → Info → Option Mention → Frame
frame_of q s tag = record { qualifiers = marks_of q; tag = tag; layout = empty (word_of s.number) }

-- a body begins
body_run : (q : Qualifiers) (s t brace : Info) (ws : List Act) (u : Draft) (fs : List Frame)
    → run (qualifiers_acts q ((r.Struct, s) ∷ (r.Tag, t) ∷ (r.Body, brace) ∷ ws)) (ready u fs)
    ≡ (open_body (word_of s.number) t u >>= λ o. run ws (ready o.1 (frame_of q s (Some o.0) ∷ fs)))
body_run q s t brace ws u fs =
    qualifiers_run q ((r.Struct, s) ∷ (r.Tag, t) ∷ (r.Body, brace) ∷ ws) u fs ∙ by (mention (word_of s.number) t.text t.line u)
  where
    within : (m : Mention) (v : Result Draft Fault)
        → ((v >>= λ u'. Ok (ready u' (frame_of q s (Some m) ∷ fs))) >>= λ w. run ws w)
        ≡ ((v >>= with_mention m) >>= λ o. run ws (ready o.1 (frame_of q s (Some o.0) ∷ fs)))
    within m (Ok u') = refl
    within m (Err e) = refl

    by : (v : Result (Mention × Draft) Fault)
        → ((v >>= λ m. Ok (tagged (word_of s.number) m.0 t.line (marks_of q) m.1 fs)) >>= λ w. run ((r.Body, brace) ∷ ws) w)
        ≡ ((v >>= λ m. begin_body m.0 t.line m.1 >>= with_mention m.0) >>= λ o. run ws (ready o.1 (frame_of q s (Some o.0) ∷ fs)))
    by (Ok m) = within m.0 (begin_body m.0 t.line m.1)
    by (Err e) = refl

-- behind the `}` of a body
abbrev ended : Frame → List Frame → List Act → Laid → Result Walk Fault
ended f fs ws y = close_laid f.tag y >>= λ x. run ws (based f.qualifiers x.0 x.1 fs)

end_run : (close : Info) (ws : List Act) (u : Draft) (l : Layout) (f : Frame) (fs : List Frame)
    → run ((r.BodyEnd, close) ∷ ws) (ready u (record f { layout = l } ∷ fs)) ≡ ended f fs ws (record { draft = u; layout = l; line = close.line })
end_run close ws u l f fs = then_then (close_body f.tag l close.line u) (λ x. Ok (based f.qualifiers x.0 x.1 fs)) (λ w. run ws w)

-- a field with a body
bodied_run : (q : Qualifiers) (s t brace : Info) (gs : Fields) (d : Declarator) (semi : Info) (ws : List Act) (u : Draft) (f : Frame) (fs : List Frame)
    → ((u' : Draft) (g : Frame) (vs : List Act) → run (fields_acts gs vs) (ready u' (g ∷ f ∷ fs)) ≡ (of_fields gs u' g.layout >>= ended g (f ∷ fs) vs))
    → run (qualifiers_acts q ((r.Struct, s) ∷ (r.Tag, t) ∷ (r.Body, brace) ∷ fields_acts gs (declarator_acts r.Declared d ((r.FieldEnd, semi) ∷ ws)))) (ready u (f ∷ fs))
    ≡ (open_body (word_of s.number) t u >>= λ o. of_fields gs o.1 (empty (word_of s.number)) >>= λ y. close_laid (Some o.0) y
    >>= λ x. of_field q x.0 d semi x.1 f.layout >>= λ l. run ws (ready x.1 (record f { layout = l } ∷ fs)))
bodied_run q s t brace gs d semi ws u f fs rec =
    body_run q s t brace (fields_acts gs (declarator_acts r.Declared d ((r.FieldEnd, semi) ∷ ws))) u (f ∷ fs)
    ∙ then_same (open_body (word_of s.number) t u)
    (λ o. run (fields_acts gs (declarator_acts r.Declared d ((r.FieldEnd, semi) ∷ ws))) (ready o.1 (frame_of q s (Some o.0) ∷ f ∷ fs)))
    (λ o. of_fields gs o.1 (empty (word_of s.number)) >>= λ y. close_laid (Some o.0) y
    >>= λ x. of_field q x.0 d semi x.1 f.layout >>= λ l. run ws (ready x.1 (record f { layout = l } ∷ fs)))
    (λ o. rec o.1 (frame_of q s (Some o.0)) (declarator_acts r.Declared d ((r.FieldEnd, semi) ∷ ws))
    ∙ two_same (of_fields gs o.1 (empty (word_of s.number))) (λ y. close_laid (Some o.0) y)
    (λ y x. run (declarator_acts r.Declared d ((r.FieldEnd, semi) ∷ ws)) (based (marks_of q) x.0 x.1 (f ∷ fs)))
    (λ y x. of_field q x.0 d semi x.1 f.layout >>= λ l. run ws (ready x.1 (record f { layout = l } ∷ fs)))
    (λ y x. field_run q d semi ws x.0 x.1 f fs))

-- the fields of a body and its `}`
fields_run : (gs : Fields) (ws : List Act) (u : Draft) (f : Frame) (fs : List Frame)
    → run (fields_acts gs ws) (ready u (f ∷ fs)) ≡ (of_fields gs u f.layout >>= ended f fs ws)
fields_run (Fields.last q b d semi close) ws u f fs =
    plain_run q b d semi ((r.BodyEnd, close) ∷ ws) u f fs
    ∙ (two_same (of_simple b u) (λ x. of_field q x.0 d semi x.1 f.layout)
    (λ x l. run ((r.BodyEnd, close) ∷ ws) (ready x.1 (record f { layout = l } ∷ fs)))
    (λ x l. ended f fs ws (record { draft = x.1; layout = l; line = close.line }))
    (λ x l. end_run close ws x.1 l f fs)
    ∙ sym (two (of_simple b u) (λ x. of_field q x.0 d semi x.1 f.layout) (λ x l. Ok (record { draft = x.1; layout = l; line = close.line })) (ended f fs ws)))
fields_run (Fields.more q b d semi gs) ws u f fs =
    plain_run q b d semi (fields_acts gs ws) u f fs
    ∙ (two_same (of_simple b u) (λ x. of_field q x.0 d semi x.1 f.layout)
    (λ x l. run (fields_acts gs ws) (ready x.1 (record f { layout = l } ∷ fs)))
    (λ x l. of_fields gs x.1 l >>= ended f fs ws)
    (λ x l. fields_run gs ws x.1 (record f { layout = l }) fs)
    ∙ sym (two (of_simple b u) (λ x. of_field q x.0 d semi x.1 f.layout) (λ x l. of_fields gs x.1 l) (ended f fs ws)))
fields_run (Fields.last_body q s t brace hs d semi close) ws u f fs =
    bodied_run q s t brace hs d semi ((r.BodyEnd, close) ∷ ws) u f fs (λ u' g vs. fields_run hs vs u' g (f ∷ fs))
    ∙ (four_same (open_body (word_of s.number) t u) (λ o. of_fields hs o.1 (empty (word_of s.number))) (λ o y. close_laid (Some o.0) y) (λ x. of_field q x.0 d semi x.1 f.layout)
    (λ x l. run ((r.BodyEnd, close) ∷ ws) (ready x.1 (record f { layout = l } ∷ fs)))
    (λ x l. ended f fs ws (record { draft = x.1; layout = l; line = close.line }))
    (λ x l. end_run close ws x.1 l f fs)
    ∙ sym (four (open_body (word_of s.number) t u) (λ o. of_fields hs o.1 (empty (word_of s.number))) (λ o y. close_laid (Some o.0) y) (λ x. of_field q x.0 d semi x.1 f.layout)
    (λ x l. Ok (record { draft = x.1; layout = l; line = close.line })) (ended f fs ws)))
fields_run (Fields.more_body q s t brace hs d semi gs) ws u f fs =
    bodied_run q s t brace hs d semi (fields_acts gs ws) u f fs (λ u' g vs. fields_run hs vs u' g (f ∷ fs))
    ∙ (four_same (open_body (word_of s.number) t u) (λ o. of_fields hs o.1 (empty (word_of s.number))) (λ o y. close_laid (Some o.0) y) (λ x. of_field q x.0 d semi x.1 f.layout)
    (λ x l. run (fields_acts gs ws) (ready x.1 (record f { layout = l } ∷ fs)))
    (λ x l. of_fields gs x.1 l >>= ended f fs ws)
    (λ x l. fields_run gs ws x.1 (record f { layout = l }) fs)
    ∙ sym (four (open_body (word_of s.number) t u) (λ o. of_fields hs o.1 (empty (word_of s.number))) (λ o y. close_laid (Some o.0) y) (λ x. of_field q x.0 d semi x.1 f.layout)
    (λ x l. of_fields gs x.1 l) (ended f fs ws)))

-- ---- specifiers with a body

-- a structure or union with its tag and body
whole_run : (q : Qualifiers) (s t brace : Info) (gs : Fields) (ws : List Act) (u : Draft) (fs : List Frame)
    → run (qualifiers_acts q ((r.Struct, s) ∷ (r.Tag, t) ∷ (r.Body, brace) ∷ fields_acts gs ws)) (ready u fs)
    ≡ (of_body (word_of s.number) t gs u >>= on_base ws (marks_of q) fs)
whole_run q s t brace gs ws u fs =
    body_run q s t brace (fields_acts gs ws) u fs
    ∙ (then_same (open_body (word_of s.number) t u)
    (λ o. run (fields_acts gs ws) (ready o.1 (frame_of q s (Some o.0) ∷ fs)))
    (λ o. of_fields gs o.1 (empty (word_of s.number)) >>= λ y. close_laid (Some o.0) y >>= on_base ws (marks_of q) fs)
    (λ o. fields_run gs ws o.1 (frame_of q s (Some o.0)) fs)
    ∙ sym (two (open_body (word_of s.number) t u) (λ o. of_fields gs o.1 (empty (word_of s.number))) (λ o y. close_laid (Some o.0) y) (on_base ws (marks_of q) fs)))

specifier_run : (s : Specifier) (a : Role) (is : List Info) (n : Info) → Names a n → (ws : List Act) (u : Draft) (fs : List Frame)
    → run (specifier_acts s (stars_acts is ((a, n) ∷ ws))) (ready u fs) ≡ (of_specifier s u >>= on_declared a is n ws (marks_of (qualifiers_of s)) fs)
specifier_run (Specifier.of q b) a is n h ws u fs =
    qualifiers_run q (simple_acts b (stars_acts is ((a, n) ∷ ws))) u fs ∙ simple_run b a is n h ws (marks_of q) u fs
specifier_run (Specifier.body q s t brace gs) a is n h ws u fs = whole_run q s t brace gs (stars_acts is ((a, n) ∷ ws)) u fs

typedef_specifier_run : (s : TypedefSpecifier) (is : List Info) (n : Info) (ws : List Act) (u : Draft)
    → run (typedef_specifier_acts s (stars_acts is ((r.GivenName, n) ∷ ws))) (ready u [])
    ≡ (of_typedef_specifier s u >>= on_declared r.GivenName is n ws (marks_of (typedef_qualifiers_of s)) [])
typedef_specifier_run (TypedefSpecifier.tagged s) is n ws u = specifier_run s r.GivenName is n (λ w m line q u fs. refl) ws u []
typedef_specifier_run (TypedefSpecifier.struct_body q s brace gs) is n ws u =
    qualifiers_run q ((r.Struct, s) ∷ (r.Nameless, brace) ∷ fields_acts gs (stars_acts is ((r.GivenName, n) ∷ ws))) u []
    ∙ (fields_run gs (stars_acts is ((r.GivenName, n) ∷ ws)) u (frame_of q s None) []
    ∙ sym (then_then (of_fields gs u (empty (word_of s.number))) (λ y. close_laid None y) (on_declared r.GivenName is n ws (marks_of q) [])))
typedef_specifier_run (TypedefSpecifier.enum_choices q e brace cs) is n ws u =
    qualifiers_run q ((r.Enum, e) ∷ (r.NamelessChoices, brace) ∷ choices_acts cs (stars_acts is ((r.GivenName, n) ∷ ws))) u []
    ∙ enum_run cs (stars_acts is ((r.GivenName, n) ∷ ws)) (marks_of q) None 0 u []

-- ---- declarations

abbrev goes_on : List Act → Draft → Result Walk Fault
goes_on ws u = run ws (ready u [])

done_run : (v : Result Draft Fault) (ws : List Act) → ((v >>= done) >>= λ w. run ws w) ≡ (v >>= goes_on ws)
done_run v ws = then_then v done (λ w. run ws w)

-- a role that gives a name, and a role that ends a declaration
abbrev Names_by : Role → Give → Type 0
Names_by g give = (i : Info) (q : Marks) (t : CType) (u : Draft) (n : ℕ)
    → act g i (typed q t n [] [] 0 u []) ≡ (give i.text i.line u >>= λ u'. Ok (typed q t n [] i.text i.line u' []))

abbrev Adds : Role → Add → Type 0
Adds e add = (i : Info) (w : Walk) → act e i w ≡ added add i.line w

given_run : (g e : Role) (give : Give) (add : Add) → Names_by g give → Adds e add
    → (q : Qualifiers) (d : Declarator) (semi : Info) (ws : List Act) (v : Result (CType × Draft) Fault)
    → (v >>= on_declared g d.pointers d.name (lengths_acts d.arrays ((e, semi) ∷ ws)) (marks_of q) []) ≡ ((v >>= of_declared give add q d semi) >>= goes_on ws)
given_run g e give add hg h q d semi ws (Err f) = refl
given_run g e give add hg h q d semi ws (Ok x) =
    all_stars d.pointers ((g, d.name) ∷ lengths_acts d.arrays ((e, semi) ∷ ws)) (marks_of q) x.0 x.1 []
    ∙ (ap (λ z. z >>= λ w. run (lengths_acts d.arrays ((e, semi) ∷ ws)) w) (hg d.name (marks_of q) x.0 x.1 (length d.pointers))
    ∙ by (give d.name.text d.name.line x.1))
  where
    by : (v : Result Draft Fault)
        → ((v >>= λ u. Ok (typed (marks_of q) x.0 (length d.pointers) [] d.name.text d.name.line u [])) >>= λ w. run (lengths_acts d.arrays ((e, semi) ∷ ws)) w)
        ≡ ((v >>= λ u. add d.name.text (declared_of q x.0 d) semi.line u) >>= goes_on ws)
    by (Ok u) =
        lengths_run d.arrays [] ((e, semi) ∷ ws) (marks_of q) x.0 (length d.pointers) d.name.text d.name.line u []
        ∙ (ap (λ z. z >>= λ w. run ws w) (h semi (declaring (marks_of q) x.0 d u []))
        ∙ done_run (add d.name.text (declared_of q x.0 d) semi.line u) ws)
    by (Err f) = refl

-- a variable, a local or a parameter
declaration_run : (g e : Role) (give : Give) (add : Add) → ((n : Info) → Names g n) → Names_by g give → Adds e add
    → (s : Specifier) (d : Declarator) (semi : Info) (ws : List Act) (u : Draft)
    → run (specifier_acts s (declarator_acts g d ((e, semi) ∷ ws))) (ready u []) ≡ (of_declaration give add s d semi u >>= goes_on ws)
declaration_run g e give add hn hg h s d semi ws u =
    specifier_run s g d.pointers d.name (hn d.name) (lengths_acts d.arrays ((e, semi) ∷ ws)) u []
    ∙ given_run g e give add hg h (qualifiers_of s) d semi ws (of_specifier s u)

-- ---- functions

local_run : (l : Local) (ws : List Act) (u : Draft)
    → run (specifier_acts l.of (declarator_acts r.LocalName l.shape ((r.LocalEnd, l.semi) ∷ ws))) (ready u []) ≡ (of_declaration give_local add_local l.of l.shape l.semi u >>= goes_on ws)
local_run l ws u =
    declaration_run r.LocalName r.LocalEnd give_local add_local (λ n w m line q u fs. refl) (λ i q t u n. refl) (λ i w. refl) l.of l.shape l.semi ws u

locals_run : (ls : List Local) (ws : List Act) (u : Draft) → run (locals_acts ls ws) (ready u []) ≡ (of_locals ls u >>= goes_on ws)
locals_run [] ws u = refl
locals_run (l ∷ ls) ws u =
    local_run l (locals_acts ls ws) u
    ∙ (then_same (of_declaration give_local add_local l.of l.shape l.semi u) (goes_on (locals_acts ls ws)) (λ u'. of_locals ls u' >>= goes_on ws) (λ u'. locals_run ls ws u')
    ∙ sym (then_then (of_declaration give_local add_local l.of l.shape l.semi u) (λ u'. of_locals ls u') (goes_on ws)))

abbrev Ends_block : Role → Type 0
Ends_block a = (i : Info) (w : Walk) → act a i w ≡ done (end_block (end_locals w.draft))

statements_run : (ss : Statements) (a : Role) → Ends_block a → (ws : List Act) (u : Draft) → run (statements_acts ss a ws) (ready u []) ≡ (of_statements ss u >>= goes_on ws)
statements_run (Statements.end close) a h ws u = ap (λ z. z >>= λ w. run ws w) (h close (ready u []))
statements_run (Statements.empty semi ss) a h ws u =
    done_run (add_statement semi.line (end_locals u)) (statements_acts ss a ws)
    ∙ (then_same (add_statement semi.line (end_locals u)) (goes_on (statements_acts ss a ws)) (λ u'. of_statements ss u' >>= goes_on ws) (λ u'. statements_run ss a h ws u')
    ∙ sym (then_then (add_statement semi.line (end_locals u)) (λ u'. of_statements ss u') (goes_on ws)))
statements_run (Statements.block brace ls inner ss) a h ws u =
    locals_run ls (statements_acts inner r.BlockEnd (statements_acts ss a ws)) (begin_block (end_locals u))
    ∙ (then_same (of_locals ls (begin_block (end_locals u))) (goes_on (statements_acts inner r.BlockEnd (statements_acts ss a ws)))
    (λ u'. of_statements inner u' >>= λ u''. of_statements ss u'' >>= goes_on ws)
    (λ u'. statements_run inner r.BlockEnd (λ i w. refl) (statements_acts ss a ws) u'
    ∙ then_same (of_statements inner u') (goes_on (statements_acts ss a ws)) (λ u''. of_statements ss u'' >>= goes_on ws) (λ u''. statements_run ss a h ws u''))
    ∙ sym (two (of_locals ls (begin_block (end_locals u))) (λ u'. of_statements inner u') (λ u' u''. of_statements ss u'') (goes_on ws)))

parameter_run : (s : Specifier) (is : List Info) (n close : Info) (ws : List Act) (u : Draft)
    → run (specifier_acts s (stars_acts is ((r.ParameterName, n) ∷ (r.ParameterEnd, close) ∷ ws))) (ready u []) ≡ (of_declaration give_param add_param s (starred is n) close u >>= goes_on ws)
parameter_run s is n close ws u =
    declaration_run r.ParameterName r.ParameterEnd give_param add_param (λ n w m line q u fs. refl) (λ i q t u n. refl) (λ i w. refl) s (starred is n) close ws u

parameters_run : (ps : Parameters) (ws : List Act) (u : Draft) → run (parameters_acts ps ws) (ready u []) ≡ (of_parameters ps u >>= goes_on ws)
parameters_run (Parameters.last s is n close) ws u = parameter_run s is n close ws u
parameters_run (Parameters.more s is n comma ps) ws u =
    parameter_run s is n comma (parameters_acts ps ws) u
    ∙ (then_same (of_declaration give_param add_param s (starred is n) comma u) (goes_on (parameters_acts ps ws)) (λ u'. of_parameters ps u' >>= goes_on ws) (λ u'. parameters_run ps ws u')
    ∙ sym (then_then (of_declaration give_param add_param s (starred is n) comma u) (λ u'. of_parameters ps u') (goes_on ws)))

takes_run : (t : Takes) (ws : List Act) (u : Draft) → run (takes_acts t ws) (ready u []) ≡ (of_takes t u >>= goes_on ws)
takes_run (Takes.nothing i close) ws u = refl
takes_run (Takes.some ps) ws u = parameters_run ps ws u

-- a role that begins a function
abbrev Begins : Role → Bool → Type 0
Begins a static = (i : Info) (w : Walk) → act a i w ≡ function_act static w

head_run : (a : Role) (static : Bool) (s : Specifier) (is : List Info) (n lead : Info) (ws : List Act) (u : Draft) → Begins a static
    → run (specifier_acts s (stars_acts is ((r.GivenName, n) ∷ (a, lead) ∷ ws))) (ready u []) ≡ (of_head static s is n u >>= goes_on ws)
head_run a static s is n lead ws u h =
    specifier_run s r.GivenName is n (λ w m line q u fs. refl) ((a, lead) ∷ ws) u [] ∙ by (of_specifier s u)
  where
    named : (x : CType × Draft) (v : Result Draft Fault)
        → ((v >>= λ u'. Ok (typed (marks_of (qualifiers_of s)) x.0 (length is) [] n.text n.line u' [])) >>= λ w. run ((a, lead) ∷ ws) w)
        ≡ ((v >>= λ u'. begin_function static n.text (declared_of (qualifiers_of s) x.0 (starred is n)) n.line u') >>= goes_on ws)
    named x (Ok u') =
        ap (λ z. z >>= λ w. run ws w) (h lead (typed (marks_of (qualifiers_of s)) x.0 (length is) [] n.text n.line u' []))
        ∙ done_run (begin_function static n.text (declared_of (qualifiers_of s) x.0 (starred is n)) n.line u') ws
    named x (Err f) = refl

    by : (v : Result (CType × Draft) Fault)
        → (v >>= on_declared r.GivenName is n ((a, lead) ∷ ws) (marks_of (qualifiers_of s)) [])
        ≡ ((v >>= λ x. give_name n.text n.line x.1 >>= λ u'. begin_function static n.text (declared_of (qualifiers_of s) x.0 (starred is n)) n.line u') >>= goes_on ws)
    by (Ok x) = all_stars is ((r.GivenName, n) ∷ (a, lead) ∷ ws) (marks_of (qualifiers_of s)) x.0 x.1 [] ∙ named x (give_name n.text n.line x.1)
    by (Err f) = refl

function_run : (a : Role) (static : Bool) (s : Specifier) (is : List Info) (n lead : Info) (t : Takes) (brace : Info) (ls : List Local) (ss : Statements) (u : Draft) → Begins a static
    → run (function_acts r.GivenName s is n a lead t brace ls ss) (ready u []) ≡ (of_function static s is n t ls ss u >>= done)
function_run a static s is n lead t brace ls ss u h =
    head_run a static s is n lead (takes_acts t ((r.BlockBegin, brace) ∷ locals_acts ls (statements_acts ss r.FunctionEnd []))) u h
    ∙ (then_same (of_head static s is n u) (goes_on (takes_acts t ((r.BlockBegin, brace) ∷ locals_acts ls (statements_acts ss r.FunctionEnd []))))
    (λ u1. of_takes t u1 >>= λ u2. of_locals ls (begin_block (end_locals u2)) >>= λ u3. of_statements ss u3 >>= done)
    (λ u1. takes_run t ((r.BlockBegin, brace) ∷ locals_acts ls (statements_acts ss r.FunctionEnd [])) u1
    ∙ then_same (of_takes t u1) (goes_on ((r.BlockBegin, brace) ∷ locals_acts ls (statements_acts ss r.FunctionEnd [])))
    (λ u2. of_locals ls (begin_block (end_locals u2)) >>= λ u3. of_statements ss u3 >>= done)
    (λ u2. locals_run ls (statements_acts ss r.FunctionEnd []) (begin_block (end_locals u2))
    ∙ then_same (of_locals ls (begin_block (end_locals u2))) (goes_on (statements_acts ss r.FunctionEnd [])) (λ u3. of_statements ss u3 >>= done)
    (λ u3. statements_run ss r.FunctionEnd (λ i w. refl) [] u3)))
    ∙ sym (over (of_head static s is n u)))
  where
    over : (v : Result Draft Fault)
        → ((v >>= λ u1. of_takes t u1 >>= λ u2. of_locals ls (begin_block (end_locals u2)) >>= λ u3. of_statements ss u3) >>= done)
        ≡ (v >>= λ u1. of_takes t u1 >>= λ u2. of_locals ls (begin_block (end_locals u2)) >>= λ u3. of_statements ss u3 >>= done)
    over (Ok u1) = two (of_takes t u1) (λ u2. of_locals ls (begin_block (end_locals u2))) (λ u2 u3. of_statements ss u3) done
    over (Err f) = refl

-- ---- items

extern_run : (d : Declarator) (semi : Info) (q : Qualifiers) (v : Result (CType × Draft) Fault)
    → (v >>= on_declared r.Declared d.pointers d.name (lengths_acts d.arrays ((r.ExternEnd, semi) ∷ [])) (marks_of q) [])
    ≡ ((v >>= λ x. add_extern (declared_of q x.0 d) semi.line x.1) >>= done)
extern_run d semi q (Err f) = refl
extern_run d semi q (Ok x) =
    declarator_run d ((r.ExternEnd, semi) ∷ []) (marks_of q) x.0 x.1 [] ∙ done_run (add_extern (declared_of q x.0 d) semi.line x.1) []

variable_run : (e : Role) (add : Add) → Adds e add → (s : Specifier) (d : Declarator) (semi : Info) (u : Draft)
    → run (specifier_acts s (declarator_acts r.GivenName d ((e, semi) ∷ []))) (ready u []) ≡ (of_declaration give_name add s d semi u >>= done)
variable_run e add h s d semi u = declaration_run r.GivenName e give_name add (λ n w m line q u fs. refl) (λ i q t u n. refl) h s d semi [] u

item_run : (it : Item) (u : Draft) → run (item_acts it) (ready u []) ≡ (of_item it u >>= done)
item_run (Item.include i) u = refl
item_run (Item.type_name i s d semi) u =
    typedef_specifier_run s d.pointers d.name (lengths_acts d.arrays ((r.TypedefEnd, semi) ∷ [])) u
    ∙ given_run r.GivenName r.TypedefEnd give_name add_typedef (λ i q t u n. refl) (λ i w. refl) (typedef_qualifiers_of s) d semi [] (of_typedef_specifier s u)
item_run (Item.struct_alone q s t brace gs semi) u =
    whole_run q s t brace gs ((r.Alone, semi) ∷ []) u [] ∙ sym (then_then (of_body (word_of s.number) t gs u) draft_of done)
item_run (Item.enum_alone q e t brace cs semi) u =
    qualifiers_run q (simple_acts (Simple.enum_body e t brace cs) ((r.Alone, semi) ∷ [])) u []
    ∙ (enum_body_run e t brace cs ((r.Alone, semi) ∷ []) (marks_of q) u []
    ∙ sym (then_then (of_simple (Simple.enum_body e t brace cs) u) draft_of done))
item_run (Item.variable Storage.plain s d semi) u = variable_run r.VariableEnd add_variable (λ i w. refl) s d semi u
item_run (Item.variable (Storage.static i) s d semi) u = variable_run r.StaticEnd add_static (λ i w. refl) s d semi u
item_run (Item.variable (Storage.extern i) s d semi) u =
    specifier_run s r.Declared d.pointers d.name (λ w m line q u fs. refl) (lengths_acts d.arrays ((r.ExternEnd, semi) ∷ [])) u []
    ∙ extern_run d semi (qualifiers_of s) (of_specifier s u)
item_run (Item.function s ps n lead ts brace ls ss) u = function_run r.Function false s ps n lead ts brace ls ss u (λ i w. refl)
item_run (Item.static_function i s ps n lead ts brace ls ss) u = function_run r.StaticFunction true s ps n lead ts brace ls ss u (λ i w. refl)

-- ---- what others cite

acted_run : (ws : List Act) (w : Walk) → all_acted act ws w ≡ run ws w
acted_run [] w = refl
acted_run (a ∷ ws) w = by (λ w'. acted_run ws w') (act a.0 a.1 w)
  where
    by : ((w' : Walk) → all_acted act ws w' ≡ run ws w') → (v : Result Walk Fault) → on_ok v (λ w'. all_acted act ws w') ≡ (v >>= λ w'. run ws w')
    by rec (Ok w') = rec w'
    by rec (Err f) = refl

-- the walk over the tokens of an item gives what the item means
pub item_acted : (it : Item) (u : Draft) → all_acted act (item_acts it) (ready u []) ≡ (of_item it u >>= done)
item_acted it u = acted_run (item_acts it) (ready u []) ∙ item_run it u

abbrev undone : Result Walk Fault → Result Draft Fault
undone v = v >>= λ w. Ok w.draft

undone_done : (v : Result Draft Fault) → undone (v >>= done) ≡ v
undone_done (Ok u) = refl
undone_done (Err f) = refl

-- two items in front of the same tokens mean the same
pub one_meaning : (ts us vs : List Token) (it jt : Item) (u : Draft) → BeginsWith ts it us → BeginsWith ts jt vs → of_item it u ≡ of_item jt u
one_meaning ts us vs it jt u e h =
    sym (undone_done (of_item it u))
    ∙ (ap (λ y. undone y) (sym (item_run it u) ∙ (ap (λ ws. run ws (ready u [])) (one_acts ts us vs it jt e h) ∙ item_run jt u))
    ∙ undone_done (of_item jt u))
