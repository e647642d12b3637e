-- An item is scanned to its end, whatever is behind it.
use Rattle.std.proofs.Common.{◌≡◌, ℕ, suc, List, [], ◌∷◌, Some, Bool, true, false, refl, ◌∙◌}
use Rattle.c_tokens.specs.declared.kind.Kind.TheVariants as k
use Rattle.c_items.specs.declared.state.Context.{Context}
use Rattle.c_items.specs.declared.state.Context.TheVariants as c
use Rattle.c_items.specs.declared.state.Place.{Place}
use Rattle.c_items.specs.declared.state.Place.TheVariants as p
use Rattle.c_items.specs.declared.state.State.{State}
use Rattle.c_items.specs.declared.role.Role.{Role}
use Rattle.c_items.specs.declared.role.Role.TheVariants as r
use Rattle.c_tokens.specs.Tokens.{Info, Token}
use Rattle.c_items.specs.Trees as tree
use Rattle.c_items.specs.Trees.{Qualifiers, Value, Choices, Simple, Length, Declarator, Fields, Specifier, TypedefSpecifier, Local, Statements, Parameters, Takes, Storage, Item}
use Rattle.c_items.specs.Acts.{Act, choices_acts, qualifiers_acts, simple_acts, stars_acts, lengths_acts, declarator_acts, fields_acts, specifier_acts, typedef_specifier_acts, locals_acts, statements_acts, parameters_acts, takes_acts, function_acts, item_acts}
use Rattle.c_items.specs.Steps.{onward, scan, at, go, bracket, ended, declares, closing, paren, start, step}

-- from the state on, the tokens are scanned so
abbrev Scans : State → List Token → List Act → List Token → Type 0
Scans s ts ws us = scan s ts ≡ Some (ws, us)

-- choices
choices_taken : (cs : Choices) (x : Context) (m n : ℕ) (ts us : List Token) (ws : List Act) → Scans (at p.Bodied x m n) ts ws us
    → Scans (at p.Choice x m n) (tree.choices cs ts) (choices_acts cs ws) us
choices_taken (Choices.last i Value.counted close) x m n ts us ws e = rw e refl
choices_taken (Choices.last i (Value.number q v) close) x m n ts us ws e = rw e refl
choices_taken (Choices.last i (Value.zero_value q v) close) x m n ts us ws e = rw e refl
choices_taken (Choices.last i (Value.negative q j v) close) x m n ts us ws e = rw e refl
choices_taken (Choices.last i (Value.minus_zero q j v) close) x m n ts us ws e = rw e refl
choices_taken (Choices.more i Value.counted comma cs) x m n ts us ws e = rw (choices_taken cs x m n ts us ws e) refl
choices_taken (Choices.more i (Value.number q v) comma cs) x m n ts us ws e = rw (choices_taken cs x m n ts us ws e) refl
choices_taken (Choices.more i (Value.zero_value q v) comma cs) x m n ts us ws e = rw (choices_taken cs x m n ts us ws e) refl
choices_taken (Choices.more i (Value.negative q j v) comma cs) x m n ts us ws e = rw (choices_taken cs x m n ts us ws e) refl
choices_taken (Choices.more i (Value.minus_zero q j v) comma cs) x m n ts us ws e = rw (choices_taken cs x m n ts us ws e) refl

-- a declarator, behind a specifier
stars_taken : (is : List Info) (i : Info) (x : Context) (m n : ℕ) (ts us : List Token) (ws : List Act) → Scans (at p.Named x m n) ts ws us
    → Scans (at p.After x m n) (tree.stars is ((k.Name, i) ∷ ts)) (stars_acts is ((declares x m, i) ∷ ws)) us
stars_taken [] i x m n ts us ws e = rw e refl
stars_taken (j ∷ is) i x m n ts us ws e = rw (stars_taken is i x m n ts us ws e) refl

-- lengths may follow
abbrev Opens : Context → ℕ → ℕ → Type 0
Opens x m n = bracket x m n ≡ go r.Quiet p.Length x m n

-- the `;` of a declaration, and what follows it
abbrev Ends : Context → ℕ → ℕ → Info → List Token → List Act → List Token → Type 0
Ends x m n semi ts ws us = onward (ended x m n) semi ts (λ s. scan s ts) ≡ Some (ws, us)

-- lengths and the `;`, behind a length
lengths_closed : (ls : List Length) (semi : Info) (x : Context) (m n : ℕ) (ts us : List Token) (ws : List Act) → Opens x m n → Ends x m n semi ts ws us
    → Scans (at p.Closed x m n) (tree.lengths ls ((k.Semi, semi) ∷ ts)) (lengths_acts ls ws) us
lengths_closed [] semi x m n ts us ws o e = e
lengths_closed (l ∷ ls) semi x m n ts us ws o e = rw (o, lengths_closed ls semi x m n ts us ws o e) refl

-- lengths and the `;`, behind the name
lengths_taken : (ls : List Length) (semi : Info) (x : Context) (m n : ℕ) (ts us : List Token) (ws : List Act) → Opens x m n → Ends x m n semi ts ws us
    → Scans (at p.Named x m n) (tree.lengths ls ((k.Semi, semi) ∷ ts)) (lengths_acts ls ws) us
lengths_taken [] semi x m n ts us ws o e = e
lengths_taken (l ∷ ls) semi x m n ts us ws o e = rw (o, lengths_closed ls semi x m n ts us ws o e) refl

-- a declarator and its `;`
declared_taken : (d : Declarator) (semi : Info) (x : Context) (m n : ℕ) (ts us : List Token) (ws : List Act) → Opens x m n → Ends x m n semi ts ws us
    → Scans (at p.After x m n) (tree.declarator d ((k.Semi, semi) ∷ ts)) (declarator_acts (declares x m) d ws) us
declared_taken d semi x m n ts us ws o e =
    stars_taken d.pointers d.name x m n (tree.lengths d.arrays ((k.Semi, semi) ∷ ts)) us (lengths_acts d.arrays ws)
    (lengths_taken d.arrays semi x m n ts us ws o e)

-- stars and a name, behind a tag or a body
behind_tag : (is : List Info) (i : Info) (x : Context) (m n : ℕ) (ts : List Token)
    → scan (at p.StructTag x m n) (tree.stars is ((k.Name, i) ∷ ts)) ≡ scan (at p.After x m n) (tree.stars is ((k.Name, i) ∷ ts))
behind_tag [] i x m n ts = refl
behind_tag (j ∷ is) i x m n ts = refl

-- the same behind the tag of an enum
behind_enum : (is : List Info) (i : Info) (x : Context) (m n : ℕ) (ts : List Token)
    → scan (at p.EnumTag x m n) (tree.stars is ((k.Name, i) ∷ ts)) ≡ scan (at p.After x m n) (tree.stars is ((k.Name, i) ∷ ts))
behind_enum [] i x m n ts = refl
behind_enum (j ∷ is) i x m n ts = refl

-- the same behind a body
behind_body : (is : List Info) (i : Info) (x : Context) (m n : ℕ) (ts : List Token)
    → scan (at p.Bodied x m n) (tree.stars is ((k.Name, i) ∷ ts)) ≡ scan (at p.After x m n) (tree.stars is ((k.Name, i) ∷ ts))
behind_body [] i x m n ts = refl
behind_body (j ∷ is) i x m n ts = refl

-- a specifier without a structure's body, and then stars and a name
simple_taken : (b : Simple) (is : List Info) (i : Info) (x : Context) (m n : ℕ) (ts us : List Token) (ws : List Act)
    → Scans (at p.After x m n) (tree.stars is ((k.Name, i) ∷ ts)) ws us
    → Scans (at p.Volatile x m n) (tree.simple b (tree.stars is ((k.Name, i) ∷ ts))) (simple_acts b ws) us
simple_taken (Simple.basic j) is i x m n ts us ws e = rw e refl
simple_taken (Simple.void j) is i x m n ts us ws e = rw e refl
simple_taken (Simple.named j) is i x m n ts us ws e = rw e refl
simple_taken (Simple.struct_tag s t) is i x m n ts us ws e = rw (behind_tag is i x m n ts, e) refl
simple_taken (Simple.enum_tag s t) is i x m n ts us ws e = rw (behind_enum is i x m n ts, e) refl
simple_taken (Simple.enum_body s t brace cs) is i x m n ts us ws e =
    rw (choices_taken cs x m n (tree.stars is ((k.Name, i) ∷ ts)) us ws (behind_body is i x m n ts ∙ e)) refl

-- const and volatile in front
qualifiers_taken : (s : State) (x : Context) (m n : ℕ) (q : Qualifiers) (ts us : List Token) (ws : List Act)
    → step s k.Const ≡ go r.Const p.Const x m n → step s k.Volatile ≡ go r.Volatile p.Volatile x m n
    → scan s ts ≡ scan (at p.Volatile x m n) ts → scan (at p.Const x m n) ts ≡ scan (at p.Volatile x m n) ts
    → Scans (at p.Volatile x m n) ts ws us → Scans s (tree.qualifiers q ts) (qualifiers_acts q ws) us
qualifiers_taken s x m n Qualifiers.plain ts us ws hc hv h0 h1 e = h0 ∙ e
qualifiers_taken s x m n (Qualifiers.with_const i) ts us ws hc hv h0 h1 e = rw (hc, h1, e) refl
qualifiers_taken s x m n (Qualifiers.with_volatile i) ts us ws hc hv h0 h1 e = rw (hv, e) refl
qualifiers_taken s x m n (Qualifiers.with_both i j) ts us ws hc hv h0 h1 e = rw (hc, e) refl

-- a type behind `const` is what it is without
simple_const : (b : Simple) (x : Context) (m n : ℕ) (ts : List Token) → scan (at p.Const x m n) (tree.simple b ts) ≡ scan (at p.Volatile x m n) (tree.simple b ts)
simple_const (Simple.basic j) x m n ts = refl
simple_const (Simple.void j) x m n ts = refl
simple_const (Simple.named j) x m n ts = refl
simple_const (Simple.struct_tag s t) x m n ts = refl
simple_const (Simple.enum_tag s t) x m n ts = refl
simple_const (Simple.enum_body s t brace cs) x m n ts = refl

-- the first field, or a later one
abbrev entry : Bool → Place
entry true = p.Specifier
entry false = p.Fields

-- a type is what it is behind qualifiers, also where a field begins
simple_entry : (first : Bool) (b : Simple) (x : Context) (m n : ℕ) (ts : List Token)
    → scan (at (entry first) x m n) (tree.simple b ts) ≡ scan (at p.Volatile x m n) (tree.simple b ts)
simple_entry true (Simple.basic j) x m n ts = refl
simple_entry true (Simple.void j) x m n ts = refl
simple_entry true (Simple.named j) x m n ts = refl
simple_entry true (Simple.struct_tag s t) x m n ts = refl
simple_entry true (Simple.enum_tag s t) x m n ts = refl
simple_entry true (Simple.enum_body s t brace cs) x m n ts = refl
simple_entry false (Simple.basic j) x m n ts = refl
simple_entry false (Simple.void j) x m n ts = refl
simple_entry false (Simple.named j) x m n ts = refl
simple_entry false (Simple.struct_tag s t) x m n ts = refl
simple_entry false (Simple.enum_tag s t) x m n ts = refl
simple_entry false (Simple.enum_body s t brace cs) x m n ts = refl

-- a field's specifier without a body
plain_field : (first : Bool) (q : Qualifiers) (b : Simple) (d : Declarator) (semi : Info) (x : Context) (m n : ℕ) (ts us : List Token) (ws : List Act)
    → Scans (at p.Fields x (suc m) n) ts ws us
    → Scans (at (entry first) x (suc m) n) (tree.qualifiers q (tree.simple b (tree.declarator d ((k.Semi, semi) ∷ ts))))
    (qualifiers_acts q (simple_acts b (declarator_acts r.Declared d ((r.FieldEnd, semi) ∷ ws)))) us
unfolding declares
plain_field first q b d semi x m n ts us ws e =
    qualifiers_taken (at (entry first) x (suc m) n) x (suc m) n q (tree.simple b (tree.declarator d ((k.Semi, semi) ∷ ts))) us _
    (consts first) (volatiles first)
    (simple_entry first b x (suc m) n (tree.declarator d ((k.Semi, semi) ∷ ts)))
    (simple_const b x (suc m) n (tree.declarator d ((k.Semi, semi) ∷ ts)))
    (simple_taken b d.pointers d.name x (suc m) n (tree.lengths d.arrays ((k.Semi, semi) ∷ ts)) us _
    (declared_taken d semi x (suc m) n ts us ((r.FieldEnd, semi) ∷ ws) refl (rw e refl)))
  where
    consts : (f : Bool) → step (at (entry f) x (suc m) n) k.Const ≡ go r.Const p.Const x (suc m) n
    consts true = refl
    consts false = refl

    volatiles : (f : Bool) → step (at (entry f) x (suc m) n) k.Volatile ≡ go r.Volatile p.Volatile x (suc m) n
    volatiles true = refl
    volatiles false = refl

-- a field's specifier with a body
body_field : (first : Bool) (q : Qualifiers) (s t brace : Info) (x : Context) (m n : ℕ) (inner us : List Token) (ws : List Act)
    → Scans (at p.Specifier x (suc (suc m)) n) inner ws us
    → Scans (at (entry first) x (suc m) n) (tree.qualifiers q ((k.Struct, s) ∷ (k.Name, t) ∷ (k.OpenBrace, brace) ∷ inner))
    (qualifiers_acts q ((r.Struct, s) ∷ (r.Tag, t) ∷ (r.Body, brace) ∷ ws)) us
body_field true q s t brace x m n inner us ws e =
    qualifiers_taken (at p.Specifier x (suc m) n) x (suc m) n q _ us _ refl refl refl refl (rw e refl)
body_field false q s t brace x m n inner us ws e =
    qualifiers_taken (at p.Fields x (suc m) n) x (suc m) n q _ us _ refl refl refl refl (rw e refl)

-- the declarator of a field behind a body
field_end : (d : Declarator) (semi : Info) (x : Context) (m n : ℕ) (ts us : List Token) (ws : List Act)
    → Scans (at p.Fields x (suc m) n) ts ws us
    → Scans (at p.Bodied x (suc m) n) (tree.declarator d ((k.Semi, semi) ∷ ts)) (declarator_acts r.Declared d ((r.FieldEnd, semi) ∷ ws)) us
unfolding declares
field_end d semi x m n ts us ws e =
    behind_body d.pointers d.name x (suc m) n (tree.lengths d.arrays ((k.Semi, semi) ∷ ts))
    ∙ declared_taken d semi x (suc m) n ts us ((r.FieldEnd, semi) ∷ ws) refl (rw e refl)

-- the fields of a body, and its `}`
fields_taken : (fs : Fields) (first : Bool) (x : Context) (m n : ℕ) (ts us : List Token) (ws : List Act) → Scans (at p.Bodied x m n) ts ws us
    → Scans (at (entry first) x (suc m) n) (tree.fields fs ts) (fields_acts fs ws) us
fields_taken (Fields.last q b d semi close) first x m n ts us ws e =
    plain_field first q b d semi x m n ((k.CloseBrace, close) ∷ ts) us ((r.BodyEnd, close) ∷ ws) (rw e refl)
fields_taken (Fields.more q b d semi gs) first x m n ts us ws e =
    plain_field first q b d semi x m n (tree.fields gs ts) us (fields_acts gs ws) (fields_taken gs false x m n ts us ws e)
fields_taken (Fields.last_body q s t brace fs d semi close) first x m n ts us ws e =
    body_field first q s t brace x m n (tree.fields fs (tree.declarator d ((k.Semi, semi) ∷ (k.CloseBrace, close) ∷ ts))) us _
    (fields_taken fs true x (suc m) n (tree.declarator d ((k.Semi, semi) ∷ (k.CloseBrace, close) ∷ ts)) us _
    (field_end d semi x m n ((k.CloseBrace, close) ∷ ts) us ((r.BodyEnd, close) ∷ ws) (rw e refl)))
fields_taken (Fields.more_body q s t brace fs d semi gs) first x m n ts us ws e =
    body_field first q s t brace x m n (tree.fields fs (tree.declarator d ((k.Semi, semi) ∷ tree.fields gs ts))) us _
    (fields_taken fs true x (suc m) n (tree.declarator d ((k.Semi, semi) ∷ tree.fields gs ts)) us _
    (field_end d semi x m n (tree.fields gs ts) us (fields_acts gs ws) (fields_taken gs false x m n ts us ws e)))

-- ---- specs outside bodies

-- a specifier may begin at the state
record Enters (s : State) (x : Context) (m n : ℕ) : Type 0 where
  const : step s k.Const ≡ go r.Const p.Const x m n
  volatile : step s k.Volatile ≡ go r.Volatile p.Volatile x m n
  base : (b : Simple) (is : List Info) (i : Info) (ts : List Token)
      → scan s (tree.simple b (tree.stars is ((k.Name, i) ∷ ts))) ≡ scan (at p.Volatile x m n) (tree.simple b (tree.stars is ((k.Name, i) ∷ ts)))
  body : (i : Info) (ts : List Token) → scan s ((k.Struct, i) ∷ ts) ≡ scan (at p.Volatile x m n) ((k.Struct, i) ∷ ts)

-- a specifier, and then stars and a name
specifier_taken : (s : State) (x : Context) (m n : ℕ) → Enters s x m n → (sp : Specifier) (is : List Info) (i : Info) (ts us : List Token) (ws : List Act)
    → Scans (at p.After x m n) (tree.stars is ((k.Name, i) ∷ ts)) ws us
    → Scans s (tree.specifier sp (tree.stars is ((k.Name, i) ∷ ts))) (specifier_acts sp ws) us
specifier_taken s x m n h (Specifier.of q b) is i ts us ws e =
    qualifiers_taken s x m n q (tree.simple b (tree.stars is ((k.Name, i) ∷ ts))) us _ h.const h.volatile (h.base b is i ts)
    (simple_const b x m n (tree.stars is ((k.Name, i) ∷ ts))) (simple_taken b is i x m n ts us ws e)
specifier_taken s x m n h (Specifier.body q w t brace fs) is i ts us ws e =
    qualifiers_taken s x m n q ((k.Struct, w) ∷ (k.Name, t) ∷ (k.OpenBrace, brace) ∷ tree.fields fs (tree.stars is ((k.Name, i) ∷ ts))) us _ h.const h.volatile
    (h.body w _) refl
    (rw (fields_taken fs true x m n (tree.stars is ((k.Name, i) ∷ ts)) us ws (behind_body is i x m n ts ∙ e)) refl)

-- it may where a specifier has to come
at_specifier : (x : Context) (m n : ℕ) → Enters (at p.Specifier x m n) x m n
at_specifier x m n = record { const = refl; volatile = refl; base = bases; body = λ i ts. refl }
  where
    bases : (b : Simple) (is : List Info) (i : Info) (ts : List Token)
        → scan (at p.Specifier x m n) (tree.simple b (tree.stars is ((k.Name, i) ∷ ts))) ≡ scan (at p.Volatile x m n) (tree.simple b (tree.stars is ((k.Name, i) ∷ ts)))
    bases b is i ts = simple_entry true b x m n (tree.stars is ((k.Name, i) ∷ ts))

-- at the start of an item
at_start : Enters start c.Plain 0 0
at_start = record { const = refl; volatile = refl; base = bases; body = λ i ts. refl }
  where
    bases : (b : Simple) (is : List Info) (i : Info) (ts : List Token)
        → scan start (tree.simple b (tree.stars is ((k.Name, i) ∷ ts))) ≡ scan (at p.Volatile c.Plain 0 0) (tree.simple b (tree.stars is ((k.Name, i) ∷ ts)))
    bases (Simple.basic j) is i ts = refl
    bases (Simple.void j) is i ts = refl
    bases (Simple.named j) is i ts = refl
    bases (Simple.struct_tag s t) is i ts = refl
    bases (Simple.enum_tag s t) is i ts = refl
    bases (Simple.enum_body s t brace cs) is i ts = refl

-- where a local may begin
at_locals : (n : ℕ) → Enters (at p.Locals c.Local 0 n) c.Local 0 n
at_locals n = record { const = refl; volatile = refl; base = bases; body = λ i ts. refl }
  where
    bases : (b : Simple) (is : List Info) (i : Info) (ts : List Token)
        → scan (at p.Locals c.Local 0 n) (tree.simple b (tree.stars is ((k.Name, i) ∷ ts))) ≡ scan (at p.Volatile c.Local 0 n) (tree.simple b (tree.stars is ((k.Name, i) ∷ ts)))
    bases (Simple.basic j) is i ts = refl
    bases (Simple.void j) is i ts = refl
    bases (Simple.named j) is i ts = refl
    bases (Simple.struct_tag s t) is i ts = refl
    bases (Simple.enum_tag s t) is i ts = refl
    bases (Simple.enum_body s t brace cs) is i ts = refl

-- between the parentheses of a function
at_parameters : (n : ℕ) → Enters (at p.Parameters c.Parameter 0 n) c.Parameter 0 n
at_parameters n = record { const = refl; volatile = refl; base = bases; body = λ i ts. refl }
  where
    bases : (b : Simple) (is : List Info) (i : Info) (ts : List Token)
        → scan (at p.Parameters c.Parameter 0 n) (tree.simple b (tree.stars is ((k.Name, i) ∷ ts))) ≡ scan (at p.Volatile c.Parameter 0 n) (tree.simple b (tree.stars is ((k.Name, i) ∷ ts)))
    bases (Simple.basic j) is i ts = refl
    bases (Simple.void j) [] i ts = refl
    bases (Simple.void j) (l ∷ is) i ts = refl
    bases (Simple.named j) is i ts = refl
    bases (Simple.struct_tag s t) is i ts = refl
    bases (Simple.enum_tag s t) is i ts = refl
    bases (Simple.enum_body s t brace cs) is i ts = refl

-- specifier declarator `;`
declaration_taken : (s : State) (x : Context) (m n : ℕ) → Enters s x m n → (sp : Specifier) (d : Declarator) (semi : Info) (ts us : List Token) (ws : List Act)
    → Opens x m n → Ends x m n semi ts ws us
    → Scans s (tree.specifier sp (tree.declarator d ((k.Semi, semi) ∷ ts))) (specifier_acts sp (declarator_acts (declares x m) d ws)) us
declaration_taken s x m n h sp d semi ts us ws o e =
    specifier_taken s x m n h sp d.pointers d.name (tree.lengths d.arrays ((k.Semi, semi) ∷ ts)) us _ (declared_taken d semi x m n ts us ws o e)

-- ---- functions

-- locals
locals_taken : (ls : List Local) (n : ℕ) (ts us : List Token) (ws : List Act) → Scans (at p.Locals c.Local 0 n) ts ws us
    → Scans (at p.Locals c.Local 0 n) (tree.locals ls ts) (locals_acts ls ws) us
unfolding declares
locals_taken [] n ts us ws e = e
locals_taken (l ∷ ls) n ts us ws e =
    declaration_taken (at p.Locals c.Local 0 n) c.Local 0 n (at_locals n) l.of l.shape l.semi (tree.locals ls ts) us ((r.LocalEnd, l.semi) ∷ locals_acts ls ws)
    refl (rw (locals_taken ls n ts us ws e) refl)

-- no local
behind_locals : (ss : Statements) (n : ℕ) (ts : List Token)
    → scan (at p.Locals c.Local 0 n) (tree.statements ss ts) ≡ scan (at p.Statements c.Local 0 n) (tree.statements ss ts)
behind_locals (Statements.end close) n ts = refl
behind_locals (Statements.empty semi ss) n ts = refl
behind_locals (Statements.block brace ls inner ss) n ts = refl

-- what the `}` of the block is
abbrev Closes : ℕ → Role → List Token → List Act → List Token → Type 0
Closes n a ts ws us = (close : Info) → onward (closing n) close ts (λ s. scan s ts) ≡ Some ((a, close) ∷ ws, us)

-- statements and the `}` behind them
statements_taken : (ss : Statements) (n : ℕ) (a : Role) (ts us : List Token) (ws : List Act) → Closes (suc n) a ts ws us
    → Scans (at p.Statements c.Local 0 (suc n)) (tree.statements ss ts) (statements_acts ss a ws) us
statements_taken (Statements.end close) n a ts us ws e = e close
statements_taken (Statements.empty semi ss) n a ts us ws e = rw (statements_taken ss n a ts us ws e) refl
statements_taken (Statements.block brace ls inner ss) n a ts us ws e =
    rw (locals_taken ls (suc (suc n)) (tree.statements inner (tree.statements ss ts)) us (statements_acts inner r.BlockEnd (statements_acts ss a ws))
    (behind_locals inner (suc (suc n)) (tree.statements ss ts)
    ∙ statements_taken inner (suc n) r.BlockEnd (tree.statements ss ts) us (statements_acts ss a ws)
    (λ close. rw (statements_taken ss n a ts us ws e) refl))) refl

-- parameters and the `)` behind them
parameters_taken : (ps : Parameters) (s : State) (n : ℕ) → Enters s c.Parameter 0 n → (ts us : List Token) (ws : List Act) → Scans (at p.Paren c.Parameter 0 n) ts ws us
    → Scans s (tree.parameters ps ts) (parameters_acts ps ws) us
unfolding declares
parameters_taken (Parameters.last sp is i close) s n h ts us ws e =
    specifier_taken s c.Parameter 0 n h sp is i ((k.CloseParen, close) ∷ ts) us _
    (stars_taken is i c.Parameter 0 n ((k.CloseParen, close) ∷ ts) us ((r.ParameterEnd, close) ∷ ws) (rw e refl))
parameters_taken (Parameters.more sp is i comma ps) s n h ts us ws e =
    specifier_taken s c.Parameter 0 n h sp is i ((k.Comma, comma) ∷ tree.parameters ps ts) us _
    (stars_taken is i c.Parameter 0 n ((k.Comma, comma) ∷ tree.parameters ps ts) us ((r.ParameterEnd, comma) ∷ parameters_acts ps ws)
    (rw (parameters_taken ps (at p.Specifier c.Parameter 0 n) n (at_specifier c.Parameter 0 n) ts us ws e) refl))

-- what a function takes, and the `)` behind it
takes_taken : (t : Takes) (ts us : List Token) (ws : List Act) → Scans (at p.Paren c.Parameter 0 0) ts ws us
    → Scans (at p.Parameters c.Parameter 0 0) (tree.takes t ts) (takes_acts t ws) us
takes_taken (Takes.nothing i close) ts us ws e = rw e refl
takes_taken (Takes.some ps) ts us ws e = parameters_taken ps (at p.Parameters c.Parameter 0 0) 0 (at_parameters 0) ts us ws e

-- the block of a function
block_taken : (ls : List Local) (ss : Statements) (ts : List Token)
    → Scans (at p.Locals c.Local 0 1) (tree.locals ls (tree.statements ss ts)) (locals_acts ls (statements_acts ss r.FunctionEnd [])) ts
block_taken ls ss ts =
    locals_taken ls 1 (tree.statements ss ts) ts (statements_acts ss r.FunctionEnd [])
    (behind_locals ss 1 ts ∙ statements_taken ss 0 r.FunctionEnd ts ts [] (λ close. refl))

-- a function from its specifier on
function_taken : (s : State) (x : Context) (a : Role) → Enters s x 0 0 → paren x 0 0 ≡ go a p.Parameters c.Parameter 0 0
    → (sp : Specifier) (is : List Info) (i lead : Info) (t : Takes) (brace : Info) (ls : List Local) (ss : Statements) (ts : List Token)
    → Scans s (tree.specifier sp (tree.stars is ((k.Name, i) ∷ (k.OpenParen, lead) ∷ tree.takes t ((k.OpenBrace, brace) ∷ tree.locals ls (tree.statements ss ts)))))
    (function_acts (declares x 0) sp is i a lead t brace ls ss) ts
function_taken s x a h o sp is i lead t brace ls ss ts =
    specifier_taken s x 0 0 h sp is i _ ts _
    (stars_taken is i x 0 0 _ ts _
    (rw (
      o,
      takes_taken t ((k.OpenBrace, brace) ∷ tree.locals ls (tree.statements ss ts)) ts
          ((r.BlockBegin, brace) ∷ locals_acts ls (statements_acts ss r.FunctionEnd [])) (rw (block_taken ls ss ts) refl),
    ) refl))

-- ---- items

-- what a `typedef` gives a name to, and then stars and a name
typedef_specifier_taken : (a : TypedefSpecifier) (is : List Info) (i : Info) (ts us : List Token) (ws : List Act)
    → Scans (at p.After c.Typedef 0 0) (tree.stars is ((k.Name, i) ∷ ts)) ws us
    → Scans (at p.Specifier c.Typedef 0 0) (tree.typedef_specifier a (tree.stars is ((k.Name, i) ∷ ts))) (typedef_specifier_acts a ws) us
typedef_specifier_taken (TypedefSpecifier.tagged s) is i ts us ws e = specifier_taken (at p.Specifier c.Typedef 0 0) c.Typedef 0 0 (at_specifier c.Typedef 0 0) s is i ts us ws e
typedef_specifier_taken (TypedefSpecifier.struct_body q s brace fs) is i ts us ws e =
    qualifiers_taken (at p.Specifier c.Typedef 0 0) c.Typedef 0 0 q ((k.Struct, s) ∷ (k.OpenBrace, brace) ∷ tree.fields fs (tree.stars is ((k.Name, i) ∷ ts))) us _
    refl refl refl refl
    (rw (fields_taken fs true c.Typedef 0 0 (tree.stars is ((k.Name, i) ∷ ts)) us ws (behind_body is i c.Typedef 0 0 ts ∙ e)) refl)
typedef_specifier_taken (TypedefSpecifier.enum_choices q s brace cs) is i ts us ws e =
    qualifiers_taken (at p.Specifier c.Typedef 0 0) c.Typedef 0 0 q ((k.Enum, s) ∷ (k.OpenBrace, brace) ∷ tree.choices cs (tree.stars is ((k.Name, i) ∷ ts))) us _
    refl refl refl refl
    (rw (choices_taken cs c.Typedef 0 0 (tree.stars is ((k.Name, i) ∷ ts)) us ws (behind_body is i c.Typedef 0 0 ts ∙ e)) refl)

-- an item is scanned to its end
pub item_taken : (it : Item) (ts : List Token) → Scans start (tree.item it ts) (item_acts it) ts
unfolding declares
item_taken (Item.include i) ts = refl
item_taken (Item.type_name i s d semi) ts =
    rw (typedef_specifier_taken s d.pointers d.name (tree.lengths d.arrays ((k.Semi, semi) ∷ ts)) ts _
    (declared_taken d semi c.Typedef 0 0 ts ts ((r.TypedefEnd, semi) ∷ []) refl refl)) refl
item_taken (Item.struct_alone q s t brace fs semi) ts =
    qualifiers_taken start c.Plain 0 0 q ((k.Struct, s) ∷ (k.Name, t) ∷ (k.OpenBrace, brace) ∷ tree.fields fs ((k.Semi, semi) ∷ ts)) ts _
    refl refl refl refl
    (rw (fields_taken fs true c.Plain 0 0 ((k.Semi, semi) ∷ ts) ts ((r.Alone, semi) ∷ []) refl) refl)
item_taken (Item.enum_alone q s t brace cs semi) ts =
    qualifiers_taken start c.Plain 0 0 q ((k.Enum, s) ∷ (k.Name, t) ∷ (k.OpenBrace, brace) ∷ tree.choices cs ((k.Semi, semi) ∷ ts)) ts _
    refl refl refl refl
    (rw (choices_taken cs c.Plain 0 0 ((k.Semi, semi) ∷ ts) ts ((r.Alone, semi) ∷ []) refl) refl)
item_taken (Item.variable Storage.plain s d semi) ts =
    declaration_taken start c.Plain 0 0 at_start s d semi ts ts ((r.VariableEnd, semi) ∷ []) refl refl
item_taken (Item.variable (Storage.static i) s d semi) ts =
    rw (declaration_taken (at p.Specifier c.Static 0 0) c.Static 0 0 (at_specifier c.Static 0 0) s d semi ts ts ((r.StaticEnd, semi) ∷ []) refl refl) refl
item_taken (Item.variable (Storage.extern i) s d semi) ts =
    rw (declaration_taken (at p.Specifier c.Extern 0 0) c.Extern 0 0 (at_specifier c.Extern 0 0) s d semi ts ts ((r.ExternEnd, semi) ∷ []) refl refl) refl
item_taken (Item.function s is n lead t brace ls ss) ts =
    function_taken start c.Plain r.Function at_start refl s is n lead t brace ls ss ts
item_taken (Item.static_function i s is n lead t brace ls ss) ts =
    rw (function_taken (at p.Specifier c.Static 0 0) c.Static r.StaticFunction (at_specifier c.Static 0 0) refl s is n lead t brace ls ss ts) refl
