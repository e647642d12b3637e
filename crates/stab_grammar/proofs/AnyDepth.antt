-- Types and symbols of any depth have one spelling each: two that are spelled alike are one.
use Rattle.std.proofs.Common.{◌≡◌, ℕ, ◌+◌, ◌≤◌, inl, inr, true, false, eqb, cond, List, [], ◌∷◌, ◌++◌, Ok, refl, sym, ap, subst, ◌∙◌, arith}
use Rattle.std.proofs.lemmas.Bool.{and_parts, eqb-true, both_ways}
use Rattle.readers.specs.Spelling.{Within, none}
use Rattle.readers.specs.Words.{name_at, is_name}
use Rattle.readers.proofs.Cases.{which, ok_parts}
use Rattle.readers.proofs.Cuts.{any_after, within_cut, within_none}
use Rattle.readers.proofs.Starts.{Starts}
use Rattle.stab_symbols.specs.declared.tree.TypeTree.{TypeTree}
use Rattle.stab_symbols.specs.declared.tree.Descriptor.{Descriptor}
use Rattle.stab_symbols.specs.declared.tree.Descriptor.TheVariants as descriptors
use Rattle.stab_symbols.specs.declared.tree.Symbol.{Symbol}
use Rattle.stab_symbols.specs.SymbolSpelling.{print_of, letters, print_symbol}
use Rattle.stab_grammar.specs.Depth.{depths_of}
use Rattle.stab_symbols.specs.Shape.{refused, begins_stack, descriptor_ok, ok, Shaped, ShapedSymbol}
use Rattle.stab_grammar.specs.Grammar.{begins_type, type_at}
use Rattle.stab_grammar.proofs.Parts.{NameOk, symbol_name_part}
use Rattle.stab_grammar.proofs.Forms.{type_starts}
use Rattle.stab_grammar.proofs.Types.{type_laws}

-- ---- types

-- all depths together: no depth is greater
abbrev most : List ℕ → ℕ
most [] = 0
most (d ∷ ds) = d + most ds

-- so all are within a greater number
within_most : (n : ℕ) (ds : List ℕ) → most ds ≤ n → Within n ds
within_most n [] le = tt
within_most n (d ∷ ds) le = (omega (arith, le), within_most n ds (omega (arith, le)))

-- a type is read from its spelling, if that many types may stand inside one another
read_back : (n : ℕ) (t : TypeTree) → Shaped t → most (depths_of t) ≤ n → type_at n (print_of t ++ []) ≡ Ok (t, [])
read_back n t f le = (type_laws n).again t [] f (within_cut n (print_of t) (depths_of t) (within_most n (depths_of t) le)) tt

-- two types that are spelled alike are one
pub one_type : (s t : TypeTree) → Shaped s → Shaped t → print_of s ≡ print_of t → s ≡ t
one_type s t f g e =
    let n = most (depths_of s) + most (depths_of t) in
    (ok_parts _ _ s t [] [] (read_back n s f (omega arith)) (read_back n t g (omega arith)) (ap (λ (z : List ℕ). type_at n (z ++ [])) e)).0

-- ---- what stands after the colon

-- after `T`: with `t` a tag that is a typedef too
abbrev behind_tag : List ℕ → Descriptor × List ℕ
behind_tag [] = (descriptors.Tag, [])
behind_tag (b ∷ p) = cond (eqb b 116) (descriptors.TagTypedef, p) (descriptors.Tag, b ∷ p)

-- the descriptor of a letter, and what is after it
abbrev by_letter : List ℕ → Descriptor × List ℕ
by_letter [] = (descriptors.Stack, [])
by_letter (b ∷ p) =
    cond (eqb b 102) (descriptors.StaticFun, p)
    (cond (eqb b 70) (descriptors.GlobalFun, p)
    (cond (eqb b 71) (descriptors.Global, p)
    (cond (eqb b 83) (descriptors.FileStatic, p)
    (cond (eqb b 86) (descriptors.ProcStatic, p)
    (cond (eqb b 112) (descriptors.Param, p)
    (cond (eqb b 80) (descriptors.RegParam, p)
    (cond (eqb b 114) (descriptors.Register, p)
    (cond (eqb b 97) (descriptors.RefRegParam, p)
    (cond (eqb b 118) (descriptors.RefParam, p)
    (cond (eqb b 116) (descriptors.Typedef, p)
    (behind_tag p)))))))))))

-- what begins as a type without a descriptor does has none
abbrev split : List ℕ → Descriptor × List ℕ
split text = cond (begins_stack text) (descriptors.Stack, text) (by_letter text)

-- no type begins with `t`
not_t : (b : ℕ) → begins_type b ≡ true → eqb b 116 ≡ false
not_t b e = elim (which (eqb b 116)) [
  | inl h ↦ absurd (both_ways (begins_type 116) refl (subst (λ (z : ℕ). begins_type z ≡ true) (eqb-true b 116 h) e))
  | inr h ↦ h
]

-- so a tag is no typedef where a type follows
no_t : (p : List ℕ) → Starts begins_type p → behind_tag p ≡ (descriptors.Tag, p)
no_t [] s = absurd s
no_t (b ∷ p) s = rw (not_t b s) refl

-- a descriptor and the text of a type are told apart
split_again : (d : Descriptor) (t : TypeTree) → Shaped t → descriptor_ok d t ≡ true → split (letters d ++ print_of t) ≡ (d, print_of t)
split_again descriptors.Stack t f e = rw e refl
split_again descriptors.StaticFun t f e = refl
split_again descriptors.GlobalFun t f e = refl
split_again descriptors.Global t f e = refl
split_again descriptors.FileStatic t f e = refl
split_again descriptors.ProcStatic t f e = refl
split_again descriptors.Param t f e = refl
split_again descriptors.RegParam t f e = refl
split_again descriptors.Register t f e = refl
split_again descriptors.RefRegParam t f e = refl
split_again descriptors.RefParam t f e = refl
split_again descriptors.Typedef t f e = refl
split_again descriptors.Tag t f e = no_t (print_of t) (type_starts t f)
split_again descriptors.TagTypedef t f e = refl

-- ---- symbols

-- a name is read from the front of a text
name_again : (name rest : List ℕ) → NameOk name → name_at refused 58 ((name ++ 58 ∷ []) ++ rest) ≡ Ok (name, rest)
name_again name rest f =
    let text : List ℕ = name ++ 58 ∷ [] in
    (symbol_name_part 0).again name rest f (within_cut 0 text (none text) (within_none 0 text)) (any_after rest)

-- the symbol of these parts
abbrev made : List ℕ → Descriptor → TypeTree → Symbol
made name descriptor tree = record { name = name; descriptor = descriptor; tree = tree }

-- equal parts make one symbol
pub same_parts : (s t : Symbol) → s.name ≡ t.name → s.descriptor ≡ t.descriptor → s.tree ≡ t.tree → s ≡ t
same_parts s t e f g =
    ap (λ (z : List ℕ). made z s.descriptor s.tree) e ∙ ap (λ (z : Descriptor). made t.name z s.tree) f ∙ ap (λ (z : TypeTree). made t.name t.descriptor z) g

-- two symbols that are spelled alike are one
pub one_symbol : (s t : Symbol) → ShapedSymbol s → ShapedSymbol t → print_symbol s ≡ print_symbol t → s ≡ t
one_symbol s t f g e =
    let a = and_parts (is_name refused 58 s.name) _ f in
    let b = and_parts (is_name refused 58 t.name) _ g in
    let c = and_parts (descriptor_ok s.descriptor s.tree) (ok s.tree) a.1 in
    let d = and_parts (descriptor_ok t.descriptor t.tree) (ok t.tree) b.1 in
    let names = ok_parts _ _ s.name t.name _ _ (name_again s.name (letters s.descriptor ++ print_of s.tree) a.0) (name_again t.name (letters t.descriptor ++ print_of t.tree) b.0) (ap (name_at refused 58) e) in
    let both : (s.descriptor, print_of s.tree) ≡ (t.descriptor, print_of t.tree) = sym (split_again s.descriptor s.tree c.1 c.0) ∙ ap split names.1 ∙ split_again t.descriptor t.tree d.1 d.0 in
    same_parts s t names.0 (ap (λ (z : Descriptor × List ℕ). z.0) both) (one_type s.tree t.tree c.1 d.1 (ap (λ (z : Descriptor × List ℕ). z.1) both))
