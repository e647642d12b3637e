-- Fields, and the bodies of structures and unions, over a reader of types that keeps the laws.
use Rattle.std.proofs.Common.{◌≡◌, ℕ, ◌≤◌, Bool, true, false, not, eqb, List, [], ◌∷◌, ◌++◌, length, map, refl, sym, ap, subst, ◌∙◌, arith, append_assoc, length-append}
use Rattle.std.specs.Prelude.{decimal, nat_le, ◌&&◌}
use Rattle.std.proofs.lemmas.Bool.{and_parts, and_from, not-true, not_from_false}
use Rattle.readers.specs.Spelling.{Form, none, ended, all_of}
use Rattle.readers.specs.Readers.{Reader, seq, closed, unless, many}
use Rattle.readers.specs.Words.{is_digit, name_at, is_name}
use Rattle.readers.proofs.Cuts.{After, any, any_after}
use Rattle.readers.proofs.Laws.{Laws}
use Rattle.readers.proofs.Seq.{seq_laws}
use Rattle.readers.proofs.Made.{Of, made_laws}
use Rattle.readers.proofs.Recast.{reshape_laws}
use Rattle.readers.proofs.Deeper.{raised}
use Rattle.readers.proofs.Choose.{Apart}
use Rattle.readers.proofs.Closed.{closed_laws}
use Rattle.readers.proofs.Unless.{NotFirst, unless_form, unless_laws}
use Rattle.readers.proofs.Many.{Each, many_form, many_laws}
use Rattle.readers.proofs.Numbers.{no_digit}
use Rattle.stab_symbols.specs.declared.limits.TheConstants.{GREATEST_NUMBER}
use Rattle.stab_symbols.specs.declared.tree.Num.TheVariants.{Plain}
use Rattle.stab_symbols.specs.declared.tree.Field.{Field}
use Rattle.stab_symbols.specs.declared.tree.TypeTree.{TypeTree}
use Rattle.stab_symbols.specs.declared.tree.TypeTree.TheVariants.{Ref}
use Rattle.stab_symbols.specs.SymbolSpelling.{print_of, print_field}
use Rattle.stab_grammar.specs.Depth.{depths_of, depths_field}
use Rattle.stab_symbols.specs.Shape.{refused_item, begins_digit, left, first_fine, ok, ok_field, Shaped}
use Rattle.stab_grammar.specs.Grammar.{plain_number, a_field, field_at, body_at}
use Rattle.stab_grammar.proofs.Parts.{NumberOk, plain_part, number_and_part, ItemNameOk, item_name_part, item_apart}
use Rattle.stab_grammar.proofs.Equations.{print-field, depths-field, ok-Ref, ok-field, parts_of}

-- after a type stands no digit and no `=`
abbrev pub ends_type : ℕ → Bool
ends_type c = not (is_digit c) && not (eqb c 61)

-- types: how they are spelled, where types begin in them, and which have a spelling
abbrev pub tree_form : Form TypeTree
tree_form = record { print = print_of; depths = depths_of; shaped = Shaped }

-- ---- the parts of a field

-- a field with a spelling
abbrev pub FieldOk : Field → Type 0
FieldOk f = (ok_field f).0 ≡ true

-- fields, in the same way
abbrev field_form : Form Field
field_form = record { print = print_field; depths = depths_field; shaped = FieldOk }

-- a name, a type and two numbers with spellings
abbrev FieldParts : List ℕ × (TypeTree × (ℕ × ℕ)) → Type 0
FieldParts p = ItemNameOk p.0 × (Shaped p.1.0 × (NumberOk p.1.1.0 × NumberOk p.1.1.1))

-- a field has a spelling where its parts have
ok_first : (p : List ℕ × (TypeTree × (ℕ × ℕ))) → (ok_field (a_field p)).0 ≡ (is_name refused_item 58 p.0 && (ok p.1.0 && (nat_le p.1.1.0 GREATEST_NUMBER && nat_le p.1.1.1 GREATEST_NUMBER)))
ok_first p = ap (λ (z : Bool × Bool). z.0) (ok-field p)

-- the name says whether it begins with a digit
ok_second : (p : List ℕ × (TypeTree × (ℕ × ℕ))) → (ok_field (a_field p)).1 ≡ begins_digit p.0
ok_second p = ap (λ (z : Bool × Bool). z.1) (ok-field p)

-- the parts of a field make it one
field_to : (f : Field) → Of a_field FieldParts f → FieldOk f
field_to f h =
    let w : FieldOk (a_field h.0) = ok_first h.0 ∙ and_from (is_name refused_item 58 h.0.0) _ h.1.0 (and_from (ok h.0.1.0) _ h.1.1.0 (and_from (nat_le h.0.1.1.0 GREATEST_NUMBER) (nat_le h.0.1.1.1 GREATEST_NUMBER) h.1.1.1.0 h.1.1.1.1)) in
    subst FieldOk h.2 w

-- a field has such parts
field_parts : (f : Field) → FieldOk f → FieldParts (parts_of f)
field_parts f e =
    let a = and_parts (is_name refused_item 58 f.name) (ok f.tree && (nat_le f.bit GREATEST_NUMBER && nat_le f.bits GREATEST_NUMBER)) (sym (ok_first (parts_of f)) ∙ e) in
    let b = and_parts (ok f.tree) (nat_le f.bit GREATEST_NUMBER && nat_le f.bits GREATEST_NUMBER) a.1 in
    (a.0, (b.0, and_parts (nat_le f.bit GREATEST_NUMBER) (nat_le f.bits GREATEST_NUMBER) b.1))

-- each field is made of its parts
field_from : (f : Field) → FieldOk f → Of a_field FieldParts f
field_from f e = (parts_of f, field_parts f e, refl)

-- no field begins with `;`
field_apart : (f : Field) → FieldOk f → Apart 59 (print_field f)
field_apart f e = subst (λ (z : List ℕ). Apart 59 z) (sym (print-field (parts_of f))) (item_apart f.name _ (field_parts f e).0)

-- ---- the parts of a body

-- fields and `;`
abbrev pub print_fields : List Field → List ℕ
print_fields = ended print_field (59 ∷ [])

-- fields and `;` are not empty
fields_solid : (fs : List Field) → 1 ≤ length (print_fields fs)
fields_solid [] = omega arith
fields_solid (f ∷ fs) = omega (arith, fields_solid fs, length-append (print_field f) (print_fields fs))

-- a size, and fields of which the first begins with no digit
abbrev pub BodyParts : ℕ × List Field → Type 0
BodyParts p = NumberOk p.0 × (Each FieldOk p.1 × NotFirst is_digit (print_fields p.1))

-- the first name decides the first byte
name_first : (name p : List ℕ) → NotFirst is_digit ((name ++ 58 ∷ []) ++ p) → begins_digit name ≡ false
name_first [] p h = refl
name_first (b ∷ name) p h = h

-- and the other way round
first_name : (name p : List ℕ) → begins_digit name ≡ false → NotFirst is_digit ((name ++ 58 ∷ []) ++ p)
first_name [] p h = refl
first_name (b ∷ name) p h = h

-- each field has a spelling
pub lefts_to : (fs : List Field) → Each FieldOk fs → all_of left (map ok_field fs) ≡ true
lefts_to [] e = refl
lefts_to (f ∷ fs) e = and_from (ok_field f).0 (all_of left (map ok_field fs)) e.0 (lefts_to fs e.1)

-- and the other way round
pub lefts_from : (fs : List Field) → all_of left (map ok_field fs) ≡ true → Each FieldOk fs
lefts_from [] e = tt
lefts_from (f ∷ fs) e = let k = and_parts (ok_field f).0 (all_of left (map ok_field fs)) e in (k.0, lefts_from fs k.1)

-- what stands after the name
abbrev field_rest : Field → List ℕ
field_rest f = (print_of f.tree ++ 44 ∷ []) ++ ((decimal f.bit ++ 44 ∷ []) ++ (decimal f.bits ++ 59 ∷ []))

-- the first field's name stands before
fields_text : (f : Field) (fs : List Field) → print_fields (f ∷ fs) ≡ (f.name ++ 58 ∷ []) ++ (field_rest f ++ print_fields fs)
fields_text f fs = ap (λ (z : List ℕ). z ++ print_fields fs) (print-field (parts_of f)) ∙ append_assoc (f.name ++ 58 ∷ []) (field_rest f) (print_fields fs)

-- no digit begins the first name
pub fine_to : (fs : List Field) → NotFirst is_digit (print_fields fs) → first_fine (map ok_field fs) ≡ true
fine_to [] h = refl
fine_to (f ∷ fs) h =
    let k = name_first f.name (field_rest f ++ print_fields fs) (subst (NotFirst is_digit) (fields_text f fs) h) in
    not_from_false (ok_field f).1 (ok_second (parts_of f) ∙ k)

-- and the other way round
pub fine_from : (fs : List Field) → first_fine (map ok_field fs) ≡ true → NotFirst is_digit (print_fields fs)
fine_from [] h = refl
fine_from (f ∷ fs) h =
    let k = not-true (ok_field f).1 h in
    subst (NotFirst is_digit) (sym (fields_text f fs)) (first_name f.name (field_rest f ++ print_fields fs) (sym (ok_second (parts_of f)) ∙ k))

-- so all digits belong to the size
body_starts : (fs : List Field) (rest : List ℕ) → Each FieldOk fs × NotFirst is_digit (print_fields fs) → After any rest → After no_digit (print_fields fs ++ rest)
body_starts fs rest f after = by_text (print_fields fs) f.1
  where
    by_text : (p : List ℕ) → NotFirst is_digit p → After no_digit (p ++ rest)
    by_text [] h = absurd h
    by_text (c ∷ p) h = not_from_false (is_digit c) h

-- ---- their laws

module _ (n : ℕ) (inner_at : Reader TypeTree) (inner_laws : Laws n inner_at (raised tree_form) ends_type) where
  -- a field keeps the laws
  pub field_laws : Laws n (field_at inner_at) field_form any
  unfolding field_at
  field_laws =
      let bits = number_and_part n 59 refl in
      let bit = number_and_part n 44 refl in
      let tree = closed_laws n inner_at (raised tree_form) ends_type inner_laws 44 refl in
      let a = seq_laws n (closed plain_number 44) _ any bit (closed plain_number 59) _ any bits (λ k rest f after. any_after _) 0 refl in
      let b = seq_laws n (closed inner_at 44) _ any tree (seq (closed plain_number 44) (closed plain_number 59)) _ any a (λ k rest f after. any_after _) (0, 0) (refl, refl) in
      let c = seq_laws n (name_at refused_item 58) _ any (item_name_part n) (seq (closed inner_at 44) (seq (closed plain_number 44) (closed plain_number 59))) _ any b (λ k rest f after. any_after _) (Ref (Plain 0), (0, 0)) (ok-Ref (Plain 0), (refl, refl)) in
      let all = made_laws n (seq (name_at refused_item 58) (seq (closed inner_at 44) (seq (closed plain_number 44) (closed plain_number 59)))) _ any c a_field print_field depths_field (λ p f. print-field p) (λ p f. depths-field p) in
      reshape_laws n (field_at inner_at) _ any all FieldOk any field_to field_from (λ c e. e)

  -- so do fields of which the first begins with no digit
  fields_laws : Laws n (unless is_digit (many 59 (field_at inner_at))) (unless_form is_digit (many_form 59 field_form)) any
  fields_laws = unless_laws n (many 59 (field_at inner_at)) (many_form 59 field_form) any (many_laws n (field_at inner_at) field_form field_laws 59 field_apart) is_digit (λ fs f. fields_solid fs) [] tt refl

  -- and a size before them
  pub body_laws : Laws n (body_at inner_at) (record { print = λ p. decimal p.0 ++ print_fields p.1; depths = λ p. none (decimal p.0) ++ ended depths_field (0 ∷ []) p.1; shaped = BodyParts }) ends_type
  unfolding body_at
  body_laws =
      let all = seq_laws n plain_number _ no_digit (plain_part n) (unless is_digit (many 59 (field_at inner_at))) _ any fields_laws body_starts [] (tt, refl) in
      reshape_laws n (body_at inner_at) _ any all BodyParts ends_type (λ p f. f) (λ p f. f) (λ c e. refl)
