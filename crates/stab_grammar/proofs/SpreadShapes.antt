-- A shape says all but the files: with a `0` after each `(` it is the spelling of a type without files whose names have a `0`
-- after each `(` too. So equal shapes are equal spellings.
use Rattle.std.proofs.Common.{◌≡◌, ℕ, Bool, true, false, not, eqb, List, [], ◌∷◌, ◌++◌, length, map, refl, sym, ap, ◌∙◌, arith}
use Rattle.std.specs.Prelude.{decimal, nat_le, ◌&&◌}
use Rattle.std.proofs.lemmas.Bool.{and_parts, and_from, leb-true}
use Rattle.std.proofs.lemmas.Fmt.{decimal_digit}
use Rattle.readers.specs.Spelling.{ended, all_of}
use Rattle.readers.specs.Words.{is_digit, is_name, in_name, is_digits}
use Rattle.stab_symbols.specs.declared.limits.TheConstants.{GREATEST_FILE, GREATEST_NUMBER, MOST_DIGITS}
use Rattle.stab_symbols.specs.declared.tree.Num.{Num}
use Rattle.stab_symbols.specs.declared.tree.Num.TheVariants.{Plain, Pair}
use Rattle.stab_symbols.specs.declared.tree.Numeral.{Numeral}
use Rattle.stab_symbols.specs.declared.tree.Numeral.TheVariants.{Unbounded, Digits}
use Rattle.stab_symbols.specs.declared.tree.Tag.{Tag}
use Rattle.stab_symbols.specs.declared.tree.Tag.TheVariants as tags
use Rattle.stab_symbols.specs.declared.tree.Choice.{Choice}
use Rattle.stab_symbols.specs.declared.tree.Field.{Field, roll-Field}
use Rattle.stab_symbols.specs.declared.tree.TypeTree.{TypeTree}
use Rattle.stab_symbols.specs.declared.tree.TypeTree.TheOpen.{TypeTree-F, Field-F}
use Rattle.stab_symbols.specs.declared.tree.TypeTree.TheViews.{roll-TypeTree}
use Rattle.stab_symbols.specs.declared.tree.TypeTree.TheFolds.{fold-roll-TypeTree, fold-roll-Field, map-TypeTree}
use Rattle.stab_symbols.specs.SymbolSpelling.{num, numeral, tag_letter, choice, same, step, field_step, print_of, print_field}
use Rattle.stab_symbols.specs.Shape.{refused, refused_item, num_ok, numeral_ok, value_ok, choice_ok, begins_digit, begins_stack, field_ok, left, first_fine, ok_step, ok, ok_field}
use Rattle.stab_symbols.specs.Files.{num_shape, tree_shape, field_shape, num_with, file_0}
use Rattle.stab_symbols.proofs.Levels as levels
use Rattle.stab_grammar.proofs.Equations.{by_layer}
use Rattle.stab_grammar.proofs.WithFiles.{shape_step, joined}
use Rattle.stab_grammar.proofs.Spread.{spread, spread-append, plain_byte, spread_digits, spread_decimal, all_spread}
use Rattle.stab_grammar.proofs.Renamed.{renamed_choice, renamed, renamed_field, renamed_level, fold-renamed, fold-renamed-field}

-- ---- what has a spelling is spelled as its shape is spread

-- where the test passes, p is spread to q, and the other test passes
pub record Spreads (test : Bool) (p q : List ℕ) (other : Bool) : Type 0 where
  pub says : test ≡ true → (spread p ≡ q) × (other ≡ true)

-- by the same four
spreads_as : {a b : Bool} {p q r s : List ℕ} {c d : Bool} → a ≡ b → p ≡ q → r ≡ s → c ≡ d → Spreads b q s d → Spreads a p r c
spreads_as e f g h m = record { says = λ i. let k = m.says (sym e ∙ i) in (ap spread f ∙ k.0 ∙ sym g, h ∙ k.1) }

-- two parts
pub spreads_both : {a b : Bool} {p q r s : List ℕ} {c d : Bool} → Spreads a p q c → Spreads b r s d → Spreads (a && b) (p ++ r) (q ++ s) (c && d)
spreads_both {a = a} {b = b} {p = p} {r = r} {c = c} {d = d} m n = record {
  says = λ e.
      let k = and_parts a b e in
      let f = m.says k.0 in
      let g = n.says k.1 in
      (spread-append p r ∙ joined _ _ _ _ f.0 g.0, and_from c d f.1 g.1);
}

-- a byte before
spreads_byte : (b : ℕ) {a : Bool} {p q : List ℕ} {c : Bool} → eqb b 40 ≡ false → Spreads a p q c → Spreads a (b ∷ p) (b ∷ q) c
spreads_byte b miss m = record { says = λ e. let f = m.says e in (plain_byte b _ _ miss f.0, f.1) }

-- a byte after
pub spreads_end : (b : ℕ) {a : Bool} {p q : List ℕ} {c : Bool} → eqb b 40 ≡ false → Spreads a p q c → Spreads a (p ++ b ∷ []) (q ++ b ∷ []) c
spreads_end b {p = p} miss m = record { says = λ e. let f = m.says e in (spread-append p (b ∷ []) ∙ joined _ _ _ _ f.0 (plain_byte b [] [] miss refl), f.1) }

-- a number
spreads_number : (n : ℕ) → Spreads (nat_le n GREATEST_NUMBER) (decimal n) (decimal n) (nat_le n GREATEST_NUMBER)
spreads_number n = record { says = λ e. let le = leb-true n GREATEST_NUMBER e in (spread_decimal n (omega (arith, le)), e) }

-- a type number
spreads_num : (n : Num) → Spreads (num_ok n) (num_shape n) (num (num_with file_0 n)) (num_ok (num_with file_0 n))
spreads_num (Plain n) = spreads_number n
spreads_num (Pair f n) = record {
  says = λ e.
      let k = and_parts (nat_le f GREATEST_FILE) (nat_le n GREATEST_NUMBER) e in
      let m = (spreads_end 41 refl (spreads_number n)).says k.1 in
      (rw (decimal_digit 0 (omega arith)) (ap (λ (z : List ℕ). 40 ∷ (48 ∷ z)) (plain_byte 44 _ _ refl m.0)), m.1);
}

-- digits
spreads_digits : (digits : List ℕ) → Spreads (is_digits MOST_DIGITS digits) digits digits (is_digits MOST_DIGITS digits)
spreads_digits digits = record {
  says = λ e.
      let k = and_parts (nat_le 1 (length digits)) _ e in
      let m = and_parts (all_of is_digit digits) _ k.1 in
      (spread_digits digits m.0, e);
}

-- a bound
spreads_numeral : (n : Numeral) → Spreads (numeral_ok n) (numeral n) (numeral n) (numeral_ok n)
spreads_numeral Unbounded = record { says = λ e. (refl, e) }
spreads_numeral (Digits true digits) = spreads_byte 45 refl (spreads_digits digits)
spreads_numeral (Digits false digits) = spreads_digits digits

-- the value of a choice
spreads_value : (n : Numeral) → Spreads (value_ok n) (numeral n) (numeral n) (value_ok n)
spreads_value Unbounded = record { says = λ e. (refl, e) }
spreads_value (Digits true digits) = spreads_byte 45 refl (spreads_digits digits)
spreads_value (Digits false digits) = spreads_digits digits

-- a name
pub spreads_name : (test : ℕ → Bool) → in_name test 58 48 ≡ true → (name : List ℕ) → Spreads (is_name test 58 name) name (spread name) (is_name test 58 (spread name))
spreads_name test zero name = record { says = λ e. (refl, all_spread (in_name test 58) name zero e) }

-- a choice
spreads_choice : (c : Choice) → Spreads (choice_ok c) (choice c) (choice (renamed_choice spread c)) (choice_ok (renamed_choice spread c))
spreads_choice c = spreads_both (spreads_end 58 refl (spreads_name refused_item refl c.name)) (spreads_end 44 refl (spreads_value c.number))

-- choices
spreads_choices : (choices : List Choice) → Spreads (all_of choice_ok choices) (ended choice (59 ∷ []) choices) (ended choice (59 ∷ []) (map (renamed_choice spread) choices)) (all_of choice_ok (map (renamed_choice spread) choices))
spreads_choices [] = record { says = λ e. (refl, refl) }
spreads_choices (c ∷ choices) = spreads_both (spreads_choice c) (spreads_choices choices)

-- a tag
tag_plain : (tag : Tag) → eqb (tag_letter tag) 40 ≡ false
tag_plain tags.Struct = refl
tag_plain tags.Union = refl
tag_plain tags.Enum = refl

-- ---- types

abbrev SpreadsTree : TypeTree → Type 0
SpreadsTree t = Spreads (ok t) (tree_shape t) (print_of (renamed spread t)) (ok (renamed spread t))

-- the name of a field begins with a digit where the spread one does
abbrev SpreadsField : Field → Type 0
SpreadsField f = Spreads (ok_field f).0 (field_shape f) (print_field (renamed_field spread f)) (ok_field (renamed_field spread f)).0 × ((ok_field (renamed_field spread f)).1 ≡ (ok_field f).1)

abbrev Tree : Type 0
Tree = levels.SoundTree SpreadsTree SpreadsField

abbrev Member : Type 0
Member = levels.SoundField SpreadsTree SpreadsField

-- the fields themselves
abbrev plain : List Member → List Field
plain fields = map (levels.field_of SpreadsTree SpreadsField) fields

-- the fields with their names spread
abbrev others : List Member → List Field
others fields = map (renamed_field spread) (plain fields)

-- fields, one after another
spreads_fields : (fields : List Member) → Spreads (all_of left (map ok_field (plain fields))) (ended same (59 ∷ []) (map field_shape (plain fields))) (ended same (59 ∷ []) (map print_field (others fields))) (all_of left (map ok_field (others fields)))
spreads_fields [] = record { says = λ e. (refl, refl) }
spreads_fields (f ∷ fields) = spreads_both f.1.0 (spreads_fields fields)

-- a digit begins the first name, or none does
first_same : (fields : List Member) → first_fine (map ok_field (others fields)) ≡ first_fine (map ok_field (plain fields))
first_same [] = refl
first_same (f ∷ fields) = ap not f.1.1

-- a size and fields
spreads_body : (size : ℕ) (fields : List Member) → Spreads (nat_le size GREATEST_NUMBER && (all_of left (map ok_field (plain fields)) && first_fine (map ok_field (plain fields)))) (decimal size ++ ended same (59 ∷ []) (map field_shape (plain fields))) (decimal size ++ ended same (59 ∷ []) (map print_field (others fields))) (nat_le size GREATEST_NUMBER && (all_of left (map ok_field (others fields)) && first_fine (map ok_field (others fields))))
spreads_body size fields = spreads_both (spreads_number size) (record {
  says = λ e.
      let k = and_parts (all_of left (map ok_field (plain fields))) _ e in
      let m = (spreads_fields fields).says k.0 in
      (m.0, and_from _ _ m.1 (first_same fields ∙ k.1));
})

-- what holds of the types and fields inside
abbrev tests : TypeTree-F TypeTree Field → TypeTree-F Bool (Bool × Bool)
tests x = map-TypeTree TypeTree Field Bool (Bool × Bool) ok ok_field x

-- their shapes
abbrev shapes : TypeTree-F TypeTree Field → TypeTree-F (List ℕ) (List ℕ)
shapes x = map-TypeTree TypeTree Field (List ℕ) (List ℕ) tree_shape field_shape x

-- their spellings
abbrev texts : TypeTree-F TypeTree Field → TypeTree-F (List ℕ) (List ℕ)
texts x = map-TypeTree TypeTree Field (List ℕ) (List ℕ) print_of print_field x

-- one level
spreads_level : (y : TypeTree-F Tree Member) → Spreads (ok_step (tests (levels.level SpreadsTree SpreadsField y))) (shape_step (shapes (levels.level SpreadsTree SpreadsField y))) (step (texts (renamed_level spread (levels.level SpreadsTree SpreadsField y)))) (ok_step (tests (renamed_level spread (levels.level SpreadsTree SpreadsField y))))
spreads_level (TypeTree-F.Ref n) = spreads_num n
spreads_level (TypeTree-F.Def n t) = spreads_both (spreads_num n) (spreads_byte 61 refl t.1)
spreads_level (TypeTree-F.Pointer t) = spreads_byte 42 refl t.1
spreads_level (TypeTree-F.Function t) = spreads_byte 102 refl t.1
spreads_level (TypeTree-F.Const t) = spreads_byte 107 refl t.1
spreads_level (TypeTree-F.Volatile t) = spreads_byte 66 refl t.1
spreads_level (TypeTree-F.Range t low high) = spreads_byte 114 refl (spreads_both (spreads_end 59 refl t.1) (spreads_both (spreads_end 59 refl (spreads_numeral low)) (spreads_end 59 refl (spreads_numeral high))))
spreads_level (TypeTree-F.Array i low high t) = spreads_byte 97 refl (spreads_byte 114 refl (spreads_both (spreads_end 59 refl i.1) (spreads_both (spreads_end 59 refl (spreads_numeral low)) (spreads_both (spreads_end 59 refl (spreads_numeral high)) t.1))))
spreads_level (TypeTree-F.Struct size fields) = spreads_byte 115 refl (spreads_body size fields)
spreads_level (TypeTree-F.Union size fields) = spreads_byte 117 refl (spreads_body size fields)
spreads_level (TypeTree-F.Enum choices) = spreads_byte 101 refl (spreads_choices choices)
spreads_level (TypeTree-F.Cross tag name) = spreads_byte 120 refl (spreads_byte (tag_letter tag) (tag_plain tag) (spreads_end 58 refl (spreads_name refused refl name)))
spreads_level (TypeTree-F.Sized bits t) = spreads_byte 64 refl (spreads_byte 115 refl (spreads_both (spreads_end 59 refl (spreads_number bits)) t.1))
spreads_level (TypeTree-F.Builtin n) = spreads_byte 45 refl (spreads_end 59 refl (spreads_number n))
spreads_level (TypeTree-F.Real a b c) = spreads_byte 82 refl (spreads_both (spreads_end 59 refl (spreads_number a)) (spreads_both (spreads_end 59 refl (spreads_number b)) (spreads_end 59 refl (spreads_number c))))

spreads_rolled : (y : TypeTree-F Tree Member) → SpreadsTree (roll-TypeTree (levels.level SpreadsTree SpreadsField y))
spreads_rolled y =
    let x = levels.level SpreadsTree SpreadsField y in
    spreads_as (fold-roll-TypeTree Bool (Bool × Bool) ok_step field_ok x) (fold-roll-TypeTree (List ℕ) (List ℕ) shape_step field_step x)
    (fold-renamed spread (List ℕ) (List ℕ) step field_step x) (fold-renamed spread Bool (Bool × Bool) ok_step field_ok x) (spreads_level y)

-- a name begins as the spread one does
begins_same : (name : List ℕ) → begins_digit (spread name) ≡ begins_digit name
begins_same [] = refl
begins_same (b ∷ name) = refl

spreads_field : (y : Field-F Tree Member) → SpreadsField (roll-Field (levels.field_level SpreadsTree SpreadsField y))
spreads_field y =
    let f = levels.field_level SpreadsTree SpreadsField y in
    let test = fold-roll-Field Bool (Bool × Bool) ok_step field_ok f in
    let other = fold-renamed-field spread Bool (Bool × Bool) ok_step field_ok f in (
      spreads_as (ap left test) (fold-roll-Field (List ℕ) (List ℕ) shape_step field_step f) (fold-renamed-field spread (List ℕ) (List ℕ) step field_step f) (ap left other)
          (spreads_both (spreads_end 58 refl (spreads_name refused_item refl y.name)) (spreads_both (spreads_end 44 refl y.tree.1) (spreads_both (spreads_end 44 refl (spreads_number y.bit)) (spreads_end 59 refl (spreads_number y.bits))))),
      ap (λ (z : Bool × Bool). z.1) other ∙ begins_same y.name ∙ sym (ap (λ (z : Bool × Bool). z.1) test),
    )

-- the shape of a type with a spelling, spread, is the spelling of the type with its names spread and no files
pub spreads : (t : TypeTree) → Spreads (ok t) (tree_shape t) (print_of (renamed spread t)) (ok (renamed spread t))
spreads = levels.by_levels SpreadsTree SpreadsField spreads_rolled spreads_field

-- ---- what a type begins with

-- what stands before `=` begins the text, or `=` does
front_same : (p q r : List ℕ) → begins_stack (p ++ 61 ∷ q) ≡ begins_stack (p ++ 61 ∷ r)
front_same [] q r = refl
front_same (b ∷ p) q r = refl

stack_level : (x : TypeTree-F TypeTree Field) → begins_stack (step (texts (renamed_level spread x))) ≡ begins_stack (step (texts x))
stack_level (TypeTree-F.Ref (Plain n)) = refl
stack_level (TypeTree-F.Ref (Pair f n)) = refl
stack_level (TypeTree-F.Def (Plain n) t) = front_same (decimal n) _ _
stack_level (TypeTree-F.Def (Pair f n) t) = refl
stack_level (TypeTree-F.Pointer t) = refl
stack_level (TypeTree-F.Function t) = refl
stack_level (TypeTree-F.Const t) = refl
stack_level (TypeTree-F.Volatile t) = refl
stack_level (TypeTree-F.Range t low high) = refl
stack_level (TypeTree-F.Array i low high t) = refl
stack_level (TypeTree-F.Struct size fields) = refl
stack_level (TypeTree-F.Union size fields) = refl
stack_level (TypeTree-F.Enum choices) = refl
stack_level (TypeTree-F.Cross tag name) = refl
stack_level (TypeTree-F.Sized bits t) = refl
stack_level (TypeTree-F.Builtin n) = refl
stack_level (TypeTree-F.Real a b c) = refl

-- without files and with its names spread a type may stand without a descriptor where it may
pub stack_same : (t : TypeTree) → begins_stack (print_of (renamed spread t)) ≡ begins_stack (print_of t)
stack_same = by_layer (λ t. begins_stack (print_of (renamed spread t)) ≡ begins_stack (print_of t)) (λ x.
    ap begins_stack (fold-renamed spread (List ℕ) (List ℕ) step field_step x) ∙ stack_level x ∙ ap begins_stack (sym (fold-roll-TypeTree (List ℕ) (List ℕ) step field_step x)))
