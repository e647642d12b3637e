-- The spelling, the depths and the shape of a type, by its forms.
use Rattle.std.proofs.Common.{◌≡◌, ℕ, List, [], ◌∷◌, ◌++◌, map, Bool, refl, sym, ap, subst, ◌∙◌, rules}
use Rattle.std.specs.Prelude.{decimal, ◌&&◌, nat_le}
use Rattle.readers.specs.Words.{is_name}
use Rattle.readers.specs.Spelling.{ended, all_of, none, inner, tail}
use Rattle.stab_symbols.specs.declared.limits.TheConstants.{GREATEST_NUMBER}
use Rattle.stab_symbols.specs.declared.tree.Num.{Num}
use Rattle.stab_symbols.specs.declared.tree.Numeral.{Numeral}
use Rattle.stab_symbols.specs.declared.tree.Tag.{Tag}
use Rattle.stab_symbols.specs.declared.tree.Choice.{Choice}
use Rattle.stab_symbols.specs.declared.tree.Field.{Field}
use Rattle.stab_symbols.specs.declared.tree.TypeTree.{TypeTree}
use Rattle.stab_symbols.specs.declared.tree.TypeTree.TheVariants.{Ref, Def, Pointer, Function, Const, Volatile, Range, Array, Struct, Union, Enum, Cross, Sized, Builtin, Real}
use Rattle.stab_symbols.specs.declared.tree.TypeTree.TheVariants.{rolls-Ref, rolls-Def, rolls-Pointer, rolls-Function, rolls-Const, rolls-Volatile, rolls-Range, rolls-Array, rolls-Struct, rolls-Union, rolls-Enum, rolls-Cross, rolls-Sized, rolls-Builtin, rolls-Real}
use Rattle.stab_symbols.specs.declared.tree.TypeTree.TheOpen.{TypeTree-F}
use Rattle.stab_symbols.specs.declared.tree.TypeTree.TheViews.{out-TypeTree, roll-TypeTree, the_lemmas}
use Rattle.stab_symbols.specs.declared.tree.TypeTree.TheFolds.{fold-roll-TypeTree, fold-roll-Field}
use Rattle.stab_symbols.specs.SymbolSpelling.{num, numeral, tag_letter, choice, same, step, field_step, print_of, print_field}
use Rattle.stab_grammar.specs.Depth.{depth_step, field_inside, depths_of, depths_field}
use Rattle.stab_symbols.specs.Shape.{refused, refused_item, num_ok, numeral_ok, choice_ok, begins_digit, left, first_fine, ok_step, field_ok, ok, ok_field}
use Rattle.stab_grammar.specs.Grammar.{a_field}

-- every type is a level that is rolled up
pub by_layer : (P : TypeTree → Type 0) → ((x : TypeTree-F TypeTree Field) → P (roll-TypeTree x)) → (t : TypeTree) → P t
by_layer P each t = let e : roll-TypeTree (out-TypeTree t) ≡ t = search (rules, the_lemmas) in subst P e (each (out-TypeTree t))

-- the texts of items one after another
ended_map : {A : Type 0} (f : A → List ℕ) (end : List ℕ) (xs : List A) → ended same end (map f xs) ≡ ended f end xs
ended_map f end [] = refl
ended_map f end (x ∷ xs) = ap (λ (z : List ℕ). f x ++ z) (ended_map f end xs)

-- ---- how it is spelled

pub print-Ref : (n : Num) → print_of (Ref n) ≡ num n
print-Ref n = ap print_of (sym (rolls-Ref n)) ∙ fold-roll-TypeTree (List ℕ) (List ℕ) step field_step (TypeTree-F.Ref n)

pub print-Def : (n : Num) (t : TypeTree) → print_of (Def n t) ≡ num n ++ 61 ∷ print_of t
print-Def n t = ap print_of (sym (rolls-Def n t)) ∙ fold-roll-TypeTree (List ℕ) (List ℕ) step field_step (TypeTree-F.Def n t)

pub print-Pointer : (t : TypeTree) → print_of (Pointer t) ≡ 42 ∷ print_of t
print-Pointer t = ap print_of (sym (rolls-Pointer t)) ∙ fold-roll-TypeTree (List ℕ) (List ℕ) step field_step (TypeTree-F.Pointer t)

pub print-Function : (t : TypeTree) → print_of (Function t) ≡ 102 ∷ print_of t
print-Function t = ap print_of (sym (rolls-Function t)) ∙ fold-roll-TypeTree (List ℕ) (List ℕ) step field_step (TypeTree-F.Function t)

pub print-Const : (t : TypeTree) → print_of (Const t) ≡ 107 ∷ print_of t
print-Const t = ap print_of (sym (rolls-Const t)) ∙ fold-roll-TypeTree (List ℕ) (List ℕ) step field_step (TypeTree-F.Const t)

pub print-Volatile : (t : TypeTree) → print_of (Volatile t) ≡ 66 ∷ print_of t
print-Volatile t = ap print_of (sym (rolls-Volatile t)) ∙ fold-roll-TypeTree (List ℕ) (List ℕ) step field_step (TypeTree-F.Volatile t)

pub print-Range : (t : TypeTree) (low high : Numeral) → print_of (Range t low high) ≡ 114 ∷ ((print_of t ++ 59 ∷ []) ++ ((numeral low ++ 59 ∷ []) ++ (numeral high ++ 59 ∷ [])))
print-Range t low high = ap print_of (sym (rolls-Range t low high)) ∙ fold-roll-TypeTree (List ℕ) (List ℕ) step field_step (TypeTree-F.Range t low high)

pub print-Array : (i : TypeTree) (low high : Numeral) (t : TypeTree) → print_of (Array i low high t) ≡ 97 ∷ (114 ∷ ((print_of i ++ 59 ∷ []) ++ ((numeral low ++ 59 ∷ []) ++ ((numeral high ++ 59 ∷ []) ++ print_of t))))
print-Array i low high t = ap print_of (sym (rolls-Array i low high t)) ∙ fold-roll-TypeTree (List ℕ) (List ℕ) step field_step (TypeTree-F.Array i low high t)

pub print-Struct : (size : ℕ) (fields : List Field) → print_of (Struct size fields) ≡ 115 ∷ (decimal size ++ ended print_field (59 ∷ []) fields)
print-Struct size fields = ap print_of (sym (rolls-Struct size fields)) ∙ fold-roll-TypeTree (List ℕ) (List ℕ) step field_step (TypeTree-F.Struct size fields) ∙ ap (λ (z : List ℕ). 115 ∷ (decimal size ++ z)) (ended_map print_field (59 ∷ []) fields)

pub print-Union : (size : ℕ) (fields : List Field) → print_of (Union size fields) ≡ 117 ∷ (decimal size ++ ended print_field (59 ∷ []) fields)
print-Union size fields = ap print_of (sym (rolls-Union size fields)) ∙ fold-roll-TypeTree (List ℕ) (List ℕ) step field_step (TypeTree-F.Union size fields) ∙ ap (λ (z : List ℕ). 117 ∷ (decimal size ++ z)) (ended_map print_field (59 ∷ []) fields)

pub print-Enum : (choices : List Choice) → print_of (Enum choices) ≡ 101 ∷ ended choice (59 ∷ []) choices
print-Enum choices = ap print_of (sym (rolls-Enum choices)) ∙ fold-roll-TypeTree (List ℕ) (List ℕ) step field_step (TypeTree-F.Enum choices)

pub print-Cross : (tag : Tag) (name : List ℕ) → print_of (Cross tag name) ≡ 120 ∷ (tag_letter tag ∷ (name ++ 58 ∷ []))
print-Cross tag name = ap print_of (sym (rolls-Cross tag name)) ∙ fold-roll-TypeTree (List ℕ) (List ℕ) step field_step (TypeTree-F.Cross tag name)

pub print-Sized : (bits : ℕ) (t : TypeTree) → print_of (Sized bits t) ≡ 64 ∷ (115 ∷ ((decimal bits ++ 59 ∷ []) ++ print_of t))
print-Sized bits t = ap print_of (sym (rolls-Sized bits t)) ∙ fold-roll-TypeTree (List ℕ) (List ℕ) step field_step (TypeTree-F.Sized bits t)

pub print-Builtin : (n : ℕ) → print_of (Builtin n) ≡ 45 ∷ (decimal n ++ 59 ∷ [])
print-Builtin n = ap print_of (sym (rolls-Builtin n)) ∙ fold-roll-TypeTree (List ℕ) (List ℕ) step field_step (TypeTree-F.Builtin n)

pub print-Real : (a b c : ℕ) → print_of (Real a b c) ≡ 82 ∷ ((decimal a ++ 59 ∷ []) ++ ((decimal b ++ 59 ∷ []) ++ (decimal c ++ 59 ∷ [])))
print-Real a b c = ap print_of (sym (rolls-Real a b c)) ∙ fold-roll-TypeTree (List ℕ) (List ℕ) step field_step (TypeTree-F.Real a b c)

pub print-field : (p : List ℕ × (TypeTree × (ℕ × ℕ))) → print_field (a_field p) ≡ (p.0 ++ 58 ∷ []) ++ ((print_of p.1.0 ++ 44 ∷ []) ++ ((decimal p.1.1.0 ++ 44 ∷ []) ++ (decimal p.1.1.1 ++ 59 ∷ [])))
print-field p = fold-roll-Field (List ℕ) (List ℕ) step field_step (record { name = p.0; tree = p.1.0; bit = p.1.1.0; bits = p.1.1.1 })

-- ---- where types begin in it

pub depths-Ref : (n : Num) → depths_of (Ref n) ≡ 1 ∷ tail (none (num n))
depths-Ref n = ap depths_of (sym (rolls-Ref n)) ∙ fold-roll-TypeTree (List ℕ) (List ℕ) depth_step field_inside (TypeTree-F.Ref n)

pub depths-Def : (n : Num) (t : TypeTree) → depths_of (Def n t) ≡ 1 ∷ tail (none (num n) ++ 0 ∷ inner (depths_of t))
depths-Def n t = ap depths_of (sym (rolls-Def n t)) ∙ fold-roll-TypeTree (List ℕ) (List ℕ) depth_step field_inside (TypeTree-F.Def n t)

pub depths-Pointer : (t : TypeTree) → depths_of (Pointer t) ≡ 1 ∷ inner (depths_of t)
depths-Pointer t = ap depths_of (sym (rolls-Pointer t)) ∙ fold-roll-TypeTree (List ℕ) (List ℕ) depth_step field_inside (TypeTree-F.Pointer t)

pub depths-Function : (t : TypeTree) → depths_of (Function t) ≡ 1 ∷ inner (depths_of t)
depths-Function t = ap depths_of (sym (rolls-Function t)) ∙ fold-roll-TypeTree (List ℕ) (List ℕ) depth_step field_inside (TypeTree-F.Function t)

pub depths-Const : (t : TypeTree) → depths_of (Const t) ≡ 1 ∷ inner (depths_of t)
depths-Const t = ap depths_of (sym (rolls-Const t)) ∙ fold-roll-TypeTree (List ℕ) (List ℕ) depth_step field_inside (TypeTree-F.Const t)

pub depths-Volatile : (t : TypeTree) → depths_of (Volatile t) ≡ 1 ∷ inner (depths_of t)
depths-Volatile t = ap depths_of (sym (rolls-Volatile t)) ∙ fold-roll-TypeTree (List ℕ) (List ℕ) depth_step field_inside (TypeTree-F.Volatile t)

pub depths-Range : (t : TypeTree) (low high : Numeral) → depths_of (Range t low high) ≡ 1 ∷ ((inner (depths_of t) ++ 0 ∷ []) ++ ((none (numeral low) ++ 0 ∷ []) ++ (none (numeral high) ++ 0 ∷ [])))
depths-Range t low high = ap depths_of (sym (rolls-Range t low high)) ∙ fold-roll-TypeTree (List ℕ) (List ℕ) depth_step field_inside (TypeTree-F.Range t low high)

pub depths-Array : (i : TypeTree) (low high : Numeral) (t : TypeTree) → depths_of (Array i low high t) ≡ 1 ∷ (0 ∷ ((inner (depths_of i) ++ 0 ∷ []) ++ ((none (numeral low) ++ 0 ∷ []) ++ ((none (numeral high) ++ 0 ∷ []) ++ inner (depths_of t)))))
depths-Array i low high t = ap depths_of (sym (rolls-Array i low high t)) ∙ fold-roll-TypeTree (List ℕ) (List ℕ) depth_step field_inside (TypeTree-F.Array i low high t)

pub depths-Struct : (size : ℕ) (fields : List Field) → depths_of (Struct size fields) ≡ 1 ∷ (none (decimal size) ++ ended depths_field (0 ∷ []) fields)
depths-Struct size fields = ap depths_of (sym (rolls-Struct size fields)) ∙ fold-roll-TypeTree (List ℕ) (List ℕ) depth_step field_inside (TypeTree-F.Struct size fields) ∙ ap (λ (z : List ℕ). 1 ∷ (none (decimal size) ++ z)) (ended_map depths_field (0 ∷ []) fields)

pub depths-Union : (size : ℕ) (fields : List Field) → depths_of (Union size fields) ≡ 1 ∷ (none (decimal size) ++ ended depths_field (0 ∷ []) fields)
depths-Union size fields = ap depths_of (sym (rolls-Union size fields)) ∙ fold-roll-TypeTree (List ℕ) (List ℕ) depth_step field_inside (TypeTree-F.Union size fields) ∙ ap (λ (z : List ℕ). 1 ∷ (none (decimal size) ++ z)) (ended_map depths_field (0 ∷ []) fields)

pub depths-Enum : (choices : List Choice) → depths_of (Enum choices) ≡ 1 ∷ none (ended choice (59 ∷ []) choices)
depths-Enum choices = ap depths_of (sym (rolls-Enum choices)) ∙ fold-roll-TypeTree (List ℕ) (List ℕ) depth_step field_inside (TypeTree-F.Enum choices)

pub depths-Cross : (tag : Tag) (name : List ℕ) → depths_of (Cross tag name) ≡ 1 ∷ (0 ∷ none (name ++ 58 ∷ []))
depths-Cross tag name = ap depths_of (sym (rolls-Cross tag name)) ∙ fold-roll-TypeTree (List ℕ) (List ℕ) depth_step field_inside (TypeTree-F.Cross tag name)

pub depths-Sized : (bits : ℕ) (t : TypeTree) → depths_of (Sized bits t) ≡ 1 ∷ (0 ∷ ((none (decimal bits) ++ 0 ∷ []) ++ inner (depths_of t)))
depths-Sized bits t = ap depths_of (sym (rolls-Sized bits t)) ∙ fold-roll-TypeTree (List ℕ) (List ℕ) depth_step field_inside (TypeTree-F.Sized bits t)

pub depths-Builtin : (n : ℕ) → depths_of (Builtin n) ≡ 1 ∷ none (decimal n ++ 59 ∷ [])
depths-Builtin n = ap depths_of (sym (rolls-Builtin n)) ∙ fold-roll-TypeTree (List ℕ) (List ℕ) depth_step field_inside (TypeTree-F.Builtin n)

pub depths-Real : (a b c : ℕ) → depths_of (Real a b c) ≡ 1 ∷ ((none (decimal a) ++ 0 ∷ []) ++ ((none (decimal b) ++ 0 ∷ []) ++ (none (decimal c) ++ 0 ∷ [])))
depths-Real a b c = ap depths_of (sym (rolls-Real a b c)) ∙ fold-roll-TypeTree (List ℕ) (List ℕ) depth_step field_inside (TypeTree-F.Real a b c)

pub depths-field : (p : List ℕ × (TypeTree × (ℕ × ℕ))) → depths_field (a_field p) ≡ none (p.0 ++ 58 ∷ []) ++ ((inner (depths_of p.1.0) ++ 0 ∷ []) ++ ((none (decimal p.1.1.0) ++ 0 ∷ []) ++ (none (decimal p.1.1.1) ++ 0 ∷ [])))
depths-field p = fold-roll-Field (List ℕ) (List ℕ) depth_step field_inside (record { name = p.0; tree = p.1.0; bit = p.1.1.0; bits = p.1.1.1 })

-- each begins with a type of depth 1
pub depths-head : (t : TypeTree) → depths_of t ≡ 1 ∷ tail (depths_of t)
depths-head = by_layer (λ t. depths_of t ≡ 1 ∷ tail (depths_of t)) (λ x.
    let e : depths_of (roll-TypeTree x) ≡ _ = fold-roll-TypeTree (List ℕ) (List ℕ) depth_step field_inside x in
    e ∙ ap (λ (z : List ℕ). 1 ∷ tail z) (sym e))

-- ---- which have a spelling

pub ok-Ref : (n : Num) → ok (Ref n) ≡ num_ok n
ok-Ref n = ap ok (sym (rolls-Ref n)) ∙ fold-roll-TypeTree Bool (Bool × Bool) ok_step field_ok (TypeTree-F.Ref n)

pub ok-Def : (n : Num) (t : TypeTree) → ok (Def n t) ≡ (num_ok n && ok t)
ok-Def n t = ap ok (sym (rolls-Def n t)) ∙ fold-roll-TypeTree Bool (Bool × Bool) ok_step field_ok (TypeTree-F.Def n t)

pub ok-Pointer : (t : TypeTree) → ok (Pointer t) ≡ ok t
ok-Pointer t = ap ok (sym (rolls-Pointer t)) ∙ fold-roll-TypeTree Bool (Bool × Bool) ok_step field_ok (TypeTree-F.Pointer t)

pub ok-Function : (t : TypeTree) → ok (Function t) ≡ ok t
ok-Function t = ap ok (sym (rolls-Function t)) ∙ fold-roll-TypeTree Bool (Bool × Bool) ok_step field_ok (TypeTree-F.Function t)

pub ok-Const : (t : TypeTree) → ok (Const t) ≡ ok t
ok-Const t = ap ok (sym (rolls-Const t)) ∙ fold-roll-TypeTree Bool (Bool × Bool) ok_step field_ok (TypeTree-F.Const t)

pub ok-Volatile : (t : TypeTree) → ok (Volatile t) ≡ ok t
ok-Volatile t = ap ok (sym (rolls-Volatile t)) ∙ fold-roll-TypeTree Bool (Bool × Bool) ok_step field_ok (TypeTree-F.Volatile t)

pub ok-Range : (t : TypeTree) (low high : Numeral) → ok (Range t low high) ≡ (ok t && (numeral_ok low && numeral_ok high))
ok-Range t low high = ap ok (sym (rolls-Range t low high)) ∙ fold-roll-TypeTree Bool (Bool × Bool) ok_step field_ok (TypeTree-F.Range t low high)

pub ok-Array : (i : TypeTree) (low high : Numeral) (t : TypeTree) → ok (Array i low high t) ≡ (ok i && (numeral_ok low && (numeral_ok high && ok t)))
ok-Array i low high t = ap ok (sym (rolls-Array i low high t)) ∙ fold-roll-TypeTree Bool (Bool × Bool) ok_step field_ok (TypeTree-F.Array i low high t)

pub ok-Struct : (size : ℕ) (fields : List Field) → ok (Struct size fields) ≡ (nat_le size GREATEST_NUMBER && (all_of left (map ok_field fields) && first_fine (map ok_field fields)))
ok-Struct size fields = ap ok (sym (rolls-Struct size fields)) ∙ fold-roll-TypeTree Bool (Bool × Bool) ok_step field_ok (TypeTree-F.Struct size fields)

pub ok-Union : (size : ℕ) (fields : List Field) → ok (Union size fields) ≡ (nat_le size GREATEST_NUMBER && (all_of left (map ok_field fields) && first_fine (map ok_field fields)))
ok-Union size fields = ap ok (sym (rolls-Union size fields)) ∙ fold-roll-TypeTree Bool (Bool × Bool) ok_step field_ok (TypeTree-F.Union size fields)

pub ok-Enum : (choices : List Choice) → ok (Enum choices) ≡ all_of choice_ok choices
ok-Enum choices = ap ok (sym (rolls-Enum choices)) ∙ fold-roll-TypeTree Bool (Bool × Bool) ok_step field_ok (TypeTree-F.Enum choices)

pub ok-Cross : (tag : Tag) (name : List ℕ) → ok (Cross tag name) ≡ is_name refused 58 name
ok-Cross tag name = ap ok (sym (rolls-Cross tag name)) ∙ fold-roll-TypeTree Bool (Bool × Bool) ok_step field_ok (TypeTree-F.Cross tag name)

pub ok-Sized : (bits : ℕ) (t : TypeTree) → ok (Sized bits t) ≡ (nat_le bits GREATEST_NUMBER && ok t)
ok-Sized bits t = ap ok (sym (rolls-Sized bits t)) ∙ fold-roll-TypeTree Bool (Bool × Bool) ok_step field_ok (TypeTree-F.Sized bits t)

pub ok-Builtin : (n : ℕ) → ok (Builtin n) ≡ nat_le n GREATEST_NUMBER
ok-Builtin n = ap ok (sym (rolls-Builtin n)) ∙ fold-roll-TypeTree Bool (Bool × Bool) ok_step field_ok (TypeTree-F.Builtin n)

pub ok-Real : (a b c : ℕ) → ok (Real a b c) ≡ (nat_le a GREATEST_NUMBER && (nat_le b GREATEST_NUMBER && nat_le c GREATEST_NUMBER))
ok-Real a b c = ap ok (sym (rolls-Real a b c)) ∙ fold-roll-TypeTree Bool (Bool × Bool) ok_step field_ok (TypeTree-F.Real a b c)

pub ok-field : (p : List ℕ × (TypeTree × (ℕ × ℕ))) → ok_field (a_field p) ≡ (is_name refused_item 58 p.0 && (ok p.1.0 && (nat_le p.1.1.0 GREATEST_NUMBER && nat_le p.1.1.1 GREATEST_NUMBER)), begins_digit p.0)
ok-field p = fold-roll-Field Bool (Bool × Bool) ok_step field_ok (record { name = p.0; tree = p.1.0; bit = p.1.1.0; bits = p.1.1.1 })

-- the parts of a field
abbrev pub parts_of : Field → List ℕ × (TypeTree × (ℕ × ℕ))
parts_of f = (f.name, (f.tree, (f.bit, f.bits)))
