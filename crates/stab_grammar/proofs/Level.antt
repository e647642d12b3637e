-- One level of types, over a reader of the types inside that keeps the laws.
use Rattle.std.proofs.Common.{◌≡◌, ℕ, suc, Bool, true, not, eqb, List, [], ◌∷◌, ◌++◌, Option, None, Some, refl, sym, ap, ◌∙◌}
use Rattle.std.specs.Prelude.{decimal}
use Rattle.std.proofs.lemmas.Bool.{and_parts, not-true}
use Rattle.std.proofs.lemmas.List.{append-nil}
use Rattle.readers.specs.Spelling.{none, inner, tail}
use Rattle.readers.specs.Readers.{Reader, seq, closed, optional, many}
use Rattle.readers.specs.Words.{is_digit}
use Rattle.readers.proofs.Cuts.{After, any, any_after, none-append}
use Rattle.readers.proofs.Laws.{Laws}
use Rattle.readers.proofs.Seq.{seq_laws}
use Rattle.readers.proofs.Made.{made_laws}
use Rattle.readers.proofs.Recast.{reshape_laws}
use Rattle.readers.proofs.Deeper.{raised}
use Rattle.readers.proofs.Behind.{behind_laws}
use Rattle.readers.proofs.Closed.{closed_form, closed_laws}
use Rattle.readers.proofs.Optional.{opt_shaped, opt_print, optional_laws}
use Rattle.readers.proofs.Numbers.{no_digit}
use Rattle.readers.proofs.Starts.{Starts}
use Rattle.readers.proofs.Alternatives.{or_laws}
use Rattle.readers.proofs.Knot.{without_node, head_laws}
use Rattle.stab_symbols.specs.declared.tree.Num.{Num}
use Rattle.stab_symbols.specs.declared.tree.Num.TheVariants.{Plain}
use Rattle.stab_symbols.specs.declared.tree.Numeral.TheVariants.{Unbounded}
use Rattle.stab_symbols.specs.declared.tree.Tag.TheVariants as tags
use Rattle.stab_symbols.specs.declared.tree.TypeTree.{TypeTree}
use Rattle.stab_symbols.specs.declared.tree.TypeTree.TheVariants.{Ref, Pointer, Function, Const, Volatile, Enum, Builtin}
use Rattle.stab_symbols.specs.SymbolSpelling.{num, numeral, print_of}
use Rattle.stab_grammar.specs.Depth.{depths_of}
use Rattle.stab_symbols.specs.Shape.{Shaped}
use Rattle.stab_grammar.specs.Grammar.{plain_number, num_at, numeral_at, choice_at, cross_at, real_at, a_range, an_array, a_struct, a_union, a_cross, a_sized, a_real, numbered, a_numbered, body_at, range_at, array_at, sized_at, numbered_at, level}
use Rattle.stab_grammar.proofs.Parts.{NumberOk, number_and_part, NumOk, num_part, starts_num, numeral_and_part, ChoicesOk, choices_part, CrossParts, cross_part, RealParts, real_part}
use Rattle.stab_grammar.proofs.Equations.{print-Pointer, print-Function, print-Const, print-Volatile, print-Range, print-Array, print-Struct, print-Union, print-Enum, print-Cross, print-Sized, print-Builtin, print-Real, depths-Ref, depths-Def, depths-Pointer, depths-Function, depths-Const, depths-Volatile, depths-Range, depths-Array, depths-Struct, depths-Union, depths-Enum, depths-Cross, depths-Sized, depths-Builtin, depths-Real, depths-head, ok-Ref}
use Rattle.stab_grammar.proofs.Fields.{ends_type, tree_form, body_laws}
use Rattle.stab_grammar.proofs.Forms.{RangeParts, ArrayParts, SizedParts, IsNumbered, FromPointer, numbered_print, numbered_forms, real_forms, builtin_forms, sized_forms, cross_forms, enum_forms, union_forms, struct_forms, array_forms, range_forms, volatile_forms, const_forms, function_forms, pointer_forms, sorts}

-- the depths of the types inside
abbrev ins : TypeTree → List ℕ
ins = without_node depths_of

-- the depths of a type, without its own
inside_of : (t : TypeTree) (m : List ℕ) → depths_of t ≡ 1 ∷ m → ins t ≡ 0 ∷ m
inside_of t m e = ap (λ (z : List ℕ). 0 ∷ tail z) e

-- ---- numbers and definitions

-- a text that begins has a first byte
none_tail : (test : ℕ → Bool) (p q : List ℕ) → Starts test p → 0 ∷ tail (none p ++ q) ≡ none p ++ q
none_tail test [] q s = absurd s
none_tail test (b ∷ p) q s = refl

-- the types inside stand after `=`
numbered_depths : (n : Num) (o : Option TypeTree) → NumOk n → ins (numbered n o) ≡ none (num n) ++ opt_print 0 (λ t. inner (depths_of t)) o
numbered_depths n None e =
    let s : 0 ∷ tail (none (num n) ++ []) ≡ none (num n) ++ [] = none_tail _ (num n) [] (starts_num n e) in
    ap (λ (z : List ℕ). 0 ∷ tail z) (depths-Ref n) ∙ ap (λ (z : List ℕ). 0 ∷ tail z) (sym (append-nil (none (num n)))) ∙ s
numbered_depths n (Some t) e = ap (λ (z : List ℕ). 0 ∷ tail z) (depths-Def n t) ∙ none_tail _ (num n) (0 ∷ inner (depths_of t)) (starts_num n e)

-- what follows a number is no digit
num_starts : (o : Option TypeTree) (rest : List ℕ) → opt_shaped Shaped o → After ends_type rest → After no_digit (opt_print 61 print_of o ++ rest)
num_starts None [] f after = tt
num_starts None (c ∷ rest) f after = (and_parts (not (is_digit c)) (not (eqb c 61)) after).0
num_starts (Some t) rest f after = refl

-- what follows a part that ends in a byte of its own may follow a type
fewer : (c : ℕ) → ends_type c ≡ true → any c ≡ true
fewer c e = refl

module _ (n : ℕ) (inner_at : Reader TypeTree) (inner_laws : Laws (suc n) inner_at (raised tree_form) ends_type) where
  -- the types inside stand one deeper
  abbrev N : ℕ
  N = suc n

  -- the type `0`
  abbrev zero_type : TypeTree
  zero_type = Ref (Plain 0)

  -- it has a spelling
  zero_shaped : Shaped zero_type
  zero_shaped = ok-Ref (Plain 0)

  -- `type;`
  tree_and : Laws N (closed inner_at 59) (closed_form (raised tree_form) 59) any
  tree_and = closed_laws N inner_at (raised tree_form) ends_type inner_laws 59 refl

  -- a range
  range_laws : Laws N (range_at inner_at) (record { print = λ p. (print_of p.0 ++ 59 ∷ []) ++ ((numeral p.1.0 ++ 59 ∷ []) ++ (numeral p.1.1 ++ 59 ∷ [])); depths = λ p. (inner (depths_of p.0) ++ 0 ∷ []) ++ ((none (numeral p.1.0) ++ 0 ∷ []) ++ (none (numeral p.1.1) ++ 0 ∷ [])); shaped = RangeParts }) ends_type
  unfolding range_at
  range_laws =
      let bound = numeral_and_part N in
      let bounds = seq_laws N (closed numeral_at 59) _ any bound (closed numeral_at 59) _ any bound (λ k rest f after. any_after _) Unbounded refl in
      let all = seq_laws N (closed inner_at 59) _ any tree_and (seq (closed numeral_at 59) (closed numeral_at 59)) _ any bounds (λ k rest f after. any_after _) (Unbounded, Unbounded) (refl, refl) in
      reshape_laws N (range_at inner_at) _ any all RangeParts ends_type (λ p f. f) (λ p f. f) fewer

  -- an array
  array_laws : Laws N (array_at inner_at) (record { print = λ p. 114 ∷ ((print_of p.0 ++ 59 ∷ []) ++ ((numeral p.1.0 ++ 59 ∷ []) ++ ((numeral p.1.1.0 ++ 59 ∷ []) ++ print_of p.1.1.1))); depths = λ p. 0 ∷ ((inner (depths_of p.0) ++ 0 ∷ []) ++ ((none (numeral p.1.0) ++ 0 ∷ []) ++ ((none (numeral p.1.1.0) ++ 0 ∷ []) ++ inner (depths_of p.1.1.1)))); shaped = ArrayParts }) ends_type
  unfolding array_at
  array_laws =
      let bound = numeral_and_part N in
      let a = seq_laws N (closed numeral_at 59) _ any bound inner_at _ ends_type inner_laws (λ t rest f after. any_after _) zero_type zero_shaped in
      let b = seq_laws N (closed numeral_at 59) _ any bound (seq (closed numeral_at 59) inner_at) _ ends_type a (λ t rest f after. any_after _) (Unbounded, zero_type) (refl, zero_shaped) in
      let c = seq_laws N (closed inner_at 59) _ any tree_and (seq (closed numeral_at 59) (seq (closed numeral_at 59) inner_at)) _ ends_type b (λ t rest f after. any_after _) (Unbounded, (Unbounded, zero_type)) (refl, (refl, zero_shaped)) in
      behind_laws N (seq (closed inner_at 59) (seq (closed numeral_at 59) (seq (closed numeral_at 59) inner_at))) _ ends_type c 114 (zero_type, (Unbounded, (Unbounded, zero_type))) (zero_shaped, (refl, (refl, zero_shaped)))

  -- a type with its size
  sized_laws : Laws N (sized_at inner_at) (record { print = λ p. 115 ∷ ((decimal p.0 ++ 59 ∷ []) ++ print_of p.1); depths = λ p. 0 ∷ ((none (decimal p.0) ++ 0 ∷ []) ++ inner (depths_of p.1)); shaped = SizedParts }) ends_type
  unfolding sized_at
  sized_laws =
      let a = seq_laws N (closed plain_number 59) _ any (number_and_part N 59 refl) inner_at _ ends_type inner_laws (λ t rest f after. any_after _) zero_type zero_shaped in
      behind_laws N (seq (closed plain_number 59) inner_at) _ ends_type a 115 (0, zero_type) (refl, zero_shaped)

  -- a number, and its definition
  numbered_laws : Laws N (numbered_at inner_at) (record { print = print_of; depths = ins; shaped = IsNumbered }) ends_type
  unfolding numbered_at
  numbered_laws =
      let opt = optional_laws N inner_at (raised tree_form) ends_type inner_laws 61 ends_type (λ c e. not-true (eqb c 61) (and_parts (not (is_digit c)) (not (eqb c 61)) e).1) (λ c e. e) in
      let both = seq_laws N num_at _ no_digit (num_part N) (optional 61 inner_at) _ ends_type opt num_starts None tt in
      made_laws N (seq num_at (optional 61 inner_at)) _ ends_type both a_numbered print_of ins (λ p f. numbered_print p.0 p.1) (λ p f. numbered_depths p.0 p.1 f.0)

  -- the choice of all forms
  choice_laws : Laws N (level inner_at) (record { print = print_of; depths = ins; shaped = FromPointer }) ends_type
  unfolding level
  choice_laws =
      let body = body_laws N inner_at inner_laws in
      let real = reshape_laws N real_at _ any (real_part N) RealParts ends_type (λ p f. f) (λ p f. f) fewer in
      let builtin = reshape_laws N (closed plain_number 59) _ any (number_and_part N 59 refl) NumberOk ends_type (λ p f. f) (λ p f. f) fewer in
      let cross = reshape_laws N cross_at _ any (cross_part N) CrossParts ends_type (λ p f. f) (λ p f. f) fewer in
      let choices = reshape_laws N (many 59 choice_at) _ any (choices_part N) ChoicesOk ends_type (λ p f. f) (λ p f. f) fewer in
      let from_real = or_laws N real_at _ ends_type real a_real 82 print_of ins (λ p. print-Real p.0 p.1.0 p.1.1) (λ p. inside_of _ _ (depths-Real p.0 p.1.0 p.1.1)) _ Shaped _ numbered_forms numbered_laws refl (0, (0, 0)) (refl, (refl, refl)) in
      let from_builtin = or_laws N (closed plain_number 59) _ ends_type builtin Builtin 45 print_of ins print-Builtin (λ k. inside_of _ _ (depths-Builtin k ∙ ap (λ (z : List ℕ). 1 ∷ z) (none-append (decimal k) (59 ∷ [])))) _ Shaped _ real_forms from_real refl 0 refl in
      let from_sized = or_laws N (sized_at inner_at) _ ends_type sized_laws a_sized 64 print_of ins (λ p. print-Sized p.0 p.1) (λ p. inside_of _ _ (depths-Sized p.0 p.1)) _ Shaped _ builtin_forms from_builtin refl (0, zero_type) (refl, zero_shaped) in
      let from_cross = or_laws N cross_at _ ends_type cross a_cross 120 print_of ins (λ p. print-Cross p.0 p.1) (λ p. inside_of _ _ (depths-Cross p.0 p.1)) _ Shaped _ sized_forms from_sized refl (tags.Struct, []) (tt, refl) in
      let from_enum = or_laws N (many 59 choice_at) _ ends_type choices Enum 101 print_of ins print-Enum (λ a. inside_of _ _ (depths-Enum a)) _ Shaped _ cross_forms from_cross refl [] refl in
      let from_union = or_laws N (body_at inner_at) _ ends_type body a_union 117 print_of ins (λ p. print-Union p.0 p.1) (λ p. inside_of _ _ (depths-Union p.0 p.1)) _ Shaped _ enum_forms from_enum refl (0, []) (refl, (tt, refl)) in
      let from_struct = or_laws N (body_at inner_at) _ ends_type body a_struct 115 print_of ins (λ p. print-Struct p.0 p.1) (λ p. inside_of _ _ (depths-Struct p.0 p.1)) _ Shaped _ union_forms from_union refl (0, []) (refl, (tt, refl)) in
      let from_array = or_laws N (array_at inner_at) _ ends_type array_laws an_array 97 print_of ins (λ p. print-Array p.0 p.1.0 p.1.1.0 p.1.1.1) (λ p. inside_of _ _ (depths-Array p.0 p.1.0 p.1.1.0 p.1.1.1)) _ Shaped _ struct_forms from_struct refl (zero_type, (Unbounded, (Unbounded, zero_type))) (zero_shaped, (refl, (refl, zero_shaped))) in
      let from_range = or_laws N (range_at inner_at) _ ends_type range_laws a_range 114 print_of ins (λ p. print-Range p.0 p.1.0 p.1.1) (λ p. inside_of _ _ (depths-Range p.0 p.1.0 p.1.1)) _ Shaped _ array_forms from_array refl (zero_type, (Unbounded, Unbounded)) (zero_shaped, (refl, refl)) in
      let from_volatile = or_laws N inner_at (raised tree_form) ends_type inner_laws Volatile 66 print_of ins print-Volatile (λ a. inside_of _ _ (depths-Volatile a)) _ Shaped _ range_forms from_range refl zero_type zero_shaped in
      let from_const = or_laws N inner_at (raised tree_form) ends_type inner_laws Const 107 print_of ins print-Const (λ a. inside_of _ _ (depths-Const a)) _ Shaped _ volatile_forms from_volatile refl zero_type zero_shaped in
      let from_function = or_laws N inner_at (raised tree_form) ends_type inner_laws Function 102 print_of ins print-Function (λ a. inside_of _ _ (depths-Function a)) _ Shaped _ const_forms from_const refl zero_type zero_shaped in
      or_laws N inner_at (raised tree_form) ends_type inner_laws Pointer 42 print_of ins print-Pointer (λ a. inside_of _ _ (depths-Pointer a)) _ Shaped _ function_forms from_function refl zero_type zero_shaped

  -- one level of types keeps the laws
  pub level_laws : Laws N (level inner_at) tree_form ends_type
  level_laws = head_laws n (level inner_at) tree_form ends_type depths-head FromPointer choice_laws pointer_forms.to sorts
