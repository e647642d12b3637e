-- The laws of types, by how deep they may be.
use Rattle.std.proofs.Common.{◌≡◌, ℕ, zero, suc, ◌+◌, ◌-◌, ◌≤◌, inl, inr, Bool, true, eqb, [], ◌∷◌, ap, ◌∙◌, refl, arith}
use Rattle.std.specs.Prelude.{◌||◌}
use Rattle.std.proofs.lemmas.Bool.{or_cases, le-leb}
use Rattle.std.proofs.lemmas.Fmt.{decimal_digit}
use Rattle.readers.specs.Words.{is_digit}
use Rattle.readers.proofs.Laws.{Laws}
use Rattle.readers.proofs.Deeper.{raise_laws}
use Rattle.readers.proofs.Numbers.{digit_is}
use Rattle.readers.proofs.Knot.{Opening, at_byte, too_deep_laws}
use Rattle.stab_symbols.specs.declared.limits.TheConstants.{GREATEST_NUMBER}
use Rattle.stab_symbols.specs.declared.tree.Num.TheVariants.{Plain, Pair}
use Rattle.stab_symbols.specs.declared.tree.Numeral.TheVariants.{Unbounded}
use Rattle.stab_symbols.specs.declared.tree.Tag.TheVariants as tags
use Rattle.stab_symbols.specs.declared.tree.TypeTree.{TypeTree}
use Rattle.stab_symbols.specs.declared.tree.TypeTree.TheVariants.{Ref, Pointer, Function, Const, Volatile, Range, Array, Struct, Union, Enum, Cross, Sized, Builtin, Real}
use Rattle.stab_symbols.specs.Shape.{Shaped}
use Rattle.stab_grammar.specs.Grammar.{begins_type, type_at}
use Rattle.stab_grammar.proofs.Equations.{print-Ref, print-Pointer, print-Function, print-Const, print-Volatile, print-Range, print-Array, print-Struct, print-Union, print-Enum, print-Cross, print-Sized, print-Builtin, print-Real, depths-head, ok-Ref, ok-Pointer, ok-Function, ok-Const, ok-Volatile, ok-Range, ok-Array, ok-Struct, ok-Union, ok-Enum, ok-Cross, ok-Sized, ok-Builtin, ok-Real}
use Rattle.stab_grammar.proofs.Fields.{ends_type, tree_form}
use Rattle.stab_grammar.proofs.Forms.{type_starts}
use Rattle.stab_grammar.proofs.Level.{level_laws}

-- ---- for each byte that begins a type, a type that begins so

-- a type begins with the byte
abbrev Opens : ℕ → Type 0
Opens = Opening tree_form

-- the type `0`
abbrev zero_type : TypeTree
zero_type = Ref (Plain 0)

-- it has a spelling
zero_shaped : Shaped zero_type
zero_shaped = ok-Ref (Plain 0)

-- a byte more
or_opens : (c : ℕ) (test : ℕ → Bool) → Opens c → ((b : ℕ) → test b ≡ true → Opens b) → (b : ℕ) → (eqb b c || test b) ≡ true → Opens b
or_opens c test it others b e = elim (or_cases (eqb b c) (test b) e) [ inl h ↦ at_byte tree_form b c h it | inr h ↦ others b h ]

-- a digit is a type number
digit_opens : (b : ℕ) → is_digit b ≡ true → Opens b
digit_opens b h =
    let range = digit_is b h in
    let back : 48 + (b - 48) ≡ b = omega arith in
    let small : b - 48 ≤ GREATEST_NUMBER = omega arith in
    record {
      whole = Ref (Plain (b - 48));
      is_shaped = ok-Ref (Plain (b - 48)) ∙ le-leb (b - 48) GREATEST_NUMBER small;
      more = [];
      text = print-Ref (Plain (b - 48)) ∙ decimal_digit (b - 48) (omega arith) ∙ ap (λ (z : ℕ). z ∷ []) back;
    }

-- `(0,0)`, `*0`, `f0`, `k0`, `B0`, `r0;J;J;`, `ar0;J;J;0`, `s0;`, `u0;`, `e;`, `xs:`, `@s0;0`, `-0;`, `R0;0;0;`
opens : (b : ℕ) → begins_type b ≡ true → Opens b
opens =
    let pair : Opens 40 = record { whole = Ref (Pair 0 0); is_shaped = ok-Ref (Pair 0 0); more = _; text = print-Ref (Pair 0 0) } in
    let pointer : Opens 42 = record { whole = Pointer zero_type; is_shaped = ok-Pointer zero_type ∙ zero_shaped; more = _; text = print-Pointer zero_type } in
    let function : Opens 102 = record { whole = Function zero_type; is_shaped = ok-Function zero_type ∙ zero_shaped; more = _; text = print-Function zero_type } in
    let constant : Opens 107 = record { whole = Const zero_type; is_shaped = ok-Const zero_type ∙ zero_shaped; more = _; text = print-Const zero_type } in
    let volatile : Opens 66 = record { whole = Volatile zero_type; is_shaped = ok-Volatile zero_type ∙ zero_shaped; more = _; text = print-Volatile zero_type } in
    let range : Opens 114 = record { whole = Range zero_type Unbounded Unbounded; is_shaped = ok-Range zero_type Unbounded Unbounded ∙ rw zero_shaped refl; more = _; text = print-Range zero_type Unbounded Unbounded } in
    let array : Opens 97 = record { whole = Array zero_type Unbounded Unbounded zero_type; is_shaped = ok-Array zero_type Unbounded Unbounded zero_type ∙ rw zero_shaped refl; more = _; text = print-Array zero_type Unbounded Unbounded zero_type } in
    let structure : Opens 115 = record { whole = Struct 0 []; is_shaped = ok-Struct 0 []; more = _; text = print-Struct 0 [] } in
    let union : Opens 117 = record { whole = Union 0 []; is_shaped = ok-Union 0 []; more = _; text = print-Union 0 [] } in
    let enum : Opens 101 = record { whole = Enum []; is_shaped = ok-Enum []; more = _; text = print-Enum [] } in
    let cross : Opens 120 = record { whole = Cross tags.Struct []; is_shaped = ok-Cross tags.Struct []; more = _; text = print-Cross tags.Struct [] } in
    let sized : Opens 64 = record { whole = Sized 0 zero_type; is_shaped = ok-Sized 0 zero_type ∙ zero_shaped; more = _; text = print-Sized 0 zero_type } in
    let builtin : Opens 45 = record { whole = Builtin 0; is_shaped = ok-Builtin 0; more = _; text = print-Builtin 0 } in
    let real : Opens 82 = record { whole = Real 0 0 0; is_shaped = ok-Real 0 0 0; more = _; text = print-Real 0 0 0 } in
    or_opens 42 _ pointer (or_opens 102 _ function (or_opens 107 _ constant (or_opens 66 _ volatile (or_opens 114 _ range (or_opens 97 _ array (or_opens 115 _ structure
    (or_opens 117 _ union (or_opens 101 _ enum (or_opens 120 _ cross (or_opens 64 _ sized (or_opens 45 _ builtin (or_opens 82 _ real (or_opens 40 _ pair digit_opens)))))))))))))

-- ---- the laws

-- types of each depth keep the laws
pub type_laws : (n : ℕ) → Laws n (type_at n) tree_form ends_type
unfolding type_at
type_laws zero = too_deep_laws tree_form begins_type ends_type depths-head type_starts opens zero_type zero_shaped
type_laws (suc n) = level_laws n (type_at n) (raise_laws n (type_at n) tree_form ends_type (type_laws n))
