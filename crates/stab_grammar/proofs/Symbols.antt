-- The laws of symbols: a name and `:`, a descriptor, a type.
use Rattle.std.proofs.Common.{◌≡◌, ℕ, ◌≤◌, ◌⊎◌, inl, inr, Bool, true, false, not, eqb, List, [], ◌∷◌, ◌++◌, length, Option, None, Some, refl, sym, subst, arith}
use Rattle.std.specs.Prelude.{◌||◌, ◌&&◌}
use Rattle.std.proofs.lemmas.Bool.{eqb-true, and_parts, and_from, not-true, not_from_false, both_ways}
use Rattle.std.proofs.lemmas.Fmt.{decimal_digit}
use Rattle.readers.specs.Spelling.{Form, none}
use Rattle.readers.specs.Readers.{Reader, seq, done, optional, unless}
use Rattle.readers.specs.Words.{is_digit, name_at, is_name}
use Rattle.readers.proofs.Cases.{which}
use Rattle.readers.proofs.Cuts.{any, any_after}
use Rattle.readers.proofs.Laws.{Laws}
use Rattle.readers.proofs.Seq.{seq_laws}
use Rattle.readers.proofs.Made.{Of, made_laws}
use Rattle.readers.proofs.Recast.{reshape_laws}
use Rattle.readers.proofs.Closed.{empty_form, done_laws}
use Rattle.readers.proofs.Optional.{opt_print, opt_shaped, optional_laws}
use Rattle.readers.proofs.Unless.{NotFirst, unless_laws}
use Rattle.readers.proofs.Starts.{Starts, starts_solid, after_starts}
use Rattle.readers.proofs.Alternatives.{Alternatives, or_alternative, or_laws}
use Rattle.stab_symbols.specs.declared.limits.TheConstants.{GREATEST_DEPTH}
use Rattle.stab_symbols.specs.declared.tree.Num.TheVariants.{Plain}
use Rattle.stab_symbols.specs.declared.tree.TypeTree.{TypeTree}
use Rattle.stab_symbols.specs.declared.tree.TypeTree.TheVariants.{Ref}
use Rattle.stab_symbols.specs.declared.tree.Descriptor.{Descriptor}
use Rattle.stab_symbols.specs.declared.tree.Descriptor.TheVariants as descriptors
use Rattle.stab_symbols.specs.declared.tree.Symbol.{Symbol}
use Rattle.stab_symbols.specs.SymbolSpelling.{print_of, letters, print_symbol}
use Rattle.stab_grammar.specs.Depth.{depths_of, depths_symbol}
use Rattle.stab_symbols.specs.Shape.{refused, begins_stack, descriptor_ok, ok, Shaped, ShapedSymbol}
use Rattle.stab_grammar.specs.Grammar.{begins_type, type_at, Described, described, tagged, a_tagged, no_stack, stack_at, described_at, a_symbol, symbol_at}
use Rattle.stab_grammar.specs.StringFaults.{symbol_form}
use Rattle.stab_grammar.proofs.Equations.{print-Ref, ok-Ref}
use Rattle.stab_grammar.proofs.Parts.{NameOk, symbol_name_part}
use Rattle.stab_grammar.proofs.Fields.{ends_type, tree_form}
use Rattle.stab_grammar.proofs.Forms.{type_starts}
use Rattle.stab_grammar.proofs.Types.{type_laws}

-- ---- what stands after the colon

-- how a descriptor and a type are spelled
abbrev print : Described → List ℕ
print d = letters d.0 ++ print_of d.1

-- where types begin there
abbrev depths : Described → List ℕ
depths d = none (letters d.0) ++ depths_of d.1

-- they have a spelling
abbrev DescribedOk : Described → Type 0
DescribedOk d = (descriptor_ok d.0 d.1 && ok d.1) ≡ true

-- descriptors with types
abbrev described_form : Form Described
described_form = record { print = print; depths = depths; shaped = DescribedOk }

-- a descriptor, and the type that a spelling begins with
abbrev R : Reader TypeTree
R = type_at GREATEST_DEPTH

-- types of depth 100 keep the laws
types : Laws GREATEST_DEPTH R tree_form ends_type
types = type_laws GREATEST_DEPTH

-- the type `0`
abbrev zero_type : TypeTree
zero_type = Ref (Plain 0)

-- it has a spelling
zero_shaped : Shaped zero_type
zero_shaped = ok-Ref (Plain 0)

-- ---- no descriptor

-- a type that begins with a digit, `(` or `-`
abbrev StackParts : TypeTree → Type 0
StackParts t = Shaped t × NotFirst no_stack (print_of t)

-- such a byte
abbrev stack_byte : ℕ → Bool
stack_byte b = is_digit b || (eqb b 40 || eqb b 45)

-- a byte that is refused without a descriptor, and one that is not
not_refused : (v : Bool) → not v ≡ false → v ≡ true
not_refused true e = refl
not_refused false e = sym e

-- the test says so
stack_from : (p : List ℕ) → begins_stack p ≡ true → NotFirst no_stack p
stack_from [] e = absurd cc
stack_from (b ∷ p) e = rw e refl

-- and the other way round
stack_to : (p : List ℕ) → NotFirst no_stack p → begins_stack p ≡ true
stack_to [] h = absurd h
stack_to (b ∷ p) h = not_refused (stack_byte b) h

-- it begins so
stack_starts : (p : List ℕ) → NotFirst no_stack p → Starts stack_byte p
stack_starts [] h = absurd h
stack_starts (b ∷ p) h = not_refused (stack_byte b) h

-- such a type without a descriptor
abbrev IsStack : Described → Type 0
IsStack = Of (described descriptors.Stack) StackParts

-- some descriptors
abbrev Some_of : (Described → Type 0) → Type 0
Some_of = Alternatives print DescribedOk

-- no descriptor
abbrev stack : Some_of IsStack
stack = record {
  test = stack_byte;
  starts = λ d f. subst (λ (z : Described). Starts stack_byte (print z)) f.2 (stack_starts (print_of f.0) f.1.1);
  to = λ d f. let w : DescribedOk (described descriptors.Stack f.0) = and_from (begins_stack (print_of f.0)) (ok f.0) (stack_to (print_of f.0) f.1.1) f.1.0 in subst DescribedOk f.2 w;
}

-- `0` may stand without a descriptor
zero_first : NotFirst no_stack (print_of zero_type)
zero_first = rw (print-Ref (Plain 0), decimal_digit 0 (omega arith)) refl

-- no descriptor keeps the laws
stack_laws : Laws GREATEST_DEPTH (stack_at R) (record { print = print; depths = depths; shaped = IsStack }) ends_type
stack_laws =
    let solid : (t : TypeTree) → Shaped t → 1 ≤ length (print_of t) = λ t f. starts_solid begins_type (print_of t) (type_starts t f) in
    let part = unless_laws GREATEST_DEPTH R tree_form ends_type types no_stack solid zero_type zero_shaped zero_first in
    made_laws GREATEST_DEPTH (unless no_stack R) _ ends_type part (described descriptors.Stack) print depths (λ t f. refl) (λ t f. refl)

-- ---- tags

-- `t` or not, and a type
abbrev TaggedParts : Option (Unit {0}) × TypeTree → Type 0
TaggedParts p = opt_shaped (λ u. Unit {0}) p.0 × Shaped p.1

-- any byte but `t`
abbrev no_t : ℕ → Bool
no_t c = not (eqb c 116)

-- `T`, `t` or not, and the type
tagged_print : (o : Option (Unit {0})) (t : TypeTree) → print (tagged o t) ≡ 84 ∷ (opt_print 116 (λ u. []) o ++ print_of t)
tagged_print None t = refl
tagged_print (Some u) t = refl

-- where types begin there
tagged_depths : (o : Option (Unit {0})) (t : TypeTree) → depths (tagged o t) ≡ 0 ∷ (opt_print 0 (λ u. []) o ++ depths_of t)
tagged_depths None t = refl
tagged_depths (Some u) t = refl

-- they have a spelling
tagged_ok : (o : Option (Unit {0})) (t : TypeTree) → Shaped t → DescribedOk (tagged o t)
tagged_ok None t f = f
tagged_ok (Some u) t f = f

-- no type begins with `t`
type_no_t : (b : ℕ) → begins_type b ≡ true → no_t b ≡ true
type_no_t b e = elim (which (eqb b 116)) [
  | inl h ↦ absurd (both_ways (begins_type 116) refl (subst (λ (z : ℕ). begins_type z ≡ true) (eqb-true b 116 h) e))
  | inr h ↦ not_from_false (eqb b 116) h
]

-- `t` or not, and a type, keep the laws
tagged_part : Laws GREATEST_DEPTH (seq (optional 116 done) R) (record { print = λ p. opt_print 116 (λ u. []) p.0 ++ print_of p.1; depths = λ p. opt_print 0 (λ u. []) p.0 ++ depths_of p.1; shaped = TaggedParts }) ends_type
tagged_part =
    let perhaps = optional_laws GREATEST_DEPTH done empty_form any (done_laws GREATEST_DEPTH) 116 no_t (λ c e. not-true (eqb c 116) e) (λ c e. refl) in
    seq_laws GREATEST_DEPTH (optional 116 done) _ no_t perhaps R tree_form ends_type types (λ t rest f after. after_starts begins_type no_t type_no_t (print_of t) rest (type_starts t f)) zero_type zero_shaped

-- ---- the choice, from the last descriptor to the first

abbrev FromTag : Described → Type 0
FromTag d = Of a_tagged TaggedParts d ⊎ IsStack d

abbrev tag : Some_of FromTag
tag = or_alternative print DescribedOk a_tagged TaggedParts 84 _ (λ p. tagged_print p.0 p.1) (λ p f. tagged_ok p.0 p.1 f.1) IsStack stack

abbrev FromTypedef : Described → Type 0
FromTypedef d = Of (described descriptors.Typedef) Shaped d ⊎ FromTag d

abbrev typedef : Some_of FromTypedef
typedef = or_alternative print DescribedOk (described descriptors.Typedef) Shaped 116 _ (λ t. refl) (λ t f. f) FromTag tag

abbrev FromRefParam : Described → Type 0
FromRefParam d = Of (described descriptors.RefParam) Shaped d ⊎ FromTypedef d

abbrev ref_param : Some_of FromRefParam
ref_param = or_alternative print DescribedOk (described descriptors.RefParam) Shaped 118 _ (λ t. refl) (λ t f. f) FromTypedef typedef

abbrev FromRefRegParam : Described → Type 0
FromRefRegParam d = Of (described descriptors.RefRegParam) Shaped d ⊎ FromRefParam d

abbrev ref_reg_param : Some_of FromRefRegParam
ref_reg_param = or_alternative print DescribedOk (described descriptors.RefRegParam) Shaped 97 _ (λ t. refl) (λ t f. f) FromRefParam ref_param

abbrev FromRegister : Described → Type 0
FromRegister d = Of (described descriptors.Register) Shaped d ⊎ FromRefRegParam d

abbrev register : Some_of FromRegister
register = or_alternative print DescribedOk (described descriptors.Register) Shaped 114 _ (λ t. refl) (λ t f. f) FromRefRegParam ref_reg_param

abbrev FromRegParam : Described → Type 0
FromRegParam d = Of (described descriptors.RegParam) Shaped d ⊎ FromRegister d

abbrev reg_param : Some_of FromRegParam
reg_param = or_alternative print DescribedOk (described descriptors.RegParam) Shaped 80 _ (λ t. refl) (λ t f. f) FromRegister register

abbrev FromParam : Described → Type 0
FromParam d = Of (described descriptors.Param) Shaped d ⊎ FromRegParam d

abbrev param : Some_of FromParam
param = or_alternative print DescribedOk (described descriptors.Param) Shaped 112 _ (λ t. refl) (λ t f. f) FromRegParam reg_param

abbrev FromProcStatic : Described → Type 0
FromProcStatic d = Of (described descriptors.ProcStatic) Shaped d ⊎ FromParam d

abbrev proc_static : Some_of FromProcStatic
proc_static = or_alternative print DescribedOk (described descriptors.ProcStatic) Shaped 86 _ (λ t. refl) (λ t f. f) FromParam param

abbrev FromFileStatic : Described → Type 0
FromFileStatic d = Of (described descriptors.FileStatic) Shaped d ⊎ FromProcStatic d

abbrev file_static : Some_of FromFileStatic
file_static = or_alternative print DescribedOk (described descriptors.FileStatic) Shaped 83 _ (λ t. refl) (λ t f. f) FromProcStatic proc_static

abbrev FromGlobal : Described → Type 0
FromGlobal d = Of (described descriptors.Global) Shaped d ⊎ FromFileStatic d

abbrev global : Some_of FromGlobal
global = or_alternative print DescribedOk (described descriptors.Global) Shaped 71 _ (λ t. refl) (λ t f. f) FromFileStatic file_static

abbrev FromGlobalFun : Described → Type 0
FromGlobalFun d = Of (described descriptors.GlobalFun) Shaped d ⊎ FromGlobal d

abbrev global_fun : Some_of FromGlobalFun
global_fun = or_alternative print DescribedOk (described descriptors.GlobalFun) Shaped 70 _ (λ t. refl) (λ t f. f) FromGlobal global

abbrev FromStaticFun : Described → Type 0
FromStaticFun d = Of (described descriptors.StaticFun) Shaped d ⊎ FromGlobalFun d

abbrev static_fun : Some_of FromStaticFun
static_fun = or_alternative print DescribedOk (described descriptors.StaticFun) Shaped 102 _ (λ t. refl) (λ t f. f) FromGlobalFun global_fun

-- ---- where each descriptor stands in the choice

abbrev in_static_fun : (d : Described) → FromStaticFun d → FromStaticFun d
in_static_fun d s = s

abbrev in_global_fun : (d : Described) → FromGlobalFun d → FromStaticFun d
in_global_fun d s = in_static_fun d (inr s)

abbrev in_global : (d : Described) → FromGlobal d → FromStaticFun d
in_global d s = in_global_fun d (inr s)

abbrev in_file_static : (d : Described) → FromFileStatic d → FromStaticFun d
in_file_static d s = in_global d (inr s)

abbrev in_proc_static : (d : Described) → FromProcStatic d → FromStaticFun d
in_proc_static d s = in_file_static d (inr s)

abbrev in_param : (d : Described) → FromParam d → FromStaticFun d
in_param d s = in_proc_static d (inr s)

abbrev in_reg_param : (d : Described) → FromRegParam d → FromStaticFun d
in_reg_param d s = in_param d (inr s)

abbrev in_register : (d : Described) → FromRegister d → FromStaticFun d
in_register d s = in_reg_param d (inr s)

abbrev in_ref_reg_param : (d : Described) → FromRefRegParam d → FromStaticFun d
in_ref_reg_param d s = in_register d (inr s)

abbrev in_ref_param : (d : Described) → FromRefParam d → FromStaticFun d
in_ref_param d s = in_ref_reg_param d (inr s)

abbrev in_typedef : (d : Described) → FromTypedef d → FromStaticFun d
in_typedef d s = in_ref_param d (inr s)

abbrev in_tag : (d : Described) → FromTag d → FromStaticFun d
in_tag d s = in_typedef d (inr s)

-- each descriptor and type with a spelling is of one of them
sorts : (d : Descriptor) (t : TypeTree) → DescribedOk (d, t) → FromStaticFun (d, t)
sorts descriptors.Stack t e = let k = and_parts (begins_stack (print_of t)) (ok t) e in in_tag _ (inr (t, (k.1, stack_from (print_of t) k.0), refl))
sorts descriptors.Tag t e = in_tag _ (inl ((None, t), (tt, e), refl))
sorts descriptors.TagTypedef t e = in_tag _ (inl ((Some tt, t), (tt, e), refl))
sorts descriptors.Typedef t e = in_typedef _ (inl (t, e, refl))
sorts descriptors.RefParam t e = in_ref_param _ (inl (t, e, refl))
sorts descriptors.RefRegParam t e = in_ref_reg_param _ (inl (t, e, refl))
sorts descriptors.Register t e = in_register _ (inl (t, e, refl))
sorts descriptors.RegParam t e = in_reg_param _ (inl (t, e, refl))
sorts descriptors.Param t e = in_param _ (inl (t, e, refl))
sorts descriptors.ProcStatic t e = in_proc_static _ (inl (t, e, refl))
sorts descriptors.FileStatic t e = in_file_static _ (inl (t, e, refl))
sorts descriptors.Global t e = in_global _ (inl (t, e, refl))
sorts descriptors.GlobalFun t e = in_global_fun _ (inl (t, e, refl))
sorts descriptors.StaticFun t e = in_static_fun _ (inl (t, e, refl))

-- ---- the laws

-- a descriptor and a type keep the laws
described_laws : Laws GREATEST_DEPTH (described_at R) described_form ends_type
unfolding described_at
described_laws =
    let from_tag = or_laws GREATEST_DEPTH (seq (optional 116 done) R) _ ends_type tagged_part a_tagged 84 print depths (λ p. tagged_print p.0 p.1) (λ p. tagged_depths p.0 p.1) _ DescribedOk _ stack stack_laws refl (None, zero_type) (tt, zero_shaped) in
    let from_typedef = or_laws GREATEST_DEPTH R tree_form ends_type types (described descriptors.Typedef) 116 print depths (λ t. refl) (λ t. refl) _ DescribedOk _ tag from_tag refl zero_type zero_shaped in
    let from_ref_param = or_laws GREATEST_DEPTH R tree_form ends_type types (described descriptors.RefParam) 118 print depths (λ t. refl) (λ t. refl) _ DescribedOk _ typedef from_typedef refl zero_type zero_shaped in
    let from_ref_reg_param = or_laws GREATEST_DEPTH R tree_form ends_type types (described descriptors.RefRegParam) 97 print depths (λ t. refl) (λ t. refl) _ DescribedOk _ ref_param from_ref_param refl zero_type zero_shaped in
    let from_register = or_laws GREATEST_DEPTH R tree_form ends_type types (described descriptors.Register) 114 print depths (λ t. refl) (λ t. refl) _ DescribedOk _ ref_reg_param from_ref_reg_param refl zero_type zero_shaped in
    let from_reg_param = or_laws GREATEST_DEPTH R tree_form ends_type types (described descriptors.RegParam) 80 print depths (λ t. refl) (λ t. refl) _ DescribedOk _ register from_register refl zero_type zero_shaped in
    let from_param = or_laws GREATEST_DEPTH R tree_form ends_type types (described descriptors.Param) 112 print depths (λ t. refl) (λ t. refl) _ DescribedOk _ reg_param from_reg_param refl zero_type zero_shaped in
    let from_proc_static = or_laws GREATEST_DEPTH R tree_form ends_type types (described descriptors.ProcStatic) 86 print depths (λ t. refl) (λ t. refl) _ DescribedOk _ param from_param refl zero_type zero_shaped in
    let from_file_static = or_laws GREATEST_DEPTH R tree_form ends_type types (described descriptors.FileStatic) 83 print depths (λ t. refl) (λ t. refl) _ DescribedOk _ proc_static from_proc_static refl zero_type zero_shaped in
    let from_global = or_laws GREATEST_DEPTH R tree_form ends_type types (described descriptors.Global) 71 print depths (λ t. refl) (λ t. refl) _ DescribedOk _ file_static from_file_static refl zero_type zero_shaped in
    let from_global_fun = or_laws GREATEST_DEPTH R tree_form ends_type types (described descriptors.GlobalFun) 70 print depths (λ t. refl) (λ t. refl) _ DescribedOk _ global from_global refl zero_type zero_shaped in
    let from_static_fun = or_laws GREATEST_DEPTH R tree_form ends_type types (described descriptors.StaticFun) 102 print depths (λ t. refl) (λ t. refl) _ DescribedOk _ global_fun from_global_fun refl zero_type zero_shaped in
    reshape_laws GREATEST_DEPTH (described_at R) _ ends_type from_static_fun DescribedOk ends_type static_fun.to (λ d e. sorts d.0 d.1 e) (λ c e. e)

-- ---- the whole symbol

-- a name, and a descriptor with a type
abbrev SymbolParts : List ℕ × Described → Type 0
SymbolParts p = NameOk p.0 × DescribedOk p.1

-- they make a symbol with a spelling
symbol_to : (s : Symbol) → Of a_symbol SymbolParts s → ShapedSymbol s
symbol_to s f = let w : ShapedSymbol (a_symbol f.0) = and_from (is_name refused 58 f.0.0) _ f.1.0 f.1.1 in subst ShapedSymbol f.2 w

-- and each is made so
symbol_from : (s : Symbol) → ShapedSymbol s → Of a_symbol SymbolParts s
symbol_from s e = ((s.name, (s.descriptor, s.tree)), and_parts (is_name refused 58 s.name) (descriptor_ok s.descriptor s.tree && ok s.tree) e, refl)

-- a symbol keeps the laws, its types being at most 100 deep
pub symbol_laws : Laws GREATEST_DEPTH symbol_at symbol_form ends_type
unfolding symbol_at
symbol_laws =
    let both = seq_laws GREATEST_DEPTH (name_at refused 58) _ any (symbol_name_part GREATEST_DEPTH) (described_at R) described_form ends_type described_laws (λ d rest f after. any_after _) (described descriptors.Typedef zero_type) zero_shaped in
    let all = made_laws GREATEST_DEPTH (seq (name_at refused 58) (described_at R)) _ ends_type both a_symbol print_symbol depths_symbol (λ p f. refl) (λ p f. refl) in
    reshape_laws GREATEST_DEPTH symbol_at _ ends_type all ShapedSymbol ends_type symbol_to symbol_from (λ c e. e)
