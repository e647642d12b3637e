-- What is scanned is an item: the part that was read grows by each token.
use Rattle.std.proofs.Common.{◌≡◌, suc, List, [], ◌∷◌, Some, None, refl, ap, ◌∙◌}
use Rattle.c_tokens.specs.declared.kind.Kind.{Kind}
use Rattle.c_tokens.specs.declared.kind.Kind.TheVariants as k
use Rattle.c_items.specs.declared.state.Context.TheVariants as c
use Rattle.c_items.specs.declared.state.Next.{Next}
use Rattle.c_items.specs.declared.state.Next.TheVariants.{Wrong, Done, Go}
use Rattle.c_tokens.specs.Tokens.{Info, Token}
use Rattle.c_items.specs.Acts.{Act}
use Rattle.c_items.specs.Trees as tree
use Rattle.c_items.specs.Trees.{Qualifiers, Value, Choices, Simple, Length, Declarator, Fields, Specifier, TypedefSpecifier, Local, Statements, Parameters, Takes, Storage, Item}
use Rattle.c_items.specs.Steps.{Scanned, before, onward, scan, start, step, base, behind_const, specifier_step, statements_step, after, ended, bracket, paren, parameter, valued_step}
use Rattle.c_items.proofs.Fronts as f
use Rattle.c_items.proofs.Fronts.{Field, Choice, Head, Parameter, Statement, Blocks, Outer, Under, Spot, Listing, Front, front, state}

-- what a token does to the part that was read
abbrev Advance : (List Token → List Token) → Kind → Info → Next → Type 0
Advance F t i Wrong = Unit {0}
Advance F t i (Done a) = (it : Item) × ((ts : List Token) → F ((t, i) ∷ ts) ≡ tree.item it ts)
Advance F t i (Go a s) = (z : Front) × (state z ≡ s) × ((ts : List Token) → F ((t, i) ∷ ts) ≡ front z ts)

-- a type, behind qualifiers
base_on : (u : Under) (q : Qualifiers) (t : Kind) (i : Info)
    → Advance (λ r. f.under u (tree.qualifiers q r)) t i (base t (f.context_of u) (f.bodies_of u) (f.blocks_of u))
base_on u q k.Basic i = (Front.after (Spot.of u (Specifier.of q (Simple.basic i))) [], refl, λ ts. refl)
base_on u q k.Void i = (Front.after (Spot.of u (Specifier.of q (Simple.void i))) [], refl, λ ts. refl)
base_on u q k.Name i = (Front.after (Spot.of u (Specifier.of q (Simple.named i))) [], refl, λ ts. refl)
base_on u q k.Struct i = (Front.behind_struct u q i, refl, λ ts. refl)
base_on u q k.Enum i = (Front.behind_enum u q i, refl, λ ts. refl)
base_on u q _ i = tt

-- behind `const`
const_on : (u : Under) (j : Info) (t : Kind) (i : Info)
    → Advance (λ r. f.under u ((k.Const, j) ∷ r)) t i (behind_const t (f.context_of u) (f.bodies_of u) (f.blocks_of u))
const_on u j k.Volatile i = (Front.behind_volatile u (Qualifiers.with_both j i), refl, λ ts. refl)
const_on u j t i = base_on u (Qualifiers.with_const j) t i

-- where a specifier begins
specifier_on : (u : Under) (t : Kind) (i : Info) → Advance (λ r. f.under u r) t i (specifier_step t (f.context_of u) (f.bodies_of u) (f.blocks_of u))
specifier_on u k.Const i = (Front.behind_const u i, refl, λ ts. refl)
specifier_on u k.Volatile i = (Front.behind_volatile u (Qualifiers.with_volatile i), refl, λ ts. refl)
specifier_on u t i = base_on u Qualifiers.plain t i

-- stars and a name behind a specifier
after_on : (s : Spot) (is : List Info) (t : Kind) (i : Info)
    → Advance (λ r. f.spot s (f.stars_read is r)) t i (after t (f.context_of (f.spot_under s)) (f.bodies_of (f.spot_under s)) (f.blocks_of (f.spot_under s)))
after_on s is k.Star i = (Front.after s (i ∷ is), refl, λ ts. refl)
after_on s is k.Name i = (Front.named s is i, refl, λ ts. refl)
after_on s is _ i = tt

-- ---- choices

-- behind a choice with its value
valued_on : (l : Listing) (n : Info) (v : Value) (t : Kind) (i : Info)
    → Advance (λ r. f.listing l ((k.Name, n) ∷ tree.value v r)) t i
    (valued_step t (f.context_of (f.listing_under l)) (f.bodies_of (f.listing_under l)) (f.blocks_of (f.listing_under l)))
valued_on (Listing.of u q s w brace xs) n v k.Comma i =
    (Front.choice (Listing.of u q s w brace (record { name = n; what = v; comma = i } ∷ xs)), refl, λ ts. refl)
valued_on (Listing.nameless j q s brace xs) n v k.Comma i =
    (Front.choice (Listing.nameless j q s brace (record { name = n; what = v; comma = i } ∷ xs)), refl, λ ts. refl)
valued_on (Listing.of u q s w brace xs) n v k.CloseBrace i = (
  Front.bodied_enum u q s w brace (f.choices_grown xs (Choices.last n v i)),
  refl,
  λ ts. ap (λ r. f.under u (tree.qualifiers q ((k.Enum, s) ∷ (k.Name, w) ∷ (k.OpenBrace, brace) ∷ r))) (f.choices_closed xs (Choices.last n v i) ts),
)
valued_on (Listing.nameless j q s brace xs) n v k.CloseBrace i = (
  Front.bodied_nameless_enum j q s brace (f.choices_grown xs (Choices.last n v i)),
  refl,
  λ ts. ap (λ r. (k.Typedef, j) ∷ tree.qualifiers q ((k.Enum, s) ∷ (k.OpenBrace, brace) ∷ r)) (f.choices_closed xs (Choices.last n v i) ts),
)
valued_on l n v _ i = tt

-- ---- the end of a declaration

-- the `;` of a declaration
ended_on : (s : Spot) (is : List Info) (n : Info) (ls : List Length) (i : Info)
    → Advance (λ r. f.spot s (f.stars_read is ((k.Name, n) ∷ f.lengths_read ls r))) k.Semi i
    (ended (f.context_of (f.spot_under s)) (f.bodies_of (f.spot_under s)) (f.blocks_of (f.spot_under s)))
ended_on (Spot.of (Under.top (Outer.in_typedef j)) sp) is n ls i =
    (Item.type_name j (TypedefSpecifier.tagged sp) (f.declared is n ls) i, λ ts. ap (λ r. (k.Typedef, j) ∷ tree.specifier sp r) (f.declared_read is n ls ((k.Semi, i) ∷ ts)))
ended_on (Spot.of (Under.top Outer.in_plain) sp) is n ls i =
    (Item.variable Storage.plain sp (f.declared is n ls) i, λ ts. ap (λ r. tree.specifier sp r) (f.declared_read is n ls ((k.Semi, i) ∷ ts)))
ended_on (Spot.of (Under.top (Outer.in_static j)) sp) is n ls i =
    (Item.variable (Storage.static j) sp (f.declared is n ls) i, λ ts. ap (λ r. (k.Static, j) ∷ tree.specifier sp r) (f.declared_read is n ls ((k.Semi, i) ∷ ts)))
ended_on (Spot.of (Under.top (Outer.in_extern j)) sp) is n ls i =
    (Item.variable (Storage.extern j) sp (f.declared is n ls) i, λ ts. ap (λ r. (k.Extern, j) ∷ tree.specifier sp r) (f.declared_read is n ls ((k.Semi, i) ∷ ts)))
ended_on (Spot.of (Under.top (Outer.in_parameters h xs)) sp) is n ls i = tt
ended_on (Spot.of (Under.top (Outer.in_locals h t brace b ms)) sp) is n ls i = (
  Front.entry (Under.top (Outer.in_locals h t brace b (record { of = sp; shape = f.declared is n ls; semi = i } ∷ ms))),
  refl,
  λ ts. ap (λ r. f.head h (tree.takes t ((k.OpenBrace, brace) ∷ f.blocks_read b (f.locals_read ms (tree.specifier sp r))))) (f.declared_read is n ls ((k.Semi, i) ∷ ts)),
)
ended_on (Spot.of (Under.tagged u q s t brace fs) sp) is n ls i = (
  Front.entry (Under.tagged u q s t brace (f.field_of sp (f.declared is n ls) i ∷ fs)),
  refl,
  λ ts. ap (λ r. f.under u (tree.qualifiers q ((k.Struct, s) ∷ (k.Name, t) ∷ (k.OpenBrace, brace) ∷ f.fields_read fs r)))
      (ap (λ r. tree.specifier sp r) (f.declared_read is n ls ((k.Semi, i) ∷ ts)) ∙ f.field_is sp (f.declared is n ls) i ts),
)
ended_on (Spot.of (Under.nameless j q s brace fs) sp) is n ls i = (
  Front.entry (Under.nameless j q s brace (f.field_of sp (f.declared is n ls) i ∷ fs)),
  refl,
  λ ts. ap (λ r. (k.Typedef, j) ∷ tree.qualifiers q ((k.Struct, s) ∷ (k.OpenBrace, brace) ∷ f.fields_read fs r))
      (ap (λ r. tree.specifier sp r) (f.declared_read is n ls ((k.Semi, i) ∷ ts)) ∙ f.field_is sp (f.declared is n ls) i ts),
)
ended_on (Spot.nameless_struct j q s brace fs) is n ls i = (
  Item.type_name j (TypedefSpecifier.struct_body q s brace fs) (f.declared is n ls) i,
  λ ts. ap (λ r. (k.Typedef, j) ∷ tree.typedef_specifier (TypedefSpecifier.struct_body q s brace fs) r) (f.declared_read is n ls ((k.Semi, i) ∷ ts)),
)
ended_on (Spot.nameless_enum j q s brace cs) is n ls i = (
  Item.type_name j (TypedefSpecifier.enum_choices q s brace cs) (f.declared is n ls) i,
  λ ts. ap (λ r. (k.Typedef, j) ∷ tree.typedef_specifier (TypedefSpecifier.enum_choices q s brace cs) r) (f.declared_read is n ls ((k.Semi, i) ∷ ts)),
)

-- the `[` behind a declared name
bracket_on : (s : Spot) (is : List Info) (n : Info) (ls : List Length) (i : Info)
    → Advance (λ r. f.spot s (f.stars_read is ((k.Name, n) ∷ f.lengths_read ls r))) k.OpenBracket i
    (bracket (f.context_of (f.spot_under s)) (f.bodies_of (f.spot_under s)) (f.blocks_of (f.spot_under s)))
bracket_on (Spot.of (Under.top (Outer.in_parameters h xs)) sp) is n ls i = tt
bracket_on (Spot.of (Under.top (Outer.in_typedef j)) sp) is n ls i = (Front.length (Spot.of (Under.top (Outer.in_typedef j)) sp) is n ls i, refl, λ ts. refl)
bracket_on (Spot.of (Under.top Outer.in_plain) sp) is n ls i = (Front.length (Spot.of (Under.top Outer.in_plain) sp) is n ls i, refl, λ ts. refl)
bracket_on (Spot.of (Under.top (Outer.in_static j)) sp) is n ls i = (Front.length (Spot.of (Under.top (Outer.in_static j)) sp) is n ls i, refl, λ ts. refl)
bracket_on (Spot.of (Under.top (Outer.in_extern j)) sp) is n ls i = (Front.length (Spot.of (Under.top (Outer.in_extern j)) sp) is n ls i, refl, λ ts. refl)
bracket_on (Spot.of (Under.top (Outer.in_locals h t brace b ms)) sp) is n ls i =
    (Front.length (Spot.of (Under.top (Outer.in_locals h t brace b ms)) sp) is n ls i, refl, λ ts. refl)
bracket_on (Spot.of (Under.tagged u q s t brace fs) sp) is n ls i = (Front.length (Spot.of (Under.tagged u q s t brace fs) sp) is n ls i, refl, λ ts. refl)
bracket_on (Spot.of (Under.nameless j q s brace fs) sp) is n ls i = (Front.length (Spot.of (Under.nameless j q s brace fs) sp) is n ls i, refl, λ ts. refl)
bracket_on (Spot.nameless_struct j q s brace fs) is n ls i = (Front.length (Spot.nameless_struct j q s brace fs) is n ls i, refl, λ ts. refl)
bracket_on (Spot.nameless_enum j q s brace cs) is n ls i = (Front.length (Spot.nameless_enum j q s brace cs) is n ls i, refl, λ ts. refl)

-- the `(` behind a declared name
paren_on : (s : Spot) (is : List Info) (n : Info) (i : Info)
    → Advance (λ r. f.spot s (f.stars_read is ((k.Name, n) ∷ r))) k.OpenParen i
    (paren (f.context_of (f.spot_under s)) (f.bodies_of (f.spot_under s)) (f.blocks_of (f.spot_under s)))
paren_on (Spot.of (Under.top Outer.in_plain) sp) is n i = (
  Front.entry (Under.top (Outer.in_parameters (Head.common sp (f.turned is []) n i) [])),
  refl,
  λ ts. ap (λ r. tree.specifier sp r) (f.stars_turned is [] ((k.Name, n) ∷ (k.OpenParen, i) ∷ ts)),
)
paren_on (Spot.of (Under.top (Outer.in_static j)) sp) is n i = (
  Front.entry (Under.top (Outer.in_parameters (Head.static j sp (f.turned is []) n i) [])),
  refl,
  λ ts. ap (λ r. (k.Static, j) ∷ tree.specifier sp r) (f.stars_turned is [] ((k.Name, n) ∷ (k.OpenParen, i) ∷ ts)),
)
paren_on (Spot.of (Under.top (Outer.in_typedef j)) sp) is n i = tt
paren_on (Spot.of (Under.top (Outer.in_extern j)) sp) is n i = tt
paren_on (Spot.of (Under.top (Outer.in_parameters h xs)) sp) is n i = tt
paren_on (Spot.of (Under.top (Outer.in_locals h t brace b ms)) sp) is n i = tt
paren_on (Spot.of (Under.tagged u q s t brace fs) sp) is n i = tt
paren_on (Spot.of (Under.nameless j q s brace fs) sp) is n i = tt
paren_on (Spot.nameless_struct j q s brace fs) is n i = tt
paren_on (Spot.nameless_enum j q s brace cs) is n i = tt

-- the `,` or `)` behind a parameter
parameter_on : (s : Spot) (is : List Info) (n : Info) (t : Kind) (i : Info)
    → Advance (λ r. f.spot s (f.stars_read is ((k.Name, n) ∷ r))) t i
    (parameter t (f.context_of (f.spot_under s)) (f.bodies_of (f.spot_under s)) (f.blocks_of (f.spot_under s)))
parameter_on (Spot.of (Under.top (Outer.in_parameters h xs)) sp) is n k.Comma i = (
  Front.entry (Under.top (Outer.in_parameters h (record { of = sp; pointers = f.turned is []; name = n; comma = i } ∷ xs))),
  refl,
  λ ts. ap (λ r. f.head h (f.parameters_read xs (tree.specifier sp r))) (f.stars_turned is [] ((k.Name, n) ∷ (k.Comma, i) ∷ ts)),
)
parameter_on (Spot.of (Under.top (Outer.in_parameters h xs)) sp) is n k.CloseParen i = (
  Front.paren h (Takes.some (f.parameters_grown xs (Parameters.last sp (f.turned is []) n i))),
  refl,
  λ ts. ap (λ r. f.head h (f.parameters_read xs (tree.specifier sp r))) (f.stars_turned is [] ((k.Name, n) ∷ (k.CloseParen, i) ∷ ts))
      ∙ ap (λ r. f.head h r) (f.parameters_closed xs (Parameters.last sp (f.turned is []) n i) ts),
)
parameter_on (Spot.of (Under.top (Outer.in_parameters h xs)) sp) is n t i = tt
parameter_on (Spot.of (Under.tagged u q s w brace fs) sp) is n t i = tt
parameter_on (Spot.of (Under.nameless j q s brace fs) sp) is n t i = tt
parameter_on (Spot.of (Under.top Outer.in_plain) sp) is n t i = tt
parameter_on (Spot.of (Under.top (Outer.in_static j)) sp) is n t i = tt
parameter_on (Spot.of (Under.top (Outer.in_extern j)) sp) is n t i = tt
parameter_on (Spot.of (Under.top (Outer.in_typedef j)) sp) is n t i = tt
parameter_on (Spot.of (Under.top (Outer.in_locals h w brace b ms)) sp) is n t i = tt
parameter_on (Spot.nameless_struct j q s brace fs) is n t i = tt
parameter_on (Spot.nameless_enum j q s brace cs) is n t i = tt

-- ---- blocks

-- locals and statements that were read are those of a block, once its `}` comes
block_read : (ls : List Local) (ss : List Statement) (i : Info) (ts : List Token)
    → f.locals_read ls (f.statements_read ss ((k.CloseBrace, i) ∷ ts)) ≡ tree.locals (f.turned ls []) (tree.statements (f.statements_grown ss (Statements.end i)) ts)
block_read ls ss i ts =
    ap (λ r. f.locals_read ls r) (f.statements_closed ss (Statements.end i) ts) ∙ f.locals_turned ls [] (tree.statements (f.statements_grown ss (Statements.end i)) ts)

-- behind a statement of a block
doing_on : (h : Head) (w : Takes) (brace : Info) (b : Blocks) (ls : List Local) (ss : List Statement) (t : Kind) (i : Info)
    → Advance (λ r. front (Front.doing h w brace b ls ss) r) t i (statements_step t c.Local 0 (suc (f.level b)))
doing_on h w brace b ls ss k.Semi i = (Front.doing h w brace b ls (Statement.empty i ∷ ss), refl, λ ts. refl)
doing_on h w brace b ls ss k.OpenBrace i = (Front.entry (Under.top (Outer.in_locals h w brace (Blocks.within b ls ss i) [])), refl, λ ts. refl)
doing_on (Head.common sp is n lead) w brace Blocks.first ls ss k.CloseBrace i = (
  Item.function sp is n lead w brace (f.turned ls []) (f.statements_grown ss (Statements.end i)),
  λ ts. ap (λ r. tree.specifier sp (tree.stars is ((k.Name, n) ∷ (k.OpenParen, lead) ∷ tree.takes w ((k.OpenBrace, brace) ∷ r)))) (block_read ls ss i ts),
)
doing_on (Head.static j sp is n lead) w brace Blocks.first ls ss k.CloseBrace i = (
  Item.static_function j sp is n lead w brace (f.turned ls []) (f.statements_grown ss (Statements.end i)),
  λ ts. ap (λ r. (k.Static, j) ∷ tree.specifier sp (tree.stars is ((k.Name, n) ∷ (k.OpenParen, lead) ∷ tree.takes w ((k.OpenBrace, brace) ∷ r)))) (block_read ls ss i ts),
)
doing_on h w brace (Blocks.within b ms ns lead) ls ss k.CloseBrace i = (
  Front.doing h w brace b ms (Statement.block lead (f.turned ls []) (f.statements_grown ss (Statements.end i)) ∷ ns),
  refl,
  λ ts. ap (λ r. f.head h (tree.takes w ((k.OpenBrace, brace) ∷ f.blocks_read b (f.locals_read ms (f.statements_read ns ((k.OpenBrace, lead) ∷ r)))))) (block_read ls ss i ts),
)
doing_on h w brace b ls ss _ i = tt

-- ---- where a specifier may begin

-- a token where a specifier may begin
entry_on : (u : Under) (t : Kind) (i : Info) → Advance (λ r. f.under u r) t i (step (f.at_under (f.entry_of u) u) t)
entry_on (Under.top (Outer.in_typedef j)) t i = specifier_on (Under.top (Outer.in_typedef j)) t i
entry_on (Under.top (Outer.in_static j)) t i = specifier_on (Under.top (Outer.in_static j)) t i
entry_on (Under.top (Outer.in_extern j)) t i = specifier_on (Under.top (Outer.in_extern j)) t i
entry_on (Under.top Outer.in_plain) k.Include i = (Item.include i, λ ts. refl)
entry_on (Under.top Outer.in_plain) k.Typedef i = (Front.entry (Under.top (Outer.in_typedef i)), refl, λ ts. refl)
entry_on (Under.top Outer.in_plain) k.Static i = (Front.entry (Under.top (Outer.in_static i)), refl, λ ts. refl)
entry_on (Under.top Outer.in_plain) k.Extern i = (Front.entry (Under.top (Outer.in_extern i)), refl, λ ts. refl)
entry_on (Under.top Outer.in_plain) t i = specifier_on (Under.top Outer.in_plain) t i
entry_on (Under.top (Outer.in_parameters h [])) k.Void i = (Front.void h i, refl, λ ts. refl)
entry_on (Under.top (Outer.in_parameters h [])) t i = specifier_on (Under.top (Outer.in_parameters h [])) t i
entry_on (Under.top (Outer.in_parameters h (x ∷ xs))) t i = specifier_on (Under.top (Outer.in_parameters h (x ∷ xs))) t i
entry_on (Under.top (Outer.in_locals h w brace b ls)) k.Semi i = doing_on h w brace b ls [] k.Semi i
entry_on (Under.top (Outer.in_locals h w brace b ls)) k.OpenBrace i = doing_on h w brace b ls [] k.OpenBrace i
entry_on (Under.top (Outer.in_locals h w brace b ls)) k.CloseBrace i = doing_on h w brace b ls [] k.CloseBrace i
entry_on (Under.top (Outer.in_locals h w brace b ls)) t i = specifier_on (Under.top (Outer.in_locals h w brace b ls)) t i
entry_on (Under.tagged u q s w brace []) t i = specifier_on (Under.tagged u q s w brace []) t i
entry_on (Under.tagged u q s w brace (x ∷ xs)) k.CloseBrace i = (
  Front.bodied_struct u q s w brace (f.closed x xs i),
  refl,
  λ ts. ap (λ r. f.under u (tree.qualifiers q ((k.Struct, s) ∷ (k.Name, w) ∷ (k.OpenBrace, brace) ∷ r))) (f.closed_read x xs i ts),
)
entry_on (Under.tagged u q s w brace (x ∷ xs)) t i = specifier_on (Under.tagged u q s w brace (x ∷ xs)) t i
entry_on (Under.nameless j q s brace []) t i = specifier_on (Under.nameless j q s brace []) t i
entry_on (Under.nameless j q s brace (x ∷ xs)) k.CloseBrace i = (
  Front.bodied_nameless j q s brace (f.closed x xs i),
  refl,
  λ ts. ap (λ r. (k.Typedef, j) ∷ tree.qualifiers q ((k.Struct, s) ∷ (k.OpenBrace, brace) ∷ r)) (f.closed_read x xs i ts),
)
entry_on (Under.nameless j q s brace (x ∷ xs)) t i = specifier_on (Under.nameless j q s brace (x ∷ xs)) t i

-- ---- each token

-- what each token does to each part that may have been read
advance : (z : Front) (t : Kind) (i : Info) → Advance (λ r. front z r) t i (step (state z) t)
advance (Front.entry u) t i = entry_on u t i
advance (Front.behind_const u j) t i = const_on u j t i
advance (Front.behind_volatile u q) t i = base_on u q t i
advance (Front.behind_struct u q s) k.Name i = (Front.behind_tag u q s i, refl, λ ts. refl)
advance (Front.behind_struct (Under.top (Outer.in_typedef j)) q s) k.OpenBrace i = (Front.entry (Under.nameless j q s i []), refl, λ ts. refl)
advance (Front.behind_struct (Under.top Outer.in_plain) q s) k.OpenBrace i = tt
advance (Front.behind_struct (Under.top (Outer.in_static j)) q s) k.OpenBrace i = tt
advance (Front.behind_struct (Under.top (Outer.in_extern j)) q s) k.OpenBrace i = tt
advance (Front.behind_struct (Under.top (Outer.in_parameters h xs)) q s) k.OpenBrace i = tt
advance (Front.behind_struct (Under.top (Outer.in_locals h w brace b ls)) q s) k.OpenBrace i = tt
advance (Front.behind_struct (Under.tagged u q' s' w brace fs) q s) k.OpenBrace i = tt
advance (Front.behind_struct (Under.nameless j q' s' brace fs) q s) k.OpenBrace i = tt
advance (Front.behind_struct u q s) _ i = tt
advance (Front.behind_tag u q s w) k.OpenBrace i = (Front.entry (Under.tagged u q s w i []), refl, λ ts. refl)
advance (Front.behind_tag u q s w) t i = after_on (Spot.of u (Specifier.of q (Simple.struct_tag s w))) [] t i
advance (Front.behind_enum u q s) k.Name i = (Front.behind_enum_tag u q s i, refl, λ ts. refl)
advance (Front.behind_enum (Under.top (Outer.in_typedef j)) q s) k.OpenBrace i = (Front.choice (Listing.nameless j q s i []), refl, λ ts. refl)
advance (Front.behind_enum (Under.top Outer.in_plain) q s) k.OpenBrace i = tt
advance (Front.behind_enum (Under.top (Outer.in_static j)) q s) k.OpenBrace i = tt
advance (Front.behind_enum (Under.top (Outer.in_extern j)) q s) k.OpenBrace i = tt
advance (Front.behind_enum (Under.top (Outer.in_parameters h xs)) q s) k.OpenBrace i = tt
advance (Front.behind_enum (Under.top (Outer.in_locals h w brace b ls)) q s) k.OpenBrace i = tt
advance (Front.behind_enum (Under.tagged u q' s' w brace fs) q s) k.OpenBrace i = tt
advance (Front.behind_enum (Under.nameless j q' s' brace fs) q s) k.OpenBrace i = tt
advance (Front.behind_enum u q s) _ i = tt
advance (Front.behind_enum_tag u q s w) k.OpenBrace i = (Front.choice (Listing.of u q s w i []), refl, λ ts. refl)
advance (Front.behind_enum_tag u q s w) t i = after_on (Spot.of u (Specifier.of q (Simple.enum_tag s w))) [] t i
advance (Front.choice l) k.Name i = (Front.chosen l i, refl, λ ts. refl)
advance (Front.choice l) _ i = tt
advance (Front.chosen l n) k.Equals i = (Front.equal l n i, refl, λ ts. refl)
advance (Front.chosen l n) t i = valued_on l n Value.counted t i
advance (Front.equal l n e) k.Minus i = (Front.minus l n e i, refl, λ ts. refl)
advance (Front.equal l n e) k.Number i = (Front.valued l n (Value.number e i), refl, λ ts. refl)
advance (Front.equal l n e) k.Zero i = (Front.valued l n (Value.zero_value e i), refl, λ ts. refl)
advance (Front.equal l n e) _ i = tt
advance (Front.minus l n e m) k.Number i = (Front.valued l n (Value.negative e m i), refl, λ ts. refl)
advance (Front.minus l n e m) k.Zero i = (Front.valued l n (Value.minus_zero e m i), refl, λ ts. refl)
advance (Front.minus l n e m) _ i = tt
advance (Front.valued l n v) t i = valued_on l n v t i
advance (Front.after s is) t i = after_on s is t i
advance (Front.bodied_struct (Under.top Outer.in_plain) q s w brace fs) k.Semi i = (Item.struct_alone q s w brace fs i, λ ts. refl)
advance (Front.bodied_struct (Under.top (Outer.in_typedef j)) q s w brace fs) k.Semi i = tt
advance (Front.bodied_struct (Under.top (Outer.in_static j)) q s w brace fs) k.Semi i = tt
advance (Front.bodied_struct (Under.top (Outer.in_extern j)) q s w brace fs) k.Semi i = tt
advance (Front.bodied_struct (Under.top (Outer.in_parameters h xs)) q s w brace fs) k.Semi i = tt
advance (Front.bodied_struct (Under.top (Outer.in_locals h t' brace' b ls)) q s w brace fs) k.Semi i = tt
advance (Front.bodied_struct (Under.tagged u q' s' w' brace' fs') q s w brace fs) k.Semi i = tt
advance (Front.bodied_struct (Under.nameless j q' s' brace' fs') q s w brace fs) k.Semi i = tt
advance (Front.bodied_struct u q s w brace fs) t i = after_on (Spot.of u (Specifier.body q s w brace fs)) [] t i
advance (Front.bodied_enum (Under.top Outer.in_plain) q s w brace cs) k.Semi i = (Item.enum_alone q s w brace cs i, λ ts. refl)
advance (Front.bodied_enum (Under.top (Outer.in_typedef j)) q s w brace cs) k.Semi i = tt
advance (Front.bodied_enum (Under.top (Outer.in_static j)) q s w brace cs) k.Semi i = tt
advance (Front.bodied_enum (Under.top (Outer.in_extern j)) q s w brace cs) k.Semi i = tt
advance (Front.bodied_enum (Under.top (Outer.in_parameters h xs)) q s w brace cs) k.Semi i = tt
advance (Front.bodied_enum (Under.top (Outer.in_locals h t' brace' b ls)) q s w brace cs) k.Semi i = tt
advance (Front.bodied_enum (Under.tagged u q' s' w' brace' fs') q s w brace cs) k.Semi i = tt
advance (Front.bodied_enum (Under.nameless j q' s' brace' fs') q s w brace cs) k.Semi i = tt
advance (Front.bodied_enum u q s w brace cs) t i = after_on (Spot.of u (Specifier.of q (Simple.enum_body s w brace cs))) [] t i
advance (Front.bodied_nameless j q s brace fs) k.Semi i = tt
advance (Front.bodied_nameless j q s brace fs) t i = after_on (Spot.nameless_struct j q s brace fs) [] t i
advance (Front.bodied_nameless_enum j q s brace cs) k.Semi i = tt
advance (Front.bodied_nameless_enum j q s brace cs) t i = after_on (Spot.nameless_enum j q s brace cs) [] t i
advance (Front.named s is n) k.Semi i = ended_on s is n [] i
advance (Front.named s is n) k.OpenBracket i = bracket_on s is n [] i
advance (Front.named s is n) k.OpenParen i = paren_on s is n i
advance (Front.named s is n) t i = parameter_on s is n t i
advance (Front.length s is n ls j) k.Number i = (Front.lengthened s is n ls j i, refl, λ ts. refl)
advance (Front.length s is n ls j) _ i = tt
advance (Front.lengthened s is n ls j m) k.CloseBracket i = (Front.shut s is n (record { bracket = j; size = m; close = i } ∷ ls), refl, λ ts. refl)
advance (Front.lengthened s is n ls j m) _ i = tt
advance (Front.shut s is n ls) k.Semi i = ended_on s is n ls i
advance (Front.shut s is n ls) k.OpenBracket i = bracket_on s is n ls i
advance (Front.shut s is n ls) _ i = tt
advance (Front.void h j) k.CloseParen i = (Front.paren h (Takes.nothing j i), refl, λ ts. refl)
advance (Front.void h j) t i = after_on (Spot.of (Under.top (Outer.in_parameters h [])) (Specifier.of Qualifiers.plain (Simple.void j))) [] t i
advance (Front.paren h w) k.OpenBrace i = (Front.entry (Under.top (Outer.in_locals h w i Blocks.first [])), refl, λ ts. refl)
advance (Front.paren h w) _ i = tt
advance (Front.doing h w brace b ls ss) t i = doing_on h w brace b ls ss t i

-- ---- all of it

-- what was read, with these tokens behind it, is an item and this rest
abbrev IsRead : (List Token → List Token) → List Token → List Token → Type 0
IsRead F ts us = (it : Item) × (F ts ≡ tree.item it us)

-- these acts and this rest were found
abbrev scanned : List Act → List Token → Scanned
scanned ws us = Some (ws, us)

-- the rest that was found, or the given tokens
abbrev left : List Token → Scanned → List Token
left d None = d
left d (Some x) = x.1

-- of what was found, the rest is one
behind_some : (ws vs : List Act) (us xs : List Token) → scanned ws us ≡ scanned vs xs → us ≡ xs
behind_some ws vs us xs e = ap (λ v. left us v) e

-- one token: if what is behind it is found to be the rest of an item, so is what is from it on
go_on : (F : List Token → List Token) (t : Kind) (i : Info) (ts us : List Token) (ws : List Act) (n : Next) → Advance F t i n
    → onward n i ts (λ s. scan s ts) ≡ Some (ws, us)
    → ((z : Front) (vs : List Act) → scan (state z) ts ≡ Some (vs, us) → IsRead (λ r. front z r) ts us)
    → IsRead F ((t, i) ∷ ts) us
go_on F t i ts us ws Wrong adv e rec = absurd cc
go_on F t i ts us ws (Done a) adv e rec =
    let k : ts ≡ us = behind_some ((a, i) ∷ []) ws ts us e in
    (adv.0, adv.1 ts ∙ ap (λ r. tree.item adv.0 r) k)
go_on F t i ts us ws (Go a s) adv e rec = by (scan s ts) refl e
  where
    by : (v : Scanned) → scan s ts ≡ v → before (a, i) v ≡ Some (ws, us) → IsRead F ((t, i) ∷ ts) us
    by None h e = absurd cc
    by (Some x) h e =
        let k : x.1 ≡ us = behind_some ((a, i) ∷ x.0) ws x.1 us e in
        let l : scan (state adv.0) ts ≡ Some (x.0, us) = rw adv.1 (h ∙ ap (λ y. scanned x.0 y) k) in
        let found : IsRead (λ r. front adv.0 r) ts us = rec adv.0 x.0 l in
        (found.0, adv.2 ts ∙ found.1)

-- what is found behind a part that was read makes it an item
found : (ts us : List Token) (z : Front) (ws : List Act) → scan (state z) ts ≡ Some (ws, us) → IsRead (λ r. front z r) ts us
found [] us z ws e = absurd cc
found (t ∷ ts) us z ws e =
    go_on (λ r. front z r) t.0 t.1 ts us ws (step (state z) t.0) (advance z t.0 t.1) e (λ y vs h. found ts us y vs h)

-- what is scanned is an item, and the tokens behind it are left
pub item_found : (ts us : List Token) (ws : List Act) → scan start ts ≡ Some (ws, us) → (it : Item) × (ts ≡ tree.item it us)
item_found ts us ws e = found ts us (Front.entry (Under.top Outer.in_plain)) ws e
