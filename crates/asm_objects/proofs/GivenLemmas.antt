-- What each statement gives stands in the object at its place.
use Rattle.std.proofs.Common.{◌≡◌, ℕ, zero, suc, ◌+◌, List, [], ◌∷◌, ◌++◌, length, take, sum, slice_get, map, Some, refl, sym, ap, subst, ◌∙◌, arith, append_assoc, length-append, inl, inr}
use Rattle.std.specs.Prelude.{◌↔◌, option_map}
use Rattle.std.specs.List.{list_any}
use Rattle.std.specs.Str.{bytes_eq}
use Rattle.std.proofs.lemmas.Bool.{cases_Bool}
use Rattle.std.proofs.lemmas.List.{length-map}
use Rattle.std.proofs.lemmas.List.Sums.{sum_by-cons}
use Rattle.std.proofs.lemmas.Option.{none-some, same_Some, slice_get-map}
use Rattle.st_base.specs.ByteOrder.{is_big}
use Rattle.st_base.specs.declared.order.Order.{Order}
use Rattle.reloc.specs.declared.reloc.Reloc.{Reloc}
use Rattle.asm_objects.specs.Given.{AreRelocs, IsMade, StandsAt, bytes_of, one_alone, one_in, relocs_given, relocs_of}
use Rattle.asm_objects.specs.Layout.{after, each, end_of, reached, start, table_of}
use Rattle.asm_objects.specs.SourceMaking.{entries_by, entries_of, parts_by, parts_of}
use Rattle.asm_objects.specs.Meaning.{bytes_in, entries_in, ext, if_in, reloc_part, relocs_in, relocs_of as relocs_by, undefined_entry, undefined_of}
use Rattle.asm_objects.specs.Positions.{IsGlobal, IsTable}
use Rattle.asm_objects.proofs.DefinitionLemmas.{table_is}
use Rattle.asm_objects.proofs.PositionLemmas.{part_is, placed}
use Rattle.asm_objects.proofs.SizeLemmas.{length-data, length-entries, length-text}
use Rattle.asm_objects.proofs.UndefinedLemmas.{undefined_are}
use Rattle.asm_objects.proofs.WordLemmas.{any_has}
use Rattle.strtab.proofs.NamesLemmas.{found-Contains}
use Rattle.asm_statements.specs.declared.statement.Name.{Name}
use Rattle.asm_statements.specs.declared.statement.Part.{Part}
use Rattle.asm_statements.specs.declared.statement.Part.TheVariants as part
use Rattle.asm_statements.specs.declared.statement.Statement.{Statement}
use Rattle.asm_statements.specs.declared.statement.What.{What}
use Rattle.asm_statements.specs.declared.statement.What.TheVariants as what
use Rattle.asm_statements.specs.declared.statement.Width.{Width}
use Rattle.asm_objects.specs.declared.table.Places.{Places}
use Rattle.asm_objects.specs.declared.table.Table.{Table}

-- ---- items in lists

-- what a statement gives stands after what those before it give
stands : {X : Type 0} (f : Places → What → List X) (p : Places) (ss : List Statement) (n : ℕ) (s : Statement) → slice_get ss n ≡ Some s
    → StandsAt (each f p ss) (length (each f p (take n ss))) (f (end_of p (take n ss)) s.what)
stands f p [] n s at = absurd (none-some s at)
stands f p (x ∷ ss) zero s at =
    let same : x ≡ s = same_Some x s at in
    subst (λ (y : Statement). StandsAt (f p x.what ++ each f (after p x) ss) 0 (f p y.what)) same (record { before = []; after = each f (after p x) ss; whole = refl; place = refl })
stands f p (x ∷ ss) (suc n) s at =
    let r = stands f (after p x) ss n s at in
    let both = length-append (f p x.what) r.before in
    let all = length-append (f p x.what) (each f (after p x) (take n ss)) in
    let rest = r.place in
    record {
      before = f p x.what ++ r.before;
      after = r.after;
      whole = ap (λ (l : List _). f p x.what ++ l) r.whole ∙ sym (append_assoc (f p x.what) r.before (f (end_of (after p x) (take n ss)) s.what ++ r.after));
      place = omega (arith, both, all, rest);
    }

-- with more after the whole
stands_more : {X : Type 0} (xs more : List X) (at : ℕ) (items : List X) → StandsAt xs at items → StandsAt (xs ++ more) at items
stands_more {X} xs more at items r = record {
  before = r.before;
  after = r.after ++ more;
  whole = ap (λ (l : List X). l ++ more) r.whole ∙ append_assoc r.before (items ++ r.after) more ∙ ap (λ (l : List X). r.before ++ l) (append_assoc items r.after more);
  place = r.place;
}

stands_there : {X : Type 0} (xs : List X) (at place : ℕ) (items : List X) → at ≡ place → StandsAt xs at items → StandsAt xs place items
stands_there xs at place items e r = subst (λ (k : ℕ). StandsAt xs k items) e r

in_itself : {X : Type 0} (q : Part) (items : List X) → if_in q q items ≡ items
in_itself part.Text items = refl
in_itself part.Data items = refl

stands_part : {X : Type 0} (xs items : List X) (q r : Part) (at : ℕ) → r ≡ q → StandsAt xs at (if_in q r items) → StandsAt xs at items
stands_part xs items q r at e h = subst (StandsAt xs at) (in_itself q items) (subst (λ (y : Part). StandsAt xs at (if_in q y items)) e h)

slice_behind : {X : Type 0} (xs ys : List X) (j k : ℕ) → length xs + j ≡ k → slice_get (xs ++ ys) k ≡ slice_get ys j
slice_behind [] ys j k e = let same : k ≡ j = omega (arith, e) in ap (slice_get ys) same
slice_behind (x ∷ xs) ys j zero e = absurd (omega (arith, e))
slice_behind (x ∷ xs) ys j (suc k) e = slice_behind xs ys j k (omega (arith, e))

-- ---- relocations

one_item : (q r : Part) (x : Reloc) → length (if_in q r (x ∷ [])) ≡ one_in q r
one_item part.Text part.Text x = refl
one_item part.Text part.Data x = refl
one_item part.Data part.Text x = refl
one_item part.Data part.Data x = refl

no_item : (q r : Part) → length (if_in {X = Reloc} q r []) ≡ 0
no_item part.Text part.Text = refl
no_item part.Text part.Data = refl
no_item part.Data part.Text = refl
no_item part.Data part.Data = refl

field_relocs : (t : Table) (u : List (List ℕ)) (p : Places) (width : Width) (q r : Part) (added taken : List Name)
    → length (if_in q r (relocs_by t u p width added taken)) ≡ one_alone added taken (one_in q r)
field_relocs t u p width q r [] taken = no_item q r
field_relocs t u p width q r (x ∷ []) [] = one_item q r _
field_relocs t u p width q r (x ∷ []) (y ∷ ys) = no_item q r
field_relocs t u p width q r (x ∷ z ∷ xs) taken = no_item q r

relocs_here : (t : Table) (u : List (List ℕ)) (q : Part) (p : Places) (w : What) → length (if_in q (reloc_part p w) (relocs_in t u p w)) ≡ relocs_given q p.part w
relocs_here t u q p (what.Field width expression) = field_relocs t u p width q p.part expression.added expression.taken
relocs_here t u q p (what.Rel rel) = one_item q rel.part _
relocs_here t u q p _ = no_item q p.part

-- the relocations of a segment
abbrev relocs_on : Table → List (List ℕ) → Part → Places → List Statement → List Reloc
relocs_on t u q p ss = each (λ p w. if_in q (reloc_part p w) (relocs_in t u p w)) p ss

-- how many each statement gives
abbrev counts : Part → Places → List Statement → List ℕ
counts q p [] = []
counts q p (s ∷ ss) = relocs_given q p.part s.what ∷ counts q (after p s) ss

length-counts : (q : Part) (p : Places) (ss : List Statement) → length (counts q p ss) ≡ length ss
length-counts q p [] = refl
length-counts q p (s ∷ ss) = ap suc (length-counts q (after p s) ss)

counts-at : (q : Part) (n : ℕ) (p : Places) (ss : List Statement) (s : Statement) (count : ℕ) → slice_get ss n ≡ Some s → slice_get (counts q p ss) n ≡ Some count
    → count ≡ relocs_given q (end_of p (take n ss)).part s.what
counts-at q n p [] s count at is = absurd (none-some s at)
counts-at q zero p (x ∷ ss) s count at is =
    let same : x ≡ s = same_Some x s at in
    sym (same_Some (relocs_given q p.part x.what) count is) ∙ ap (λ (y : Statement). relocs_given q p.part y.what) same
counts-at q (suc n) p (x ∷ ss) s count at is = counts-at q n (after p x) ss s count at is

sum-counts : (t : Table) (u : List (List ℕ)) (q : Part) (p : Places) (ss : List Statement) → length (relocs_on t u q p ss) ≡ sum (counts q p ss)
sum-counts t u q p [] = refl
sum-counts t u q p (s ∷ ss) =
    let first = sum_by-cons (λ (k : ℕ). k) (relocs_given q p.part s.what) (counts q (after p s) ss) in
    let here = relocs_here t u q p s.what in
    let both = length-append (if_in q (reloc_part p s.what) (relocs_in t u p s.what)) (relocs_on t u q (after p s) ss) in
    omega (arith, first, here, both, sum-counts t u q (after p s) ss)

relocs_are : (t : Table) (u : List (List ℕ)) (q : Part) (before : List Statement) → AreRelocs q before (length (relocs_on t u q start before))
relocs_are t u q before = record {
  sizes = counts q start before;
  as_many = length-counts q start before;
  each = λ n s count at is. counts-at q n start before s count at is ∙ ap (λ (r : Part). relocs_given q r s.what) (part_is start (take n before));
  is = sum-counts t u q start before;
}

-- ---- names for all objects

module _ (ss : List Statement) (t : Table) (tabled : IsTable ss t) (name : List ℕ) where
  -- the bit is set exactly where a `.globl` names it
  external_is : (ext t name ≡ 1) ↔ IsGlobal ss name
  external_is = (
    λ e. elim (cases_Bool (list_any (bytes_eq name) t.globals)) [
      | inl there ↦ (tabled.globals name).0 (any_has name t.globals there)
      | inr absent ↦ absurd (zero-one (rw absent at e))
    ],
    λ h. rw (found-Contains name t.globals ((tabled.globals name).1 h)) refl,
  )
    where
      zero-one : ◌≡◌ {A = ℕ} 0 1 → ⊥
      zero-one e = omega (arith, e)

  internal_is : (IsGlobal ss name → ⊥) → ext t name ≡ 0
  internal_is not =
      elim (cases_Bool (list_any (bytes_eq name) t.globals)) [
        | inl there ↦ absurd (not ((tabled.globals name).0 (any_has name t.globals there)))
        | inr absent ↦ rw absent refl
      ]

-- ---- the object

module _ (order : Order) (ss : List Statement) (t : Table) (u : List (List ℕ)) (n : ℕ) (s : Statement) (at : slice_get ss n ≡ Some s) where
  abbrev p : Places
  p = end_of start (take n ss)

  bytes_there : (q : Part) → p.part ≡ q → StandsAt (bytes_of (parts_by order t u ss) q) (reached q p) (bytes_in (is_big order) t p s.what)
  bytes_there part.Text e =
      let place = length-text (is_big order) t start (take n ss) in
      stands_there _ _ _ _ (omega (arith, place))
      (stands_part _ _ part.Text p.part _ e (stands (λ p w. if_in part.Text p.part (bytes_in (is_big order) t p w)) start ss n s at))
  bytes_there part.Data e =
      let place = length-data (is_big order) t start (take n ss) in
      stands_there _ _ _ _ (omega (arith, place))
      (stands_part _ _ part.Data p.part _ e (stands (λ p w. if_in part.Data p.part (bytes_in (is_big order) t p w)) start ss n s at))

  relocs_there : (q : Part) → reloc_part p s.what ≡ q
      → (k : ℕ) × AreRelocs q (take n ss) k × StandsAt (relocs_of (parts_by order t u ss) q) k (relocs_in t u p s.what)
  relocs_there part.Text e = (
    length (relocs_on t u part.Text start (take n ss)),
    relocs_are t u part.Text (take n ss),
    stands_part _ _ part.Text (reloc_part p s.what) _ e (stands (λ p w. if_in part.Text (reloc_part p w) (relocs_in t u p w)) start ss n s at),
  )
  relocs_there part.Data e = (
    length (relocs_on t u part.Data start (take n ss)),
    relocs_are t u part.Data (take n ss),
    stands_part _ _ part.Data (reloc_part p s.what) _ e (stands (λ p w. if_in part.Data (reloc_part p w) (relocs_in t u p w)) start ss n s at),
  )

  entries_there : StandsAt (entries_by t u ss) p.entries (entries_in t p s.what)
  entries_there =
      let place = length-entries t start (take n ss) in
      stands_more _ (map undefined_entry u) _ _ (stands_there _ _ _ _ (omega (arith, place)) (stands (entries_in t) start ss n s at))

others_there : (t : Table) (u : List (List ℕ)) (ss : List Statement) (j : ℕ) (name : List ℕ) → slice_get u j ≡ Some name
    → slice_get (entries_by t u ss) ((end_of start ss).entries + j) ≡ Some (undefined_entry name)
others_there t u ss j name at =
    let count = length-entries t start ss in
    slice_behind (each (entries_in t) start ss) (map undefined_entry u) j ((end_of start ss).entries + j) (omega (arith, count))
    ∙ slice_get-map undefined_entry u j ∙ ap (option_map undefined_entry) at

pub object_made : (order : Order) (ss : List Statement) → IsMade order ss (parts_of order ss) (entries_of ss)
object_made order ss =
    let t = table_of ss in
    let u = undefined_of (table_of ss) ss in
    record {
      table = table_of ss;
      tabled = table_is ss;
      names = u;
      undefined = undefined_are ss (table_of ss) (table_is ss);
      in_order = refl;
      machine = refl;
      entry = refl;
      bss = refl;
      text = let e = length-text (is_big order) t start ss in omega (arith, e);
      datum = let e = length-data (is_big order) t start ss in omega (arith, e);
      bytes = λ n s at. (end_of start (take n ss), placed (take n ss), bytes_there order ss t u n s at _ refl);
      text_relocs = relocs_are t u part.Text ss;
      data_relocs = relocs_are t u part.Data ss;
      relocs = λ n s at. (end_of start (take n ss), placed (take n ss), relocs_there order ss t u n s at _ refl);
      entries = λ n s at. (end_of start (take n ss), placed (take n ss), entries_there order ss t u n s at);
      external = external_is ss (table_of ss) (table_is ss);
      internal = internal_is ss (table_of ss) (table_is ss);
      count =
          let here = length-entries t start ss in
          let both = length-append (each (entries_in t) start ss) (map undefined_entry u) in
          let more = length-map u undefined_entry in
          omega (arith, here, both, more);
      others = others_there t u ss;
    }
