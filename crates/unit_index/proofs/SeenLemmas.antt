-- The map of N_BINCL by name and value, with one header more, and what it says of an N_EXCL.
use Rattle.std.proofs.Common.{◌≡◌, ℕ, ◌⊎◌, ◌&&◌, Bool, true, false, cond, List, [], ◌∷◌, ◌++◌, Option, Some, None, refl, sym, ap, ◌∙◌, inl, inr, subst, append-nil}
use Rattle.std.specs.Prelude.{nat_eq, not}
use Rattle.std.specs.List.{filter}
use Rattle.std.specs.Cmp.Lexicographic.{pointwise}
use Rattle.std.proofs.lemmas.Slice.Eq.{bytes_eq-Decides}
use Rattle.std.proofs.lemmas.Bool.{eq-eqb, eqb-true}
use Rattle.std.proofs.lemmas.List.Elements.{filter-append}
use Rattle.st_base.specs.declared.fault.TheConstants.{NO_HEADER, AMBIGUOUS}
use Rattle.st_base.specs.Faults.{fault_at}
use Rattle.unit_index.specs.declared.index.Seen.{Seen}
use Rattle.unit_index.specs.Owners.{Row, only_of, owned_by, owner_in, fault_by, opens}
use Rattle.unit_index.specs.LookingUp.{seen_of, more_of, own_fault}
use Rattle.unit_index.proofs.Tests.{which, both, both_true, not_both}

-- ---- one header more

seen_push : (xs : List Row) (r : Row) → seen_of (xs ++ r ∷ []) ≡ Some (more_of (seen_of xs) r.unit r.file)
seen_push [] r = refl
seen_push (k ∷ []) r = refl
seen_push (k ∷ l ∷ ks) r = refl

-- a header with this name and value opens what is asked for exactly where name and value are those
opened_with : (r : Row) (name : List ℕ) (value : ℕ) → r.excluded ≡ false → name ≡ r.name → value ≡ r.value
    → (q : List ℕ) (v : ℕ) (b : Bool) → (pointwise nat_eq name q && nat_eq value v) ≡ b → opens q v r ≡ b
opened_with r name value kept n m q v true t =
    let b = both (pointwise nat_eq name q) (nat_eq value v) t in
    let nq : name ≡ q = (bytes_eq-Decides name q).0 b.0 in
    let mv : value ≡ v = eqb-true value v b.1 in
    both_true (not r.excluded) (pointwise nat_eq q r.name && nat_eq v r.value) (ap not kept)
    (both_true (pointwise nat_eq q r.name) (nat_eq v r.value) ((bytes_eq-Decides q r.name).1 (sym nq ∙ n)) (eq-eqb v r.value (sym mv ∙ m)))
opened_with r name value kept n m q v false t = by_case (which (opens q v r)) where
  by_case : (opens q v r ≡ true) ⊎ (opens q v r ≡ false) → opens q v r ≡ false
  by_case (inr h) = h
  by_case (inl h) =
      let b = both (not r.excluded) (pointwise nat_eq q r.name && nat_eq v r.value) h in
      let c = both (pointwise nat_eq q r.name) (nat_eq v r.value) b.1 in
      not_both (pointwise nat_eq name q && nat_eq value v)
      (both_true (pointwise nat_eq name q) (nat_eq value v) ((bytes_eq-Decides name q).1 (n ∙ sym ((bytes_eq-Decides q r.name).0 c.0))) (eq-eqb value v (m ∙ sym (eqb-true v r.value c.1)))) t

-- one row more, which passes or does not
filtered : (test : Row → Bool) (rows : List Row) (r : Row) (b : Bool) → test r ≡ b → filter test (rows ++ r ∷ []) ≡ filter test rows ++ cond b (r ∷ []) []
filtered test rows r b e = filter-append test rows (r ∷ []) ∙ ap (λ z. filter test rows ++ cond z (r ∷ []) []) e

-- the look-up after one more header
pub seen_more : (rows : List Row) (r : Row) (name q : List ℕ) (value v : ℕ) (old here new : Option Seen) (w : Seen)
    → r.excluded ≡ false → name ≡ r.name → value ≡ r.value → w ≡ more_of here r.unit r.file
    → new ≡ cond (pointwise nat_eq name q && nat_eq value v) (Some w) old
    → old ≡ seen_of (filter (opens q v) rows) → here ≡ seen_of (filter (opens name value) rows)
    → new ≡ seen_of (filter (opens q v) (rows ++ r ∷ []))
seen_more rows r name q value v old here new w kept n m we e p ph = by_case (which (pointwise nat_eq name q && nat_eq value v)) where
  by_case : ((pointwise nat_eq name q && nat_eq value v) ≡ true) ⊎ ((pointwise nat_eq name q && nat_eq value v) ≡ false) → new ≡ seen_of (filter (opens q v) (rows ++ r ∷ []))
  by_case (inl t) =
      let b = both (pointwise nat_eq name q) (nat_eq value v) t in
      let nq : name ≡ q = (bytes_eq-Decides name q).0 b.0 in
      let mv : value ≡ v = eqb-true value v b.1 in
      let same : seen_of (filter (opens name value) rows) ≡ seen_of (filter (opens q v) rows) = ap (λ z. seen_of (filter (opens z value) rows)) nq ∙ ap (λ z. seen_of (filter (opens q z) rows)) mv in
      e ∙ ap (λ b. cond b (Some w) old) t ∙ ap (λ z. Some z) (we ∙ ap (λ z. more_of z r.unit r.file) (ph ∙ same))
      ∙ sym (seen_push (filter (opens q v) rows) r)
      ∙ ap seen_of (sym (filtered (opens q v) rows r true (opened_with r name value kept n m q v true t)))
  by_case (inr t) =
      e ∙ ap (λ b. cond b (Some w) old) t ∙ p
      ∙ ap seen_of (sym (append-nil (filter (opens q v) rows)))
      ∙ ap seen_of (sym (filtered (opens q v) rows r false (opened_with r name value kept n m q v false t)))

-- an excluded header changes nothing
pub seen_excluded : (rows : List Row) (r : Row) (q : List ℕ) (v : ℕ) (old : Option Seen) → r.excluded ≡ true → old ≡ seen_of (filter (opens q v) rows)
    → old ≡ seen_of (filter (opens q v) (rows ++ r ∷ []))
seen_excluded rows r q v old e p =
    p ∙ ap seen_of (sym (append-nil (filter (opens q v) rows)))
    ∙ ap seen_of (sym (filtered (opens q v) rows r false (ap (λ b. not b && (pointwise nat_eq q r.name && nat_eq v r.value)) e)))

-- ---- an N_EXCL

abbrev ByRows : Row → List Row → Option Seen → Type 0
ByRows r ks None = fault_by r ks None ≡ Some (fault_at NO_HEADER r.place)
ByRows r ks (Some s) = (s.more ≡ true → fault_by r ks None ≡ Some (fault_at AMBIGUOUS r.place))
    × (s.more ≡ false → (fault_by r ks None ≡ None) × (owned_by r (only_of ks) ≡ record { unit = r.unit; file = r.file; owner_unit = s.unit; owner_file = s.file }))

by_rows : (r : Row) (ks : List Row) → ByRows r ks (seen_of ks)
by_rows r [] = refl
by_rows r (k ∷ []) = ((λ t. not_both false t refl), (λ t. (refl, refl)))
by_rows r (k ∷ l ∷ ks) = ((λ t. refl), (λ t. not_both true refl t))

told : (r : Row) (ks : List Row) (o : Option Seen) → o ≡ seen_of ks → ByRows r ks o
told r ks o e = subst (ByRows r ks) (sym e) (by_rows r ks)

-- no N_BINCL is like it
pub told_none : (all : List Row) (r : Row) (o : Option Seen) → r.excluded ≡ true → o ≡ seen_of (filter (opens r.name r.value) all) → o ≡ None
    → own_fault all r ≡ Some (fault_at NO_HEADER r.place)
told_none all r o x e n = ap (λ b. cond b (fault_by r (filter (opens r.name r.value) all) None) None) x ∙ told r (filter (opens r.name r.value) all) None (sym n ∙ e)

-- two or more are
pub told_more : (all : List Row) (r : Row) (o : Option Seen) (s : Seen) → r.excluded ≡ true → o ≡ seen_of (filter (opens r.name r.value) all) → o ≡ Some s → s.more ≡ true
    → own_fault all r ≡ Some (fault_at AMBIGUOUS r.place)
told_more all r o s x e n t = ap (λ b. cond b (fault_by r (filter (opens r.name r.value) all) None) None) x ∙ (told r (filter (opens r.name r.value) all) (Some s) (sym n ∙ e)).0 t

-- one is
pub told_one : (all : List Row) (r : Row) (o : Option Seen) (s : Seen) → r.excluded ≡ true → o ≡ seen_of (filter (opens r.name r.value) all) → o ≡ Some s → s.more ≡ false
    → (own_fault all r ≡ None) × (record { unit = r.unit; file = r.file; owner_unit = s.unit; owner_file = s.file } ≡ owner_in all r)
told_one all r o s x e n t =
    let h = (told r (filter (opens r.name r.value) all) (Some s) (sym n ∙ e)).1 t in (
      ap (λ b. cond b (fault_by r (filter (opens r.name r.value) all) None) None) x ∙ h.0,
      sym (ap (λ b. cond b (owned_by r (only_of (filter (opens r.name r.value) all))) (owned_by r (Some r))) x ∙ h.1),
    )
