-- What statements without a fault make can be made into an object: the kinds of their entries are accepted, their names are names,
-- their relocations can be written, and the machine word is one.
use Rattle.std.proofs.Common.{◌≡◌, ℕ, suc, ◌+◌, Bool, true, false, List, [], ◌∷◌, ◌++◌, length, map, fold, Option, None, Some, refl, sym, inl, inr, arith}
use Rattle.std.specs.Prelude.{◌==◌, ◌&&◌, not, if◌then◌else◌, flat_map}
use Rattle.std.specs.List.{AllByRecursion, list_any, position_or_len}
use Rattle.std.specs.Map.{lookup}
use Rattle.std.specs.Str.{bytes_eq}
use Rattle.std.proofs.lemmas.Bool.{cases_Bool, lt-leb, true≢false}
use Rattle.std.proofs.lemmas.Bool.Decides.{nat_tests}
use Rattle.std.proofs.lemmas.Option.{none-some}
use Rattle.nlist_codec.specs.declared.named.Named.{Named as Named'}
use Rattle.strtab.specs.StringTable.{HasNoZero, is_zero}
use Rattle.st_base.specs.Faults.{first_fault}
use Rattle.aout_object.specs.Objects.{is_accepted_kind}
use Rattle.aout_object.specs.Making.{kinds_checks}
use Rattle.asm_objects.specs.Emitting.{Left, Stands}
use Rattle.asm_statements.specs.Fits.{StatementFits, AllFit, NamesFit}
use Rattle.asm_objects.specs.Layout.{after, each, home_of, is_local, start}
use Rattle.st_base.specs.FirstUses.{used}
use Rattle.asm_objects.specs.Meaning.{kind_of, ranged, is_accepted, byte_of, has_no_zero, stab_fits, in_byte, in_range, entries_in, unless_local, undefined_entry, outer, outer_of, if_undefined, undefined_of}
use Rattle.asm_statements.specs.declared.statement.Part.{Part}
use Rattle.asm_statements.specs.declared.statement.Part.TheVariants as part
use Rattle.asm_statements.specs.declared.statement.Plain.{Plain}
use Rattle.asm_statements.specs.declared.statement.Name.{Name}
use Rattle.asm_statements.specs.declared.statement.Name.TheVariants.{Here, Named}
use Rattle.asm_statements.specs.declared.statement.Statement.{Statement}
use Rattle.asm_statements.specs.declared.statement.What.{What}
use Rattle.asm_statements.specs.declared.statement.What.TheVariants as what
use Rattle.asm_objects.specs.declared.table.Definition.{Definition}
use Rattle.asm_objects.specs.declared.table.Places.{Places}
use Rattle.asm_objects.specs.declared.table.Table.{Table}
use Rattle.asm_objects.proofs.LeftLemmas.{left_stands, left_step}

-- ---- what holds of each

-- what holds of two lists
pub all-append : {X : Type 0} (P : X → Type 0) (xs ys : List X) → AllByRecursion P xs → AllByRecursion P ys → AllByRecursion P (xs ++ ys)
all-append P [] ys front back = back
all-append P (x ∷ xs) ys front back = (front.0, all-append P xs ys front.1 back)

-- what holds of all that a statement without a fault gives holds of all that statements give
pub all_each : {X : Type 0} (P : X → Type 0) (f : Places → What → List X) (t : Table) → ((p : Places) (w : What) → Stands t p w → AllByRecursion P (f p w))
    → (p : Places) (ss : List Statement) → Left t p ss → AllByRecursion P (each f p ss)
all_each P f t good p [] left = tt
all_each P f t good p (s ∷ ss) left =
    all-append P (f p s.what) (each f (after p s) ss) (good p s.what (left_stands t p (s ∷ ss) ss s refl left))
    (all_each P f t good (after p s) ss (left_step t p (after p s) (s ∷ ss) ss s refl left refl))

-- an operand in its range
pub in_its_range : (fits : Bool) (fault : Option ℕ) → ranged fits fault ≡ None → (fits ≡ true) × (fault ≡ None)
in_its_range true fault e = (refl, e)
in_its_range false fault e = absurd (none-some _ (sym e))

-- ---- entries

-- an entry that an object can hold
pub record IsGood (n : Named') : Type 0 where
  pub kind : is_accepted_kind n.kind ≡ true
  pub name : HasNoZero n.name

-- the kinds of labels, of names in bss and of stabs are accepted
label_kind : (q : Part) (b : Bool) → is_accepted_kind (kind_of (home_of q) + (if b then 1 else 0)) ≡ true
label_kind part.Text true = refl
label_kind part.Text false = refl
label_kind part.Data true = refl
label_kind part.Data false = refl

bss_kind : (b : Bool) → is_accepted_kind (8 + (if b then 1 else 0)) ≡ true
bss_kind true = refl
bss_kind false = refl

stab_kind : (n : Plain) → is_accepted n ≡ true → is_accepted_kind (byte_of n) ≡ true
stab_kind n e = grind (arith, nat_tests)

-- no zero byte among bytes
not-true : (b : Bool) → not b ≡ true → b ≡ false
not-true true e = absurd cc
not-true false e = refl

none_before : (bytes : List ℕ) → list_any (λ b. b == 0) bytes ≡ false → position_or_len is_zero bytes ≡ length bytes
none_before [] e = refl
none_before (b ∷ bytes) e =
    elim (cases_Bool (is_zero b)) [ inl h ↦ absurd (true≢false (rw h at e)) | inr h ↦ rw h (more (none_before bytes (rw h at e))) ]
  where
    more : position_or_len is_zero bytes ≡ length bytes → 1 + position_or_len is_zero bytes ≡ length (b ∷ bytes)
    more same = omega (arith, same)

-- a text without zero bytes
no_zero : (bytes : List ℕ) → has_no_zero bytes ≡ true → HasNoZero bytes
no_zero bytes e = rw (lt-leb (suc (position_or_len is_zero bytes)) (length bytes) (omega (arith, none_before bytes (not-true (list_any (λ b. b == 0) bytes) e)))) refl

-- the first and the last of four tests
ends_hold : (a b c d : Bool) → (a && b && c && d) ≡ true → (a ≡ true) × (d ≡ true)
ends_hold false b c d e = absurd cc
ends_hold true false c d e = absurd cc
ends_hold true true false d e = absurd cc
ends_hold true true true d e = (refl, e)

-- an entry, unless there is none
unless_good : (without : Bool) (n : Named') → IsGood n → AllByRecursion IsGood (unless_local without n)
unless_good true n good = tt
unless_good false n good = (good, tt)

-- the entries of a statement
entries_good : (t : Table) (p : Places) (w : What) → Stands t p w → AllByRecursion IsGood (entries_in t p w)
entries_good t p (what.Label name) s = unless_good (is_local name) _ (record { kind = label_kind p.part (list_any (bytes_eq name) t.globals); name = s.fits })
entries_good t p (what.Comm name n) s = (record { kind = refl; name = s.fits }, tt)
entries_good t p (what.Lcomm name n) s = unless_good (is_local name) _ (record { kind = bss_kind (list_any (bytes_eq name) t.globals); name = s.fits })
entries_good t p (what.Stab stab) s =
    let ends = ends_hold (is_accepted stab.kind) (in_byte stab.other) (in_range 32768 65535 stab.desc.more stab.desc.less) (has_no_zero stab.name) (in_its_range (stab_fits stab) _ s.no_fault).0 in
    (record { kind = stab_kind stab.kind ends.0; name = no_zero stab.name ends.1 }, tt)
entries_good t p _ s = tt

-- ---- undefined names

-- an undefined name is one of the source
if_undefined_fits : (d : Option Definition) (name : List ℕ) → HasNoZero name → AllByRecursion HasNoZero (if_undefined d name)
if_undefined_fits None name fits = (fits, tt)
if_undefined_fits (Some d) name fits = tt

outer_fits : (t : Table) (added taken : List Name) → NamesFit added → AllByRecursion HasNoZero (outer_of t added taken)
outer_fits t [] ys fits = tt
outer_fits t (Here ∷ []) [] fits = tt
outer_fits t (Named name ∷ []) [] fits = if_undefined_fits (lookup (bytes_eq name) t.names) name fits.0
outer_fits t (Here ∷ []) (y ∷ ys) fits = tt
outer_fits t (Named name ∷ []) (y ∷ ys) fits = tt
outer_fits t (Here ∷ z ∷ xs) ys fits = tt
outer_fits t (Named name ∷ z ∷ xs) ys fits = tt

all_outer : (t : Table) (w : What) → StatementFits w → AllByRecursion HasNoZero (outer t w)
all_outer t (what.Field width sum) fits = outer_fits t sum.added sum.taken fits.added
all_outer t _ fits = tt

all_outers : (t : Table) (ss : List Statement) → AllFit ss → AllByRecursion HasNoZero (flat_map (λ s. outer t s.what) ss)
all_outers t [] fits = tt
all_outers t (s ∷ ss) fits = all-append HasNoZero (outer t s.what) (flat_map (λ s. outer t s.what) ss) (all_outer t s.what fits.0) (all_outers t ss fits.1)

-- distinct names are among the names
all-used : (names words : List (List ℕ)) → AllByRecursion HasNoZero names → AllByRecursion HasNoZero words → AllByRecursion HasNoZero (fold (used bytes_eq) names words)
all-used names [] fits more = fits
all-used names (w ∷ words) fits more =
    all-used (used bytes_eq names w) words
    (elim (cases_Bool (list_any (bytes_eq w) names)) [ inl h ↦ rw h fits | inr h ↦ rw h (all-append HasNoZero names (w ∷ []) fits (more.0, tt)) ]) more.1

-- their entries
undefined_good : (names : List (List ℕ)) → AllByRecursion HasNoZero names → AllByRecursion IsGood (map undefined_entry names)
undefined_good [] fits = tt
undefined_good (name ∷ names) fits = (record { kind = refl; name = fits.0 }, undefined_good names fits.1)

-- all entries
pub all_good : (t : Table) (ss : List Statement) → Left t start ss → AllByRecursion IsGood (each (entries_in t) start ss ++ map undefined_entry (undefined_of t ss))
all_good t ss left =
    all-append IsGood (each (entries_in t) start ss) (map undefined_entry (undefined_of t ss)) (all_each IsGood (entries_in t) t (entries_good t) start ss left)
    (undefined_good (undefined_of t ss) (all-used [] (flat_map (λ s. outer t s.what) ss) tt (all_outers t ss left.fits)))

-- their kinds are accepted
pub good_kinds : (place : ℕ) (named : List Named') → AllByRecursion IsGood named → first_fault (kinds_checks place named) ≡ None
good_kinds place [] good = refl
good_kinds place (n ∷ named) good = rw (good.0.kind) (good_kinds (place + 1) named good.1)

-- their names are names
pub good_names : (named : List Named') → AllByRecursion IsGood named → AllByRecursion (λ n. HasNoZero n.name) named
good_names [] good = tt
good_names (n ∷ named) good = (good.0.name, good_names named good.1)
