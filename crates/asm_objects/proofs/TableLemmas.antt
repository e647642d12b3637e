-- The table of statements without a fault whose limits hold: its numbers fit an object.
use Rattle.std.proofs.Common.{◌≡◌, ◌≢◌, ℕ, ◌+◌, ◌^◌, ◌<◌, ◌≤◌, true, List, [], ◌∷◌, fold, None, subst, arith, inl, inr}
use Rattle.std.specs.Prelude.{◌==◌, ◌&&◌, not, nat_le, max, ◌*◌}
use Rattle.std.specs.List.{AllByRecursion, list_any}
use Rattle.std.proofs.lemmas.Bool.{cases_Bool, leb-true, and_parts}
use Rattle.st_base.specs.Faults.{first_fault}
use Rattle.aout_layout.specs.declared.header.TheConstants.{TWO_ORDERS}
use Rattle.st_base.specs.declared.sizes.TheConstants.{ENTRY_SIZE, FILE_LIMIT, GREATEST_ADDRESS}
use Rattle.st_base.proofs.CheckLemmas.{AllHold-first_fault}
use Rattle.asm_objects.specs.Emitting.{CommonsBelow, Left, Stands, Within, limit_checks}
use Rattle.asm_objects.specs.Layout.{after, each, last, machine_word, defined, end_of, start, table_of}
use Rattle.st_base.specs.FirstUses.{used}
use Rattle.asm_objects.specs.DefinedNames.{same_name}
use Rattle.asm_statements.specs.declared.statement.Statement.{Statement}
use Rattle.asm_statements.specs.declared.statement.What.{What}
use Rattle.asm_statements.specs.declared.statement.What.TheVariants as what
use Rattle.asm_objects.specs.declared.table.Definition.{Definition}
use Rattle.asm_objects.specs.declared.table.Places.{Places}
use Rattle.asm_objects.specs.declared.table.Table.{Table}
use Rattle.asm_objects.proofs.LeftLemmas.{here_below, past_end}
use Rattle.asm_objects.proofs.ObjectLemmas.{all-append, all_each, in_its_range}

-- ---- the machine word

-- a machine word that an object can have
record IsMachine (n : ℕ) : Type 0 where
  small : n < 2 ^ 16
  told : n ≢ TWO_ORDERS

-- a test that a number is another
other_number : (n : ℕ) → not (n == TWO_ORDERS) ≡ true → n ≢ TWO_ORDERS
other_number n e same = let k : not (TWO_ORDERS == TWO_ORDERS) ≡ true = subst (λ (x : ℕ). not (x == TWO_ORDERS) ≡ true) same e in absurd cc

-- the tests of a machine word
is_machine : (n : ℕ) → (nat_le n 65535 && not (n == TWO_ORDERS)) ≡ true → IsMachine n
is_machine n e =
    let tests = and_parts (nat_le n 65535) (not (n == TWO_ORDERS)) e in
    let small : n ≤ 65535 = leb-true n 65535 tests.0 in
    record { small = omega (arith, small); told = other_number n tests.1 }

-- those of a statement without a fault, and the last of them
machines : (t : Table) (p : Places) (w : What) → Stands t p w → AllByRecursion IsMachine (machine_word w)
machines t p (what.Machine n) s = (is_machine n (in_its_range (nat_le n 65535 && not (n == TWO_ORDERS)) None s.no_fault).0, tt)
machines t p _ s = tt

last_is : (n : ℕ) (words : List ℕ) → IsMachine n → AllByRecursion IsMachine words → IsMachine (fold last n words)
last_is n [] is all = is
last_is n (w ∷ words) is all = last_is w words all.0 all.1

-- ---- commons

-- the entry of a common that a statement defines is not past the end, nor is that of any
defined_below : (p : Places) (w : What) (most : ℕ) → p.entries ≤ most → CommonsBelow most (defined p w)
defined_below p (what.Label name) most small = (here_below p.part most _, tt)
defined_below p (what.Comm name n) most small = (small, tt)
defined_below p (what.Lcomm name n) most small = (tt, tt)
defined_below p _ most small = tt

all_below : (p : Places) (ss : List Statement) (most : ℕ) → (end_of p ss).entries ≤ most → CommonsBelow most (each defined p ss)
all_below p [] most small = tt
all_below p (s ∷ ss) most small =
    let here = (past_end p (s ∷ ss)).entries in
    all-append _ (defined p s.what) (each defined (after p s) ss) (defined_below p s.what most (omega (arith, here, small))) (all_below (after p s) ss most small)

-- names with their first definitions
firsts_below : (most : ℕ) (names pairs : List (List ℕ × Definition)) → CommonsBelow most names → CommonsBelow most pairs → CommonsBelow most (fold (used same_name) names pairs)
firsts_below most names [] below more = below
firsts_below most names (d ∷ pairs) below more =
    firsts_below most (used same_name names d) pairs
    (elim (cases_Bool (list_any (same_name d) names)) [ inl h ↦ rw h below | inr h ↦ rw h (all-append _ names (d ∷ []) below (more.0, tt)) ]) more.1

-- ---- the limits

-- where the limits hold the numbers fit
pub within_limits : (ss : List Statement) (names : ℕ) → Left (table_of ss) start ss → first_fault (limit_checks (table_of ss) names) ≡ None → Within (table_of ss) names
within_limits ss names left none =
    let t = table_of ss in
    let hold = AllHold-first_fault (limit_checks t names) none in
    let highest : t.entry + t.end.text + t.end.datum + max t.bsize t.end.bss ≤ GREATEST_ADDRESS = leb-true _ GREATEST_ADDRESS hold.0 in
    let limit : t.end.text + t.end.datum + (t.end.entries + names) * ENTRY_SIZE ≤ FILE_LIMIT = leb-true _ FILE_LIMIT hold.1.0 in
    let machine = last_is 0 (each (λ p. machine_word) start ss) (record { small = omega arith; told = λ e. cc }) (all_each IsMachine (λ p. machine_word) t (machines t) start ss left) in
    record {
      addresses = omega (arith, highest);
      entries = omega (arith, limit);
      commons = firsts_below t.end.entries [] (each defined start ss) tt (all_below start ss t.end.entries (omega arith));
      machine = machine.small;
      told = machine.told;
    }
