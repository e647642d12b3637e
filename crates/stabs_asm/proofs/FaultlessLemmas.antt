-- No statement of a listing has a fault.
use Rattle.std.proofs.Common.{◌≡◌, ℕ, ◌+◌, ◌-◌, ◌<◌, ◌≤◌, Bool, true, false, not, List, [], ◌∷◌, ◌++◌, Option, None, Some, refl, ap, ◌∙◌, arith}
use Rattle.std.specs.Prelude.{nat_le, nat_lt, ◌==◌, ◌||◌, ◌&&◌}
use Rattle.std.proofs.lemmas.Bool.{le-leb, lt-ltb, and_from}
use Rattle.nlist_codec.specs.declared.named.Named.{Named}
use Rattle.reloc.specs.declared.reloc.Reloc.{Reloc}
use Rattle.reloc.specs.Relocs.{is_segment}
use Rattle.aout_object.specs.Objects.{IsReloc}
use Rattle.asm_objects.specs.Layout.{each, after, start, table_of}
use Rattle.asm_statements.specs.Operands.{limit}
use Rattle.asm_objects.specs.Meaning as meaning
use Rattle.asm_objects.specs.Meaning.{fault_of, faults, first_fault_of, bytes_in, if_in, relocs_in, reloc_part, entries_in, undefined_of, outer, written}
use Rattle.stabs_asm.specs.Listing.{flags_of}
use Rattle.asm_statements.specs.declared.statement.Part.{Part}
use Rattle.asm_statements.specs.declared.statement.Statement.{Statement}
use Rattle.asm_objects.specs.declared.table.Places.{Places}
use Rattle.asm_objects.specs.declared.table.Table.{Table}
use Rattle.asm_objects.specs.declared.check.Use.TheVariants as use'
use Rattle.stabs_asm.proofs.ListLemmas.{NamedFits, stab_for, field_for, rel_for, alone, plain, flags_small}
use Rattle.stabs_asm.proofs.RowLemmas.{Listed, ListedFits}
use Rattle.stabs_asm.proofs.EachLemmas.{Says, none, listed_statements, given_none}
use Rattle.stabs_asm.proofs.MeansLemmas.{flags_back}

-- a fault as a list
abbrev opts : Option ℕ → List ℕ
opts None = []
opts (Some n) = n ∷ []

-- an empty list has no first item
opts_none : (o : Option ℕ) (rest : List ℕ) → opts o ++ rest ≡ [] → (o ≡ None) × (rest ≡ [])
opts_none None rest e = (refl, e)
opts_none (Some n) rest e = absurd cc

-- statements without a fault
faults_none : (t : Table) (p : Places) (ss : List Statement) → each (λ p w. opts (fault_of t p w)) p ss ≡ [] → faults t p ss ≡ None
faults_none t p [] e = refl
faults_none t p (s ∷ ss) e =
    let m = opts_none (fault_of t p s.what) (each (λ p w. opts (fault_of t p w)) (after p s) ss) e in
    rw (m.0, faults_none t (after p s) ss m.1) refl

-- an operand in its range
ranged_fits : (fits : Bool) (fault : Option ℕ) → fits ≡ true → fault ≡ None → meaning.ranged fits fault ≡ None
ranged_fits fits fault a b = rw (a, b) refl

-- a number up to the greatest is in the range
in_range_alone : (low high n : ℕ) → n ≤ high → meaning.in_range low high (0 + n) 0 ≡ true
in_range_alone low high n h = and_from (nat_le 0 (0 + n + low)) (nat_le (0 + n) (0 + high)) (le-leb 0 (0 + n + low) (omega arith)) (le-leb (0 + n) (0 + high) (omega arith))

in_range_plain : (low high n : ℕ) → n ≤ high → meaning.in_range low high n 0 ≡ true
in_range_plain low high n h = and_from (nat_le 0 (n + low)) (nat_le n (0 + high)) (le-leb 0 (n + low) (omega arith)) (le-leb n (0 + high) (omega arith))

-- a byte, a value, an entry and a relocation of a listing have no fault
field_faultless : (t : Table) (p : Places) (b : ℕ) → b < 256 → fault_of t p (field_for b) ≡ None
field_faultless t p b h = rw (in_range_alone 128 255 b (omega arith)) refl

value_faultless : (t : Table) (p : Places) (v : ℕ) → v < limit → meaning.sum_fault t p use'.Value 2147483648 4294967295 (alone v) ≡ None
value_faultless t p v h = rw (in_range_alone 2147483648 4294967295 v (omega arith)) refl

stab_faultless : (t : Table) (p : Places) (n : Named) → NamedFits n → fault_of t p (stab_for n) ≡ None
stab_faultless t p n f = ranged_fits _ _ stab (value_faultless t p n.value f.value)
  where
    accepted : meaning.is_accepted (plain n.kind) ≡ true
    accepted = let e : n.kind - 0 ≡ n.kind = omega arith in
        and_from (meaning.in_byte (plain n.kind)) _ (in_range_plain 0 255 n.kind (omega (arith, f.kind))) (ap (λ k. nat_le 32 k || nat_le k 9) e ∙ f.accepted)

    stab : meaning.stab_fits (record { name = n.name; kind = plain n.kind; other = plain n.other; desc = plain n.desc; value = alone n.value }) ≡ true
    stab =
        and_from _ (meaning.has_no_zero n.name)
        (and_from _ (meaning.in_range 32768 65535 n.desc 0) (and_from (meaning.is_accepted (plain n.kind)) (meaning.in_byte (plain n.other)) accepted (in_range_plain 0 255 n.other (omega (arith, f.other))))
        (in_range_plain 32768 65535 n.desc (omega (arith, f.desc)))) f.whole

-- an external relocation names any symbol, another a segment
segment_told : (external : Bool) (symbol : ℕ) → (external || is_segment symbol) ≡ true → (external || symbol == 2 || symbol == 4 || symbol == 6 || symbol == 8) ≡ true
segment_told true symbol told = refl
segment_told false symbol told = told

rel_faultless : (t : Table) (p : Places) (q : Part) (r : Reloc) → IsReloc r → fault_of t p (rel_for q r) ≡ None
rel_faultless t p q r f =
    let b = flags_back r f in
    let a : nat_le r.address 4294967295 ≡ true = le-leb r.address 4294967295 (omega (arith, f.address)) in
    let s : nat_lt r.symbol 16777216 ≡ true = lt-ltb r.symbol 16777216 f.fits.symbol in
    let l : nat_lt r.length 3 ≡ true = lt-ltb r.length 3 (omega (arith, f.fits.length)) in
    let g : nat_lt (flags_of r) 16 ≡ true = lt-ltb (flags_of r) 16 (flags_small r f) in
    rw (a, s, g, b.1, l, b.2, segment_told r.external r.symbol f.fits.segment) refl

-- nor has any statement
faults_given : (t : Table) (o : Listed) → ListedFits o → faults t start (listed_statements o) ≡ None
faults_given t o fits = faults_none t start (listed_statements o) (given_none (λ p w. opts (fault_of t p w)) o says fits)
  where
    machine : meaning.ranged (nat_le o.parts.machine 65535 && not (o.parts.machine == 1793)) None ≡ None
    machine = ranged_fits _ None (and_from (nat_le o.parts.machine 65535) (not (o.parts.machine == 1793)) (le-leb o.parts.machine 65535 (omega (arith, fits.machine))) (ap not fits.told)) refl

    says : Says (λ p w. opts (fault_of t p w)) o [] [] [] none none (λ q. none) none
    says = record {
      machine = λ p. ap opts machine;
      entry = λ p. ap opts (ranged_fits (nat_le o.parts.entry 4294967295) None (le-leb o.parts.entry 4294967295 (omega (arith, fits.entry))) refl);
      bsize = λ p. ap opts (ranged_fits (nat_le o.parts.bss 4294967295) None (le-leb o.parts.bss 4294967295 (omega (arith, fits.bss))) refl);
      switch = λ p q. refl;
      text = λ p b e h. ap opts (field_faultless t p b h);
      datum = λ p b e h. ap opts (field_faultless t p b h);
      rel = λ p q r h. ap opts (rel_faultless t p q r h);
      stab = λ p n h. ap opts (stab_faultless t p n h);
    }

-- no statement has a fault
pub faultless : (o : Listed) → ListedFits o → first_fault_of (listed_statements o) ≡ None
faultless o fits = faults_given (table_of (listed_statements o)) o fits
