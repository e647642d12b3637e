-- The relocations of statements without a fault can be written.
use Rattle.std.proofs.Common.{◌≡◌, ℕ, ◌+◌, ◌/◌, ◌%◌, ◌^◌, ◌<◌, ◌≤◌, Bool, true, false, List, [], ◌∷◌, length, Option, None, Some, refl, arith}
use Rattle.std.specs.Prelude.{◌==◌, ◌&&◌, ◌||◌, nat_le, nat_lt, IsTrue, IfSome, position, unwrap_or}
use Rattle.std.specs.List.{AllByRecursion}
use Rattle.std.specs.Map.{lookup}
use Rattle.std.specs.Str.{bytes_eq}
use Rattle.std.proofs.lemmas.Bool.{leb-true}
use Rattle.std.proofs.lemmas.List.Quantifiers.{position-Some}
use Rattle.reloc.specs.declared.reloc.Reloc.{Reloc}
use Rattle.reloc.specs.Relocs.{RelocFits, is_segment}
use Rattle.st_base.specs.declared.sizes.TheConstants.{GREATEST_ADDRESS}
use Rattle.nlist_codec.specs.declared.kinds.TheConstants.{ABSOLUTE_SEGMENT, TEXT_SEGMENT, DATA_SEGMENT, BSS_SEGMENT}
use Rattle.asm_objects.specs.declared.limits.TheConstants.{SYMBOL_LIMIT}
use Rattle.asm_objects.specs.Emitting.{CommonBelow, Left, Stands, Within}
use Rattle.asm_objects.specs.Layout.{each, start}
use Rattle.asm_objects.specs.Meaning.{rel_fits, here, if_in, reloc_part, relocs_in, relocs_of, reloc_of, reloc_by, reloc_to, reloc_at, written, length_of, place_in}
use Rattle.asm_statements.specs.declared.statement.Part.{Part}
use Rattle.asm_statements.specs.declared.statement.Part.TheVariants as part
use Rattle.asm_statements.specs.declared.statement.Rel.{Rel}
use Rattle.asm_statements.specs.declared.statement.Name.{Name}
use Rattle.asm_statements.specs.declared.statement.Name.TheVariants.{Here, Named}
use Rattle.asm_statements.specs.declared.statement.Width.{Width}
use Rattle.asm_statements.specs.declared.statement.Width.TheVariants.{Byte, Short, Long}
use Rattle.asm_statements.specs.declared.statement.Statement.{Statement}
use Rattle.asm_statements.specs.declared.statement.What.{What}
use Rattle.asm_statements.specs.declared.statement.What.TheVariants as what
use Rattle.asm_objects.specs.declared.table.Definition.{Definition}
use Rattle.asm_objects.specs.declared.table.Home.{Home}
use Rattle.asm_objects.specs.declared.table.Home.TheVariants as home
use Rattle.asm_objects.specs.declared.table.Places.{Places}
use Rattle.asm_objects.specs.declared.table.Table.{Table}
use Rattle.asm_objects.proofs.LeftLemmas.{common_found, here_below}
use Rattle.asm_objects.proofs.ObjectLemmas.{all_each, in_its_range}

-- a field has at most four bytes
short : (width : Width) → length_of width ≤ 2
short Byte = omega arith
short Short = omega arith
short Long = omega arith

-- a relocation with a symbol of three bytes
at_fits : (p : Places) (width : Width) (symbol : ℕ) (external : Bool) → symbol < 2 ^ 24 → IsTrue (external || is_segment symbol) → RelocFits (reloc_at p width symbol external)
at_fits p width symbol external small segment = record { length = short width; symbol = small; segment = segment }

-- to a definition
to_fits : (p : Places) (width : Width) (h : Home) (offset : ℕ) → CommonBelow 16777215 h offset → RelocFits (reloc_to p width h offset)
to_fits p width home.Text offset below = at_fits p width 4 false (omega arith) refl
to_fits p width home.Data offset below = at_fits p width 6 false (omega arith) refl
to_fits p width home.Bss offset below = at_fits p width 8 false (omega arith) refl
to_fits p width home.Common offset below = at_fits p width offset true (omega (arith, below)) refl

-- no more names stand before one than there are
place_small : (names : List (List ℕ)) (name : List ℕ) → place_in names name ≤ length names
place_small names name = by (position (bytes_eq name) names) refl
  where
    by : (o : Option ℕ) → position (bytes_eq name) names ≡ o → unwrap_or o 0 ≤ length names
    by None e = omega arith
    by (Some n) e = let within = (position-Some (bytes_eq name) names n [] e).0 in omega (arith, within)

-- to a definition, or to the entry of an undefined name
by_fits : (t : Table) (u : List (List ℕ)) (p : Places) (width : Width) (name : List ℕ) (d : Option Definition) → Within t (length u) → IfSome d (λ d. CommonBelow 16777215 d.home d.offset)
    → RelocFits (reloc_by t u p width name d)
by_fits t u p width name (Some d) within below = to_fits p width d.home d.offset below
by_fits t u p width name None within below = at_fits p width (t.end.entries + place_in u name) true (omega (arith, within.entries, place_small u name)) refl

-- to a name
of_fits : (t : Table) (u : List (List ℕ)) (p : Places) (width : Width) (name : Name) → Within t (length u) → RelocFits (reloc_of t u p width name)
of_fits t u p width Here within = by_fits t u p width [] (Some (here p)) within (here_below p.part 16777215 _)
of_fits t u p width (Named name) within =
    by_fits t u p width name (lookup (bytes_eq name) t.names) within
    (common_found t.end.entries 16777215 (bytes_eq name) t.names within.commons (omega (arith, within.entries)))

-- that of an expression
of_all_fit : (t : Table) (u : List (List ℕ)) (p : Places) (width : Width) (added taken : List Name) → Within t (length u) → AllByRecursion RelocFits (relocs_of t u p width added taken)
of_all_fit t u p width [] taken within = tt
of_all_fit t u p width (x ∷ []) [] within = (of_fits t u p width x within, tt)
of_all_fit t u p width (x ∷ []) (y ∷ ys) within = tt
of_all_fit t u p width (x ∷ z ∷ xs) taken within = tt

-- the tests of a relocation that is written
rel_tests : (a b c d e : Bool) → (a && b && c && d && e) ≡ true → (b ≡ true) × (d ≡ true) × (e ≡ true)
rel_tests false b c d e all = absurd cc
rel_tests true false c d e all = absurd cc
rel_tests true true false d e all = absurd cc
rel_tests true true true false e all = absurd cc
rel_tests true true true true e all = (refl, refl, all)

-- one test or the others
regrouped : (a b c d e : Bool) → (a || b || c || d || e) ≡ true → (a || (b || c || d || e)) ≡ true
regrouped true b c d e holds = refl
regrouped false b c d e holds = holds

-- one that is written
written_fits : (r : Rel) → rel_fits r ≡ true → RelocFits (written r)
written_fits r fits =
    let tests = rel_tests (nat_le r.address GREATEST_ADDRESS) (nat_lt r.symbol SYMBOL_LIMIT) (nat_lt r.flags 16) (nat_lt (r.flags / 2 % 4) 3)
    (nat_le 8 r.flags || r.symbol == ABSOLUTE_SEGMENT || r.symbol == TEXT_SEGMENT || r.symbol == DATA_SEGMENT || r.symbol == BSS_SEGMENT) fits in
    let length : r.flags / 2 % 4 < 3 = leb-true _ 3 tests.1 in
    let symbol : r.symbol < SYMBOL_LIMIT = leb-true _ SYMBOL_LIMIT tests.0 in
    record { length = omega (arith, length); symbol = omega (arith, symbol); segment = regrouped (nat_le 8 r.flags) (r.symbol == ABSOLUTE_SEGMENT) (r.symbol == TEXT_SEGMENT) (r.symbol == DATA_SEGMENT) (r.symbol == BSS_SEGMENT) tests.2 }

-- those of a statement
relocs_fit : (t : Table) (u : List (List ℕ)) → Within t (length u) → (p : Places) (w : What) → Stands t p w → AllByRecursion RelocFits (relocs_in t u p w)
relocs_fit t u within p (what.Field width sum) s = of_all_fit t u p width sum.added sum.taken within
relocs_fit t u within p (what.Rel r) s = (written_fits r (in_its_range (rel_fits r) None s.no_fault).0, tt)
relocs_fit t u within p _ s = tt

-- those in a segment
in_fits : (q r : Part) (xs : List Reloc) → AllByRecursion RelocFits xs → AllByRecursion RelocFits (if_in q r xs)
in_fits part.Text part.Text xs fits = fits
in_fits part.Text part.Data xs fits = tt
in_fits part.Data part.Text xs fits = tt
in_fits part.Data part.Data xs fits = fits

-- those of all statements in a segment
pub all_relocs_fit : (q : Part) (t : Table) (u : List (List ℕ)) (ss : List Statement) → Within t (length u) → Left t start ss
    → AllByRecursion RelocFits (each (λ p w. if_in q (reloc_part p w) (relocs_in t u p w)) start ss)
all_relocs_fit q t u ss within left =
    all_each RelocFits (λ p w. if_in q (reloc_part p w) (relocs_in t u p w)) t (λ p w s. in_fits q (reloc_part p w) (relocs_in t u p w) (relocs_fit t u within p w s)) start ss left
