-- A worked source: its last place, its table and its object, and a wrong one of each that is refused. The source is
-- `.globl a`, `a:`, `.byte 7`, `.p2align 2`, `.data`, `.space 3`, `.lcomm b,5`.
use Rattle.std.proofs.Common.{◌≡◌, ℕ, List, [], ◌∷◌, ◌++◌, ◌+◌, length, get_or, refl, ap, subst, arith}
use Rattle.std.specs.Prelude.{codes}
use Rattle.std.proofs.lemmas.Option.{same_Some}
use Rattle.st_base.specs.declared.order.Order.TheVariants.{Little}
use Rattle.nlist_codec.specs.declared.named.Named.{Named}
use Rattle.aout_object.specs.declared.parts.Parts.{Parts}
use Rattle.asm_objects.specs.Given.{IsMade, StandsAt, bytes_of}
use Rattle.asm_objects.specs.Layout.{end_of, offset_in, start}
use Rattle.asm_objects.specs.Meaning.{entries_in, entry_with, ext}
use Rattle.asm_objects.specs.Positions.{IsPlace, IsTable}
use Rattle.asm_objects.proofs.DefinitionLemmas.{table_is}
use Rattle.asm_objects.proofs.GivenLemmas.{object_made}
use Rattle.asm_objects.proofs.PositionLemmas.{placed}
use Rattle.asm_objects.proofs.UniqueLemmas.{one_lookup, one_place}
use Rattle.asm_statements.specs.declared.statement.Part.TheVariants as part
use Rattle.asm_statements.specs.declared.statement.Statement.{Statement}
use Rattle.asm_statements.specs.declared.statement.What.{What}
use Rattle.asm_statements.specs.declared.statement.What.TheVariants as what
use Rattle.asm_objects.specs.declared.table.Definition.{Definition}
use Rattle.asm_objects.specs.declared.table.Home.TheVariants as home
use Rattle.asm_objects.specs.declared.table.Places.{Places}
use Rattle.asm_objects.specs.declared.table.Table.{Table}

abbrev at_line : ℕ → What → Statement
at_line line w = record { line = line; what = w }

abbrev source : List Statement
source =
    at_line 1 (what.Globl (codes "a")) ∷ at_line 2 (what.Label (codes "a")) ∷ at_line 3 (what.Bytes (7 ∷ [])) ∷ at_line 4 (what.Align 2)
    ∷ at_line 5 (what.Switch part.Data) ∷ at_line 6 (what.Space 3) ∷ at_line 7 (what.Lcomm (codes "b") 5) ∷ []

-- ---- the place at its end

-- four bytes of text, three of data, five of bss, two entries
abbrev end : Places
end = record { part = part.Data; text = 4; datum = 3; bss = 5; entries = 2; number = 7 }

end_place : IsPlace source end
end_place = placed source

-- `.p2align` takes its three bytes: the text does not end at 1
short_text : IsPlace source (record end { text = 1 }) → ⊥
short_text p = let same = ap (λ (q : Places). q.text) (one_place source end _ end_place p) in omega (arith, same)

-- ---- its table

abbrev a_is : Definition
a_is = record { home = home.Text; offset = 0; number = 1 }

abbrev b_is : Definition
b_is = record { home = home.Bss; offset = 0; number = 6 }

abbrev table : Table
table = record { names = (codes "a", a_is) ∷ (codes "b", b_is) ∷ []; globals = codes "a" ∷ []; end = end; entry = 0; machine = 0; bsize = 0 }

its_table : IsTable source table
its_table = table_is source

-- `a` is not behind the byte that follows it
late_name : IsTable source (record table { names = (codes "a", record a_is { offset = 1 }) ∷ (codes "b", b_is) ∷ [] }) → ⊥
late_name t =
    let same : a_is ≡ record a_is { offset = 1 } = same_Some a_is _ (one_lookup source (codes "a") table _ its_table t) in
    let offset = ap (λ (d : Definition). d.offset) same in
    omega (arith, offset)

-- `.globl a` is not forgotten
no_globals : IsTable source (record table { globals = [] }) → ⊥
no_globals t = let there = ((t.globals (codes "a")).1 (0, at_line 1 (what.Globl (codes "a")), refl, refl)).1 in omega (arith, there)

-- ---- its object

abbrev parts : Parts
parts = record { order = Little; machine = 0; bss = 5; entry = 0; text = 7 ∷ 0 ∷ 0 ∷ 0 ∷ []; data_part = 0 ∷ 0 ∷ 0 ∷ []; text_relocs = []; data_relocs = [] }

-- `a` is text that all objects see, and `b` is bss after four bytes of text and three of data
abbrev entries : List Named
entries = entry_with 5 0 (codes "a") ∷ entry_with 8 7 (codes "b") ∷ []

its_object : IsMade Little source parts entries
its_object = object_made Little source

first_items : {X : Type 0} (x y : X) (xs : List X) → StandsAt (x ∷ xs) 0 (y ∷ []) → x ≡ y
first_items x y xs r = by r.before r.whole r.place
  where
    by : (before : List _) → x ∷ xs ≡ before ++ (y ∷ r.after) → length before ≡ 0 → x ≡ y
    by [] whole place = ap (λ (l : List _). get_or l 0 x) whole
    by (z ∷ before) whole place = absurd (omega (arith, place))

-- `.byte 7` does not give 8
other_byte : IsMade Little source (record parts { text = 8 ∷ 0 ∷ 0 ∷ 0 ∷ [] }) entries → ⊥
other_byte m =
    let stands = m.bytes 2 (at_line 3 (what.Bytes (7 ∷ []))) refl in
    let same = one_place _ stands.0 (end_of start (at_line 1 (what.Globl (codes "a")) ∷ at_line 2 (what.Label (codes "a")) ∷ [])) stands.1 (placed _) in
    let there : StandsAt {X = ℕ} (8 ∷ 0 ∷ 0 ∷ 0 ∷ []) 0 (7 ∷ []) =
    subst (λ (p : Places). StandsAt (bytes_of (record parts { text = 8 ∷ 0 ∷ 0 ∷ 0 ∷ [] }) p.part) (offset_in p) (7 ∷ [])) same stands.2 in
    let is : 8 ≡ 7 = first_items {X = ℕ} 8 7 _ there in
    omega (arith, is)

-- `.globl a` sets the bit N_EXT of `a`
no_bit : IsMade Little source parts (entry_with 4 0 (codes "a") ∷ entry_with 8 7 (codes "b") ∷ []) → ⊥
no_bit m =
    let stands = m.entries 1 (at_line 2 (what.Label (codes "a"))) refl in
    let same = one_place _ stands.0 (end_of start (at_line 1 (what.Globl (codes "a")) ∷ [])) stands.1 (placed _) in
    let there : StandsAt (entry_with 4 0 (codes "a") ∷ entry_with 8 7 (codes "b") ∷ []) 0 (entry_with (4 + ext m.table (codes "a")) (m.table.entry + 0) (codes "a") ∷ []) =
    subst (λ (p : Places). StandsAt (entry_with 4 0 (codes "a") ∷ entry_with 8 7 (codes "b") ∷ []) p.entries (entries_in m.table p (what.Label (codes "a")))) same stands.2 in
    let kind : 4 ≡ 4 + ext m.table (codes "a") = ap (λ (e : Named). e.kind) (first_items _ _ _ there) in
    let bit : ext m.table (codes "a") ≡ 1 = (m.external (codes "a")).1 (0, at_line 1 (what.Globl (codes "a")), refl, refl) in
    omega (arith, kind, bit)
