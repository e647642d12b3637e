-- Worked sources: what they assemble to, by hand.
use Rattle.std.proofs.Common.{◌≡◌, ℕ, true, false, List, [], ◌∷◌, ◌++◌, Some, Result, Ok, Err, refl}
use Rattle.std.specs.Prelude.{codes}
use Rattle.st_base.specs.Faults.{fault_at}
use Rattle.st_base.specs.declared.order.Order.TheVariants.{Little, Big}
use Rattle.asm_statements.specs.SourceLines.{read_source}
use Rattle.asm_objects.specs.Meaning.{first_fault_of}
use Rattle.asm_objects.specs.SourceMaking.{parts_of, entries_of}
use Rattle.stabs_asm.specs.Assembling.{assembled}
use Rattle.asm_statements.specs.declared.statement.Statement.{Statement}

statements : Result (List Statement) ℕ → List Statement
statements (Ok ss) = ss
statements (Err line) = []

-- lines with their line feeds
source : List (List ℕ) → List ℕ
source [] = []
source (l ∷ ls) = l ++ 10 ∷ source ls

-- ---- places and differences

labels : List Statement
labels = statements (read_source (source (codes ".byte b-a" ∷ codes "a: .short 1" ∷ codes "b: .globl b" ∷ [])))

label_text : (parts_of Little labels).text ≡ 2 ∷ 1 ∷ 0 ∷ []
unfolding labels statements source
label_text = refl

-- the most significant byte first
label_text_big : (parts_of Big labels).text ≡ 2 ∷ 0 ∷ 1 ∷ []
unfolding labels statements source
label_text_big = refl

label_entries : entries_of labels
    ≡ record { kind = 4; other = 0; desc = 0; value = 1; name = codes "a" } ∷ record { kind = 5; other = 0; desc = 0; value = 3; name = codes "b" } ∷ []
unfolding labels statements source
label_entries = refl

-- ---- relocations

-- a name that is not defined is external, and its entry is after all others; one of data names its segment
names : List Statement
names = statements (read_source (source (codes ".short d+1,x" ∷ codes ".data" ∷ codes "d: .stabn 68,0,5,d" ∷ [])))

name_text : (parts_of Little names).text ≡ 5 ∷ 0 ∷ 0 ∷ 0 ∷ []
unfolding names statements source
name_text = refl

name_relocs : (parts_of Little names).text_relocs
    ≡ record { address = 0; symbol = 6; pcrel = false; length = 1; external = false }
    ∷ record { address = 2; symbol = 2; pcrel = false; length = 1; external = true } ∷ []
unfolding names statements source
name_relocs = refl

name_entries : entries_of names
    ≡ record { kind = 6; other = 0; desc = 0; value = 4; name = codes "d" } ∷ record { kind = 68; other = 0; desc = 5; value = 4; name = [] }
    ∷ record { kind = 1; other = 0; desc = 0; value = 0; name = codes "x" } ∷ []
unfolding names statements source
name_entries = refl

-- ---- faults

-- the smallest line, and there the smallest number
twice : first_fault_of (statements (read_source (source (codes "a: a: .byte a+a" ∷ codes ".byte 256" ∷ [])))) ≡ Some (fault_at 73 1)
unfolding statements source
twice = refl

undefined : first_fault_of (statements (read_source (source (codes ".byte 255" ∷ codes ".long b-a" ∷ codes "a:" ∷ [])))) ≡ Some (fault_at 72 2)
unfolding statements source
undefined = refl

-- a line that does not parse is reported before all others
no_form : assembled Little (read_source (source (codes ".byte 256" ∷ codes ".bite 1" ∷ []))) ≡ Err (fault_at 70 2)
unfolding source
no_form = refl

past_the_end : assembled Little (read_source (source (codes ".entry 4294967295" ∷ codes ".byte 1" ∷ []))) ≡ Err (fault_at 94 4294967295)
unfolding source
past_the_end = refl
