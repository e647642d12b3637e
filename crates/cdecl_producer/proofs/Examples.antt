-- Worked values: which file an include is of, what it comes to, and the first faults of two sources. Of two files of one
-- name the first counts; a file that is not given is 81, one that is being read 83, and one that was read gives nothing.
use Rattle.std.proofs.Common.{◌≡◌, ℕ, List, [], ◌∷◌, ◌++◌, Some, None, Ok, Err, codes, refl}
use Rattle.st_base.specs.declared.fault.Fault.{Fault}
use Rattle.c_tokens.specs.declared.kind.Kind.TheVariants as k
use Rattle.c_tokens.specs.Tokens.{Info}
use Rattle.c_items.specs.Steps.{declares}
use Rattle.c_items.proofs.OnceLemmas.{none_stands}
use Rattle.c_units.specs.Files.{begun}
use Rattle.cdecl_producer.specs.declared.source.Source.{Source}
use Rattle.cdecl_producer.specs.declared.source.Progress.{Progress}
use Rattle.cdecl_producer.specs.declared.source.Progress.TheVariants.{Unread, Open, Done}
use Rattle.cdecl_producer.specs.declared.reading.Reading.{Reading}
use Rattle.cdecl_producer.specs.Files.{Meaning, Reads, place_of, wanted}
use Rattle.cdecl_producer.specs.Outcomes.{Comes, started}

abbrev quoted : List ℕ → List ℕ
quoted name = codes "#include " ++ (34 ∷ (name ++ (34 ∷ 10 ∷ [])))

-- `m.c` includes `a.h` and itself; a second file of the name `a.h` is given
abbrev main : Source
main = record { name = codes "m.c"; text = 10 ∷ quoted (codes "m.c") }

abbrev header : List ℕ → Source
header text = record { name = codes "a.h"; text = text }

abbrev files : List Source
files = main ∷ header (codes "int a;") ∷ header (codes "int b;") ∷ []

-- reading so far, with this much of the files read
abbrev so_far : Progress → Reading
so_far p = record { draft = begun (codes "m.c"); progress = Open ∷ p ∷ Unread ∷ [] }

abbrev include : List ℕ → Info
include name = record { text = name; number = 0; line = 7 }

-- a fault on a line of the main source
abbrev fault_on : ℕ → ℕ → Fault
fault_on number line = record { number = number; place = line; within = 0 }

first_counts : place_of (codes "a.h") files ≡ Some 1
first_counts = refl

not_given : place_of (codes "A.h") files ≡ None
not_given = refl

unknown : wanted files (include (codes "b.h")) (so_far Unread) ≡ Err (fault_on 81 7)
unfolding wanted begun
unknown = refl

includes_itself : wanted files (include (codes "m.c")) (so_far Unread) ≡ Err (fault_on 83 7)
unfolding wanted begun
includes_itself = refl

around : wanted files (include (codes "a.h")) (so_far Open) ≡ Err (fault_on 83 7)
unfolding wanted begun
around = refl

was_read : wanted files (include (codes "a.h")) (so_far Done) ≡ Ok None
unfolding wanted
was_read = refl

-- a source that includes itself on its second line
self_included : (means : Meaning) → Comes means files (Err (fault_on 83 2))
unfolding wanted begun
self_included means = Reads.refused _ [] (record { text = codes "m.c"; number = 0; line = 2 }) _ (fault_on 83 2) refl refl

-- tokens that are no item are told at the first of them, which stands on the second line
abbrev torn : Source
torn = record { name = codes "m.c"; text = 10 ∷ codes "int ;" }

broken_first : (means : Meaning) → Comes means (torn ∷ []) (Err (fault_on 80 2))
unfolding begun declares
broken_first means =
    Reads.broken (k.Basic, record { text = []; number = 1; line = 2 }) ((k.Semi, record { text = []; number = 0; line = 2 }) ∷ []) (started torn [])
    (none_stands ((k.Basic, record { text = []; number = 1; line = 2 }) ∷ (k.Semi, record { text = []; number = 0; line = 2 }) ∷ []) refl)
