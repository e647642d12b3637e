-- What the text of an object assembles to.
use Rattle.std.proofs.Common.{◌≡◌, ◌+◌, ℕ, List, [], ◌∷◌, ◌++◌, length, Option, None, refl, ap, ◌∙◌}
use Rattle.std.specs.List.{AllByRecursion}
use Rattle.std.proofs.lemmas.Bool.{le-leb}
use Rattle.st_base.specs.Faults.{Check, first_fault, unless}
use Rattle.st_base.specs.declared.fault.Fault.{Fault}
use Rattle.st_base.specs.declared.sizes.TheConstants.{GREATEST_ADDRESS}
use Rattle.nlist_codec.specs.declared.named.Named.{Named}
use Rattle.nlist_codec.specs.declared.entry.Entry.{Entry}
use Rattle.aout_object.specs.Making.{made, make_checks, kinds_checks, addresses_check, size_check}
use Rattle.aout_object.specs.Objects.{Contents, ObjectFits, IsAccepted, all_named, named_of, file_of}
use Rattle.aout_object.specs.declared.parts.Parts.{Parts}
use Rattle.asm_objects.specs.SourceMaking.{object_by}
use Rattle.stabs_asm.specs.Assembling.{assembled}
use Rattle.stabs_asm.specs.Listing.{HoldsBytes, IsAssembledAgain}
use Rattle.stabs_asm.proofs.ReadBackLemmas.{is_listed}

-- no entry of an object has a fault of its kind
kinds_pass : (strings : List ℕ) (es : List Entry) (place : ℕ) (others : List Check) → AllByRecursion (IsAccepted strings) es
    → first_fault (kinds_checks place (all_named strings es) ++ others) ≡ first_fault others
kinds_pass strings [] place others all = refl
kinds_pass strings (e ∷ es) place others all = rw (all.0.kind) (kinds_pass strings es (place + 1) others all.1)

-- of the checks that make an object, one that was an object can fail that of its size alone
size_alone : (o : Contents) → ObjectFits o → first_fault (make_checks o.parts (named_of o)) ≡ first_fault (size_check (length (file_of (made o.parts (named_of o)))) ∷ [])
size_alone o fits =
    kinds_pass o.strings o.entries 0 (addresses_check o.parts ∷ size_check (length (file_of (made o.parts (named_of o)))) ∷ []) fits.accepted
    ∙ (rw (le-leb (o.parts.entry + length o.parts.text + length o.parts.data_part + o.parts.bss) GREATEST_ADDRESS fits.header.addresses) refl)

same_object : (f : Option Fault) (p q : Parts) (m n : List Named) → f ≡ None → p ≡ q → m ≡ n → object_by f p m ≡ unless (first_fault (make_checks q n)) (made q n)
same_object f p q m n none parts entries = rw (none, parts, entries) refl

pub assembled_again : (o : Contents) → ObjectFits o → HoldsBytes o → IsAssembledAgain o
assembled_again o fits are =
    let l = is_listed o fits are in
    ap (assembled o.parts.order) l.reads ∙ same_object _ _ o.parts _ (named_of o) l.faultless l.parts l.entries
    ∙ ap (λ (f : Option Fault). unless f (made o.parts (named_of o))) (size_alone o fits)
