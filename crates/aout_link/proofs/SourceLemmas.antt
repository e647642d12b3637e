-- What holds of an object that a file can spell, as placing needs it.
use Rattle.std.proofs.Common.{◌≡◌, ℕ, ◌+◌, ◌≤◌, List, [], ◌∷◌, length, sym, subst, arith}
use Rattle.std.specs.Prelude.{All}
use Rattle.std.specs.List.{AllByRecursion}
use Rattle.std.proofs.lemmas.List.Elements.{All-from_recursion, recursion_from_All}
use Rattle.nlist_codec.specs.declared.entry.Entry.{Entry}
use Rattle.nlist_codec.specs.declared.named.Named.{Named}
use Rattle.reloc.specs.declared.reloc.Reloc.{Reloc}
use Rattle.aout_object.specs.Objects.{Contents, ObjectFits, IsReloc, IsAccepted, all_named, named_of}
use Rattle.aout_object.specs.Making.{HasWholeName}
use Rattle.aout_link.specs.Sources.{HasAcceptedKind, IsLawful}

-- relocations that can be written have short fields
are_short : (rs : List Reloc) → AllByRecursion IsReloc rs → AllByRecursion (λ r. r.length ≤ 2) rs
are_short [] h = tt
are_short (r ∷ rs) h = (h.0.fits.length, are_short rs h.1)

-- accepted entries have accepted kinds
are_accepted : (strings : List ℕ) (entries : List Entry) → AllByRecursion (IsAccepted strings) entries → AllByRecursion HasAcceptedKind (all_named strings entries)
are_accepted strings [] h = tt
are_accepted strings (e ∷ entries) h = (h.0.kind, are_accepted strings entries h.1)

-- an object and its entries, named
pub lawful_of : (o : Contents) (named : List Named) → named ≡ named_of o → All HasWholeName named → ObjectFits o → IsLawful (record { object = o; parts = o.parts; named = named })
lawful_of o named is whole fits =
    let addresses = fits.header.addresses in
    let text = fits.numbers.text_relocs in
    let datum = fits.numbers.data_relocs in
    record {
      address = omega (arith, addresses);
      text_relocs = All-from_recursion (λ r. r.length ≤ 2) o.parts.text_relocs (are_short o.parts.text_relocs fits.text_relocs);
      data_relocs = All-from_recursion (λ r. r.length ≤ 2) o.parts.data_relocs (are_short o.parts.data_relocs fits.data_relocs);
      few_text = omega (arith, text);
      few_data = omega (arith, datum);
      names = recursion_from_All HasWholeName named whole;
      kinds = subst (AllByRecursion HasAcceptedKind) (sym is) (are_accepted o.strings o.entries fits.accepted);
      machine = fits.header.order_told;
    }

-- what is told of an object's entries, which have been named, and of the end of its text
pub told_of : (P : ℕ → List Named → Type 0) (o : Contents) (named : List Named) (end : ℕ) → named ≡ named_of o → end ≡ o.parts.entry + length o.parts.text
    → P end named → P (o.parts.entry + length o.parts.text) (named_of o)
told_of P o named end is at h = subst (λ (n : ℕ). P n (named_of o)) at (subst (λ (ns : List Named). P end ns) is h)
