-- The parts, the entries and the string table are those at the places of the header, and their checks found no fault.
use Rattle.std.proofs.Common.{◌≡◌, ◌∙◌, ℕ, List, drop, ap, sym, subst, arith}
use Rattle.std.specs.Prelude.{None}
use Rattle.st_base.specs.ByteOrder.{is_big}
use Rattle.st_base.specs.Number.{IsBytes}
use Rattle.st_base.proofs.BytesLemmas.{IsBytes-items}
use Rattle.nlist_codec.specs.Entries.{entries_in}
use Rattle.aout_object.specs.Objects.{ObjectFits}
use Rattle.aout_object.specs.Checks.{entries_part, part, strings_part}
use Rattle.aout_object.specs.Decoding.{contents_in, entries_fault, records_fault}
use Rattle.aout_object.proofs.AnswerLemmas.{read-whole, unless-ok}
use Rattle.aout_object.proofs.FileLemmas.{contents-fit}
use Rattle.aout_object.proofs.read.read_object.Goals as goal

-- what was read is what lies at the places
read : (c : goal.In_ok-strings) → (records_fault c.args.header.now c.args.bytes.now ≡ None)
    × (record { parts = c.in_ok-parts.parts; entries = c.in_ok-entries.entries; strings = c.in_ok-strings.strings } ≡ contents_in c.args.header.now c.args.bytes.now)
read c =
    let h = c.args.header.now in
    let bytes = c.args.bytes.now in
    let entries : c.in_ok-entries.entries ≡ entries_in (is_big h.order) (entries_part h bytes) =
    c.in_ok-entries.ensures ∙ ap (entries_in (is_big h.order)) (c.part.ensures ∙ ap (λ (at : ℕ). part bytes at h.symbols) c.requires.places.entries) in
    let table = c.part_from-table.result.now in
    let strings : c.in_ok-strings.strings ≡ table = c.in_ok-strings.ensures in
    let there : table ≡ strings_part h bytes = c.part_from-table.ensures ∙ ap (λ (at : ℕ). drop at bytes) c.requires.places.table in
    let passes : entries_fault table 0 c.items.result.now ≡ None = unless-ok _ _ _ c.in_ok-check_entries.ensures in
    let passes_all : entries_fault c.in_ok-strings.strings 0 c.in_ok-entries.entries ≡ None =
    ap (λ (x : List ℕ). entries_fault x 0 c.in_ok-entries.entries) strings ∙ ap (entries_fault table 0) (sym c.items.ensures) ∙ passes in
    read-whole bytes h c.in_ok-parts.parts c.in_ok-entries.entries c.in_ok-strings.strings c.in_ok-parts.ensures entries (strings ∙ there) passes_all

pub invariant_of-result : goal.invariant_of-result
invariant_of-result c =
    let are_bytes : IsBytes c.args.bytes.now = IsBytes-items c.args.bytes.now (λ k. omega (arith, c.type_inv.bytes k)) in
    let is = read c in
    subst ObjectFits (sym is.1) (contents-fit c.args.bytes.now c.args.header.now are_bytes c.requires.header c.requires.sizes is.0)

pub returns : goal.returns
returns c = read c
