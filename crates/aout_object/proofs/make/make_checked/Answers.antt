-- The names were added and the size counted: what was made is the object, or its file is too large.
use Rattle.std.proofs.Common.{◌≡◌, ◌∙◌, List, [], ◌∷◌, ℕ, length, refl, sym, ap, subst}
use Rattle.std.specs.Prelude.{None}
use Rattle.std.proofs.lemmas.Result.{err_from_is_err_and}
use Rattle.st_base.specs.ByteOrder.{is_big}
use Rattle.st_base.specs.Faults.{first_fault}
use Rattle.nlist_codec.specs.Entries.{EntryFits}
use Rattle.strtab.specs.Names.{table_of}
use Rattle.std.specs.Prelude.{All}
use Rattle.nlist_codec.specs.declared.entry.Entry.{Entry}
use Rattle.aout_object.specs.Objects.{file_of, ObjectFits}
use Rattle.aout_object.specs.Making.{made, size_check}
use Rattle.aout_object.proofs.AnswerLemmas.{unless-ok, unless-err}
use Rattle.aout_object.proofs.MakeLemmas.{made-fits, made-is, relocs-fit, table-refused, size-fault}
use Rattle.aout_object.proofs.make.make_checked.Goals as goal

-- the string table is that of the object
strings_is : (c : goal.After-parts_are_numbers) → c.finish-strings.result ≡ (made c.args.parts c.args.named.now).strings
strings_is c = c.finish-strings.ensures.table ∙ ap (table_of (is_big c.args.parts.order)) c.in_ok-entries.ensures.names

-- what was made is the object
is_made : (c : goal.After-parts_are_numbers) → record { parts = c.args.parts; entries = c.in_ok-entries.entries; strings = c.finish-strings.result } ≡ made c.args.parts c.args.named.now
is_made c = made-is c.args.parts c.args.named.now c.in_ok-entries.entries c.finish-strings.result c.in_ok-entries.ensures.entries (strings_is c)

-- its file is not too large
fits : (c : goal.After-parts_are_numbers) → first_fault (size_check (length (file_of (made c.args.parts c.args.named.now))) ∷ []) ≡ None
fits c = size-fault c.args.parts c.args.named.now _ _ None refl (ap (λ (x : List ℕ). length x) (c.bytes.ensures ∙ strings_is c)) (unless-ok _ _ _ c.in_ok-check_size.ensures)

pub invariant_of-result : goal.invariant_of-result
invariant_of-result c =
    let parts = c.args.parts in
    let named = c.args.named.now in
    let known = c.parts_are_numbers.ensures in
    let entries : All EntryFits (made parts named).entries = subst (λ (x : List Entry). All EntryFits x) c.in_ok-entries.ensures.entries c.in_ok-entries.ensures.fits in
    subst ObjectFits (sym (is_made c)) (made-fits parts named c.requires.names c.requires.machine known.machine
    (relocs-fit parts.text_relocs c.requires.text_relocs known.text_relocs) (relocs-fit parts.data_relocs c.requires.data_relocs known.data_relocs)
    entries c.requires.kinds c.requires.addresses (fits c))

pub returns : goal.returns
returns c = (fits c, is_made c)

pub returns-in_err-entries : goal.returns-in_err-entries
returns-in_err-entries c =
    let p = err_from_is_err_and c.from_residual-in_err-entries.result c.from_residual-in_err-entries.ensures.1 in
    rw (p.1, p.2) (table-refused c.args.parts c.args.named.now _ (made c.args.parts c.args.named.now) c.in_err-entries.ensures.refused)

pub returns-in_err-check_size : goal.returns-in_err-check_size
returns-in_err-check_size c =
    let p = err_from_is_err_and c.from_residual-in_err-check_size.result c.from_residual-in_err-check_size.ensures.1 in
    let strings : c.finish-strings.result ≡ (made c.args.parts c.args.named.now).strings =
    c.finish-strings.ensures.table ∙ ap (table_of (is_big c.args.parts.order)) c.in_ok-entries.ensures.names in
    rw (p.1, p.2) (size-fault c.args.parts c.args.named.now _ _ _ refl (ap (λ (x : List ℕ). length x) (c.bytes.ensures ∙ strings)) (unless-err _ _ _ c.in_err-check_size.ensures))
