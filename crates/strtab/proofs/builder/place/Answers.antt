-- A new name's entry is written last, and the appended bytes are those of the entry's key, which is the name.
use Rattle.std.proofs.Common.{◌≡◌, ◌∙◌, ◌++◌, ◌∷◌, [], ℕ, List, length, Vec, Global, ap, rules}
use Rattle.std.specs.Str.{bytes_eq}
use Rattle.indexmap.proofs.CallerLemmas.{insert_entry-new}
use Rattle.strtab.specs.Builder.{found_in, IsPlaced}
use Rattle.strtab.proofs.BuilderLemmas.{IsPlaced-new}
use Rattle.strtab.proofs.builder.place.Goals as goal

pub returns-in-Ok-clause-placed : goal.returns-in-Ok-clause-placed
returns-in-Ok-clause-placed c =
    let entry = c.in-Ok-Vacant.ensures in
    let absent = rw c.in-Ok-Vacant.field-0-is at entry.found in
    let written = rw c.in-Ok-Vacant.field-0-is at entry.update.1 in
    let key = (rw c.in-Ok-Vacant.field-0-is at entry.key) ((rw c.in-Ok-Vacant.field-0-is at entry.value) ∙ absent) in
    let old = c.args.names.now.entries in
    let strx = length c.bytes.result.now in
    let last = written strx ∙ insert_entry-new (λ x y. bytes_eq x.items y.items) c.args.names.now c.args.name strx absent in
    let bytes = c.as_slice.ensures.value ∙ ap (λ (k : Vec ℕ Global). k.items) (c.key.ensures ∙ key) in
    let placed : (new : List (Vec ℕ Global × ℕ)) → new ≡ old ++ (c.args.name, strx) ∷ []
    → IsPlaced (found_in old c.args.name.items) c.args.name old new c.args.table.now c.append.new.table strx = λ new e.
    IsPlaced-new (found_in old c.args.name.items) c.args.name old new c.args.table.now c.append.new.table c.as_slice.result.now strx absent
    (ap (λ (b : List ℕ). length b) c.bytes.ensures) e bytes c.in-Ok.ensures.ok c.in-Ok.ensures.fits in
    placed _ (search (rules, last))
