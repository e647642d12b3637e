-- What one walk over entries keeps of those before, while it changes them. Contracts of private functions alone use these words.
use Rattle.std.specs.Prelude.{◌≡◌, ℕ, Option, cond, List, [], ◌∷◌, ◌++◌}
use Rattle.st_base.specs.Stabs.{is_stab}
use Rattle.nlist_codec.specs.declared.named.Named.{Named}
use Rattle.stab_units.specs.Changing.{Change, changed, changed_from, is_kept_in, mark_changed}
use Rattle.unit_outlines.specs.Marks.{is_header}
use Rattle.unit_outlines.specs.Sweeps.{Nests}
use Rattle.header_merge.specs.declared.merging.Walk.{Walk}

-- what an entry becomes after so many headers, in this range
abbrev pub changed_by : Change → ℕ → Option ℕ → Named → List Named
changed_by c place range e =
    cond (is_header e.kind) (mark_changed c place e ∷ [])
    (cond (is_stab e.kind) (cond (is_kept_in c range) (e ∷ []) []) (e ∷ []))

-- what the entries before became, and what those that are left become, is what all become
pub record HasChanged (c : Change) (entries left : List Named) (w : Walk) : Type 0 where
  pub back : List Named
  pub nest : Nests back w.nest
  pub is : w.out ++ changed_from c back left ≡ changed c entries
