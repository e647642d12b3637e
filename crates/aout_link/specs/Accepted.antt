-- Which lists of objects are accepted, told by positions: what holds of an object, an entry or a relocation, wherever it stands. The
-- conditions are those of the refusals, without their order.
use Rattle.std.specs.Prelude.{◌≡◌, ◌≢◌, ℕ, ◌+◌, ◌≤◌, Bool, true, false, List, [], ◌∷◌, ◌++◌, length, map, slice_get, Some}
use Rattle.std.specs.List.{AllByRecursion}
use Rattle.st_base.specs.ByteOrder.{is_big}
use Rattle.nlist_codec.specs.declared.named.Named.{Named}
use Rattle.reloc.specs.declared.reloc.Reloc.{Reloc}
use Rattle.reloc.specs.Sums.{bytes_in, bits_in, sum_fits, field_sum}
use Rattle.nlist_codec.specs.declared.kinds.TheConstants.{BSS_EXTERNAL}
use Rattle.aout_link.specs.Moves.{totals_of, starts_of, moves_of, fronts}
use Rattle.aout_link.specs.Placing.{Frame, placed_entry, amount, relocated, text_frame, data_frame, bss_of}
use Rattle.aout_link.specs.Refusals.{defines_again, is_lacking, is_lawful, has_other_order, has_other_machine}
use Rattle.aout_link.specs.Sources.{Source}
use Rattle.aout_link.specs.NameTables.{entries_of, commons_total, placed_commons, common_sizes, bss_end, names_table}
use Rattle.aout_link.specs.declared.moves.Moves.{Moves}
use Rattle.aout_link.specs.declared.definitions.Known.{Known}
use Rattle.st_base.specs.declared.sizes.TheConstants.{GREATEST_ADDRESS}

-- a relocation lies in its segment, names a lawful symbol, and fits
pub record Passes (big : Bool) (f : Frame) (segment : List ℕ) (r : Reloc) : Type 0 where
  pub within : r.address + bytes_in r.length ≤ length segment
  pub lawful : is_lawful f.named r ≡ true
  pub fits : sum_fits (bits_in r.length) (field_sum big segment r (amount f r)) ≡ true

-- each relocation of a segment passes, on what those before it left
abbrev pub AllPass : Bool → Frame → List ℕ → List Reloc → Type 0
AllPass big f segment rs =
    (front : List Reloc) (r : Reloc) (back : List Reloc) → rs ≡ front ++ r ∷ back → Passes big f (relocated big f segment front) r

-- those of an object that moves so, and whose entries are placed so
abbrev pub ObjectPasses : Moves → List Named → Source → Type 0
ObjectPasses m placed o =
    AllPass (is_big o.parts.order) (text_frame m placed o) o.parts.text o.parts.text_relocs × AllPass (is_big o.parts.order) (data_frame m placed o) o.parts.data_part o.parts.data_relocs

-- an accepted list: there are objects; all have the byte order and the machine word of the first; no entry defines a name that one
-- before it defines; each undefined entry has a definition or a common of its name; the end of bss is an address; and the relocations
-- of each object pass, those objects before it moving it
pub record Accepted (base : ℕ) (os : List Source) : Type 0 where
  pub some : os ≢ []
  pub orders : (first : Source) → slice_get os 0 ≡ Some first → AllByRecursion (λ o. has_other_order first o ≡ false) os
  pub machines : (first : Source) → slice_get os 0 ≡ Some first → AllByRecursion (λ o. has_other_machine first o ≡ false) os
  pub once : (before : List Named) (n : Named) (behind : List Named) → entries_of os ≡ before ++ n ∷ behind → defines_again before n ≡ false
  pub known : AllByRecursion (λ n. is_lacking (names_table base os) n ≡ false) (entries_of os)
  pub addresses : base + (totals_of os).text + (totals_of os).datum + bss_of os ≤ GREATEST_ADDRESS
  pub relocs : (front : List Source) (o : Source) (back : List Source) → os ≡ front ++ o ∷ back
      → ObjectPasses (moves_of (starts_of base os) front o) (map (placed_entry (names_table base os) (moves_of (starts_of base os) front o)) o.named) o

-- commons one behind the other from an address on, at their sums, not reduced modulo 2 ^ 32
abbrev pub exact_commons : ℕ → List (List ℕ × ℕ) → List (List ℕ × Known)
exact_commons start sizes = map (λ p. (p.1.0, record { kind = BSS_EXTERNAL; value = start + commons_total p.0 })) (fronts [] sizes)

-- the commons of objects stand at their sums, not reduced modulo 2 ^ 32
abbrev pub HasExactCommons : ℕ → List Source → Type 0
HasExactCommons base os = placed_commons (bss_end base os) (common_sizes os) ≡ exact_commons (bss_end base os) (common_sizes os)
