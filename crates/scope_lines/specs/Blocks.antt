-- Blocks: an N_LBRAC, the N_RBRAC that closes it, and the items of the block. After "The stabs debug format" on block
-- structure; the values of both are offsets from the unit's start.
use Rattle.std.specs.Prelude.{◌≡◌, ◌<◌, ℕ, ◌+◌, ◌^◌, ◌%◌, length, List, [], ◌∷◌, take, count_by, Bool, true, false, ◌&&◌, if◌then◌else◌, nat_lt, nat_le, ◌==◌, Option, Some, None, is_none, slice_get, option_and_then}
use Rattle.std.specs.List.{find, range_with_len}
use Rattle.scope_lines.specs.declared.role.Role.{Role}
use Rattle.scope_lines.specs.declared.role.Role.TheVariants.{Function, Opens, Closes, Local}
use Rattle.scope_lines.specs.declared.scope.Block.{Block}
use Rattle.scope_lines.specs.ListPlaces.{each}

-- ---- the N_RBRAC of an N_LBRAC

-- an N_LBRAC
abbrev pub is_begin : Role → Bool
is_begin (Opens value) = true
is_begin _ = false

-- an N_RBRAC
abbrev pub is_end : Role → Bool
is_end (Closes value) = true
is_end _ = false

-- the items up to this place, its own with them, hold as many N_RBRAC as N_LBRAC
abbrev pub is_even : List Role → ℕ → Bool
is_even items place = count_by is_end (take (place + 1) items) == count_by is_begin (take (place + 1) items)

-- the first place after an N_LBRAC up to which there are as many
abbrev pub end_place : Role → List Role → Option ℕ
end_place opener behind = find (is_even (opener ∷ behind)) (range_with_len 1 (length behind))

-- the value of an item that is an N_RBRAC
abbrev pub closing_value : Option Role → Option ℕ
closing_value (Some (Closes value)) = Some value
closing_value _ = None

-- the value of the N_RBRAC there
abbrev pub end_value : Role → List Role → Option ℕ
end_value opener behind = option_and_then (λ place. closing_value (slice_get (opener ∷ behind) place)) (end_place opener behind)

-- ---- the items of a block

-- an N_LBRAC, an N_RBRAC or a function decides to what an item with no descriptor, `r` or `V` before it belongs
abbrev pub decides : Role → Bool
decides (Function value) = true
decides (Opens value) = true
decides (Closes value) = true
decides _ = false

-- an item with no descriptor, `r` or `V`
abbrev pub is_local : Role → Bool
is_local Local = true
is_local _ = false

-- the place of an item of that kind, where nothing decides after it
abbrev pub waits_at : List Role → Role → List Role → List ℕ
waits_at before x between = if is_local x && is_none (find decides between) then length before ∷ [] else []

-- the items that belong to the block of an N_LBRAC directly after these: nothing else decides before it
abbrev pub waiting : List Role → List ℕ
waiting before = each waits_at [] before

-- ---- the block

-- an offset as an address
abbrev pub bound : ℕ → ℕ → ℕ
bound start value = (start + value) % 2 ^ 32

-- the block between two offsets
abbrev pub block_of : ℕ → ℕ → ℕ → List ℕ → Block
block_of start low high vars = record { low = bound start low; high = bound start high; vars = vars }

-- a block holds its low bound and not its high one
abbrev pub is_in_block : ℕ → Block → Bool
is_in_block address block = nat_le block.low address && nat_lt address block.high

-- the block of an N_LBRAC, where it is closed and holds the address
abbrev pub block_at : ℕ → ℕ → ℕ → Option ℕ → List ℕ → List Block
block_at start address low None vars = []
block_at start address low (Some high) vars = if is_in_block address (block_of start low high vars) then block_of start low high vars ∷ [] else []

-- ---- in words of places

-- the items up to this place hold as many N_RBRAC as N_LBRAC
abbrev pub IsEven : List Role → ℕ → Type 0
IsEven items place = count_by is_end (take (place + 1) items) ≡ count_by is_begin (take (place + 1) items)

-- this is the first place after the first item up to which there are as many
pub record IsFirstEven (items : List Role) (place : ℕ) : Type 0 where
  pub behind : 0 < place
  pub within : place < length items
  pub even : IsEven items place
  pub first : (earlier : ℕ) → 0 < earlier → earlier < place → IsEven items earlier → ⊥

-- the N_LBRAC with which the list begins is closed, by an N_RBRAC of this value
abbrev pub EndsWith : List Role → ℕ → Type 0
EndsWith items value = (place : ℕ) × IsFirstEven items place × (slice_get items place ≡ Some (Closes value))

-- the N_LBRAC with which the list begins is not closed
abbrev pub NeverEnds : List Role → Type 0
NeverEnds items = (place : ℕ) → IsFirstEven items place → ⊥

-- the item at a place waits for an N_LBRAC after the list
abbrev pub IsWaiting : List Role → ℕ → Type 0
IsWaiting before place = (slice_get before place ≡ Some Local) × ((other : ℕ) (x : Role) → place < other → slice_get before other ≡ Some x → decides x ≡ false)
