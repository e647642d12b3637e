-- Objects placed group by group.
use Rattle.std.specs.Prelude.{map, ◌≡◌, ℕ, ◌+◌, ◌%◌, ◌^◌, ◌≤◌, List, ◌++◌, length}
use Rattle.nlist_codec.specs.declared.named.Named.{Named}
use Rattle.aout_object.specs.Decoding.{fault_or}
use Rattle.aout_link.specs.Moves.{totals_of, starts_of, starts_behind, moves_between, moves_of, moves_after, all_moves}
use Rattle.aout_link.specs.Placing.{placed_all, texts, datas}
use Rattle.aout_link.specs.Refusals.{twice_in, undefined_in, relocs_in}
use Rattle.aout_link.specs.Sources.{Source}
use Rattle.aout_link.specs.NameTables.{entries_of, moved_entry, moved_all}
use Rattle.aout_link.specs.declared.moves.Moves.{Moves}
use Rattle.aout_link.specs.declared.moves.Starts.{Starts}
use Rattle.aout_link.specs.declared.definitions.Known.{Known}

-- two moves, one after the other
abbrev pub both_moves : Moves → Moves → Moves
both_moves a b = record { text = (a.text + b.text) % 2 ^ 32; datum = (a.datum + b.datum) % 2 ^ 32; bss = (a.bss + b.bss) % 2 ^ 32 }

-- addresses that words can hold
pub record AreWords (s : Starts) : Type 0 where
  pub text : s.text ≤ 2 ^ 32
  pub datum : s.datum ≤ 2 ^ 32
  pub bss : s.bss ≤ 2 ^ 32

-- what holds of a list of objects put together from two
pub record InGroups (xs ys : List Source) : Type 0 where
  pub text : (totals_of (xs ++ ys)).text ≡ (totals_of xs).text + (totals_of ys).text
  pub datum : (totals_of (xs ++ ys)).datum ≡ (totals_of xs).datum + (totals_of ys).datum
  pub bss : (totals_of (xs ++ ys)).bss ≡ (totals_of xs).bss + (totals_of ys).bss
  pub moves : (s : Starts) (before : List Source) → moves_after s before (xs ++ ys) ≡ moves_after s before xs ++ moves_after s (before ++ xs) ys
  pub entries : (ms ns : List Moves) → length ms ≡ length xs → moved_all (ms ++ ns) (xs ++ ys) ≡ moved_all ms xs ++ moved_all ns ys
  pub placed : (table : List (List ℕ × Known)) (ms ns : List Moves) → length ms ≡ length xs → placed_all table (ms ++ ns) (xs ++ ys) ≡ placed_all table ms xs ++ placed_all table ns ys
  pub texts : (table : List (List ℕ × Known)) (ms ns : List Moves) → length ms ≡ length xs → texts table (ms ++ ns) (xs ++ ys) ≡ texts table ms xs ++ texts table ns ys
  pub datas : (table : List (List ℕ × Known)) (ms ns : List Moves) → length ms ≡ length xs → datas table (ms ++ ns) (xs ++ ys) ≡ datas table ms xs ++ datas table ns ys
  pub relocs : (table : List (List ℕ × Known)) (k : ℕ) (ms ns : List Moves) → length ms ≡ length xs
      → relocs_in table k (ms ++ ns) (xs ++ ys) ≡ fault_or (relocs_in table k ms xs) (relocs_in table (k + length xs) ns ys)
  pub twice : (before : List Named) (k : ℕ) → twice_in before k (xs ++ ys) ≡ fault_or (twice_in before k xs) (twice_in (before ++ entries_of xs) (k + length xs) ys)
  pub undefined : (table : List (List ℕ × Known)) (k : ℕ) → undefined_in table k (xs ++ ys) ≡ fault_or (undefined_in table k xs) (undefined_in table (k + length xs) ys)

-- a group that is placed by itself from an address on, and then as one object behind others, moves as its objects do at once
abbrev pub MovesAtOnce : ℕ → List Source → Starts → List Source → List Source → Source → Type 0
MovesAtOnce base group s out before o =
    both_moves (moves_of (starts_of base group) before o) (moves_between (starts_of base group) (starts_behind s out)) ≡ moves_of s (out ++ before) o

-- and so do its entries
abbrev pub EntriesAtOnce : ℕ → List Source → Starts → List Source → Type 0
EntriesAtOnce base group s out =
    map (moved_entry (moves_between (starts_of base group) (starts_behind s out))) (moved_all (all_moves base group) group) ≡ moved_all (moves_after s out group) group
