-- The entries of all inputs of a link are few, since each takes twelve bytes of a file, and the inputs have a limit together.
use Rattle.std.proofs.Common.{◌≡◌, ℕ, ◌+◌, ◌*◌, ◌<◌, ◌≤◌, ◌^◌, Bool, true, false, List, [], ◌∷◌, ◌++◌, length, Option, Some, None, refl, ap, arith, ltb-false}
use Rattle.std.specs.Prelude.{nat_lt, if◌then◌else◌}
use Rattle.std.specs.List.{sum_by}
use Rattle.std.specs.FinMap.{get}
use Rattle.std.proofs.lemmas.List.{length-map}
use Rattle.std.proofs.lemmas.List.Concat.{length-flat_map}
use Rattle.std.proofs.lemmas.List.Sums.{sum_by-cons}
use Rattle.outside.specs.Causes.{Contents}
use Rattle.st_base.specs.declared.sizes.TheConstants.{FILE_LIMIT}
use Rattle.aout_object.specs.Objects.{named_of, named_entry, file_of}
use Rattle.aout_object.specs.Objects.{Contents as Object}
use Rattle.aout_object.proofs.MakeLemmas.{length-file_of}
use Rattle.aout_link.specs.Sources.{Source}
use Rattle.aout_link.specs.NameTables.{entries_of}
use Rattle.file_commands.specs.declared.inputs.Cause.TheVariants as cause
use Rattle.file_commands.specs.declared.inputs.Inputs.{Inputs}
use Rattle.file_commands.specs.declared.inputs.Inputs.TheVariants.{All, Fault as Faulty, TooMuch, TooMany}
use Rattle.command_line.specs.declared.limits.TheConstants.{MOST_NAMES}
use Rattle.file_commands.specs.Inputs.{loaded_inputs, few_inputs, inputs_from, after_content, within_total}
use Rattle.file_commands.specs.InputObjects.{Each, Spells, IsSource}

-- ---- what is loaded is within the total

-- all contents that inputs come to have at most so many bytes together
abbrev pub IsWithin : ℕ → Inputs → Type 0
IsWithin total (All texts) = sum_by length texts ≤ total
IsWithin total other = Unit {0}

total_within : (total : ℕ) (texts : List (List ℕ)) → IsWithin total (within_total total texts)
total_within total texts = by (nat_lt total (sum_by length texts)) refl where
  by : (over : Bool) → nat_lt total (sum_by length texts) ≡ over → IsWithin total (if over then TooMuch else All texts)
  by true is = tt
  by false is = ltb-false total (sum_by length texts) is

long_within : (total at : ℕ) (inputs : Inputs) → IsWithin total inputs → (long : Bool) → IsWithin total (if long then Faulty at cause.Long else inputs)
long_within total at inputs all true = tt
long_within total at inputs all false = all

content_within : (total most at : ℕ) (next : List ℕ → Inputs) → ((text : List ℕ) → IsWithin total (next text)) → (held : Option (List ℕ)) → IsWithin total (after_content most at next held)
content_within total most at next all None = tt
content_within total most at next all (Some text) = long_within total at (next text) (all text) (nat_lt most (length text))

from_within : (m : Contents) (most total : ℕ) (texts : List (List ℕ)) (at : ℕ) (names : List (List ℕ)) → IsWithin total (inputs_from m most total texts at names)
from_within m most total texts at [] = total_within total texts
from_within m most total texts at (name ∷ names) =
    content_within total most at (λ text. inputs_from m most total (texts ++ text ∷ []) (at + 1) names)
    (λ text. from_within m most total (texts ++ text ∷ []) (at + 1) names) (get m name)

few_within : (total : ℕ) (inputs : Inputs) → IsWithin total inputs → (many : Bool) → IsWithin total (if many then TooMany else inputs)
few_within total inputs all true = tt
few_within total inputs all false = all

pub loaded_within : (m : Contents) (most total : ℕ) (names : List (List ℕ)) → IsWithin total (loaded_inputs m most total names)
loaded_within m most total names = few_within total (few_inputs m most total names) (from_within m most total [] 0 names) (nat_lt MOST_NAMES (length names))

-- ---- entries

-- an entry of a source takes twelve bytes of its file
source_few : (text : List ℕ) (object : Object) (s : Source) → Spells text object → IsSource object s → 12 * length s.named ≤ length text
source_few text object s spells is =
    let sum = length-file_of object in
    let size : length text ≡ length (file_of object) = ap length spells.1.sequence in
    let entries : length (named_of object) ≡ length object.entries = length-map object.entries (named_entry object.strings) in
    let named : length s.named ≡ length (named_of object) = ap length is.named in
    omega (arith, sum, size, entries, named)

sources_few : (texts : List (List ℕ)) (objects : List Object) (sources : List Source) → Each Spells texts objects → Each IsSource objects sources
    → 12 * sum_by (λ (s : Source). length s.named) sources ≤ sum_by length texts
sources_few [] [] [] p q = omega arith
sources_few [] [] (s ∷ sources) p q = absurd q
sources_few [] (object ∷ objects) sources p q = absurd p
sources_few (text ∷ texts) [] sources p q = absurd p
sources_few (text ∷ texts) (object ∷ objects) [] p q = absurd q
sources_few (text ∷ texts) (object ∷ objects) (s ∷ sources) p q =
    let one = source_few text object s p.0 q.0 in
    let rest = sources_few texts objects sources p.1 q.1 in
    let bytes = sum_by-cons {X = List ℕ} length text texts in
    let entries = sum_by-cons {X = Source} (λ (z : Source). length z.named) s sources in
    omega (arith, one, rest, bytes, entries)

-- so they are fewer than 2^32
pub few_entries : (texts : List (List ℕ)) (objects : List Object) (sources : List Source) → sum_by length texts ≤ FILE_LIMIT → Each Spells texts objects → Each IsSource objects sources
    → length (entries_of sources) < 2 ^ 32
few_entries texts objects sources within p q =
    let each = sources_few texts objects sources p q in
    let all : length (entries_of sources) ≡ sum_by (λ (s : Source). length s.named) sources = length-flat_map (λ (s : Source). s.named) sources in
    omega (arith, within, each, all)
