-- The faults of a text that should spell a value, by the fronts of spellings alone. This project's own.
-- A text has at most one fault at each place, and the first is reported. Nothing here says how a text is read.
use Rattle.std.specs.Prelude.{◌≡◌, ℕ, suc, ◌+◌, ◌-◌, ◌<◌, ◌≤◌, List, ◌++◌, length, take, get_or}
use Rattle.readers.specs.declared.fault.TextFault.{TextFault}
use Rattle.readers.specs.declared.fault.TextFault.TheVariants.{Byte, End, Deep}
use Rattle.readers.specs.declared.fault.Unread.{Unread}
use Rattle.readers.specs.declared.fault.Unread.TheVariants as unread
use Rattle.readers.specs.declared.stop.Stop.{Stop}
use Rattle.readers.specs.declared.stop.Stop.TheVariants as stop
use Rattle.readers.specs.declared.stop.Refusal.{Refusal}
use Rattle.readers.specs.declared.stop.Refusal.TheVariants as refusal
use Rattle.readers.specs.Spelling.{Form, Begun}

-- the first p + 1 bytes are the front of a spelling in which a node of depth n + 1 begins at p
pub record TooDeep {A : Type 0} (n : ℕ) (F : Form A) (text : List ℕ) (p : ℕ) : Type 0 where
  pub within : p < length text
  pub whole : A
  pub is_shaped : F.shaped whole
  pub more : List ℕ
  pub spelled : F.print whole ≡ take (p + 1) text ++ more
  pub opens : get_or (F.depths whole) p 0 ≡ suc n

-- the first p bytes are the front of a spelling, and the first p + 1 are the front of none
abbrev pub BadByte : {A : Type 0} → Form A → List ℕ → ℕ → Type 0
BadByte F text p = (p < length text) × Begun F.print F.shaped (take p text) × (Begun F.print F.shaped (take (p + 1) text) → ⊥)

-- the text ends at p; it is the front of a spelling, and is no spelling
abbrev pub TooShort : {A : Type 0} → Form A → List ℕ → ℕ → Type 0
TooShort {A = A} F text p = (p ≡ length text) × Begun F.print F.shaped text × ((a : A) → F.shaped a → F.print a ≡ text → ⊥)

-- the text has the fault, where values may be n deep
abbrev pub HasFault : {A : Type 0} → ℕ → Form A → List ℕ → TextFault → Type 0
HasFault n F text (Byte p) = BadByte F text p
HasFault n F text (End p) = TooShort F text p
HasFault n F text (Deep p) = TooDeep n F text p

-- where the fault is, counted from 0
abbrev pub place_of : TextFault → ℕ
place_of (Byte p) = p
place_of (End p) = p
place_of (Deep p) = p

-- the fault of the text with the least place
abbrev pub IsFirstFault : {A : Type 0} → ℕ → Form A → List ℕ → TextFault → Type 0
IsFirstFault n F text f = HasFault n F text f × ((g : TextFault) → HasFault n F text g → place_of f ≤ place_of g)

-- ---- from bytes that are left to places

-- the fault of a text of `all` bytes whose reading stops so
abbrev pub placed : ℕ → Stop → TextFault
placed all (stop.Bad left) = Byte (all - left)
placed all stop.End = End all
placed all (stop.Deep left) = Deep (all - left)

-- the refusal, with the fault's place in a text of `all` bytes
abbrev pub told : ℕ → Refusal → Unread
told all refusal.Memory = unread.Memory
told all (refusal.At s) = unread.At (placed all s)

-- no more bytes are left than there are
abbrev pub LeavesWithin : ℕ → Refusal → Type 0
LeavesWithin all refusal.Memory = Unit {0}
LeavesWithin all (refusal.At (stop.Bad left)) = left ≤ all
LeavesWithin all (refusal.At stop.End) = Unit {0}
LeavesWithin all (refusal.At (stop.Deep left)) = left ≤ all
