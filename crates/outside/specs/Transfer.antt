-- What reading to the end and writing to the end come to, in the bytes that a reader has left and that a
-- writer holds, where these are known.
use Rattle.std.specs.Prelude.{◌≡◌, ℕ, ◌≤◌, ◌<◌, List, [], ◌++◌, length, Option, IfSome}
use Rattle.std.specs.Io.KnownBytes.{Appends, Consumes, Keeps}
use Rattle.outside.specs.declared.files.Loaded.{Loaded}
use Rattle.outside.specs.declared.files.Loaded.TheVariants as loaded
use Rattle.outside.specs.declared.transfer.Step.{Step}
use Rattle.outside.specs.declared.transfer.Step.TheVariants as step
use Rattle.outside.specs.declared.transfer.Stop.{Stop}
use Rattle.outside.specs.declared.transfer.Stop.TheVariants as stop

-- at most so many bytes were taken from the reader
abbrev pub TakesAtMost : ℕ → Option (List ℕ) → Option (List ℕ) → Type 0
TakesAtMost limit left now = (piece : List ℕ) × (length piece ≤ limit) × Consumes left now piece

-- what one read of at most `room` bytes leaves, in the bytes left and in the text
abbrev pub ReadsOnce : Option (List ℕ) → Option (List ℕ) → List ℕ → List ℕ → ℕ → Step → Type 0
-- More: a piece was read, which is not empty, and the text has grown by it
ReadsOnce left now old new room step.More = (piece : List ℕ) × (new ≡ old ++ piece) × (0 < length piece) × (length piece ≤ room) × Consumes left now piece
-- End: nothing was left, and the text stays
ReadsOnce left now old new room step.End = (new ≡ old) × IfSome left (λ bytes. bytes ≡ [])
-- Failed: nothing was read, and the text stays
ReadsOnce left now old new room (step.Stops stop.Failed) = (new ≡ old) × Keeps left now
-- Memory: a piece was read, which is not empty, and the text stays
ReadsOnce left now old new room (step.Stops stop.Memory) = (piece : List ℕ) × (new ≡ old) × (0 < length piece) × (length piece ≤ room) × Consumes left now piece

-- the answer of a load whose reading stops
abbrev pub stopped : Stop → Loaded
stopped stop.Failed = loaded.Failed
stopped stop.Memory = loaded.Memory

-- what reading to the end gives for at most `most` bytes, in the bytes left before and after it:
-- Bytes are all that was left, and at most `most`; Long comes where more was left; Absent never comes;
-- Failed comes where at most `most` bytes were read, since a read that fails gives none; Memory at any time
abbrev pub ReadsWhole : Option (List ℕ) → Option (List ℕ) → ℕ → Loaded → Type 0
ReadsWhole left now most (loaded.Bytes text) = IfSome left (λ bytes. text ≡ bytes) × (length text ≤ most)
ReadsWhole left now most loaded.Absent = ⊥
ReadsWhole left now most loaded.Long = IfSome left (λ bytes. most < length bytes)
ReadsWhole left now most loaded.Failed = TakesAtMost most left now
ReadsWhole left now most loaded.Memory = Unit {0}

-- a front of these bytes was appended
abbrev pub AppendsFront : Option (List ℕ) → Option (List ℕ) → List ℕ → Type 0
AppendsFront old new bytes = (front : List ℕ) × (back : List ℕ) × (bytes ≡ front ++ back) × Appends old new front
