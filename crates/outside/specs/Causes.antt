-- What a call of files or of a sink may answer, and when: files hold contents by their names, a sink takes
-- bytes one after another, and each counts the calls that failed. This is this project's own.
--
-- An implementation may tell what it holds, as `Some` of it, or not, as `None`. Where it does not tell, an
-- answer is tied to the counts alone.
use Rattle.std.specs.Prelude.{◌≡◌, ◌≢◌, ℕ, ◌+◌, ◌-◌, ◌^◌, ◌≤◌, ◌<◌, min, List, ◌++◌, length, Option, Some, None}
use Rattle.std.specs.Ordering.{nat_cmp}
use Rattle.std.specs.Cmp.Lexicographic.{slice_cmp}
use Rattle.std.specs.FinMap.{FinMap, get, insert}
use Rattle.outside.specs.declared.files.Loaded.{Loaded}
use Rattle.outside.specs.declared.files.Loaded.TheVariants as loaded
use Rattle.outside.specs.declared.files.Stored.{Stored}
use Rattle.outside.specs.declared.files.Stored.TheVariants as stored
use Rattle.outside.specs.declared.sink.Put.{Put}
use Rattle.outside.specs.declared.sink.Put.TheVariants as put

-- ---- counts

-- the last value of a count, that of a u64
abbrev pub last_count : ℕ
last_count = 2 ^ 64 - 1

-- one more, except that a count stands still at its last value
abbrev pub next_count : ℕ → ℕ
next_count count = min (count + 1) last_count

-- a count went up, or stands at its last value
abbrev pub Rose : ℕ → ℕ → Type 0
Rose before now = next_count before ≤ now

-- ---- files

-- a finite map from names to contents
abbrev pub Contents : Type 0
Contents = FinMap (slice_cmp nat_cmp) (List ℕ)

-- when a load of this name for at most `most` bytes may answer so, from the contents and the count of failed
-- loads before and after it
abbrev pub Loads : Option Contents → ℕ → ℕ → List ℕ → ℕ → Loaded → Type 0
-- Bytes: the content, if contents are told; told or not, it has at most `most` bytes
Loads (Some held) before now name most (loaded.Bytes text) = (get held name ≡ Some text) × (length text ≤ most)
Loads None before now name most (loaded.Bytes text) = length text ≤ most
-- Absent: the name has no content; where contents are not told, the count rose
Loads (Some held) before now name most loaded.Absent = get held name ≡ None
Loads None before now name most loaded.Absent = Rose before now
-- Long: the content has more than `most` bytes
Loads (Some held) before now name most loaded.Long = (text : List ℕ) × (get held name ≡ Some text) × (most < length text)
Loads None before now name most loaded.Long = Unit {0}
-- Failed: the count rose
Loads told before now name most loaded.Failed = Rose before now
-- Memory: at any time
Loads told before now name most loaded.Memory = Unit {0}

-- the name of the last failed load after a load that answers so: a load that fails leaves its own name, and
-- so does one that finds no file where contents are not told
abbrev pub last_after : Option Contents → Option (List ℕ) → List ℕ → Loaded → Option (List ℕ)
last_after told last name loaded.Failed = Some name
last_after None last name loaded.Absent = Some name
last_after told last name answer = last

-- the new contents are told, and differ from the old ones at this name at most
abbrev pub OthersStay : Contents → List ℕ → Option Contents → Type 0
OthersStay held name None = ⊥
OthersStay held name (Some new) = (other : List ℕ) → other ≢ name → get new other ≡ get held other

-- what a store of these bytes under this name leaves where it answers so, and when it may: from the contents
-- before and after it, and the count of failed stores before and after it
abbrev pub Stores : Option Contents → Option Contents → ℕ → ℕ → List ℕ → List ℕ → Stored → Type 0
-- Done: the name holds the bytes, and all other contents stay
Stores (Some held) new before now name bytes stored.Done = new ≡ Some (insert held name bytes)
-- Failed: the count rose; all contents but that of this name stay
Stores (Some held) new before now name bytes stored.Failed = OthersStay held name new × Rose before now
-- Memory: nothing changed
Stores (Some held) new before now name bytes stored.Memory = new ≡ Some held
-- where contents are not told, they are not told afterwards
Stores None new before now name bytes stored.Failed = (new ≡ None) × Rose before now
Stores None new before now name bytes answer = new ≡ None

-- ---- sinks

-- what a put of these bytes leaves where it answers so, and when it may: from the bytes written before and
-- after it, and the count of failed puts before and after it
abbrev pub Puts : Option (List ℕ) → Option (List ℕ) → ℕ → ℕ → List ℕ → Put → Type 0
-- Done: the bytes are appended
Puts (Some written) new before now bytes put.Done = new ≡ Some (written ++ bytes)
-- Failed: the count rose; a front of the bytes is appended
Puts (Some written) new before now bytes put.Failed = ((front : List ℕ) × (back : List ℕ) × (bytes ≡ front ++ back) × (new ≡ Some (written ++ front))) × Rose before now
-- Memory: nothing changed
Puts (Some written) new before now bytes put.Memory = new ≡ Some written
-- where the bytes are not told, they are not told afterwards
Puts None new before now bytes put.Failed = (new ≡ None) × Rose before now
Puts None new before now bytes answer = new ≡ None
