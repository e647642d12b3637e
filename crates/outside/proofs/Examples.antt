-- Worked values of what a call may answer, and of the calls that were made. The files hold the bytes 1 2 3 under the name `a`, and the sink
-- holds the byte 7.
use Rattle.std.proofs.Common.{◌≡◌, List, ℕ, [], ◌∷◌, ◌++◌, length, Option, Some, None, refl, ap, lit≤, lit<, ◌∙◌, arith, length-append}
use Rattle.std.specs.Prelude.{codes}
use Rattle.std.specs.Cmp.Lexicographic.{nat_list_cmp_total}
use Rattle.std.specs.FinMap.{get, insert, empty, get-insert, get-empty}
use Rattle.outside.specs.Calls.{Call, load_of, store_of, then_call, loads_of, stores_of}
use Rattle.outside.specs.Causes.{Contents, Rose, Loads, Stores, Puts, last_count, next_count, last_after}
use Rattle.outside.specs.declared.files.Loaded.TheVariants as loaded
use Rattle.outside.specs.declared.files.Stored.TheVariants as stored
use Rattle.outside.specs.declared.sink.Put.TheVariants as put
use Rattle.outside.specs.declared.transfer.Step.TheVariants as step
use Rattle.outside.specs.declared.transfer.Stop.TheVariants as stop
use Rattle.outside.specs.Transfer.{ReadsOnce, ReadsWhole, stopped}

abbrev a : List ℕ
a = codes "a"

abbrev b : List ℕ
b = codes "b"

abbrev bytes : List ℕ
bytes = 1 ∷ 2 ∷ 3 ∷ []

abbrev files : Contents
files = insert empty a bytes

has_a : get files a ≡ Some bytes
has_a = get-insert nat_list_cmp_total empty a bytes a

lacks_b : get files b ≡ None
lacks_b = get-insert nat_list_cmp_total empty a bytes b ∙ get-empty _ b

-- ---- counts

-- a count that stood at 4 rose where it is 5, and did not where it is 4
Rose-5 : Rose 4 5
Rose-5 = lit≤ tt

Rose-4 : ¬ (Rose 4 4)
Rose-4 rose = absurd (omega arith)

-- at its last value it stands still, and reads as one that rose
next_count-last : next_count last_count ≡ 18446744073709551615
next_count-last = refl

Rose-last : Rose last_count last_count
Rose-last = lit≤ tt

-- ---- loads

-- all three bytes, where three may come; they are long where two may
Loads-3 : Loads (Some files) 0 0 a 3 (loaded.Bytes bytes)
Loads-3 = (has_a, lit≤ tt)

Loads-2 : Loads (Some files) 0 0 a 2 loaded.Long
Loads-2 = (bytes, has_a, lit< tt)

-- `b` is absent; without told contents that is a failed load, and so is every other failure
Loads-b : Loads (Some files) 0 0 b 3 loaded.Absent
Loads-b = lacks_b

Loads-untold : ¬ (Loads None 0 0 b 3 loaded.Absent)
Loads-untold rose = absurd (omega arith)

Loads-failed : ¬ (Loads (Some files) 0 0 a 3 loaded.Failed)
Loads-failed rose = absurd (omega arith)

-- `a` is not absent
Loads-a : ¬ (Loads (Some files) 0 0 a 3 loaded.Absent)
Loads-a lacks = let held = has_a in cc

-- ---- the last failed load

last_after-told : last_after (Some files) (Some a) b loaded.Absent ≡ Some a
last_after-told = refl

last_after-untold : last_after None (Some a) b loaded.Absent ≡ Some b
last_after-untold = refl

-- ---- stores and puts

-- a store puts the bytes there; it fails only where the count of stores rose
Stores-done : Stores (Some empty) (Some files) 0 0 a bytes stored.Done
Stores-done = refl

Stores-failed : ¬ (Stores (Some empty) (Some empty) 0 0 a bytes stored.Failed)
Stores-failed failed = absurd (omega (arith, failed.1))

-- a put that fails may have appended the first of two bytes
Puts-failed : Puts (Some (7 ∷ [])) (Some (7 ∷ 8 ∷ [])) 0 1 (8 ∷ 9 ∷ []) put.Failed
Puts-failed = ((8 ∷ [], 9 ∷ [], refl, refl), lit≤ tt)

-- ---- calls

-- the loads of two names for at most 3 bytes each come in their order, and one that is called next stands at the end
loads_of-two : loads_of 3 (a ∷ b ∷ []) ≡ load_of a 3 ∷ load_of b 3 ∷ []
loads_of-two = refl

then_call-store : then_call (loads_of 3 (a ∷ [])) (store_of b) ≡ load_of a 3 ∷ store_of b ∷ []
then_call-store = refl

-- two stores are not the stores of one name or none
stores_of-two : (name : Option (List ℕ)) → ¬ (stores_of name ≡ store_of a ∷ store_of a ∷ [])
stores_of-two None e = absurd cc
stores_of-two (Some name) e = absurd cc

-- ---- reading to the end

-- out of memory is told as such
stopped-memory : stopped stop.Memory ≡ loaded.Memory
stopped-memory = refl

-- a read that fails took nothing of what was left
ReadsOnce-failed : ReadsOnce (Some bytes) (Some bytes) a a 3 (step.Stops stop.Failed)
ReadsOnce-failed = (refl, refl)

ReadsOnce-took : ¬ (ReadsOnce (Some bytes) (Some []) a a 3 (step.Stops stop.Failed))
ReadsOnce-took failed = let kept : [] ≡ bytes = failed.1 in absurd cc

-- a load for at most two bytes may fail behind two of three bytes, and not behind all three
ReadsWhole-failed : ReadsWhole (Some bytes) (Some (3 ∷ [])) 2 loaded.Failed
ReadsWhole-failed = (1 ∷ 2 ∷ [], lit≤ tt, refl)

ReadsWhole-took : ¬ (ReadsWhole (Some bytes) (Some []) 2 loaded.Failed)
ReadsWhole-took failed =
    let all : bytes ≡ failed.0 ++ [] = failed.2 in
    let size : 3 ≡ length (failed.0 ++ []) = ap (λ (l : List ℕ). length l) all in
    let same = length-append failed.0 [] in
    absurd (omega (arith, failed.1, size, same))
