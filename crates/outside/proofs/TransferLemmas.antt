-- What reads, two writes, or a write and a flush, one after the other come to in the known bytes.
use Rattle.std.proofs.Common.{◌≡◌, ℕ, ◌+◌, ◌-◌, ◌≤◌, List, [], ◌++◌, length, take, drop, Option, Some, None, ap, sym, ◌∙◌, append_assoc, append-nil, length-append, length-drop, arith}
use Rattle.std.specs.Io.KnownBytes.{Appends, Consumes, Keeps}
use Rattle.std.proofs.lemmas.List.{take-append-drop, take_all}
use Rattle.outside.specs.declared.files.Loaded.{Loaded}
use Rattle.outside.specs.declared.transfer.Step.TheVariants as step
use Rattle.outside.specs.declared.transfer.Stop.{Stop}
use Rattle.outside.specs.declared.transfer.Stop.TheVariants as stop
use Rattle.outside.specs.Transfer.{AppendsFront, ReadsOnce, ReadsWhole, stopped, TakesAtMost}

-- ---- reads

-- a read that fails took nothing
pub TakesAtMost-keep : (limit : ℕ) (old new : Option (List ℕ)) → Keeps old new → TakesAtMost limit old new
TakesAtMost-keep limit None new kept = ([], omega arith, tt)
TakesAtMost-keep limit (Some xs) None kept = absurd kept
TakesAtMost-keep limit (Some xs) (Some ys) kept = ([], omega arith, sym kept)

-- one more read takes at most so many bytes more
pub TakesAtMost-more : (limit room : ℕ) (old between new : Option (List ℕ)) (text : List ℕ) → Consumes old between text → TakesAtMost room between new → length text + room ≤ limit → TakesAtMost limit old new
TakesAtMost-more limit room None between new text read more within = ([], omega arith, tt)
TakesAtMost-more limit room (Some xs) None new text read more within = absurd read
TakesAtMost-more limit room (Some xs) (Some ys) None text read more within = absurd more.2
TakesAtMost-more limit room (Some xs) (Some ys) (Some zs) text read more within =
    (text ++ more.0, omega (arith, length-append text more.0, more.1), read ∙ ap (λ (t : List ℕ). text ++ t) more.2 ∙ sym (append_assoc text more.0 zs))

-- a read that fails leaves what was taken before it
pub TakesAtMost-failed : (limit : ℕ) (old between new : Option (List ℕ)) (text : List ℕ) → Consumes old between text → Keeps between new → length text ≤ limit → TakesAtMost limit old new
TakesAtMost-failed limit None between new text read kept within = ([], omega arith, tt)
TakesAtMost-failed limit (Some xs) None new text read kept within = absurd read
TakesAtMost-failed limit (Some xs) (Some ys) None text read kept within = absurd kept
TakesAtMost-failed limit (Some xs) (Some ys) (Some zs) text read kept within =
    (text, within, read ∙ ap (λ (t : List ℕ). text ++ t) (sym kept))

-- a load whose reading stops answers that it failed only where at most so many bytes were read
pub ReadsWhole-stopped : (most room : ℕ) (old between new : Option (List ℕ)) (text after : List ℕ) (why : Stop) (answer : Loaded) → answer ≡ stopped why
    → Consumes old between text → ReadsOnce between new text after room (step.Stops why) → length text ≤ most → ReadsWhole old new most answer
ReadsWhole-stopped most room old between new text after stop.Failed answer is read once within = rw is (TakesAtMost-failed most old between new text read once.1 within)
ReadsWhole-stopped most room old between new text after stop.Memory answer is read once within = rw is tt

pub ruleset takes = (TakesAtMost-keep)

-- ---- writes

-- two writes append what both took
pub Appends-more : (old between new : Option (List ℕ)) (front next : List ℕ) → Appends old between front → Appends between new next → Appends old new (front ++ next)
Appends-more None between new front next first then = tt
Appends-more (Some xs) None new front next first then = absurd first
Appends-more (Some xs) (Some ys) None front next first then = absurd then
Appends-more (Some xs) (Some ys) (Some zs) front next first then =
    then ∙ ap (λ (t : List ℕ). t ++ next) first ∙ append_assoc xs front next

-- what was written, what is written next, and what is left behind it make the bytes
pub rest-more : (bytes front rest : List ℕ) (count left : ℕ) → bytes ≡ front ++ rest → left ≡ length rest - count → bytes ≡ (front ++ take count rest) ++ take left (drop count rest)
rest-more bytes front rest count left whole is =
    let all : take left (drop count rest) ≡ drop count rest = take_all left (drop count rest) (omega (arith, length-drop count rest, is)) in
    whole ∙ ap (λ (t : List ℕ). front ++ t) (sym (take-append-drop count rest)) ∙ sym (append_assoc front (take count rest) (drop count rest))
    ∙ ap (λ (t : List ℕ). (front ++ take count rest) ++ t) (sym all)

-- what keeps the bytes behind a write leaves what was appended
pub Appends-keep : (old between new : Option (List ℕ)) (bytes : List ℕ) → Appends old between bytes → Keeps between new → Appends old new bytes
Appends-keep None between new bytes write kept = tt
Appends-keep (Some xs) None new bytes write kept = absurd write
Appends-keep (Some xs) (Some ys) None bytes write kept = absurd kept
Appends-keep (Some xs) (Some ys) (Some zs) bytes write kept = kept ∙ write

-- all bytes are a front of them
pub AppendsFront-keep : (old between new : Option (List ℕ)) (bytes : List ℕ) → Appends old between bytes → Keeps between new → AppendsFront old new bytes
AppendsFront-keep old between new bytes write kept = (bytes, [], sym (append-nil bytes), Appends-keep old between new bytes write kept)

pub ruleset keeps = (Appends-keep, AppendsFront-keep)
