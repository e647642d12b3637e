-- The places of the parts of a file: what is cut out at them stands in sequence, and what stands in sequence is cut out at them.
use Rattle.std.proofs.Common.{◌≡◌, ℕ, ◌+◌, ◌≤◌, List, ◌++◌, length, take, drop, sym, ap, ◌∙◌, arith, length-drop, take-append-drop}
use Rattle.std.proofs.lemmas.List.{length-take-le, take_at, drop_at, drop-drop}
use Rattle.aout_object.specs.Checks.{part}

-- ---- from places to a sequence

-- a part that lies in the file has its size
pub length-part : (bytes : List ℕ) (at size : ℕ) → at + size ≤ length bytes → length (part bytes at size) ≡ size
length-part bytes at size within = length-take-le size (drop at bytes) (let behind = length-drop at bytes in omega (arith, behind, within))

-- a part and what stands after it
pub part-then : (bytes : List ℕ) (at size : ℕ) (here rest : List ℕ) → here ≡ part bytes at size → drop (at + size) bytes ≡ rest → drop at bytes ≡ here ++ rest
part-then bytes at size here rest is behind =
    sym (take-append-drop size (drop at bytes))
    ∙ ap (λ (x : List ℕ). part bytes at size ++ x) (drop-drop size at bytes ∙ behind)
    ∙ ap (λ (x : List ℕ). x ++ rest) (sym is)

-- ---- from a sequence to places

-- the part that stands at a place
pub part-here : (bytes : List ℕ) (at size : ℕ) (here rest : List ℕ) → drop at bytes ≡ here ++ rest → length here ≡ size → part bytes at size ≡ here
part-here bytes at size here rest is length_is = ap (take size) is ∙ take_at here rest size length_is

-- what stands after it
pub drop-part : (bytes : List ℕ) (at size : ℕ) (here rest : List ℕ) → drop at bytes ≡ here ++ rest → length here ≡ size → drop (at + size) bytes ≡ rest
drop-part bytes at size here rest is length_is = sym (drop-drop size at bytes) ∙ ap (drop size) is ∙ drop_at here rest size length_is
