-- The ranges of objects one behind the other, object by object.
use Rattle.std.proofs.Common.{◌≡◌, ℕ, ◌+◌, ◌<◌, ◌≤◌, List, [], ◌∷◌, ◌++◌, length, get_or, drop, suc, refl, sym, ap, subst, ◌∙◌, add-one, append-nil, append_assoc, drop-cons}
use Rattle.std.proofs.Math.ListN.{drop_of_length-le}
use Rattle.bincl_match.specs.Ranges.{AreFound}
use Rattle.bincl_match.specs.declared.range.RangeOf.{RangeOf}
use Rattle.aout_link.specs.Gathering.{AreAllFound}
use Rattle.aout_link.specs.Sources.{Source, text_end}

-- with those of the objects that are left, from this place on, whatever they are, these are those of all
abbrev pub AreAllWith : List Source → ℕ → List RangeOf → Type 0
AreAllWith os at out = (more : List RangeOf) → AreAllFound (drop at os) more → AreAllFound os (out ++ more)

-- the objects from one on are that one and those behind it
from_one : (os : List Source) (at : ℕ) (o : Source) → at < length os → o ≡ get_or os at o → drop at os ≡ o ∷ drop (at + 1) os
from_one os at o within is =
    drop-cons os at o within ∙ ap (λ (x : Source). x ∷ drop (suc at) os) (sym is) ∙ ap (λ (n : ℕ). o ∷ drop n os) (sym (add-one at))

-- the ranges of one more object are put behind those that are there
pub one_more : (os : List Source) (at : ℕ) (o : Source) (out own next : List RangeOf) → at < length os → o ≡ get_or os at o → next ≡ out ++ own → AreFound (text_end o) o.named own
    → AreAllWith os at out → AreAllWith os (at + 1) next
one_more os at o out own next within is put found so_far = λ more rest.
    let all : AreAllFound os (out ++ (own ++ more)) = so_far (own ++ more) (subst (λ (left : List Source). AreAllFound left (own ++ more)) (sym (from_one os at o within is)) (own, more, found, rest, refl)) in
    subst (AreAllFound os) (sym (append_assoc out own more) ∙ ap (λ (xs : List RangeOf). xs ++ more) (sym put)) all

-- where no object is left, they are those of all
pub none_left : (os : List Source) (at : ℕ) (out : List RangeOf) → length os ≤ at → AreAllWith os at out → AreAllFound os out
none_left os at out past so_far =
    subst (AreAllFound os) (append-nil out) (so_far [] (subst (λ (left : List Source). AreAllFound left []) (sym (drop_of_length-le os past)) refl))
