-- A list that is gone through from its front: what is left comes to something or has a fault, and so the whole does.
use Rattle.std.proofs.Common.{◌≡◌, ◌≤◌, ℕ, ◌+◌, List, [], ◌∷◌, ◌++◌, length, drop, Some, None, inr, suc, refl, sym, ap, subst, ◌∙◌, append-nil, append_assoc, arith}
use Rattle.std.proofs.lemmas.List.{length-append}
use Rattle.std.specs.Vec.Iter.{into_iter_items, into_iter_len, into_iter_steps}
use Rattle.std.specs.declared.vec.IntoIter.{IntoIter}
use Rattle.std.proofs.Math.ListN.{drop_of_length-le}
use Rattle.st_base.specs.declared.fault.Fault.{Fault}
use Rattle.file_commands.specs.InputObjects.{Each, FirstFault}

-- where nothing is left, all have come to what there is
pub each_done : {A B : Type 0} (Holds : A → B → Type 0) (xs left : List A) (ys : List B) → left ≡ [] → ((rest : List B) → Each Holds left rest → Each Holds xs (ys ++ rest)) → Each Holds xs ys
each_done {A} {B} Holds xs left ys none all =
    subst (λ (z : List B). Each Holds xs z) (append-nil ys) (all [] (subst (λ (z : List A). Each Holds z []) (sym none) tt))

-- behind the last place nothing is left
pub none_left : {A : Type 0} (xs : List A) (at : ℕ) → length xs ≤ at → drop at xs ≡ []
none_left xs at past = drop_of_length-le xs past

-- where one more has come to something, what is left is without it
pub each_more : {A B : Type 0} (Holds : A → B → Type 0) (xs left rest : List A) (ys next : List B) (x : A) (y : B) → left ≡ x ∷ rest → next ≡ ys ++ y ∷ [] → Holds x y
    → ((more : List B) → Each Holds left more → Each Holds xs (ys ++ more)) → (more : List B) → Each Holds rest more → Each Holds xs (next ++ more)
each_more {A} {B} Holds xs left rest ys next x y split is holds all more h =
    let whole : Each Holds xs (ys ++ y ∷ more) = all (y ∷ more) (subst (λ (z : List A). Each Holds z (y ∷ more)) (sym split) (holds, h)) in
    subst (λ (z : List B). Each Holds xs (z ++ more)) (sym is) (subst (λ (z : List B). Each Holds xs z) (sym (append_assoc ys (y ∷ []) more)) whole)

-- and the first fault of what is left is the first of all
pub first_more : {A B : Type 0} (Holds : A → B → Type 0) (Fails : A → Fault → Type 0) (xs left rest : List A) (ys next : List B) (x : A) (y : B) → left ≡ x ∷ rest → next ≡ ys ++ y ∷ [] → Holds x y
    → ((place : ℕ) (f : Fault) → FirstFault Holds Fails (length ys) left place f → FirstFault Holds Fails 0 xs place f)
    → (place : ℕ) (f : Fault) → FirstFault Holds Fails (length next) rest place f → FirstFault Holds Fails 0 xs place f
first_more {A} {B} Holds Fails xs left rest ys next x y split is holds first place f h =
    let longer : length next ≡ length ys + 1 = ap (λ (z : List B). length z) is ∙ length-append ys (y ∷ []) in
    first place f (subst (λ (z : List A). FirstFault Holds Fails (length ys) z place f) (sym split)
    (inr (((y, holds), subst (λ (n : ℕ). FirstFault Holds Fails n rest place f) longer h))))

-- an item that is taken out of a list, and what is left
pub taken : {X Z : Type 0} (before behind : IntoIter X Z) (x : X) → into_iter_steps before (Some x) behind → into_iter_items before ≡ x ∷ into_iter_items behind
taken before behind x steps = steps.0

-- where none is taken, none was left
pub none_taken : {X Z : Type 0} (before behind : IntoIter X Z) → into_iter_len before ≡ length (into_iter_items before) → into_iter_steps before None behind → into_iter_items before ≡ []
none_taken before behind counted steps = length-zero (into_iter_items before) (sym counted ∙ steps.0) where
  length-zero : {X : Type 0} (xs : List X) → length xs ≡ 0 → xs ≡ []
  length-zero [] e = refl
  length-zero (x ∷ xs) e = absurd cc

-- what is left is counted
pub counted_on : {X Z : Type 0} (before behind : IntoIter X Z) (x : X) → into_iter_len before ≡ length (into_iter_items before) → into_iter_steps before (Some x) behind → into_iter_len behind ≡ length (into_iter_items behind)
counted_on {X} before behind x counted steps =
    let one : length (into_iter_items before) ≡ suc (length (into_iter_items behind)) = ap (λ (z : List X). length z) steps.0 in
    let two = steps.1 in
    omega (arith, one, two, counted)
