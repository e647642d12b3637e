-- What the walk over tokens reads: what a scan finds, token by token, and so the acts of the item in front.
use Rattle.std.proofs.Common.{◌≡◌, List, [], ◌∷◌, Result, Ok, Some, None, refl, sym, ap, ◌∙◌}
use Rattle.c_items.specs.declared.role.Role.{Role}
use Rattle.c_items.specs.declared.state.State.{State}
use Rattle.c_items.specs.declared.state.Next.{Next}
use Rattle.c_items.specs.declared.state.Next.TheVariants.{Wrong, Done, Go}
use Rattle.st_base.specs.declared.fault.Fault.{Fault}
use Rattle.c_tokens.specs.Tokens.{Info, Token}
use Rattle.c_items.specs.Trees as tree
use Rattle.c_items.specs.Trees.{Item}
use Rattle.c_items.specs.Steps.{Scanned, before, onward, scan, start, step}
use Rattle.c_items.specs.Acting.{all_acted, acts_from, acts_on}
use Rattle.c_items.specs.Acts.{Act, item_acts}
use Rattle.c_items.proofs.TakenLemmas.{item_taken}

-- where a token is carried out and the item goes on, what is left is carried out from the next state on
pub acts_go : {A : Type 0} (act : Role → Info → A → Result A Fault) (s s' : State) (a : Role) (t : Token) (ts us : List Token) (w w' : A) (all : Result A Fault)
    → us ≡ t ∷ ts → step s t.0 ≡ Go a s' → act a t.1 w ≡ Ok w' → all_acted act (acts_from s us) w ≡ all → all_acted act (acts_from s' ts) w' ≡ all
acts_go act s s' a t ts us w w' all e h m k =
    let same : all_acted act (acts_from s us) w ≡ all_acted act (acts_from s' ts) w' = rw (e, h, m) refl in
    sym same ∙ k

-- what was scanned is what the second walk reads
abbrev acts_of : Scanned → List Act → Type 0
acts_of None ws = Unit {0}
acts_of (Some x) ws = ws ≡ x.0

-- one token: what was scanned with it is what the walk reads
same_step : (n : Next) (i : Info) (ts : List Token) → ((s : State) → acts_of (scan s ts) (acts_from s ts)) → acts_of (onward n i ts (λ s. scan s ts)) (acts_on n i (λ s. acts_from s ts))
same_step Wrong i ts h = tt
same_step (Done a) i ts h = refl
same_step (Go a s) i ts h = by (scan s ts) (h s)
  where
    by : (v : Scanned) → acts_of v (acts_from s ts) → acts_of (before (a, i) v) ((a, i) ∷ acts_from s ts)
    by None k = tt
    by (Some x) k = ap (λ y. (a, i) ∷ y) k

-- what was scanned from a state on is what the walk reads from there
same_acts : (ts : List Token) (s : State) → acts_of (scan s ts) (acts_from s ts)
same_acts [] s = tt
same_acts (t ∷ ts) s = same_step (step s t.0) t.1 ts (λ s'. same_acts ts s')

-- the acts that were scanned, or none
abbrev front : Scanned → List Act
front None = []
front (Some x) = x.0

-- the second walk over an item reads the item's acts
pub item_acts_from : (it : Item) (us : List Token) → acts_from start (tree.item it us) ≡ item_acts it
item_acts_from it us = by (scan start (tree.item it us)) (item_taken it us) (same_acts (tree.item it us) start)
  where
    by : (v : Scanned) → v ≡ Some (item_acts it, us) → acts_of v (acts_from start (tree.item it us)) → acts_from start (tree.item it us) ≡ item_acts it
    by None e k = absurd cc
    by (Some x) e k = k ∙ ap (λ v. front v) e
