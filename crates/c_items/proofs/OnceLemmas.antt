-- What a scan says of the items in front of tokens: one stands there exactly where something is found, and it has one end and one list of
-- acts.
use Rattle.std.proofs.Common.{◌≡◌, ◌<◌, suc, List, [], ◌∷◌, length, Some, None, refl, sym, ap, ◌∙◌, arith}
use Rattle.c_tokens.specs.Tokens.{Token}
use Rattle.c_items.specs.Trees as tree
use Rattle.c_items.specs.Trees.{Item, BeginsWith}
use Rattle.c_items.specs.Acts.{Act, item_acts}
use Rattle.c_items.specs.Ends.{behind}
use Rattle.c_items.specs.declared.state.State.{State}
use Rattle.c_items.specs.declared.state.Next.{Next}
use Rattle.c_items.specs.declared.state.Next.TheVariants.{Wrong, Done, Go}
use Rattle.c_items.specs.Steps.{Scanned, onward, scan, start, step}
use Rattle.c_items.proofs.EndLemmas.{behind_before}
use Rattle.c_items.proofs.TakenLemmas.{item_taken}
use Rattle.c_items.proofs.FoundLemmas.{item_found}

-- these acts and this rest were found
abbrev scanned : List Act → List Token → Scanned
scanned ws us = Some (ws, us)

-- the rest that was found, or the given tokens
abbrev rest_of : List Token → Scanned → List Token
rest_of d None = d
rest_of d (Some x) = x.1

-- the acts that were found, or the given ones
abbrev acts_of : List Act → Scanned → List Act
acts_of d None = d
acts_of d (Some x) = x.0

-- what the scan of tokens with an item in front finds
scan_is : (ts us : List Token) (it : Item) → BeginsWith ts it us → scan start ts ≡ scanned (item_acts it) us
scan_is ts us it e = ap (λ y. scan start y) e ∙ item_taken it us

-- what is in front of the rest is an item
pub item_stands : (ts us : List Token) → behind (scan start ts) ≡ Some us → (it : Item) × BeginsWith ts it us
item_stands ts us e = by (scan start ts) refl e
  where
    by : (v : Scanned) → scan start ts ≡ v → behind v ≡ Some us → (it : Item) × BeginsWith ts it us
    by None h e = absurd cc
    by (Some x) h e =
        let k : x.1 ≡ us = cc in
        item_found ts us x.0 (h ∙ ap (λ y. scanned x.0 y) k)

-- where nothing is found, no item stands in front
pub none_stands : (ts : List Token) → behind (scan start ts) ≡ None → (it : Item) (us : List Token) → BeginsWith ts it us → ⊥
none_stands ts e it us h =
    let l : behind (scan start ts) ≡ Some us = ap (λ y. behind y) (scan_is ts us it h) in
    cc

-- an item has one end
pub one_end : (ts us vs : List Token) (it jt : Item) → BeginsWith ts it us → BeginsWith ts jt vs → us ≡ vs
one_end ts us vs it jt e h = ap (λ y. rest_of us y) (sym (scan_is ts us it e) ∙ scan_is ts vs jt h)

-- an item has one list of acts
pub one_acts : (ts us vs : List Token) (it jt : Item) → BeginsWith ts it us → BeginsWith ts jt vs → item_acts it ≡ item_acts jt
one_acts ts us vs it jt e h = ap (λ y. acts_of [] y) (sym (scan_is ts us it e) ∙ scan_is ts vs jt h)

-- what is found is the acts of an item, and the tokens behind it
pub found_acts : (ts us : List Token) (ws : List Act) → scan start ts ≡ Some (ws, us) → (it : Item) × BeginsWith ts it us × (ws ≡ item_acts it)
found_acts ts us ws e =
    let it = item_found ts us ws e in
    (it.0, it.1, ap (λ y. acts_of [] y) (sym e ∙ scan_is ts us it.0 it.1))

-- an item has a token at least
pub behind_shorter : (ts us : List Token) (s : State) → behind (scan s ts) ≡ Some us → length us < length ts
behind_shorter [] us s e = absurd cc
behind_shorter (t ∷ ts) us s e = by (step s t.0) (λ s' h. behind_shorter ts us s' h) e
  where
    by : (n : Next) → ((s' : State) → behind (scan s' ts) ≡ Some us → length us < length ts)
        → behind (onward n t.1 ts (λ s'. scan s' ts)) ≡ Some us → length us < suc (length ts)
    by Wrong shorter h = absurd cc
    by (Done a) shorter h =
        let same : ts ≡ us = cc in
        rw same (omega arith)
    by (Go a s') shorter h = omega (arith, shorter s' (sym (behind_before (a, t.1) (scan s' ts)) ∙ h))

-- so the tokens behind an item are fewer than those from it on
pub item_shorter : (it : Item) (us : List Token) → length us < length (tree.item it us)
item_shorter it us = behind_shorter (tree.item it us) us start (ap (λ y. behind y) (item_taken it us))
