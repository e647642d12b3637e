-- What one token does to a scan: where the item goes on, the rest behind it stays, the counts of what is open grow by at most one, and what
-- is left gets shorter.
use Rattle.std.proofs.Common.{◌≡◌, ◌≤◌, ℕ, suc, ◌+◌, List, ◌∷◌, length, Option, Some, None, refl, sym, ap, ◌∙◌, arith, subst}
use Rattle.c_tokens.specs.declared.kind.Kind.{Kind}
use Rattle.c_tokens.specs.Tokens.{Token}
use Rattle.c_items.specs.declared.role.Role.{Role}
use Rattle.c_items.specs.declared.state.State.{State}
use Rattle.c_items.specs.declared.state.Next.TheVariants.{Wrong, Done, Go}
use Rattle.c_items.specs.Acts.{Act}
use Rattle.c_items.specs.Ends.{behind}
use Rattle.c_tokens.specs.Pieces.{Takes}
use Rattle.c_items.specs.Steps.{Scanned, before, scan, step}
use Rattle.c_items.proofs.GrowLemmas.{Small, step_small}

-- an act in front changes nothing behind the item
pub behind_before : (a : Act) (v : Scanned) → behind (before a v) ≡ behind v
behind_before a None = refl
behind_before a (Some x) = refl

-- where the item goes on, the rest behind it is what it is from the next state on
pub scan_goes : (s s' : State) (a : Role) (t : Token) (ts us : List Token) (rest : Option (List Token)) → us ≡ t ∷ ts → step s t.0 ≡ Go a s'
    → behind (scan s us) ≡ rest → behind (scan s' ts) ≡ rest
scan_goes s s' a t ts us rest e h k =
    let same : behind (scan s us) ≡ behind (scan s' ts) = rw (e, h) (behind_before (a, t.1) (scan s' ts)) in
    sym same ∙ k

-- where the item ends, the rest is what is behind the token
pub scan_done : (s : State) (a : Role) (t : Token) (ts us : List Token) → us ≡ t ∷ ts → step s t.0 ≡ Done a → behind (scan s us) ≡ Some ts
scan_done s a t ts us e h = rw (e, h) refl

-- where no form allows the token, no item stands in front
pub scan_wrong : (s : State) (t : Token) (ts us : List Token) → us ≡ t ∷ ts → step s t.0 ≡ Wrong → behind (scan s us) ≡ None
scan_wrong s t ts us e h = rw (e, h) refl

-- a token opens at most one body and one block
pub goes_small : (s s' : State) (a : Role) (t : Kind) → step s t ≡ Go a s' → (s'.bodies ≤ s.bodies + 1) × (s'.blocks ≤ s.blocks + 1)
goes_small s s' a t e = subst (λ x. Small s.bodies s.blocks x) e (step_small s t)

-- so no more is open than tokens are read: what is open and what is left stay within all there are
pub room_goes : (s s' : State) (a : Role) (t : Token) (ts us : List Token) (n : ℕ) → us ≡ t ∷ ts → step s t.0 ≡ Go a s'
    → s.bodies + length us ≤ n → s.blocks + length us ≤ n → (s'.bodies + length ts ≤ n) × (s'.blocks + length ts ≤ n)
room_goes s s' a t ts us n e h in_bodies in_blocks =
    let small = goes_small s s' a t.0 h in
    let longer : length us ≡ suc (length ts) = ap (λ y. length y) e in
    (omega (arith, small.0, longer, in_bodies), omega (arith, small.1, longer, in_blocks))

-- a token that was taken stood in front
pub taken_token : (v : Option Token) (t : Token) (old new : List Token) → v ≡ Some t → Takes v old new → old ≡ t ∷ new
taken_token v t old new e takes = subst (λ y. Takes y old new) e takes
