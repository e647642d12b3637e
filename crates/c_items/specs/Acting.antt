-- The walk over an item's tokens: an actor is handed each act, until it refuses one.
use Rattle.std.specs.Prelude.{◌≡◌, List, [], ◌∷◌, Result, Ok, Err}
use Rattle.st_base.specs.declared.fault.Fault.{Fault}
use Rattle.st_base.specs.declared.fault.Refused.{Refused}
use Rattle.st_base.specs.declared.fault.Refused.TheVariants as refused
use Rattle.c_items.specs.declared.role.Role.{Role}
use Rattle.c_items.specs.declared.state.State.{State}
use Rattle.c_items.specs.declared.state.Next.{Next}
use Rattle.c_items.specs.declared.state.Next.TheVariants.{Wrong, Done, Go}
use Rattle.c_tokens.specs.Tokens.{Info, Token}
use Rattle.c_items.specs.Acts.{Act}
use Rattle.c_items.specs.Steps.{step}

-- what is done next, unless there is a fault already
abbrev pub on_ok : {A : Type 0} → Result A Fault → (A → Result A Fault) → Result A Fault
on_ok (Ok x) f = f x
on_ok (Err e) f = Err e

-- the acts carried out one after another, up to the first fault; `act` says what one of them makes of a value
abbrev pub all_acted : {A : Type 0} → (Role → Info → A → Result A Fault) → List Act → A → Result A Fault
all_acted act [] w = Ok w
all_acted act (a ∷ ws) w = on_ok (act a.0 a.1 w) (λ w'. all_acted act ws w')

-- the acts from a token on, if `on` gives those behind it from the next state on
abbrev pub acts_on : Next → Info → (State → List Act) → List Act
acts_on Wrong i on = []
acts_on (Done a) i on = (a, i) ∷ []
acts_on (Go a s) i on = (a, i) ∷ on s

-- the acts of tokens from a state on, to the end of the item
abbrev pub acts_from : State → List Token → List Act
acts_from s [] = []
acts_from s (t ∷ ts) = acts_on (step s t.0) t.1 (λ s'. acts_from s' ts)

-- the call did what was to be done and left `new`, or told its fault, or was out of memory
abbrev pub Did : {A X : Type 0} → Result A Fault → A → Result X Refused → Type 0
Did done new (Ok x) = done ≡ Ok new
Did done new (Err refused.Memory) = Unit {0}
Did done new (Err (refused.At fault)) = done ≡ Err fault
