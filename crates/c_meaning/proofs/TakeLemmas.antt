-- What a walk that ended says of the item.
use Rattle.std.proofs.Common.{◌≡◌, [], Result, Ok, Err, ap, sym, ◌∙◌}
use Rattle.st_base.specs.declared.fault.Fault.{Fault}
use Rattle.c_units.specs.declared.draft.Draft.{Draft}
use Rattle.st_base.specs.declared.fault.Refused.{Refused}
use Rattle.st_base.specs.declared.fault.Refused.TheVariants.{At, Memory}
use Rattle.c_items.specs.Trees.{Item}
use Rattle.c_items.specs.Acts.{item_acts}
use Rattle.c_items.specs.Acting.{Did, all_acted}
use Rattle.c_types.specs.Acts.{on_ok, Answers}
use Rattle.c_meaning.specs.declared.walk.Walk.{Walk}
use Rattle.c_meaning.specs.Meaning.{of_item}
use Rattle.c_meaning.specs.Walking.{act, ready, done}
use Rattle.c_meaning.proofs.WalkLemmas.{item_acted}

-- a walk that came to its end has the draft of the item
taken : (v : Result Draft Fault) (w : Walk) → on_ok v done ≡ Ok w → v ≡ Ok w.draft
taken (Ok d) w e = let h : ready d [] ≡ w = cc in ap (λ (z : Walk). Ok z.draft) h
taken (Err f) w e = absurd (cc)

-- and one that was refused its fault
refused : (v : Result Draft Fault) (f : Fault) → on_ok v done ≡ Err f → v ≡ Err f
refused (Ok d) f e = absurd (cc)
refused (Err g) f e = let h : g ≡ f = cc in ap Err h

-- the acts of an item, from the start of the walk
abbrev acted : Item → Walk → Result Walk Fault
acted it start = all_acted act (item_acts it) start

from_start : (it : Item) (u : Draft) (start : Walk) → start ≡ ready u [] → acted it start ≡ on_ok (of_item it u) done
from_start it u start e = ap (acted it) e ∙ item_acted it u

-- the draft that is handed back
pub taken_by : (it : Item) (u : Draft) (start w : Walk) (d : Draft) → start ≡ ready u [] → acted it start ≡ Ok w → d ≡ w.draft → of_item it u ≡ Ok d
taken_by it u start w d e is draft = taken (of_item it u) w (sym (from_start it u start e) ∙ is) ∙ ap Ok (sym draft)

-- the fault that is told
pub refused_by : (X : Type 0) (it : Item) (u : Draft) (start w : Walk) (r : Refused) → start ≡ ready u [] → Did {X = X} (acted it start) w (Err r) → Answers {X = Draft} (of_item it u) (Err r)
refused_by X it u start w Memory e is = tt
refused_by X it u start w (At f) e is = refused (of_item it u) f (sym (from_start it u start e) ∙ is)
