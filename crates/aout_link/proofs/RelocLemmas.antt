-- One relocation more.
use Rattle.std.proofs.Common.{◌≡◌, ℕ, ◌+◌, ◌<◌, Bool, List, length, drop, get_or, Option, Some, None, refl, sym, ap, ◌∙◌, arith}
use Rattle.std.specs.Prelude.{Ok, Err}
use Rattle.std.proofs.lemmas.List.{drop_more}
use Rattle.st_base.specs.Faults.{first_fault, unless, checked}
use Rattle.st_base.specs.declared.fault.Fault.{Fault}
use Rattle.reloc.specs.declared.reloc.Reloc.{Reloc}
use Rattle.reloc.specs.Sums.{applied}
use Rattle.aout_object.specs.Decoding.{fault_or}
use Rattle.aout_link.specs.Placing.{Frame, amount, relocated}
use Rattle.aout_link.specs.Refusals.{reloc_checks, relocs_fault}

-- where a call answers that all is well there is no fault
pub unless_ok : (o : Option Fault) (done : Unit {0}) → Ok done ≡ unless o tt → o ≡ None
unless_ok None done e = refl
unless_ok (Some f) done e = absurd (let h : Ok done ≡ Err f = e in cc)

module _ (big : Bool) (k first : ℕ) (f : Frame) (s t : List ℕ) (rs : List Reloc) (j : ℕ) (d : Reloc) (lt : j < length rs)
    (field : t ≡ applied big s (get_or rs j d) (amount f (get_or rs j d))) where
  -- the fault of all is that of those left
  pub fault_more : (done : Unit {0}) → Ok done ≡ checked (reloc_checks big k (first + j) f s (get_or rs j d)) tt
      → relocs_fault big k (first + (j + 1)) f t (drop (j + 1) rs) ≡ relocs_fault big k (first + j) f s (drop j rs)
  fault_more done e =
      let none = unless_ok (first_fault (reloc_checks big k (first + j) f s (get_or rs j d))) done e in
      let next : first + (j + 1) ≡ first + j + 1 = omega arith in
      ap (λ (i : ℕ). relocs_fault big k i f t (drop (j + 1) rs)) next
      ∙ ap (λ (x : List ℕ). relocs_fault big k (first + j + 1) f x (drop (j + 1) rs)) field
      ∙ sym (ap (λ (o : Option Fault). fault_or o (relocs_fault big k (first + j + 1) f (applied big s (get_or rs j d) (amount f (get_or rs j d))) (drop (j + 1) rs))) none)
      ∙ ap (relocs_fault big k (first + j) f s) (sym (drop_more rs j d lt))

  -- the segment of all is that of those left
  pub fields_more : relocated big f t (drop (j + 1) rs) ≡ relocated big f s (drop j rs)
  fields_more =
      ap (λ (x : List ℕ). relocated big f x (drop (j + 1) rs)) field ∙ ap (relocated big f s) (sym (drop_more rs j d lt))
