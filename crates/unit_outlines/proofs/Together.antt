-- Scans made apart and joined give the first fault of an outline.
use Rattle.std.proofs.Common.{◌≡◌, Option, List, [], ap, ◌∙◌, subst, sym}
use Rattle.st_base.specs.declared.fault.Fault.{Fault}
use Rattle.nlist_codec.specs.declared.named.Named.{Named}
use Rattle.unit_outlines.specs.declared.outline_types.Marks.{Marks}
use Rattle.unit_outlines.specs.Firsts.{sooner, first_told, smaller, Telling, IsTold}
use Rattle.unit_outlines.specs.Outlines.{outline_tell, OutlineFault}
use Rattle.unit_outlines.proofs.FirstLemmas.{sooner-smaller, first_of_all, one_first}

-- two scans are joined
pub joined_scans : {E : Type 0} (A B : Telling E) (es : List E) (a b f : Option Fault) → a ≡ first_told A [] 0 es → b ≡ first_told B [] 0 es → f ≡ sooner a b
    → f ≡ first_told (λ k e r. smaller (A k e r) (B k e r)) [] 0 es
joined_scans A B es a b f x y z = z ∙ ap (λ w. sooner w b) x ∙ ap (sooner (first_told A [] 0 es)) y ∙ sooner-smaller A B [] 0 es

-- the fault that the scans give is that of the outline
pub outline_first : (marks : Marks) (es : List Named) (f : Option Fault) → f ≡ first_told (outline_tell marks) [] 0 es → OutlineFault marks es f
outline_first marks es f is = subst (OutlineFault marks es) (sym is) (first_of_all (outline_tell marks) es)

-- an outline has a fault or none
pub some_outline : (marks : Marks) (es : List Named) → (f : Option Fault) × OutlineFault marks es f
some_outline marks es = (first_told (outline_tell marks) [] 0 es, first_of_all (outline_tell marks) es)

-- and one alone
pub one_fault : (marks : Marks) (es : List Named) (f g : Option Fault) → OutlineFault marks es f → OutlineFault marks es g → f ≡ g
one_fault marks es f g a b = one_first (IsTold (outline_tell marks) es) f g a b

-- the fault of a list that is handed on
pub same_fault : (marks : Marks) (es seen : List Named) (f g : Option Fault) → seen ≡ es → f ≡ g → OutlineFault marks seen f → OutlineFault marks es g
same_fault marks es seen f g same is was = subst (λ (z : List Named). OutlineFault marks z g) same (subst (OutlineFault marks seen) is was)
