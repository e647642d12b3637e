-- An entry begins one unit, or none. The marks themselves are those of sample entries, since `stab_units` keeps their type to itself.
use Rattle.std.proofs.Common.{◌≡◌, ℕ, ◌⊎◌, ◌&&◌, inl, inr, Bool, true, false, cond, Option, Some, None, refl, List, [], ◌∷◌}
use Rattle.std.specs.Prelude.{◌==◌}
use Rattle.stab_codes.specs.declared.code.TheConstants.{N_SO}
use Rattle.nlist_codec.specs.declared.named.Named.{Named}
use Rattle.unit_outlines.specs.declared.outline_types.UnitSpan.{UnitSpan}
use Rattle.unit_outlines.specs.EntryWords.{is_empty, ends_in}
use Rattle.unit_outlines.specs.Marks.{mark_at, names_source}
use Rattle.unit_outlines.specs.Outlines.{span_step}

-- an entry of this kind and name
abbrev sample : ℕ → List ℕ → Named
sample kind name = record { kind = kind; other = 0; desc = 0; value = 0; name = name }

-- `a` starts a unit, `a/` before it is a directory mark, and an N_SO without a name is a stop
by_tests : (a b c : Bool) (span : UnitSpan) (more : List UnitSpan)
    → (span_step (cond a (cond b (mark_at (sample N_SO []) None) (cond c (mark_at (sample N_SO (97 ∷ 47 ∷ [])) (Some (sample N_SO (97 ∷ [])))) (mark_at (sample N_SO (97 ∷ [])) None)))
    (mark_at (sample 0 []) None)) span more ≡ more)
    ⊎ (span_step (cond a (cond b (mark_at (sample N_SO []) None) (cond c (mark_at (sample N_SO (97 ∷ 47 ∷ [])) (Some (sample N_SO (97 ∷ [])))) (mark_at (sample N_SO (97 ∷ [])) None)))
    (mark_at (sample 0 []) None)) span more ≡ span ∷ more)
by_tests true true c span more = inl refl
by_tests true false true span more = inl refl
by_tests true false false span more = inr refl
by_tests false b c span more = inl refl

pub step_cases : (e : Named) (behind : Option Named) (span : UnitSpan) (more : List UnitSpan)
    → (span_step (mark_at e behind) span more ≡ more) ⊎ (span_step (mark_at e behind) span more ≡ span ∷ more)
step_cases e behind span more = by_tests (e.kind == N_SO) (is_empty e.name) (ends_in 47 e.name && names_source behind) span more
