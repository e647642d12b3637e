-- A list of entries has no more units than entries.
use Rattle.std.proofs.Common.{◌≤◌, ℕ, suc, ◌+◌, List, [], ◌∷◌, length, arith, lit≤}
use Rattle.nlist_codec.specs.declared.named.Named.{Named}
use Rattle.unit_outlines.specs.declared.kinds.SourceMark.{SourceMark}
use Rattle.unit_outlines.specs.declared.kinds.SourceMark.TheVariants.{Directory, Start, Stop, NoMark}
use Rattle.unit_outlines.specs.declared.outline_types.UnitSpan.{UnitSpan}
use Rattle.unit_outlines.specs.EntryWords.{next}
use Rattle.unit_outlines.specs.Marks.{mark_at}
use Rattle.unit_outlines.specs.Outlines.{units_from, units_of, span_at, span_step, directory_of}

-- an entry begins one unit at most
one_more : (mark : SourceMark) (span : UnitSpan) (more : List UnitSpan) (n : ℕ) → length more ≤ n → length (span_step mark span more) ≤ suc n
one_more Directory span more n few = omega (arith, few)
one_more Start span more n few = omega (arith, few)
one_more Stop span more n few = omega (arith, few)
one_more NoMark span more n few = omega (arith, few)

few_from : (end : ℕ) (directory : List ℕ) (p : ℕ) (entries : List Named) → length (units_from end directory p entries) ≤ length entries
few_from end directory p [] = lit≤ tt
few_from end directory p (e ∷ es) =
    one_more (mark_at e (next es)) (span_at end directory p e es) (units_from end (directory_of (mark_at e (next es)) e.name) (p + 1) es) (length es)
    (few_from end (directory_of (mark_at e (next es)) e.name) (p + 1) es)

-- no more units than entries
pub few_spans : (end : ℕ) (entries : List Named) → length (units_of end entries) ≤ length entries
few_spans end entries = few_from end [] 0 entries
