-- The header ranges of objects, one behind the other. Contracts of private functions alone use this word.
use Rattle.std.specs.Prelude.{◌≡◌, List, [], ◌∷◌, ◌++◌}
use Rattle.bincl_match.specs.Ranges.{AreFound}
use Rattle.bincl_match.specs.declared.range.RangeOf.{RangeOf}
use Rattle.aout_link.specs.Sources.{Source, text_end}

-- these are the ranges of all objects in order, those of each as they are found in it
abbrev pub AreAllFound : List Source → List RangeOf → Type 0
AreAllFound [] ranges = ranges ≡ []
AreAllFound (o ∷ os) ranges = (own : List RangeOf) × (rest : List RangeOf) × AreFound (text_end o) o.named own × AreAllFound os rest × (ranges ≡ own ++ rest)
