use Rattle.std.proofs.Common.{List, subst}
use Rattle.bincl_match.specs.declared.range.RangeOf.{RangeOf}
use Rattle.bincl_match.specs.Crowding.{AreCrowded}
use Rattle.bincl_match.proofs.ReadLemmas.{told_is}
use Rattle.bincl_match.proofs.reading.told.Goals as goal

-- flags that tell what is repeated
pub returns : goal.returns
returns c =
    told_is c.args.typed c.in_ok-ranges.ranges c.in_ok-flags.flags c.items-2.result.now
    (subst (λ (z : List RangeOf). AreCrowded z c.in_ok-flags.flags) c.items.ensures c.in_ok-flags.ensures) c.items-2.ensures c.in_ok-ranges.ensures
