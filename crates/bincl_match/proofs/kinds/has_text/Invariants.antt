use Rattle.std.proofs.Common.{◌≡◌, drop}
use Rattle.unit_outlines.specs.EntryWords.{is_empty}
use Rattle.unit_outlines.specs.Runs.{joined}
use Rattle.bincl_match.proofs.kinds.has_text.Given as goal

-- the entries so far have no byte
abbrev pub invariant-loop-at : goal.invariant-loop-at
invariant-loop-at l = is_empty (joined (drop l.at l.rest)) ≡ is_empty (joined l.rest)
