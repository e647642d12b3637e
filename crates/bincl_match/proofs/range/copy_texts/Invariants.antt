use Rattle.std.proofs.Common.{◌≡◌, ◌++◌, drop}
use Rattle.bincl_match.proofs.range.copy_texts.Given as goal

-- those so far, and those that are left, are all
abbrev pub invariant-loop-text : goal.invariant-loop-text
invariant-loop-text l = l.copied ++ drop l.text-index l.texts ≡ l.fn.texts
