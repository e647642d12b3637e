use Rattle.std.proofs.Common.{◌≡◌, ◌++◌, drop}
use Rattle.query_text.specs.Externals.{look}
use Rattle.query_text.specs.ScopeText.{blocks_text}
use Rattle.query_text.proofs.scope_text.put_blocks.Given as goal

-- the lines so far and those still to come are all lines
abbrev pub invariant-loop-block : goal.invariant-loop-block
invariant-loop-block l =
    l.out ++ blocks_text (look l.values) l.body (drop l.block-index l.blocks) ≡ l.initial.out ++ blocks_text (look l.values) l.body l.blocks
