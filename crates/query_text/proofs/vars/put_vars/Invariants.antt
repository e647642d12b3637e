use Rattle.std.proofs.Common.{◌≡◌, ◌++◌, drop}
use Rattle.query_text.specs.Externals.{look}
use Rattle.query_text.specs.Vars.{vars_text}
use Rattle.query_text.proofs.vars.put_vars.Given as goal

-- the lines so far and those still to come are all lines
abbrev pub invariant-loop-place : goal.invariant-loop-place
invariant-loop-place l =
    l.out ++ vars_text (look l.values) l.body (drop l.place-index l.places) ≡ l.initial.out ++ vars_text (look l.values) l.body l.places
