use Rattle.std.proofs.Common.{◌≡◌, ℕ, List, drop}
use Rattle.std.specs.Option.{option_or}
use Rattle.query_text.specs.Externals.{look, external_value}
use Rattle.query_text.proofs.external.by_name.Given as goal

-- the map, or else the externals still to come, have what all of them have
abbrev pub invariant-loop-external : goal.invariant-loop-external
invariant-loop-external l =
    (name : List ℕ) → option_or (look l.values name) (external_value (drop l.external-index l.externals) name) ≡ external_value l.externals name
