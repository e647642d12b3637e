use Rattle.std.proofs.Common.{◌≡◌, ◌≤◌, length, drop}
use Rattle.query_text.specs.Queries as spec
use Rattle.query_text.proofs.read.form_of.Given as goal

-- the forms from here on make of the words what all of them make
abbrev pub invariant-loop-keyword : goal.invariant-loop-keyword
invariant-loop-keyword l = record {
  same : spec.form_from (drop l.keyword-index l.keywords) l.words l.furthest ≡ spec.form_from l.keywords l.words 0;
  within : l.furthest ≤ length l.words;
}
