use Rattle.std.proofs.Common.{◌≡◌, drop}
use Rattle.command_line.specs.Commands as spec
use Rattle.command_line.proofs.command.asked_of.Given as goal

-- the forms from here on make of the words what all of them make
abbrev pub invariant-loop-form : goal.invariant-loop-form
invariant-loop-form l = spec.asked_from (drop l.form-index l.forms) l.words l.furthest ≡ spec.asked_from l.forms l.words 0
