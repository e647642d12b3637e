use Rattle.std.proofs.Common.{ℕ, Bool, []}
use Rattle.stab_units.specs.Units.{stabs_from}
use Rattle.bincl_match.specs.Owning.{is_ready_in}
use Rattle.bincl_match.proofs.owning.own_ready.Goals as goal

-- what the whole walk tells
pub returns : goal.returns
returns c = λ p.
    let all : ℕ → Bool = λ file. is_ready_in file (stabs_from [] p c.args.rest.now) in
    let walked = c.in_ok-walk.ensures all c.args.files (c.in_ok-owners.ensures.start p c.args.rest.now) in
    record { count = walked.count; each = walked.each }
