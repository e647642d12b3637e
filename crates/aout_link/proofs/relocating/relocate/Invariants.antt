use Rattle.std.proofs.Common.{◌≡◌, ◌+◌, drop}
use Rattle.aout_link.specs.Placing.{relocated}
use Rattle.aout_link.specs.Refusals.{relocs_fault}
use Rattle.aout_link.specs.contracts.relocating.relocate.{BIG-type}
use denote.Param.{number}
use Rattle.aout_link.proofs.relocating.relocate.Given as goal

abbrev pub invariant-loop-at : goal.invariant-loop-at
invariant-loop-at g l =
    let big = BIG-type (number g.row.BIG) in
    record {
      fault : relocs_fault big l.object (l.first + l.at) l.frame l.segment (drop l.at l.relocs)
          ≡ relocs_fault big l.object l.first l.frame l.initial.segment l.relocs;
      fields : relocated big l.frame l.segment (drop l.at l.relocs) ≡ relocated big l.frame l.initial.segment l.relocs;
    }
