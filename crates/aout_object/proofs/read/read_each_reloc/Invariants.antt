use Rattle.std.proofs.Common.{◌≡◌, ◌+◌, take, drop}
use Rattle.std.specs.Prelude.{map}
use Rattle.reloc.specs.Relocs.{reloc_of}
use Rattle.aout_object.specs.Decoding.{relocs_fault}
use Rattle.aout_object.specs.contracts.read.read_each_reloc.{BIG-type}
use denote.Param.{number}
use Rattle.aout_object.proofs.read.read_each_reloc.Given as goal

-- the relocations of the pieces so far, none of which has a fault
abbrev pub invariant-loop-piece : goal.invariant-loop-piece
invariant-loop-piece g l =
    let big = BIG-type (number g.row.BIG) in
    record {
      place : l.place ≡ l.first + l.piece-index;
      read : l.relocs ≡ map (reloc_of big) (take l.piece-index l.pieces);
      rest : relocs_fault big l.place (drop l.piece-index l.pieces) ≡ relocs_fault big l.first l.pieces;
    }
