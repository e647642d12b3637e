use Rattle.std.proofs.Common.{◌≡◌, take}
use Rattle.std.specs.Prelude.{map}
use Rattle.nlist_codec.specs.Entries.{entry_of}
use Rattle.nlist_codec.specs.contracts.entries.read_each.{BIG-type}
use denote.Param.{number}
use Rattle.nlist_codec.proofs.entries.read_each.Given as goal

-- the entries of the pieces so far
abbrev pub invariant-loop-piece : goal.invariant-loop-piece
invariant-loop-piece g l = l.entries ≡ map (entry_of (BIG-type (number g.row.BIG))) (take l.piece-index l.pieces)
