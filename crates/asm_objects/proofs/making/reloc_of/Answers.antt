use Rattle.std.proofs.Common.{◌^◌, arith}
use Rattle.std.specs.Str.{bytes_eq}
use Rattle.asm_objects.proofs.LeftLemmas.{common_found}
use Rattle.asm_objects.proofs.making.reloc_of.Goals as goal

pub reloc_by-requires-in-Named-clause-common : goal.reloc_by-requires-in-Named-clause-common
reloc_by-requires-in-Named-clause-common c =
    rw c.get-definition.ensures (common_found c.args.table.now.end.entries (2 ^ 24) (bytes_eq c.bytes.result.now) c.args.table.now.names c.requires.within.commons (omega (arith, c.requires.within.entries)))
