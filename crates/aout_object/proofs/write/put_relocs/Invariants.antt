use Rattle.std.proofs.Common.{◌≡◌, ◌++◌, drop}
use Rattle.std.specs.List.{AllByRecursion}
use Rattle.aout_object.specs.Objects.{IsReloc, relocs_bytes}
use Rattle.aout_object.specs.contracts.write.put_relocs.{BIG-type}
use denote.Param.{number}
use Rattle.aout_object.proofs.write.put_relocs.Given as goal

-- what was put and what is left make the whole, and what is left can be written
abbrev pub invariant-loop-reloc : goal.invariant-loop-reloc
invariant-loop-reloc g l =
    let big = BIG-type (number g.row.BIG) in
    record {
      whole : l.out ++ relocs_bytes big (drop l.reloc-index l.relocs) ≡ l.initial.out ++ relocs_bytes big l.relocs;
      left : AllByRecursion IsReloc (drop l.reloc-index l.relocs);
    }
