use Rattle.std.proofs.Common.{◌≡◌, ◌++◌, ◌+◌, drop}
use Rattle.file_commands.specs.Dump as spec
use Rattle.file_commands.proofs.dump.put_relocs.Given as goal

-- the lines so far and those still to come are all lines
abbrev pub invariant-loop-reloc : goal.invariant-loop-reloc
invariant-loop-reloc l = record {
  lines : l.out ++ spec.relocs_text l.segment l.number (drop l.reloc-index l.relocs) ≡ l.initial.out ++ spec.relocs_text l.segment l.first l.relocs;
  number : l.number ≡ l.first + l.reloc-index;
}
