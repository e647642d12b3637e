use Rattle.std.proofs.Common.{◌≡◌, take}
use Rattle.std.specs.Prelude.{All}
use Rattle.nlist_codec.specs.Entries.{EntryFits}
use Rattle.strtab.specs.Names.{first_uses}
use Rattle.aout_object.specs.Making.{entries_for, names_of}
use Rattle.aout_object.proofs.make.add_entries.Given as goal

-- the names so far are in the table, and the entries so far have the offsets that their names have in the end
abbrev pub invariant-loop-entry : goal.invariant-loop-entry
invariant-loop-entry l = record {
  names : l.builder ≡ first_uses (names_of (take l.entry-index l.named));
  entries : l.entries ≡ entries_for (first_uses (names_of l.named)) (take l.entry-index l.named);
  fits : All EntryFits l.entries;
}
