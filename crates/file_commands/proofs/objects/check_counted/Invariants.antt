use Rattle.std.proofs.Common.{◌≡◌, ◌++◌, ℕ, List, length}
use Rattle.std.specs.Vec.Iter.{into_iter_items, into_iter_len}
use Rattle.st_base.specs.declared.fault.Fault.{Fault}
use Rattle.aout_link.specs.Sources.{Source}
use Rattle.file_commands.specs.InputObjects.{Each, FirstFault, IsSource, HasNoUnits}
use Rattle.file_commands.proofs.objects.check_counted.Given as goal

-- what the objects from here on come to is, behind the sources so far, what all objects come to
abbrev pub invariant-loop-object : goal.invariant-loop-object
invariant-loop-object g l = record {
  counted : into_iter_len l.object-iterator ≡ length (into_iter_items l.object-iterator);
  all : (rest : List Source) → Each IsSource (into_iter_items l.object-iterator) rest → Each IsSource l.fn.objects (l.sources ++ rest);
  first : (place : ℕ) (f : Fault) → FirstFault IsSource HasNoUnits (length l.sources) (into_iter_items l.object-iterator) place f
      → FirstFault IsSource HasNoUnits 0 l.fn.objects place f;
}
