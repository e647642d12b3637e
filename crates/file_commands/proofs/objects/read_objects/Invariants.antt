use Rattle.std.proofs.Common.{◌≡◌, ◌++◌, ℕ, List, length}
use Rattle.std.specs.Vec.Iter.{into_iter_items, into_iter_len}
use Rattle.st_base.specs.declared.fault.Fault.{Fault}
use Rattle.aout_object.specs.Objects.{Contents as Object}
use Rattle.file_commands.specs.InputObjects.{Each, FirstFault, Spells, SpellsNone}
use Rattle.file_commands.proofs.objects.read_objects.Given as goal

-- what the texts from here on come to is, behind the objects so far, what all texts come to
abbrev pub invariant-loop-text : goal.invariant-loop-text
invariant-loop-text l = record {
  counted : into_iter_len l.text-iterator ≡ length (into_iter_items l.text-iterator);
  all : (rest : List Object) → Each Spells (into_iter_items l.text-iterator) rest → Each Spells l.fn.texts (l.objects ++ rest);
  first : (place : ℕ) (f : Fault) → FirstFault Spells SpellsNone (length l.objects) (into_iter_items l.text-iterator) place f
      → FirstFault Spells SpellsNone 0 l.fn.texts place f;
}
