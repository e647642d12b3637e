use Rattle.std.proofs.Common.{◌≡◌, ◌≤◌, length, take, drop, Some}
use Rattle.outside.specs.Causes.{Contents}
use Rattle.file_commands.specs.Inputs.{inputs_from, loaded_inputs, HasCalled}
use Rattle.file_commands.proofs.inputs.load_all.Given as goal

-- what all names lead to is what the names from here on do, behind the texts so far; those before here were called
abbrev pub invariant-loop-at : goal.invariant-loop-at
invariant-loop-at g l = record {
  told : (m : Contents) → g.F.Files.held l.fn.files ≡ Some m → inputs_from m l.most l.total l.texts l.at (drop l.at l.names) ≡ loaded_inputs m l.most l.total l.names;
  counted : length l.texts ≡ l.at;
  held : g.F.Files.held l.files ≡ g.F.Files.held l.fn.files;
  stores : g.F.Files.store_faults l.files ≡ g.F.Files.store_faults l.fn.files;
  called : HasCalled l.most (take l.at l.names) (g.F.Files.calls l.fn.files) (g.F.Files.calls l.files);
  later : g.F.Files.load_faults l.fn.files ≤ g.F.Files.load_faults l.files;
}
