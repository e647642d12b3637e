use Rattle.std.proofs.Common.{◌≡◌, ◌++◌, ◌≤◌, length, take, drop}
use Rattle.std.specs.List.{flat_map}
use Rattle.st_base.specs.Shown.{shown_byte}
use Rattle.st_base.proofs.shown.show_each.Given as goal

-- what was shown and what is still to be shown make the whole
abbrev pub invariant-loop-byte : goal.invariant-loop-byte
invariant-loop-byte l = record {
  start : take l.before l.out ≡ l.initial.out;
  within : l.before ≤ length l.out;
  told : l.out ++ flat_map shown_byte (drop l.byte-index l.bytes) ≡ l.initial.out ++ flat_map shown_byte l.bytes;
}
