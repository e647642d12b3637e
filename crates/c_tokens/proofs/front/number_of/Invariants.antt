use Rattle.std.proofs.Common.{◌≡◌, ◌≤◌, drop}
use Rattle.c_tokens.specs.Fronts.{number_after}
use Rattle.c_tokens.proofs.front.number_of.Given as goal

abbrev pub invariant-loop-digit : goal.invariant-loop-digit
invariant-loop-digit l = record {
  value : number_after l.number (drop l.digit-index l.digits) ≡ number_after 0 l.digits;
  small : l.number ≤ 2147483647;
}
