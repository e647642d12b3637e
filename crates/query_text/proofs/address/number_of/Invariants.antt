use Rattle.std.proofs.Common.{◌≡◌, ◌<◌, ◌^◌, drop}
use Rattle.query_text.specs.QueryWords.{digits_on}
use Rattle.query_text.proofs.address.number_of.Given as goal

-- the digits so far spell the value, and those to come go on from it
abbrev pub invariant-loop-digit : goal.invariant-loop-digit
invariant-loop-digit l = record {
  same : digits_on l.value (drop l.digit-index l.digits) ≡ digits_on 0 l.digits;
  low : l.value < 16 ^ l.digit-index;
}
