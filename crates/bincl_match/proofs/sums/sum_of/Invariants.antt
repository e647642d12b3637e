use Rattle.std.proofs.Common.{◌≡◌, ◌+◌, ◌<◌, ◌%◌, ◌^◌, drop}
use Rattle.std.specs.Prelude.{sum, flat_map}
use Rattle.bincl_match.specs.HeaderSums.{counted}
use Rattle.bincl_match.proofs.sums.sum_of.Given as goal

-- the sum so far, with the symbols that are left, gives the whole sum
abbrev pub invariant-loop-symbol : goal.invariant-loop-symbol
invariant-loop-symbol l = record {
  small : l.total < 2 ^ 32;
  whole : (l.total + sum (flat_map counted (drop l.symbol-index l.symbols))) % 2 ^ 32 ≡ sum (flat_map counted l.symbols) % 2 ^ 32;
}
