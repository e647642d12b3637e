use Rattle.std.proofs.Common.{◌≡◌, ◌+◌, ◌<◌, ◌%◌, ◌^◌, false, drop}
use Rattle.std.specs.Prelude.{sum}
use Rattle.bincl_match.specs.HeaderSums.{without_files}
use Rattle.bincl_match.proofs.sums.with_bytes.Given as goal

-- the sum so far, with the bytes that are left, gives the whole sum
abbrev pub invariant-loop-byte : goal.invariant-loop-byte
invariant-loop-byte l = record {
  small : l.total < 2 ^ 32;
  whole : (l.total + sum (without_files l.behind (drop l.byte-index l.bytes))) % 2 ^ 32 ≡ (l.start + sum (without_files false l.bytes)) % 2 ^ 32;
}
