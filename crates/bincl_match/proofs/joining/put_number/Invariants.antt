use Rattle.std.proofs.Common.{◌≡◌, ◌++◌, drop, map}
use Rattle.bincl_match.proofs.joining.put_number.Given as goal

-- the numbers so far, and those of the headers that are left, are all
abbrev pub invariant-loop-header : goal.invariant-loop-header
invariant-loop-header l = l.out ++ map (λ h. l.number) (drop l._header-index l.headers) ≡ l.fn.out ++ map (λ h. l.number) l.headers
