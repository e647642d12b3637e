use Rattle.std.proofs.Common.{◌≡◌, [], Err, length, ap, arith}
use Rattle.st_base.specs.declared.fault.Refused.{Refused}
use Rattle.stab_units.proofs.StopLemmas.{spans_fault}
use Rattle.bincl_match.proofs.SpanLemmas.{few_spans}
use Rattle.bincl_match.proofs.LawLemmas.{found_are}
use Rattle.bincl_match.proofs.reading.span_ranges.Goals as goal

-- no more units than entries
pub read_spans-requires-clause-count : goal.read_spans-requires-clause-count
read_spans-requires-clause-count g c =
    let e = ap length c.requires.outlined in
    let f = few_spans c.args.text_end [] 0 c.args.entries.now in omega arith

-- what was read
pub returns-in-Ok-clause-found : goal.returns-in-Ok-clause-found
returns-in-Ok-clause-found g c = found_are c.args.text_end c.args.entries.now c.args.spans.now c.in-Ok.ranges c.requires.no_fault c.requires.outlined c.in-Ok.ensures.found

-- the fault of the string that is told with its steps
pub returns-in-Err-clause-refused : goal.returns-in-Err-clause-refused
returns-in-Err-clause-refused g c = λ f is.
    let same : c.in-Err.refusal ≡ Refused.At f = cc in
    spans_fault c.args.entries.now c.args.spans.now f _ _ (c.in-Err.ensures.stopped f (ap Err same))
