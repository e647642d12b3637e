use Rattle.std.proofs.Common.{arith}
use Rattle.readers.proofs.WholeNumbers.{found_of, none_of}
use Rattle.readers.proofs.whole.whole_number.Goals as goal

pub returns-clause-found : goal.returns-clause-found
returns-clause-found c = found_of c.args.limit c.requires (omega arith) c.args.bytes.now c.read_whole.result c.read_whole.ensures

pub returns-clause-none : goal.returns-clause-none
returns-clause-none c = none_of c.args.limit c.requires (omega arith) c.args.bytes.now c.read_whole.result c.read_whole.ensures
