use Rattle.std.proofs.Common.{arith}
use Rattle.stab_units.proofs.ReadingLemmas.{none_there, pushed}
use Rattle.stab_units.proofs.reader.push_symbol.Goals as goal

-- there is no such file
pub returns-then-len-file : goal.returns-then-len-file
returns-then-len-file c = none_there c.args.files.now c.args.file c.args.symbol (omega (arith, c.len.ensures, c.if-len-file.true))

-- the file is put back with the symbol
pub returns : goal.returns
returns c = pushed _ _ _ _ _ _ _ c.taken-held.ensures.was c.taken-held.ensures.left c.in_ok-push.ensures.ok c.replace-empty.ensures.new
