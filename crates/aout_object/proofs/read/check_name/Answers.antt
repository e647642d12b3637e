-- The end of names decides whether a zero byte is after the offset.
use Rattle.std.proofs.Common.{rules}
use Rattle.aout_object.proofs.EndLemmas.{end_fault-position}
use Rattle.aout_object.proofs.read.check_name.Goals as goal

pub returns-then-end-at : goal.returns-then-end-at
returns-then-end-at c = search (rules, end_fault-position c.args.strings.now c.args.end c.requires c.args.strx c.args.place)

pub returns : goal.returns
returns c = search (rules, end_fault-position c.args.strings.now c.args.end c.requires c.args.strx c.args.place)
