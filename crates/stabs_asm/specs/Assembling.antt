-- What a source assembles to: what its statements make, or the fault of its first line that does not parse.
use Rattle.std.specs.Prelude.{ℕ, List, Result, Ok, Err}
use Rattle.st_base.specs.Faults.{fault_at}
use Rattle.st_base.specs.declared.fault.Fault.{Fault}
use Rattle.st_base.specs.declared.fault.TheConstants.{LINE_SYNTAX}
use Rattle.st_base.specs.declared.order.Order.{Order}
use Rattle.aout_object.specs.Objects.{Contents}
use Rattle.asm_objects.specs.SourceMaking.{object_of}
use Rattle.asm_statements.specs.declared.statement.Statement.{Statement}

-- what is assembled of a source that is read so: the fault of its first line that does not parse, else what its statements make
abbrev pub assembled : Order → Result (List Statement) ℕ → Result Contents Fault
assembled order (Err line) = Err (fault_at LINE_SYNTAX line)
assembled order (Ok ss) = object_of order ss
