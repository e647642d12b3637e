-- What statements make: parts and entries by the meaning of each, and the object of these; or the first fault.
use Rattle.std.specs.Prelude.{ℕ, max, List, ◌++◌, map, Option, Some, None, Result, Err}
use Rattle.st_base.specs.ByteOrder.{is_big}
use Rattle.st_base.specs.Faults.{first_fault, unless}
use Rattle.st_base.specs.declared.fault.Fault.{Fault}
use Rattle.st_base.specs.declared.order.Order.{Order}
use Rattle.nlist_codec.specs.declared.named.Named.{Named}
use Rattle.aout_object.specs.Objects.{Contents}
use Rattle.aout_object.specs.Making.{made, make_checks}
use Rattle.aout_object.specs.declared.parts.Parts.{Parts}
use Rattle.asm_objects.specs.Layout.{start, each, table_of}
use Rattle.asm_objects.specs.Meaning.{bytes_in, if_in, reloc_part, relocs_in, entries_in, undefined_entry, undefined_of, first_fault_of}
use Rattle.asm_statements.specs.declared.statement.Part.TheVariants as part
use Rattle.asm_statements.specs.declared.statement.Statement.{Statement}
use Rattle.asm_objects.specs.declared.table.Table.{Table}

-- the parts that statements give, by the table of their source and its undefined names
abbrev pub parts_by : Order → Table → List (List ℕ) → List Statement → Parts
parts_by order t undefined ss = record {
  order = order;
  machine = t.machine;
  bss = max t.bsize t.end.bss;
  entry = t.entry;
  text = each (λ p w. if_in part.Text p.part (bytes_in (is_big order) t p w)) start ss;
  data_part = each (λ p w. if_in part.Data p.part (bytes_in (is_big order) t p w)) start ss;
  text_relocs = each (λ p w. if_in part.Text (reloc_part p w) (relocs_in t undefined p w)) start ss;
  data_relocs = each (λ p w. if_in part.Data (reloc_part p w) (relocs_in t undefined p w)) start ss;
}

-- the entries in the order of their statements, then those of undefined names
abbrev pub entries_by : Table → List (List ℕ) → List Statement → List Named
entries_by t undefined ss = each (entries_in t) start ss ++ map undefined_entry undefined

abbrev pub parts_of : Order → List Statement → Parts
parts_of order ss = parts_by order (table_of ss) (undefined_of (table_of ss) ss) ss

abbrev pub entries_of : List Statement → List Named
entries_of ss = entries_by (table_of ss) (undefined_of (table_of ss) ss) ss

-- the fault of a statement, else that of an object of these parts and entries, else the object
abbrev pub object_by : Option Fault → Parts → List Named → Result Contents Fault
object_by (Some fault) parts entries = Err fault
object_by None parts entries = unless (first_fault (make_checks parts entries)) (made parts entries)

-- what statements make
abbrev pub object_of : Order → List Statement → Result Contents Fault
object_of order ss = object_by (first_fault_of ss) (parts_of order ss) (entries_of ss)
