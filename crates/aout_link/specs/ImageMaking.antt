-- The object that is made of what is placed. After a.out(5): the entry word is where text begins. That an image keeps no relocations is
-- this project's own.
use Rattle.std.specs.Prelude.{◌≢◌, ◌+◌, ◌≤◌, [], ◌∷◌, length, Option}
use Rattle.std.specs.List.{AllByRecursion}
use Rattle.st_base.specs.Faults.{first_fault}
use Rattle.st_base.specs.declared.fault.Fault.{Fault}
use Rattle.st_base.specs.declared.sizes.TheConstants.{GREATEST_ADDRESS}
use Rattle.aout_layout.specs.declared.header.TheConstants.{TWO_ORDERS}
use Rattle.aout_object.specs.declared.parts.Parts.{Parts}
use Rattle.aout_object.specs.Objects.{Contents, file_of}
use Rattle.aout_object.specs.Making.{HasWholeName, made, size_check}
use Rattle.aout_link.specs.Sources.{HasAcceptedKind}
use Rattle.aout_link.specs.declared.placed.Placed.{Placed}

-- what is placed can be written, but for its size: no name holds a zero byte, kinds are accepted, the end of bss is an address, and
-- the machine word tells the byte order
pub record CanBeMade (p : Placed) : Type 0 where
  pub names : AllByRecursion HasWholeName p.named
  pub kinds : AllByRecursion HasAcceptedKind p.named
  pub addresses : p.entry + length p.text + length p.data_part + p.bss ≤ GREATEST_ADDRESS
  pub machine : p.machine ≢ TWO_ORDERS

-- the parts of the object of what is placed
abbrev pub parts_of : Placed → Parts
parts_of p = record {
  order = p.order;
  machine = p.machine;
  bss = p.bss;
  entry = p.entry;
  text = p.text;
  data_part = p.data_part;
  text_relocs = [];
  data_relocs = [];
}

-- the object of what is placed
abbrev pub image_of : Placed → Contents
image_of p = made (parts_of p) p.named

-- the fault where its file is larger than the size limit
abbrev pub size_fault : Placed → Option Fault
size_fault p = first_fault (size_check (length (file_of (image_of p))) ∷ [])
