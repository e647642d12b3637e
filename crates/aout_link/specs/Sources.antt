-- The inputs of a link: objects whose entries have been named, and have units.
use Rattle.std.specs.Prelude.{ℕ, ◌≢◌, ◌+◌, ◌<◌, ◌≤◌, ◌^◌, List, IsTrue, length, All}
use Rattle.std.specs.List.{AllByRecursion}
use Rattle.nlist_codec.specs.declared.named.Named.{Named}
use Rattle.aout_layout.specs.declared.header.TheConstants.{TWO_ORDERS}
use Rattle.aout_object.specs.declared.parts.Parts.{Parts}
use Rattle.aout_object.specs.Objects.{Contents, is_accepted_kind}
use Rattle.aout_object.specs.Making.{HasWholeName}
use Rattle.stab_units.specs.declared.unit.Unit.{Unit}
use Rattle.stab_units.specs.ObjectUnits.{AreUnits}

-- an object to be linked as it was given, its segments with their relocations, and its entries with their names, in order
pub record Source : Type 0 where
  pub object : Contents
  pub parts : Parts
  pub named : List Named

-- an entry is of an accepted kind
abbrev pub HasAcceptedKind : Named → Type 0
HasAcceptedKind n = IsTrue (is_accepted_kind n.kind)

-- what holds of each object that a file can spell: its addresses are below 2 ^ 32, its relocations have fields of at most four bytes, its
-- names hold no zero byte, its kinds are accepted, and its machine word tells the byte order
pub record IsLawful (o : Source) : Type 0 where
  pub address : o.parts.entry + length o.parts.text + length o.parts.data_part + o.parts.bss < 2 ^ 32
  pub text_relocs : All (λ r. r.length ≤ 2) o.parts.text_relocs
  pub data_relocs : All (λ r. r.length ≤ 2) o.parts.data_relocs
  pub few_text : length o.parts.text_relocs < 2 ^ 32
  pub few_data : length o.parts.data_relocs < 2 ^ 32
  pub names : AllByRecursion HasWholeName o.named
  pub kinds : AllByRecursion HasAcceptedKind o.named
  pub machine : o.parts.machine ≢ TWO_ORDERS

-- where the text of an object ends
abbrev pub text_end : Source → ℕ
text_end o = o.parts.entry + length o.parts.text

-- the entries of an object have units
abbrev pub HasUnits : Source → Type 0
HasUnits o = (units : List Unit) × AreUnits (text_end o) o.named units
