use Rattle.std.proofs.Common.{◌∙◌, false}
use Rattle.reloc.specs.declared.reloc.Reloc.{Reloc}
use Rattle.aout_link.specs.contracts.relocating.relocate.{BIG-type}
use denote.Param.{number}
use Rattle.aout_link.proofs.RelocLemmas.{fault_more, fields_more}
use Rattle.aout_link.proofs.relocating.relocate.Goals as goal

-- what an element past the end reads as
abbrev none : Reloc
none = record { address = 0; symbol = 0; pcrel = false; length = 0; external = false }

pub loop-at-preserved : goal.loop-at-preserved
loop-at-preserved g c =
    let big = BIG-type (number g.row.BIG) in
    record {
      fault = fault_more big c.args.object c.args.first c.args.frame.now c.loop-at.segment c.relocate_one.new.segment c.args.relocs.now c.loop-at.at none
          c.loop-at-test.true c.in_default.ensures.field c.in_default.field-0 c.in_default.ensures.first_fault ∙ c.loop-at.invariant.fault;
      fields = fields_more big c.args.object c.args.first c.args.frame.now c.loop-at.segment c.relocate_one.new.segment c.args.relocs.now c.loop-at.at none
          c.loop-at-test.true c.in_default.ensures.field ∙ c.loop-at.invariant.fields;
    }
