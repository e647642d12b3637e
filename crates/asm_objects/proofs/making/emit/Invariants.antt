use Rattle.std.proofs.Common.{◌≡◌, ◌++◌, length}
use Rattle.std.specs.Vec.Iter.{into_iter_items}
use Rattle.st_base.specs.ByteOrder.{is_big}
use Rattle.asm_statements.specs.declared.statement.Part.TheVariants as part
use Rattle.asm_objects.specs.Emitting.{Left}
use Rattle.asm_objects.specs.Layout as layout
use Rattle.asm_objects.specs.Meaning as spec
use Rattle.asm_objects.proofs.making.emit.Given as goal

abbrev pub invariant-loop-statement : goal.invariant-loop-statement
invariant-loop-statement l = record {
  text : l.text ++ layout.each (λ p w. spec.if_in part.Text p.part (spec.bytes_in (is_big l.order) l.table p w)) l.places (into_iter_items l.statement-iterator)
      ≡ layout.each (λ p w. spec.if_in part.Text p.part (spec.bytes_in (is_big l.order) l.table p w)) layout.start l.fn.statements;
  datum : l.datum ++ layout.each (λ p w. spec.if_in part.Data p.part (spec.bytes_in (is_big l.order) l.table p w)) l.places (into_iter_items l.statement-iterator)
      ≡ layout.each (λ p w. spec.if_in part.Data p.part (spec.bytes_in (is_big l.order) l.table p w)) layout.start l.fn.statements;
  text_relocs : l.text_relocs ++ layout.each (λ p w. spec.if_in part.Text (spec.reloc_part p w) (spec.relocs_in l.table l.undefined p w)) l.places (into_iter_items l.statement-iterator)
      ≡ layout.each (λ p w. spec.if_in part.Text (spec.reloc_part p w) (spec.relocs_in l.table l.undefined p w)) layout.start l.fn.statements;
  data_relocs : l.data_relocs ++ layout.each (λ p w. spec.if_in part.Data (spec.reloc_part p w) (spec.relocs_in l.table l.undefined p w)) l.places (into_iter_items l.statement-iterator)
      ≡ layout.each (λ p w. spec.if_in part.Data (spec.reloc_part p w) (spec.relocs_in l.table l.undefined p w)) layout.start l.fn.statements;
  named : l.named ++ layout.each (spec.entries_in l.table) l.places (into_iter_items l.statement-iterator) ≡ layout.each (spec.entries_in l.table) layout.start l.fn.statements;
  room : layout.Room l.places (length (into_iter_items l.statement-iterator));
  left : Left l.table l.places (into_iter_items l.statement-iterator);
}
