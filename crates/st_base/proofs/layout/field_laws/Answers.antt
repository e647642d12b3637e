use Rattle.std.proofs.Common.{arith, inl, inr}
use Rattle.st_base.proofs.FieldLemmas.{number_at-with_number_at, with_number_at-number_at, number_at-before, number_at-behind}
use Rattle.st_base.proofs.layout.field_laws.Goals as goal

pub returns : goal.returns
returns g c = record {
  set_then_read = λ bytes at size value long within fits. number_at-with_number_at _ bytes at size value (omega (arith, long, within)) fits;
  read_then_set = λ bytes at size are_bytes long within. with_number_at-number_at _ bytes at size are_bytes (omega (arith, long, within));
  apart = λ bytes at size value other other_size long within sides.
      elim sides [
        | inl before ↦ number_at-before _ bytes at size value other other_size (omega (arith, long, within)) before
        | inr behind ↦ number_at-behind _ bytes at size value other other_size (omega (arith, long, within)) behind
      ];
}
