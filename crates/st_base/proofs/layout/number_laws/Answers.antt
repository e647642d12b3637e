use Rattle.st_base.proofs.BytesLemmas.{number-bytes_of, bytes_of-number}
use Rattle.st_base.proofs.layout.number_laws.Goals as goal

pub returns : goal.returns
returns g c = record {
  number = λ size value fits. number-bytes_of _ size value fits;
  bytes = λ x are_bytes. bytes_of-number _ x are_bytes;
}
