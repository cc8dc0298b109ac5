-- To read all of some bytes as a kind's reader does is to decode them.
use Rattle.std.proofs.Common.{arith}
use Rattle.rds_bytes.specs.Reading.{Reader}
use Rattle.rds_codec.specs.Kinds.{Kind}
use Rattle.rds_codec.proofs.Whole.{IsReaderOf, decodes}
use Rattle.rds_keep.specs.Feeding.{DecodesTexts}

pub decodes_texts : {V : Type 0} (kind : Kind V) (reader : Reader V) → IsReaderOf kind reader → DecodesTexts kind reader
decodes_texts kind reader laws = record {
  decodes = λ bytes result fits within read. decodes kind reader laws bytes (λ i. omega (arith, fits i)) within result read;
}
