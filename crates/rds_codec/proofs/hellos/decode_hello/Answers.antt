use Rattle.std.proofs.Common.{arith}
use Rattle.rds_codec.specs.HelloTexts.{hello_at, hello_kind}
use Rattle.rds_codec.proofs.HelloFormats.{hello_reader}
use Rattle.rds_codec.proofs.Whole.{decodes_whole, reads_whole}
use Rattle.rds_codec.proofs.hellos.decode_hello.Goals as goal

pub returns-clause-text : goal.returns-clause-text
returns-clause-text c =
    decodes_whole hello_at _ c.unfinished_hello.ensures c.args.bytes.now c.read_whole.result c.read_whole.ensures.read hello_kind hello_reader (λ i. omega (arith, c.type_inv.bytes i)) c.read_whole.ensures.long

pub returns-clause-read : goal.returns-clause-read
returns-clause-read c = reads_whole hello_at _ c.unfinished_hello.ensures c.args.bytes.now c.read_whole.result c.read_whole.ensures.read
