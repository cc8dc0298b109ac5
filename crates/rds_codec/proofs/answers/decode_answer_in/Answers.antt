use Rattle.std.proofs.Common.{arith}
use Rattle.rds_codec.specs.FormatTexts.{answer_kind_in, answer_at_in}
use Rattle.rds_codec.proofs.InFormats.{answer_in_reader}
use Rattle.rds_codec.proofs.Whole.{decodes_whole, reads_whole}
use Rattle.rds_codec.proofs.answers.decode_answer_in.Goals as goal

pub returns-clause-text : goal.returns-clause-text
returns-clause-text g c =
    decodes_whole (answer_at_in c.args.format c.args.replicas) _ c.unfinished_answer.ensures c.args.bytes.now c.read_whole.result c.read_whole.ensures.read (answer_kind_in c.args.format c.args.replicas) (answer_in_reader c.args.format c.args.replicas) (λ i. omega (arith, c.type_inv.bytes i)) c.read_whole.ensures.long

pub returns-clause-read : goal.returns-clause-read
returns-clause-read g c = reads_whole (answer_at_in c.args.format c.args.replicas) _ c.unfinished_answer.ensures c.args.bytes.now c.read_whole.result c.read_whole.ensures.read
