use Rattle.std.proofs.Common.{arith}
use Rattle.rds_codec.proofs.Whole.{decodes}
use Rattle.rds_questions.specs.Responses.{response_at, response_kind}
use Rattle.rds_questions.proofs.Readers.{response_reader}
use Rattle.rds_questions.proofs.responses.decode_response.Goals as goal

pub returns-clause-text : goal.returns-clause-text
returns-clause-text g c =
    let n = c.args.askers in
    decodes (response_kind n) (response_at n) (response_reader n) c.args.bytes.now (λ i. omega (arith, c.type_inv.bytes i)) c.if-bytes-gt-LIMIT.false c.read_response.result c.read_response.ensures
