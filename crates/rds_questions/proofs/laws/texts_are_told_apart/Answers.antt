use Rattle.rds_codec.proofs.Whole.{stand_apart}
use Rattle.rds_questions.specs.Responses.{response_at, response_kind}
use Rattle.rds_questions.proofs.Apart.{told_apart}
use Rattle.rds_questions.proofs.Decoded.{questions_apart}
use Rattle.rds_questions.proofs.Readers.{response_reader}
use Rattle.rds_questions.proofs.laws.texts_are_told_apart.Goals as goal

pub returns-clause-questions : goal.returns-clause-questions
returns-clause-questions c = questions_apart

pub returns-clause-responses : goal.returns-clause-responses
returns-clause-responses c = λ n. stand_apart (response_kind n) (response_at n) (response_reader n)

pub returns-clause-apart : goal.returns-clause-apart
returns-clause-apart c = told_apart
