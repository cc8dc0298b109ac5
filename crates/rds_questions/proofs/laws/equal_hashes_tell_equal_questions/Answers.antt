use Rattle.rds_questions.proofs.Told.{equal_marks, equal_questions, equal_states}
use Rattle.rds_questions.proofs.laws.equal_hashes_tell_equal_questions.Goals as goal

pub returns : goal.returns
returns c = record { questions = equal_questions; states = equal_states; marks = equal_marks }
