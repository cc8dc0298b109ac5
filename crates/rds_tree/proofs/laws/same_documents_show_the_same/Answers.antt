use Rattle.rds_tree.proofs.SameDocument.{same_documents}
use Rattle.rds_tree.proofs.laws.same_documents_show_the_same.Goals as goal

pub returns : goal.returns
returns c = same_documents
