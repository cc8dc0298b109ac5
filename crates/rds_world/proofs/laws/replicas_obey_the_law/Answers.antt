use Rattle.rds_world.proofs.Brought.{answers_here, coherent_answered, documents_here, dots_here, friends_answered}
use Rattle.rds_world.proofs.Brought.{joins_here, same_here}
use Rattle.rds_world.proofs.laws.replicas_obey_the_law.Goals as goal

pub returns-clause-joins : goal.returns-clause-joins
returns-clause-joins c = λ roster es v few r. joins_here roster es v r

pub returns-clause-documents : goal.returns-clause-documents
returns-clause-documents c = λ roster es v few r. documents_here roster es v r few

pub returns-clause-same : goal.returns-clause-same
returns-clause-same c = λ roster es v few r. same_here roster es v r

pub returns-clause-dots : goal.returns-clause-dots
returns-clause-dots c = λ roster es v few r. dots_here roster es v r

pub returns-clause-answers : goal.returns-clause-answers
returns-clause-answers c = λ roster es v few r. answers_here roster es v r

pub returns-clause-coherent : goal.returns-clause-coherent
returns-clause-coherent c = coherent_answered

pub returns-clause-friends : goal.returns-clause-friends
returns-clause-friends c = friends_answered
