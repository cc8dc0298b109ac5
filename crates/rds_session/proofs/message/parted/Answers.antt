use Rattle.rds_session.proofs.Began.{extra_refused}
use Rattle.rds_session.proofs.message.parted.Goals as goal

pub returns-in-len1-up : goal.returns-in-len1-up
returns-in-len1-up g c = λ expected byte is plain. extra_refused expected c.args.code byte c.args.run.now is plain c.in-len1-up.len_at_least
