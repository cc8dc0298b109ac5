use Rattle.rds_names.specs.Fault.{name_of, words_of}
use Rattle.rds_http.proofs.Texts.{rest-behind}
use Rattle.rds_http.proofs.refusals.words_in.Goals as goal

pub returns : goal.returns
returns c = rw c.name.ensures (rest-behind c.args.printed.now (name_of c.args.fault) 58 32 (words_of c.args.fault) c.requires)
