use Rattle.rds_codec.proofs.ExchangeLemmas.{is_ask, no_ask}
use Rattle.rds_codec.proofs.exchanges.ask.Goals as goal

pub returns-clause-ok : goal.returns-clause-ok
returns-clause-ok g c =
    is_ask c.args.asked.now c.in_ok-digest.digest c.in_ok-digest.ensures.value c.text_of_digest.result c.text_of_digest.ensures.text c.text_of_digest.ensures.dots c.text_of_digest.ensures.value

pub returns-clause-fault : goal.returns-clause-fault
returns-clause-fault g c = no_ask c.args.asked.now c.in_ok-digest.digest c.in_ok-digest.ensures.value c.text_of_digest.result c.text_of_digest.ensures.text
