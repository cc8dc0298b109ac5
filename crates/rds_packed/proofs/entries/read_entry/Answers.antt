use Rattle.rds_packed.proofs.EntrySteps.{entry_found}
use Rattle.rds_packed.proofs.entries.read_entry.Goals as goal

pub returns-in-Ok-clause-read : goal.returns-in-Ok-clause-read
returns-in-Ok-clause-read g c =
    entry_found (g.K.KeySource.reader c.args.keys.now) c.args.bytes.now c.in_ok-head.head c.in_ok-head.rest.now c.in_ok-path.path c.in_ok-path.rest.now c.in_ok-value.value c.in_ok-value.rest.now c.head_kind.result c.in-Ok.entry
    c.in_ok-head.ensures c.in_ok-path.ensures.read c.in_ok-value.ensures c.head_kind.ensures c.in-Ok.ensures
