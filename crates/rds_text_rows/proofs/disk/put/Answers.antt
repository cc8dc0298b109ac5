use Rattle.std.proofs.Common.{◌≡◌, rules}
use Rattle.rds_text_rows.proofs.disk.put.Goals as goal

pub returns-clause-noted : goal.returns-clause-noted
returns-clause-noted c =
    let same : c.in_ok-all.all.items ≡ c.args.bytes.now = search rules in
    (c.in_ok-all.all, same, c.in_ok-push.ensures.items)
