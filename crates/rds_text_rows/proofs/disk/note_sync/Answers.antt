use Rattle.std.proofs.Common.{◌≡◌, rules}
use Rattle.rds_text_rows.proofs.disk.note_sync.Goals as goal

pub returns-clause-noted : goal.returns-clause-noted
returns-clause-noted c =
    let same : c.in-Ok.bytes.items ≡ c.args.file.now = search rules in
    (c.in-Ok.bytes, same, c.in-Ok-push.ensures.items)
