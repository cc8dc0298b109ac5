use Rattle.rds_commands.proofs.Getting.{describes_file}
use Rattle.rds_commands.proofs.looking.describe_file.Goals as goal

pub returns-clause-told : goal.returns-clause-told
returns-clause-told g c =
    describes_file c.args.path.now c.in_ok-file.file c.kept.result.now c.layout-layout.result c.saturating_sub-records.result c.in_ok-answer.answer c.in_ok-file.ensures.read c.kept.ensures c.layout-layout.ensures
    c.saturating_sub-records.ensures c.in_ok-answer.ensures.told
