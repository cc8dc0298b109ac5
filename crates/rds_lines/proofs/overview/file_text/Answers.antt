use Rattle.rds_lines.proofs.overview.file_text.Goals as goal

pub returns-clause-text : goal.returns-clause-text
returns-clause-text c = c.in_ok-format.ensures.ok
