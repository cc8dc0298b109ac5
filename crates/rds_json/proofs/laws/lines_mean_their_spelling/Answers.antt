use Rattle.std.proofs.Common.{◌∙◌, ap}
use Rattle.rds_json.specs.Line.{line_in}
use Rattle.rds_json.specs.Members.{of_one}
use Rattle.rds_json.specs.Unnamed.{edit_in}
use Rattle.rds_json.proofs.LinesUnderstood.{edit_bad, edit_understood, line_bad, line_understood}
use Rattle.rds_json.proofs.Spelled.{edit_read, line_read}
use Rattle.rds_json.proofs.laws.lines_mean_their_spelling.Goals as goal

pub returns-clause-lines : goal.returns-clause-lines
returns-clause-lines c = λ text line. (line_understood text line, λ h. ap (of_one line_in) h.0 ∙ line_read line h.1)

pub returns-clause-edits : goal.returns-clause-edits
returns-clause-edits c = λ text edit. (edit_understood text edit, λ h. ap (of_one edit_in) h.0 ∙ edit_read edit h.1)

pub returns-clause-other_lines : goal.returns-clause-other_lines
returns-clause-other_lines c = line_bad

pub returns-clause-other_edits : goal.returns-clause-other_edits
returns-clause-other_edits c = edit_bad
