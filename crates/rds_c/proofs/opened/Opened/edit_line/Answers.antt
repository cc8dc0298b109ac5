use Rattle.rds_c.proofs.Done.{does_line}
use Rattle.rds_c.proofs.opened.Opened.edit_line.Goals as goal
use Rattle.rds_json.specs.Unnamed.{edit_of}

pub returns-clause-edited : goal.returns-clause-edited
returns-clause-edited c = λ ended.
    rw c.tell_edit.ensures.kept (does_line (edit_of c.args.line.now) c.args.self.now.draft.document c.edit_line-done.new.self.document c.edit_line-done.result c.tell_edit.result c.tell_edit.new.edited c.edit_line-done.ensures.edited c.tell_edit.ensures.edited c.tell_edit.ensures.refused ended)
