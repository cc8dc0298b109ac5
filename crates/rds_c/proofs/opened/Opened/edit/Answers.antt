use Rattle.rds_c.proofs.Done.{does_line}
use Rattle.rds_c.proofs.opened.Opened.edit.Goals as goal

pub returns-clause-edited : goal.returns-clause-edited
returns-clause-edited c = λ ended.
    rw c.tell_edit.ensures.kept (does_line c.args.asked c.args.self.now.draft.document c.edit_asked-done.new.draft.document c.edit_asked-done.result c.tell_edit.result c.tell_edit.new.edited c.edit_asked-done.ensures.edited c.tell_edit.ensures.edited c.tell_edit.ensures.refused ended)
