use Rattle.std.proofs.Common.{Ok, ap, subst}
use Rattle.rds_lines.specs.Editing.{DoesCommand}
use Rattle.rds_http.proofs.tracked.TrackedEdits.edit_by.Goals as goal

pub returns-clause-done : goal.returns-clause-done
returns-clause-done g c =
    let answer = c.in_ok-edited.edited in
    let after = c.edit.new.self.document in
    subst (λ before. DoesCommand before c.args.command.now (Ok answer) after) (ap (λ f. f.document) c.self.view_is)
    (subst (λ command. DoesCommand c.self.inside.file.document command (Ok answer) after) c.in_ok-own.ensures.ok
    c.in_ok-edited.ensures.edited)
