use Rattle.std.proofs.Common.{◌∙◌, ap, not, sym}
use Rattle.std.specs.List.{list_all}
use Rattle.rds_lines.specs.Lines.{lines_in}
use Rattle.rds_output.specs.Reply.{is_refusal}
use Rattle.rds_http.proofs.Changed.{not_all, noted_as_before, same_open, still_noted}
use Rattle.rds_http.proofs.ReplyLines.{answers_are}
use Rattle.rds_http.proofs.changing.edit_in.Goals as goal

pub returns-clause-short : goal.returns-clause-short
returns-clause-short g c =
    (answers_are (lines_in c.args.lines.now) c.args.held.now.file.document c.edit_lines.new.self.document c.in_ok-replies.replies.items c.in_ok-replies.ensures.edited).short

pub returns-clause-few : goal.returns-clause-few
returns-clause-few g c =
    (answers_are (lines_in c.args.lines.now) c.args.held.now.file.document c.edit_lines.new.self.document c.in_ok-replies.replies.items c.in_ok-replies.ensures.edited).few

pub returns-clause-refused : goal.returns-clause-refused
returns-clause-refused g c = λ all.
    let are = answers_are (lines_in c.args.lines.now) c.args.held.now.file.document c.edit_lines.new.self.document c.in_ok-replies.replies.items c.in_ok-replies.ensures.edited in
    let none = c.are_refusals.ensures ∙ ap (list_all is_refusal) c.deref.ensures.value ∙ all in
    let file = same_open c.args.held.now.file c.edit_lines.new.self c.in_ok-replies.ensures.file.path (are.refused all) c.in_ok-replies.ensures.file.kept in
    let noted = noted_as_before c.args.held.now.has_changed c.are_refusals.result none in
    λ i. record { file = file i; has_changed = noted i }

pub returns-clause-noted : goal.returns-clause-noted
returns-clause-noted g c =
    let are = answers_are (lines_in c.args.lines.now) c.args.held.now.file.document c.edit_lines.new.self.document c.in_ok-replies.replies.items c.in_ok-replies.ensures.edited in
    let all = c.are_refusals.ensures ∙ ap (list_all is_refusal) c.deref.ensures.value in
    still_noted c.args.held.now.has_changed (not c.are_refusals.result) c.args.held.now.file.document c.edit_lines.new.self.document c.args.held.now.file.kept c.edit_lines.new.self.kept
    c.requires.noted (λ no. are.refused (sym all ∙ not_all c.are_refusals.result no)) c.in_ok-replies.ensures.file.kept
