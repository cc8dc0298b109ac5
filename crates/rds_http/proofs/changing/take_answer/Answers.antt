use Rattle.std.proofs.Common.{◌≡◌, ◌∙◌, ap, length, sym}
use Rattle.rds_http.proofs.Changed.{still_noted}
use Rattle.rds_http.proofs.Takes.{takes_nothing}
use Rattle.rds_http.proofs.changing.take_answer.Goals as goal

pub returns-clause-noted : goal.returns-clause-noted
returns-clause-noted g c =
    let before = c.args.held.now.file.document in
    let after = c.take.new.self.document in
    let had : c.name_count-names.result ≡ length before.roster.names = c.name_count-names.ensures ∙ ap (λ d. length d.roster.names) c.document.ensures in
    let has : c.name_count.result ≡ length after.roster.names = c.name_count.ensures ∙ ap (λ d. length d.roster.names) c.document-2.ensures in
    still_noted c.args.held.now.has_changed c.has_come.result before after c.args.held.now.file.kept c.take.new.self.kept
    c.requires.noted
    (λ no.
    let none = c.has_come.ensures no in
    takes_nothing c.args.question.now c.args.answer.now before after c.in_ok-components.components c.in_ok-components.ensures.taken none.0 (sym has ∙ none.1 ∙ had))
    c.in_ok-components.ensures.file.kept
