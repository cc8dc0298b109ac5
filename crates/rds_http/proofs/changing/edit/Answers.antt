use Rattle.std.proofs.Common.{◌≡◌, ◌<◌, ◌≤◌, inl, refl, rules, subst}
use Rattle.rds_names.specs.declared.fault.Fault.TheVariants.{Memory}
use Rattle.rds_http.specs.Lines.{line_count}
use Rattle.rds_http.specs.declared.lines.TheConstants.{MOST_LINES}
use Rattle.rds_http.proofs.Changed.{edits_refused, edits_too_many, on_ok}
use Rattle.rds_http.proofs.ReplyLines.{all_refused_by}
use Rattle.rds_http.proofs.changing.edit.Goals as goal

pub returns-then-lines-gt-MOST_LINES-clause-answered : goal.returns-then-lines-gt-MOST_LINES-clause-answered
returns-then-lines-gt-MOST_LINES-clause-answered g c =
    let many : MOST_LINES < line_count c.args.body.now =
    subst (λ n. MOST_LINES < n) c.line_count-lines.ensures.count c.if-lines-gt-MOST_LINES.true in
    on_ok c.refuse.result (edits_too_many c.args.body.now c.args.held.now.file.document c.refuse.new.response many) c.refuse.ensures

pub returns-then-is_err-clause-answered : goal.returns-then-is_err-clause-answered
returns-then-is_err-clause-answered g c =
    let few : line_count c.args.body.now ≤ MOST_LINES =
    subst (λ n. n ≤ MOST_LINES) c.line_count-lines.ensures.count c.if-lines-gt-MOST_LINES.false in
    on_ok c.refuse-then-is_err.result
    (edits_refused c.args.body.now c.args.held.now.file.document c.args.held.now.file.document c.refuse-then-is_err.new.response Memory few refl refl)
    c.refuse-then-is_err.ensures

pub returns-in-Ok-clause-answered : goal.returns-in-Ok-clause-answered
returns-in-Ok-clause-answered g c =
    let few : line_count c.args.body.now ≤ MOST_LINES =
    subst (λ n. n ≤ MOST_LINES) c.line_count-lines.ensures.count c.if-lines-gt-MOST_LINES.false in
    inl (few, inl (record { replies = c.in-Ok.replies.items; edits = c.in-Ok.ensures.edited; told = search rules }))

pub returns-in-Ok-clause-refused : goal.returns-in-Ok-clause-refused
returns-in-Ok-clause-refused g c = λ other.
    c.in-Ok.ensures.refused
    (all_refused_by c.in-Ok.replies.items c.deref-in-Ok.result.now c.tell_replies.new.response.status c.deref-in-Ok.ensures.value
    c.tell_replies.ensures.status other)

pub returns-in-Err-clause-answered : goal.returns-in-Err-clause-answered
returns-in-Err-clause-answered g c =
    let few : line_count c.args.body.now ≤ MOST_LINES =
    subst (λ n. n ≤ MOST_LINES) c.line_count-lines.ensures.count c.if-lines-gt-MOST_LINES.false in
    let same : c.edit_in.new.held.file.document ≡ c.args.held.now.file.document = cc c.in-Err.ensures.err in
    on_ok c.refuse-in-Err.result
    (edits_refused c.args.body.now c.args.held.now.file.document c.edit_in.new.held.file.document c.refuse-in-Err.new.response c.in-Err.fault few c.in-Err.ensures.memory same)
    c.refuse-in-Err.ensures
