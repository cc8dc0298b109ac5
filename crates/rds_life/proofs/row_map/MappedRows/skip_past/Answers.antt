use Rattle.std.proofs.Common.{◌≡◌, None, ◌∙◌, ap, sym, true, false, rules}
use Rattle.std.proofs.lemmas.Bool.{not-false}
use Rattle.std.specs.Ordering.{is_le}
use Rattle.rds_dots.specs.Dots.{dot_cmp}
use Rattle.rds_dots.proofs.Splits.{at_most_is}
use Rattle.rds_life.specs.Past.{rows_past, rows_behind}
use Rattle.rds_life.proofs.PastRows.{past_stays, past_past}
use Rattle.rds_life.proofs.row_map.MappedRows.skip_past.Goals as goal
use Rattle.rds_life.proofs.row_map.MappedRows.skip_past.Goals.{in_default-via-in-None-1, in_default-via-in-Some+else-le}

pub returns : goal.returns
returns c =
    let d = c.args.dot in
    let a = c.in-Some.last in
    let rows = c.self.inside.map.now in
    let is : c.args.self.now ≡ rows_past a rows = sym c.self.view_is ∙ c.self.invariant.0 ∙ ap (λ o. rows_behind o rows) c.in-Some.is in
    let le : is_le (dot_cmp d a) ≡ true = search rules in
    is ∙ sym (past_stays d a le rows) ∙ ap (rows_past d) (sym is)

pub returns-2 : goal.returns-2
returns-2 c =
    let d = c.args.dot in
    let rows = c.self.inside.map.now in
    let all = sym c.self.view_is ∙ c.self.invariant.0 in
    elim c.in_default.branch [
      | in_default-via-in-None-1 w ↦ (let none : c.self.inside.after ≡ None = search rules in c.past-self-inside.ensures ∙ ap (rows_past d) (sym (all ∙ ap (λ o. rows_behind o rows) none)))
      | in_default-via-in-Some+else-le w ↦
          c.past-self-inside.ensures
          ∙ sym (past_past w.in-Some.last d (not-false _ (sym (at_most_is d w.in-Some.last) ∙ (let le : is_le (dot_cmp d w.in-Some.last) ≡ false = search rules in le))) rows)
          ∙ ap (rows_past d) (sym (all ∙ ap (λ o. rows_behind o rows) w.in-Some.is))
    ]
