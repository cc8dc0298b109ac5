use Rattle.std.proofs.Common.{◌≡◌, ◌<◌, ◌∙◌, ◌++◌, sym, ap, subst, List, [], ◌∷◌, length, Some, append_assoc}
use Rattle.rds_dots.specs.declared.dot.Dot.{Dot}
use Rattle.rds_delta.specs.declared.row.Row.{Row}
use Rattle.rds_delta.specs.Digested.{rank_in}
use Rattle.rds_delta.specs.Rest.{certified_row, after_of, claims_after}
use Rattle.rds_delta.proofs.AfterLemmas.{step_none}
use Rattle.rds_delta.proofs.ClaimedLemmas.{step_rows, fewer_left}
use Rattle.rds_delta.proofs.NothingSent.{no_next_row}
use Rattle.rds_delta.proofs.certifying.dot_rows.Goals as goal

pub returns-in-None-clause-ok : goal.returns-in-None-clause-ok
returns-in-None-clause-ok g c = λ more flat. ap (λ l. c.telling.rows.items ++ l) (sym (step_none (rank_in c.args.digest.now) c.args.lives.now c.telling.after more c.in-None.ensures.next)) ∙ c.telling.invariant more flat

pub telling-smaller : goal.telling-smaller
telling-smaller g c =
    let v = c.args.lives.now in
    subst (λ (d : Dot). length (after_of (Some d) v) < length (after_of c.telling.after v)) (sym c.last.ensures) (fewer_left (rank_in c.args.digest.now) v c.telling.after c.in-Some.next c.in-Some.ensures.next)

pub telling-preserved : goal.telling-preserved
telling-preserved g c = λ more flat.
    let peer = rank_in c.args.digest.now in
    let v = c.args.lives.now in
    let rest = λ (d : Dot). claims_after peer v (Some d) more in
    let items : c.push.new.self.items ≡ c.telling.rows.items ++ c.row.result ∷ [] = c.in_ok-push-in-Some.ensures.items in
    ap (λ (l : List Row). l ++ rest c.last.result) items
    ∙ append_assoc c.telling.rows.items (c.row.result ∷ []) (rest c.last.result)
    ∙ ap (λ (r : Row). c.telling.rows.items ++ (r ∷ rest c.last.result)) c.row.ensures
    ∙ ap (λ (d : Dot). c.telling.rows.items ++ (certified_row c.in-Some.next ∷ rest d)) c.last.ensures
    ∙ ap (λ (l : List Row). c.telling.rows.items ++ l) (sym (step_rows peer v c.telling.after c.in-Some.next c.in-Some.ensures.next more flat))
    ∙ c.telling.invariant more flat

pub returns-in_err-push-in-Some-clause-nothing : goal.returns-in_err-push-in-Some-clause-nothing
returns-in_err-push-in-Some-clause-nothing g c = λ none. absurd (no_next_row (rank_in c.args.digest.now) c.args.lives.now c.telling.after c.in-Some.next c.in-Some.ensures.next none)
