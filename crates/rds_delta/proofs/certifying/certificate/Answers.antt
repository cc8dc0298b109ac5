use Rattle.std.proofs.Common.{◌≡◌, ◌∙◌, ◌++◌, refl, sym, ap, subst, List, None, true, arith}
use mathlib.Core.Bool.{false≢true}
use Rattle.std.specs.Prelude.{is_some}
use Rattle.std.specs.FinMap as map
use Rattle.rds_dots.specs.declared.dot.Dot.{Dot}
use Rattle.rds_dots.specs.Dots.{is_dot}
use Rattle.rds_life.specs.Life.{Lived}
use Rattle.rds_counts.specs.Counted.{Counted, number, counts_of}
use Rattle.rds_counts.proofs.Nothing.{no_rows}
use Rattle.rds_delta.specs.declared.row.Row.{Row}
use Rattle.rds_delta.specs.Digested.{rank_in, ranks_in}
use Rattle.rds_delta.specs.Claims.{IsCertificate}
use Rattle.rds_delta.specs.CounterRows.{counter_rows}
use Rattle.rds_delta.specs.Rest.{claims_after, is_flat}
use Rattle.rds_delta.proofs.Bounds.{certificate_within, number_most}
use Rattle.rds_delta.proofs.Grouping.{one_certificate}
use Rattle.rds_delta.proofs.Whole.{whole_certificate}
use Rattle.rds_delta.proofs.certifying.certificate.Goals as goal

pub returns-clause-ok : goal.returns-clause-ok
returns-clause-ok g c =
    let b = ranks_in c.args.digest.now in
    let v = c.args.delta.now in
    let rs = c.rows.result.now in
    let dots = c.in_ok-rows.rows.items in
    let is : v.counts ≡ counts_of rs = sym c.counts-2.ensures ∙ c.rows.ensures.value in
    let told = subst (λ (l : Lived). (more : List Row) → is_flat more ≡ true → dots ++ more ≡ claims_after (rank_in c.args.digest.now) l None more) c.lives.ensures c.in_ok-rows.ensures.ok in
    let all : c.push_counts.new.rows.items ≡ dots ++ counter_rows b.number rs = c.in_ok-push_counts.ensures.ok ∙ ap (λ (m : Counted). dots ++ counter_rows (number m) rs) c.counts.ensures in
    subst (IsCertificate b v) (sym (c.new.ensures ∙ all)) (whole_certificate b v rs c.rows.ensures.are_rows is dots told)

pub returns-clause-unique : goal.returns-clause-unique
returns-clause-unique g c = λ others is. one_certificate (ranks_in c.args.digest.now) c.args.delta.now c.new.result others (returns-clause-ok g c) is

pub returns-clause-within : goal.returns-clause-within
returns-clause-within g c = λ replicas fits above.
    let b = ranks_in c.args.digest.now in
    let v = c.args.delta.now in
    let rs = c.rows.result.now in
    let is : v.counts ≡ counts_of rs = sym c.counts-2.ensures ∙ c.rows.ensures.value in
    let dots = subst (λ (l : Lived). (d : Dot) → is_some (map.get l d) ≡ true → is_dot d ≡ true) c.lives.ensures (c.in_ok-rows.ensures.dots refl) in
    certificate_within replicas b v dots (number_most v.counts rs c.rows.ensures.are_rows is) fits above c.new.result (returns-clause-ok g c)

pub returns-in_err-rows-clause-nothing : goal.returns-in_err-rows-clause-nothing
returns-in_err-rows-clause-nothing g c = λ none.
    let first : map.len c.args.delta.now.lives ≡ 0 = omega (arith, none) in
    absurd (false≢true (c.in_err-rows.ensures.nothing (ap (λ (l : Lived). map.len l) c.lives.ensures ∙ first)))

pub returns-in_err-push_counts-clause-nothing : goal.returns-in_err-push_counts-clause-nothing
returns-in_err-push_counts-clause-nothing g c = λ none.
    let v = c.args.delta.now in
    let rs = c.rows.result.now in
    let is : v.counts ≡ counts_of rs = sym c.counts-2.ensures ∙ c.rows.ensures.value in
    let second : map.len v.counts ≡ 0 = omega (arith, none) in
    absurd (false≢true (c.in_err-push_counts.ensures.nothing (no_rows rs v.counts c.rows.ensures.are_rows (sym is) second)))
