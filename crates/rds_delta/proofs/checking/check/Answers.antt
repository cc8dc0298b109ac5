use Rattle.std.proofs.Common.{◌≡◌, ◌∙◌, ◌↔◌, sym, subst, true, List}
use mathlib.Core.Bool.{false≢true}
use Rattle.rds_life.specs.Life.{Lived}
use Rattle.rds_counts.specs.Counted.{Counted, number, counts_of}
use Rattle.rds_delta.specs.declared.row.Row.{Row}
use Rattle.rds_delta.specs.Digested.{rank_in, ranks_in}
use Rattle.rds_delta.specs.Claimed.{IsClaimed, IsUnclaimed}
use Rattle.rds_delta.specs.CounterRows.{AreAbove, counter_rows}
use Rattle.rds_delta.proofs.Whole.{whole_yes, whole_back, whole_no}
use Rattle.rds_delta.proofs.checking.check.Goals as goal

pub returns-in-None : goal.returns-in-None
returns-in-None g c =
    let peer = rank_in c.args.digest.now in
    let un = subst (λ (rs : List Row). IsUnclaimed peer c.args.delta.now.lives rs) c.rows.ensures (subst (λ (v : Lived). IsUnclaimed peer v c.rows.result.now) c.lives.ensures c.in-None.ensures) in
    (λ h. absurd (false≢true h), λ h. absurd (whole_no (ranks_in c.args.digest.now) c.args.delta.now c.args.certificate.now un h))

pub returns-in-Some : goal.returns-in-Some
returns-in-Some g c =
    let b = ranks_in c.args.digest.now in
    let v = c.args.delta.now in
    let rs = c.rows-in-Some.result.now in
    let rest = c.in-Some.rest.now in
    let is : v.counts ≡ counts_of rs = sym c.counts-in-Some.ensures ∙ c.rows-in-Some.ensures.value in
    let claimed = subst (λ (ls : List Row). IsClaimed b.rank v.lives ls rest) c.rows.ensures (subst (λ (l : Lived). IsClaimed b.rank l c.rows.result.now rest) c.lives.ensures c.in-Some.ensures) in
    let told = subst (λ (m : Counted). (c.counts_claimed.result ≡ true) ↔ (AreAbove (number m) rs × (rest ≡ counter_rows (number m) rs))) c.counts.ensures c.counts_claimed.ensures in (
      λ h. whole_yes b v rs c.rows-in-Some.ensures.are_rows is c.args.certificate.now rest claimed (told.0 h),
      λ h. told.1 (whole_back b v rs c.rows-in-Some.ensures.are_rows is c.args.certificate.now rest claimed h),
    )
