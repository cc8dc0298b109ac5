use Rattle.std.proofs.Common.{◌≡◌, ◌∙◌, ap, arith}
use Rattle.std.proofs.lemmas.Int.{ints}
use Rattle.rds_counts.specs.declared.row.Which.TheVariants.{P, N}
use Rattle.rds_counts.specs.Counted.{counts_of}
use Rattle.rds_counts.specs.Value.{total}
use Rattle.rds_counts.proofs.counts.Counts.value.Goals as goal

pub returns : goal.returns
returns c =
    let key = c.args.key.now in
    let p : c.totals-p.result.0 ≡ total c.args.self.now key P = c.totals-p.ensures.p ∙ ap (λ rows. total (counts_of rows) key P) c.deref.ensures.value ∙ ap (λ m. total m key P) c.self.view_is in
    let n : c.totals-p.result.1 ≡ total c.args.self.now key N = c.totals-p.ensures.n ∙ ap (λ rows. total (counts_of rows) key N) c.deref.ensures.value ∙ ap (λ m. total m key N) c.self.view_is in
    omega (arith, ints, p, n)
