use Rattle.std.proofs.Common.{◌≡◌, ◌∙◌, None, cond, nat_lt, sym, ap, subst}
use mathlib.Core.Bool.{false≢true}
use Rattle.std.specs.FinMap as map
use Rattle.rds_life.specs.Life.{Lived}
use Rattle.rds_counts.specs.Counted.{Counted, number}
use Rattle.rds_delta.specs.Digested.{rank_in}
use Rattle.rds_delta.specs.Higher.{higher}
use Rattle.rds_delta.specs.Ranks.{life_rank}
use Rattle.rds_delta.proofs.deltas.delta.Goals as goal

pub returns-in_err-lives-clause-nothing : goal.returns-in_err-lives-clause-nothing
returns-in_err-lives-clause-nothing g c = λ none.
    absurd (false≢true (c.in_err-lives.ensures.nothing (λ d.
    subst (λ (l : Lived). cond (nat_lt (rank_in c.args.digest.now d) (life_rank (map.get l d))) (map.get l d) None ≡ None) (sym c.lives.ensures) (none.lives d))))

pub returns-in_err-counts-clause-nothing : goal.returns-in_err-counts-clause-nothing
returns-in_err-counts-clause-nothing g c = λ none.
    absurd (false≢true (c.in_err-counts.ensures.nothing (λ q.
    ap (λ (m : Counted). higher (number m q) (number c.counts-2.result.now q)) c.counts.ensures
    ∙ ap (λ (m : Counted). higher (number c.args.state.now.counts q) (number m q)) c.counts-2.ensures
    ∙ none.numbers q)))
