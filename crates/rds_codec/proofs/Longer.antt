-- What has a text among some replicas has the same one among more.
use Rattle.std.proofs.Common.{ℕ, ◌≤◌, ◌<◌, List, [], ◌∷◌, arith}
use Rattle.std.specs.List.{AllByRecursion}
use Rattle.rds_dots.specs.Dots.{Dots}
use Rattle.rds_counts.specs.declared.row.CountRow.{CountRow}
use Rattle.rds_counts.specs.Counted.{Counted}
use Rattle.rds_life.specs.Life.{seen_of}
use Rattle.rds_state.specs.Value.{StateValue}
use Rattle.rds_delta.specs.Digested.{DigestValue}
use Rattle.rds_delta.specs.declared.row.Row.{Row}
use Rattle.rds_delta.specs.declared.row.Row.TheVariants.{Live, Dead, Count}
use Rattle.rds_bytes.specs.Values.{AreDotsOf, AreCountsOf, IsCountRowOf}
use Rattle.rds_codec.specs.AnswerTexts.{IsAnswerOf}
use Rattle.rds_codec.specs.AnswerValues.{AnswerValue}
use Rattle.rds_codec.specs.CertificateTexts.{RowFits, IsCertificateOf}
use Rattle.rds_codec.specs.DigestTexts.{IsDigestOf}
use Rattle.rds_codec.specs.StateTexts.{IsStateOf}

module _ (n m : ℕ) (le : n ≤ m) where
  dots_longer : (s : Dots) → AreDotsOf n s → AreDotsOf m s
  dots_longer s f = λ d h. let x = f d h in (x.0, (let y : d.replica < n = x.1 in omega (arith, y, le)))

  rows_longer : (rs : List CountRow) → AllByRecursion (IsCountRowOf n) rs → AllByRecursion (IsCountRowOf m) rs
  rows_longer [] a = a
  rows_longer (r ∷ rs) a = ((a.0.0, (let y : r.replica < n = a.0.1 in omega (arith, y, le))), rows_longer rs a.1)

  counts_longer : (c : Counted) → AreCountsOf n c → AreCountsOf m c
  counts_longer c a = record { rows = a.rows; are_rows = a.are_rows; each_row = rows_longer a.rows a.each_row; value = a.value }

  pub state_longer : (v : StateValue) → IsStateOf n v → IsStateOf m v
  state_longer v f = record { dots = dots_longer (seen_of v.lives) f.dots; entries = f.entries; counts = counts_longer v.counts f.counts }

  pub digest_longer : (g : DigestValue) → IsDigestOf n g → IsDigestOf m g
  digest_longer g f = record { dots = dots_longer g.seen f.dots; inside = f.inside; counts = counts_longer g.counts f.counts }

  row_longer : (row : Row) → RowFits n row → RowFits m row
  row_longer (Live d) f = (f.0, (let y : d.replica < n = f.1 in omega (arith, y, le)))
  row_longer (Dead r peer) f = (f.0, ((let y : r.replica < n = f.1.0 in omega (arith, y, le)), f.1.1))
  row_longer (Count key replica which sent peer) f = ((let y : replica < n = f.0 in omega (arith, y, le)), f.1)

  pub certificate_longer : (rows : List Row) → IsCertificateOf n rows → IsCertificateOf m rows
  certificate_longer [] a = a
  certificate_longer (r ∷ rows) a = ((a.0.0, row_longer r a.0.1), certificate_longer rows a.1)

  pub answer_longer : (a : AnswerValue) → IsAnswerOf n a → IsAnswerOf m a
  answer_longer a f = record {
    asker = (f.asker.0, (let y : a.asker < n = f.asker.1 in omega (arith, y, le)));
    state = state_longer a.state f.state;
    certificate = certificate_longer a.certificate f.certificate;
  }
