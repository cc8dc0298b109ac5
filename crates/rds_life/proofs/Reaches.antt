-- What the first run after a dot says of the dots behind it.
use Rattle.std.proofs.Common.{◌≡◌, ℕ, ◌-◌, ◌<◌, ◌≤◌, true, false, Some, arith}
use Rattle.std.specs.FinSet as set
use Rattle.rds_dots.specs.declared.dot.Dot.{Dot}
use Rattle.rds_dots.specs.declared.dot.Run.{Run}
use Rattle.rds_dots.specs.Dots.{Dots, is_dot}
use Rattle.rds_dots.specs.Lacking.{dot_of}
use Rattle.rds_dots.specs.Runs.{first_after, runs_of}
use Rattle.rds_dots.proofs.NextRuns.{next_run}

module _ (s : Dots) (dots : (d : Dot) → set.contains s d ≡ true → is_dot d ≡ true) (d : Dot) (r : Run) (is : Some r ≡ first_after (Some d) (runs_of s)) (same : r.replica ≡ d.replica) where
  -- it ends after the dot
  pub ends_later : d.seq ≤ r.hi
  ends_later = let ends = (next_run s dots d.replica d.seq r is same).ends in omega (arith, ends)

  -- all from its first to its last dot are there
  pub reached : r.lo - 1 ≤ d.seq → (n : ℕ) → d.seq < n → n ≤ r.hi → set.contains s (dot_of d.replica n) ≡ true
  reached low n p q = (next_run s dots d.replica d.seq r is same).inside n (omega (arith, low, p)) q

  -- none before its first
  pub unreached : (n : ℕ) → d.seq < n → n ≤ r.lo - 1 → set.contains s (dot_of d.replica n) ≡ false
  unreached n p q =
      let one = (next_run s dots d.replica d.seq r is same).starts in
      (next_run s dots d.replica d.seq r is same).gap n p (omega (arith, one, q))
