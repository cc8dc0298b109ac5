-- A digest whose brief is read again.
use Rattle.std.proofs.Common.{◌≡◌, ◌^◌, ℕ, ◌<◌, ◌≤◌, Bool, true, false, ◌&&◌, eqb, leb, List, [], ◌∷◌, ◌++◌, length, Ok, refl, sym, ap, ◌∙◌, arith, append_assoc, length-append}
use Rattle.std.specs.List.{AllByRecursion}
use Rattle.std.specs.FinSet as set
use Rattle.std.proofs.lemmas.Bool.{or_left, or_right}
use Rattle.std.proofs.lemmas.Bool.Decides.{nat_tests}
use Rattle.rds_names.specs.declared.fault.Fault.{Fault}
use Rattle.rds_names.specs.declared.fault.Fault.TheVariants.{Memory}
use Rattle.rds_dots.specs.declared.dot.Dot.{Dot}
use Rattle.rds_dots.specs.declared.dot.Run.{Run}
use Rattle.rds_dots.specs.Dots.{Dots, in_run, first_of}
use Rattle.rds_dots.specs.Order.{dots_total, dots_exact}
use Rattle.rds_dots.specs.RunFacts.{run_parts}
use Rattle.rds_dots.specs.Runs.{AreRuns, runs_cover, are_maximal, runs_of}
use Rattle.rds_dots.specs.RunsOf.{are_runs}
use Rattle.rds_counts.specs.Counted.{Counted}
use Rattle.rds_counts.specs.RowsOf.{count_rows}
use Rattle.rds_delta.specs.Digested.{DigestValue, IsInside}
use Rattle.rds_bytes.specs.Reading.{Fails, counters_at}
use Rattle.rds_bytes.specs.Spelling.{counters_text}
use Rattle.rds_bytes.specs.Values.{AreCountsOf}
use Rattle.rds_bytes.proofs.CounterFormats.{counters_format}
use Rattle.rds_bytes.proofs.Format.{IsBytes, ok_is}
use Rattle.rds_codec.specs.DigestTexts.{IsDigestOf}
use Rattle.rds_codec.specs.declared.limits.TheConstants.{LIMIT}
use Rattle.rds_briefs.specs.BriefTexts.{runs_text}
use Rattle.rds_briefs.specs.Briefs.{brief_text}
use Rattle.rds_briefs.specs.RunsRead.{RunsAreRead}
use Rattle.rds_briefs.proofs.Counted.{counts_within}

-- ---- counters

pub counters_are : (replicas : ℕ) (bytes : List ℕ) (m : Counted) (rest : List ℕ) → IsBytes bytes → counters_at replicas bytes ≡ Ok (m, rest) → AreCountsOf replicas m
counters_are replicas bytes m rest fits read = ((counters_format replicas).takes bytes (m, rest) fits read).1.0

module _ (replicas : ℕ) (bytes : List ℕ) (m : Counted) (rest : List ℕ) (are : AreCountsOf replicas m) (few : length (count_rows m) < 2 ^ 32) (is : bytes ≡ counters_text m ++ rest) where
  again : counters_at replicas bytes ≡ Ok (m, rest)
  again = ap (counters_at replicas) is ∙ (counters_format replicas).again m rest (are, few)

  pub counters_found : (n : Counted) (after : List ℕ) → counters_at replicas bytes ≡ Ok (n, after) → (n ≡ m) × (after ≡ rest)
  counters_found n after read =
      let e : (n, after) ≡ (m, rest) = ok_is (n, after) (m, rest) (sym read ∙ again) in
      (ap (λ (x : Counted × List ℕ). x.0) e, ap (λ (x : Counted × List ℕ). x.1) e)

  pub counters_kept : (e : Fault) → Fails e (counters_at replicas bytes) → e ≡ Memory
  counters_kept Memory h = refl
  counters_kept _ h = absurd (let bad = sym h ∙ again in cc)

-- ---- runs

in_first : (a r lo hi : ℕ) → a ≡ r → lo ≤ hi → (eqb a r && leb lo lo && leb lo hi) ≡ true
in_first a r lo hi e le = grind (arith, nat_tests)

all_below : (replicas : ℕ) (rs : List Run) → are_maximal rs ≡ true → ((d : Dot) → runs_cover rs d ≡ true → d.replica < replicas) → AllByRecursion (λ (r : Run). r.replica < replicas) rs
all_below replicas [] max each = tt
all_below replicas (r ∷ rs) max each =
    let p = run_parts r rs max in
    let first : in_run r (first_of r) ≡ true = in_first r.replica r.replica r.lo r.hi refl p.bounds.rises in
    (each (first_of r) (or_left _ _ first), all_below replicas rs p.rest (λ d h. each d (or_right (in_run r d) (runs_cover rs d) h)))

module _ (replicas : ℕ) (g : DigestValue) (is : IsDigestOf replicas g) where
  runs : AreRuns g.seen (runs_of g.seen)
  runs = are_runs g.seen (λ d h. (is.dots d h).0)

  pub seen_maximal : are_maximal (runs_of g.seen) ≡ true
  seen_maximal = runs.maximal

  pub seen_below : AllByRecursion (λ (r : Run). r.replica < replicas) (runs_of g.seen)
  seen_below = all_below replicas (runs_of g.seen) runs.maximal (λ d h. (is.dots d (sym (runs.same d) ∙ h)).1)

  -- the sets that were read are the digest's
  module _ (seen live : Dots) (read : RunsAreRead (runs_of g.seen) g.live seen live) where
    pub seen_is : seen ≡ g.seen
    seen_is = set.same_set dots_total dots_exact seen g.seen (λ d. read.each_seen d ∙ runs.same d)

    both : (a b : Bool) → (b ≡ true → a ≡ true) → (a && b) ≡ b
    both true b h = refl
    both false true h = h refl
    both false false h = refl

    pub live_is : live ≡ g.live
    live_is = set.same_set dots_total dots_exact live g.live (λ d. read.each_live d ∙ ap (λ b. b && set.contains g.live d) (runs.same d) ∙ both (set.contains g.seen d) (set.contains g.live d) (is.inside.each_dot d))

    pub is_inside : IsInside live seen
    is_inside = record { each_dot = λ d h. ap (λ (s : Dots). set.contains s d) seen_is ∙ is.inside.each_dot d (sym (ap (λ (s : Dots). set.contains s d) live_is) ∙ h) }

    pub digest_is : (counts : Counted) → counts ≡ g.counts → (digest : DigestValue) → (let parts : DigestValue = record { seen = seen; live = live; counts = counts } in digest ≡ parts) → digest ≡ g
    digest_is counts same digest parts = parts ∙ (λ i. record { seen = seen_is i; live = live_is i; counts = same i })

  module _ (bytes rest : List ℕ) (whole : bytes ≡ brief_text g ++ rest) where
    pub brief_front : bytes ≡ runs_text g.live (runs_of g.seen) ++ (counters_text g.counts ++ rest)
    unfolding brief_text
    brief_front = whole ∙ append_assoc (runs_text g.live (runs_of g.seen)) (counters_text g.counts) rest

    pub few_counters : length bytes ≤ LIMIT → length (count_rows g.counts) < 2 ^ 32
    few_counters within =
        let all = ap length brief_front ∙ length-append (runs_text g.live (runs_of g.seen)) (counters_text g.counts ++ rest) in
        let tail = length-append (counters_text g.counts) rest in
        counts_within g.counts (omega (arith, all, tail, within))

-- ---- the text of a digest, part after part

pub brief_is : (g : DigestValue) (seen live : Dots) (counts : Counted) → seen ≡ g.seen → live ≡ g.live → counts ≡ g.counts → runs_text live (runs_of seen) ++ counters_text counts ≡ brief_text g
unfolding brief_text
brief_is g seen live counts p q r = (λ i. runs_text (q i) (runs_of (p i)) ++ counters_text (r i))
