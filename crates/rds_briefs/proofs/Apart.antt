-- No brief begins another, and one text has one digest.
use Rattle.std.proofs.Common.{◌≡◌, ◌^◌, ℕ, ◌+◌, ◌-◌, ◌<◌, ◌≤◌, Bool, true, false, ◌&&◌, ◌||◌, eqb, leb, List, [], ◌∷◌, ◌++◌, length, Ok, refl, sym, ap, ◌∙◌, arith}
use Rattle.std.specs.FinSet as set
use mathlib.Core.Bool.{false≢true}
use Rattle.std.proofs.lemmas.Bool.Decides.{nat_tests}
use Rattle.std.proofs.lemmas.List.{append-nil}
use Rattle.rds_dots.specs.declared.dot.Dot.{Dot}
use Rattle.rds_dots.specs.declared.dot.Run.{Run}
use Rattle.rds_dots.specs.Dots.{Dots, in_run}
use Rattle.rds_dots.specs.Lacking.{dot_of}
use Rattle.rds_dots.specs.Order.{dots_total, dots_exact}
use Rattle.rds_dots.specs.RunFacts.{Bounds, run_parts}
use Rattle.rds_dots.specs.Runs.{AreRuns, runs_cover, are_maximal, runs_of}
use Rattle.rds_dots.specs.RunsOf.{are_runs}
use Rattle.rds_counts.specs.RowsOf.{count_rows}
use Rattle.rds_delta.specs.Digested.{DigestValue, IsInside}
use Rattle.rds_bytes.specs.Reading.{counters_at}
use Rattle.rds_bytes.specs.Spelling.{counters_text}
use Rattle.rds_bytes.specs.Values.{AreDotsOf}
use Rattle.rds_bytes.proofs.CounterFormats.{counters_format}
use Rattle.rds_codec.specs.DigestTexts.{IsDigestOf}
use Rattle.rds_codec.specs.Laws.{HasText, StandApart}
use Rattle.rds_briefs.specs.BriefTexts.{runs_text}
use Rattle.rds_briefs.specs.Briefs.{brief_kind, brief_text}
use Rattle.rds_briefs.specs.Lives.{lives_in}
use Rattle.rds_briefs.proofs.DigestsRead.{brief_front, counters_found, few_counters}
use Rattle.rds_briefs.proofs.LivesApart.{AreAlike, lives_apart, packed_apart, same_first, same_rest}
use Rattle.rds_briefs.proofs.RunSteps.{behind, head, lives_of, runs_front}

-- ---- runs

of_replica : (a s r lo hi : ℕ) → (eqb a r && leb lo s && leb s hi) ≡ true → a ≡ r
of_replica a s r lo hi h = grind (arith, nat_tests)

from_first : (a s r lo hi : ℕ) → (eqb a r && leb lo s && leb s hi) ≡ true → lo ≤ s
from_first a s r lo hi h = grind (arith, nat_tests)

to_last : (a s r lo hi : ℕ) → (eqb a r && leb lo s && leb s hi) ≡ true → s ≤ hi
to_last a s r lo hi h = grind (arith, nat_tests)

-- two sets have the same of some dots
abbrev AgreeOn : (Dot → Bool) → Dots → Dots → Type 0
AgreeOn among v w = (d : Dot) → among d ≡ true → set.contains v d ≡ set.contains w d

abbrev LivesAgree : Dots → Dots → Run → Type 0
LivesAgree v w r = AreAlike (lives_in v r.replica) (lives_in w r.replica) r.lo (r.hi + 1 - r.lo)

on_run : (v w : Dots) (r : Run) → LivesAgree v w r → AgreeOn (in_run r) v w
on_run v w r same d h =
    let from = from_first d.replica d.seq r.replica r.lo r.hi h in
    let to = to_last d.replica d.seq r.replica r.lo r.hi h in
    let whose = of_replica d.replica d.seq r.replica r.lo r.hi h in
    let is : dot_of r.replica d.seq ≡ d = (λ i. record { replica = sym whose i; seq = d.seq }) in
    ap (λ (x : Dot). set.contains v x) (sym is) ∙ same d.seq from (omega (arith, from, to)) ∙ ap (λ (x : Dot). set.contains w x) is

on_runs : (v w : Dots) (r : Run) (rs : List Run) → AgreeOn (in_run r) v w → AgreeOn (runs_cover rs) v w → AgreeOn (runs_cover (r ∷ rs)) v w
on_runs v w r rs first rest d h = elim (in_run r d) as (λ b. in_run r d ≡ b → (b || runs_cover rs d) ≡ true → set.contains v d ≡ set.contains w d) [
  | true ↦ λ is _. first d is
  | false ↦ λ _ later. rest d later
] refl h

-- behind one number that two runs begin with
run_apart : (v w : Dots) (r t : Run) (rs ts : List Run) (x y : List ℕ) → Bounds r → Bounds t → r.lo ≡ t.lo → behind v (r ∷ rs) x ≡ behind w (t ∷ ts) y
    → ((r ≡ t) × LivesAgree v w r) × (runs_text v rs ++ x ≡ runs_text w ts ++ y)
run_apart v w r t rs ts x y b c from e =
    let rises = b.rises in
    let ascends = c.rises in
    let whose : r.replica ≡ t.replica = same_first _ _ _ _ e in
    let more = packed_apart 6 (r.hi - r.lo) (t.hi - t.lo) _ _ (same_rest _ _ _ _ e) in
    let far = more.0 in
    let to : r.hi ≡ t.hi = omega (arith, rises, ascends, from, far) in
    let same : r ≡ t = (λ i. record { replica = whose i; lo = from i; hi = to i }) in
    let after = more.1 ∙ ap (λ (z : Run). lives_of w z ++ (runs_text w ts ++ y)) (sym same) in
    let lives = lives_apart (lives_in v r.replica) (lives_in w r.replica) r.lo (r.hi + 1 - r.lo) (runs_text v rs ++ x) (runs_text w ts ++ y) after in
    ((same, lives.0), lives.1)

fronts : (v w : Dots) (rs ts : List Run) (x y : List ℕ) → runs_text v rs ++ x ≡ runs_text w ts ++ y → (head rs ≡ head ts) × (behind v rs x ≡ behind w ts y)
fronts v w rs ts x y e = packed_apart 6 (head rs) (head ts) (behind v rs x) (behind w ts y) (sym (runs_front v rs x) ∙ e ∙ runs_front w ts y)

-- no text of runs begins another
runs_apart : (v w : Dots) (rs ts : List Run) (x y : List ℕ) → are_maximal rs ≡ true → are_maximal ts ≡ true → runs_text v rs ++ x ≡ runs_text w ts ++ y
    → ((rs ≡ ts) × AgreeOn (runs_cover rs) v w) × (x ≡ y)
runs_apart v w [] [] x y maximal highest e = ((refl, λ d h. absurd (false≢true h)), (fronts v w [] [] x y e).1)
runs_apart v w [] (t ∷ ts) x y maximal highest e =
    let none = (fronts v w [] (t ∷ ts) x y e).0 in
    let one = (run_parts t ts highest).bounds.one in absurd (omega (arith, none, one))
runs_apart v w (r ∷ rs) [] x y maximal highest e =
    let none = (fronts v w (r ∷ rs) [] x y e).0 in
    let one = (run_parts r rs maximal).bounds.one in absurd (omega (arith, none, one))
runs_apart v w (r ∷ rs) (t ∷ ts) x y maximal highest e =
    let p = run_parts r rs maximal in
    let q = run_parts t ts highest in
    let both = fronts v w (r ∷ rs) (t ∷ ts) x y e in
    let first = run_apart v w r t rs ts x y p.bounds q.bounds both.0 both.1 in
    let rest = runs_apart v w rs ts x y p.rest q.rest first.1 in
    ((λ i. first.0.0 i ∷ rest.0.0 i, on_runs v w r rs (on_run v w r first.0.1) rest.0.1), rest.1)

-- ---- sets and digests

outside : (s l : Bool) → s ≡ false → (l ≡ true → s ≡ true) → l ≡ false
outside s true none inside = absurd (false≢true (sym none ∙ inside refl))
outside s false none inside = refl

module _ (replicas : ℕ) where
  runs : (s : Dots) → AreDotsOf replicas s → AreRuns s (runs_of s)
  runs s are = are_runs s (λ d in_s. (are d in_s).0)

  -- seen dots and live ones of them
  pub record AreSets (g : DigestValue) : Type 0 where
    pub dots : AreDotsOf replicas g.seen
    pub inside : IsInside g.live g.seen

  pub sets_of : (g : DigestValue) → IsDigestOf replicas g → AreSets g
  sets_of g is = record { dots = is.dots; inside = is.inside }

  not_live : (g : DigestValue) → AreSets g → (d : Dot) → set.contains g.seen d ≡ false → set.contains g.live d ≡ false
  not_live g are d none = outside (set.contains g.seen d) (set.contains g.live d) none (are.inside.each_dot d)

  module _ (g h : DigestValue) (x y : List ℕ) (p : AreSets g) (q : AreSets h) (e : runs_text g.live (runs_of g.seen) ++ x ≡ runs_text h.live (runs_of h.seen) ++ y) where
    abbrev SameRuns : Type 0
    SameRuns = (runs_of g.seen ≡ runs_of h.seen) × AgreeOn (runs_cover (runs_of g.seen)) g.live h.live

    both_runs : SameRuns × (x ≡ y)
    both_runs = runs_apart g.live h.live (runs_of g.seen) (runs_of h.seen) x y (runs g.seen p.dots).maximal (runs h.seen q.dots).maximal e

    pub same_after : x ≡ y
    same_after = both_runs.1

    pub same_seen : g.seen ≡ h.seen
    same_seen =
        set.same_set dots_total dots_exact g.seen h.seen
        (λ d. sym ((runs g.seen p.dots).same d) ∙ ap (λ (rs : List Run). runs_cover rs d) both_runs.0.0 ∙ (runs h.seen q.dots).same d)

    one_live : (d : Dot) → set.contains g.live d ≡ set.contains h.live d
    one_live d = elim (set.contains g.seen d) as (λ b. set.contains g.seen d ≡ b → set.contains g.live d ≡ set.contains h.live d) [
      | true ↦ λ is. both_runs.0.1 d ((runs g.seen p.dots).same d ∙ is)
      | false ↦ λ is. not_live g p d is ∙ sym (not_live h q d (ap (λ (s : Dots). set.contains s d) (sym same_seen) ∙ is))
    ] refl

    pub same_live : g.live ≡ h.live
    same_live = set.same_set dots_total dots_exact g.live h.live one_live

  abbrev Has : DigestValue → Type 0
  Has g = HasText (brief_kind replicas) g

  pub few : (g : DigestValue) → Has g → length (count_rows g.counts) < 2 ^ 32
  few g has = few_counters replicas g has.is_value (brief_text g) [] (sym (append-nil (brief_text g))) has.within

  module _ (g h : DigestValue) (x y : List ℕ) (p : Has g) (q : Has h) (e : brief_text g ++ x ≡ brief_text h ++ y) where
    abbrev after : List ℕ
    after = counters_text g.counts ++ x

    abbrev others : List ℕ
    others = counters_text h.counts ++ y

    both_fronts : runs_text g.live (runs_of g.seen) ++ after ≡ runs_text h.live (runs_of h.seen) ++ others
    both_fronts = sym (brief_front replicas g p.is_value (brief_text g ++ x) x refl) ∙ e ∙ brief_front replicas h q.is_value (brief_text h ++ y) y refl

    both_counts : (g.counts ≡ h.counts) × (x ≡ y)
    both_counts =
        let read : counters_at replicas after ≡ Ok (g.counts, x) = (counters_format replicas).again g.counts x (p.is_value.counts, few g p) in
        let same = same_after g h after others (sets_of g p.is_value) (sets_of h q.is_value) both_fronts in
        counters_found replicas after h.counts y q.is_value.counts (few h q) same g.counts x read

    same_digest : g ≡ h
    same_digest =
        let seen = same_seen g h after others (sets_of g p.is_value) (sets_of h q.is_value) both_fronts in
        let live = same_live g h after others (sets_of g p.is_value) (sets_of h q.is_value) both_fronts in
        (λ i. record { seen = seen i; live = live i; counts = both_counts.0 i })

-- no digest's brief begins another's, and each has one digest
pub briefs_apart : (replicas : ℕ) → StandApart (brief_kind replicas)
briefs_apart replicas g h x y p q e = (same_digest replicas g h x y p q e, (both_counts replicas g h x y p q e).1)
