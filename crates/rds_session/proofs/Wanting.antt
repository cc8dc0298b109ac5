-- What is wanted of a digest says all that matters of the one who wants.
use Rattle.std.proofs.Common.{◌≡◌, ℕ, Bool, true, false, not, ◌&&◌, ◌||◌, cond, List, [], ◌∷◌, ◌++◌, refl, sym, ap, ◌∙◌}
use mathlib.Core.Bool.{false≢true}
use Rattle.std.specs.Prelude.{nat_lt, Option, Some, None, Result, Ok, Err, IfOk, map as each}
use Rattle.rds_names.specs.declared.fault.Fault.{Fault}
use Rattle.std.specs.FinMap as map
use Rattle.std.specs.FinSet as set
use Rattle.std.specs.List.{AllByRecursion}
use Rattle.rds_dots.specs.Dots.{Dots}
use Rattle.rds_dots.specs.declared.dot.Dot.{Dot}
use Rattle.rds_dots.specs.Order.{dots_total, dots_exact}
use Rattle.rds_life.specs.Life.{Life}
use Rattle.rds_state.specs.Value.{StateValue}
use Rattle.rds_counts.specs.Counted.{number}
use Rattle.rds_delta.specs.Claims.{Claim, claim_at, life_claim, number_claim}
use Rattle.rds_delta.specs.Digested.{DigestValue, IsInside, digest_of, rank_in, ranks_in}
use Rattle.rds_delta.specs.Grouped.{rows_of_claims}
use Rattle.rds_delta.specs.Ranks.{Ranks, life_rank}
use Rattle.rds_delta.proofs.Bounds.{all_entries}
use Rattle.rds_delta.proofs.Digests.{live_inside, ranks_of_digest}
use Rattle.rds_bytes.specs.Values.{AreDotsOf}
use Rattle.rds_codec.specs.AnswerTexts.{answer}
use Rattle.rds_codec.specs.DigestTexts.{IsDigestOf}
use Rattle.rds_answers.specs.Checked.{certificate_of, is_greater, is_later, least_state}
use Rattle.rds_session.specs.Wants.{dead_there, wanted_by, wants_of}
use Rattle.rds_answers.proofs.Checks.{kept_lives}

-- ---- one dot: whether it is seen and live here, and in the other

abbrev dead_so : Bool → Bool → Bool → Bool
dead_so live seen_there live_there = (live && not live_there) && seen_there

abbrev rank_so : Bool → Bool → ℕ
rank_so live seen = cond live 1 (cond seen 2 0)

-- what the other takes it for: c is the one who wants, s the one who is asked
abbrev taken : Bool → Bool → Bool → Bool → ℕ
taken c_seen c_live s_seen s_live =
    let dead = dead_so c_live s_seen s_live in
    let lacked = ((s_seen && not c_seen) || dead) && not dead in
    rank_so ((s_live && not lacked) || dead) ((s_seen && not lacked) || dead)

-- it is above here exactly where it is in the one who wants, and has its rank then
abbrev IsSo : Bool → Bool → Bool → Bool → Type 0
IsSo c_seen c_live s_seen s_live =
    (nat_lt (taken c_seen c_live s_seen s_live) (rank_so s_live s_seen) ≡ nat_lt (rank_so c_live c_seen) (rank_so s_live s_seen))
    × (nat_lt (rank_so c_live c_seen) (rank_so s_live s_seen) ≡ true → taken c_seen c_live s_seen s_live ≡ rank_so c_live c_seen)

one_dot : (c_seen c_live s_seen s_live : Bool) → (c_live ≡ true → c_seen ≡ true) → (s_live ≡ true → s_seen ≡ true) → IsSo c_seen c_live s_seen s_live
one_dot false true s_seen s_live c s = absurd (false≢true (c refl))
one_dot c_seen c_live false true c s = absurd (false≢true (s refl))
one_dot false false false false c s = (refl, λ _. refl)
one_dot false false true false c s = (refl, λ _. refl)
one_dot false false true true c s = (refl, λ _. refl)
one_dot true false false false c s = (refl, λ h. absurd (false≢true h))
one_dot true false true false c s = (refl, λ h. absurd (false≢true h))
one_dot true false true true c s = (refl, λ h. absurd (false≢true h))
one_dot true true false false c s = (refl, λ h. absurd (false≢true h))
one_dot true true true false c s = (refl, λ _. refl)
one_dot true true true true c s = (refl, λ h. absurd (false≢true h))

-- ---- all dots

abbrev has : Dots → Dot → Bool
has s d = set.contains s d

-- ---- the sets of it

both : (a b : Bool) → (a && not (a && not b)) ≡ (a && b)
both true true = refl
both true false = refl
both false b = refl

pub both_in : (s t : Dots) → set.difference s (set.difference s t) ≡ set.intersection s t
both_in s t = set.same_set dots_total dots_exact _ _ (λ d.
    set.contains-difference dots_total s (set.difference s t) d ∙ ap (λ b. has s d && not b) (set.contains-difference dots_total s t d)
    ∙ both (has s d) (has t d) ∙ sym (set.contains-intersection dots_total s t d))

behind_or : (a b : Bool) → b ≡ true → (a || b) ≡ true
behind_or true b is = refl
behind_or false b is = is

either_in : (a b c : Bool) → (a ≡ true → c ≡ true) → (a || b) ≡ true → (c || b) ≡ true
either_in true b c so is = rw (so refl) refl
either_in false b c so is = behind_or c b is

without_in : (a b c : Bool) → (a ≡ true → b ≡ true) → (a && not c) ≡ true → (b && not c) ≡ true
without_in true b c so is = rw (so refl) is
without_in false b c so is = absurd (false≢true is)

pub union_inside : (s t : Dots) → IsInside t (set.union s t)
union_inside s t = record { each_dot = λ d is. set.contains-union dots_total s t d ∙ behind_or (has s d) (has t d) is }

pub replaced_inside : (s t less more : Dots) → IsInside s t → IsInside (set.union (set.difference s less) more) (set.union (set.difference t less) more)
replaced_inside s t less more inside = record {
  each_dot = λ d is.
      set.contains-union dots_total (set.difference t less) more d
      ∙ either_in (has (set.difference s less) d) (has more d) (has (set.difference t less) d)
      (λ left. set.contains-difference dots_total t less d ∙ without_in (has s d) (has t d) (has less d) (inside.each_dot d) (sym (set.contains-difference dots_total s less d) ∙ left))
      (sym (set.contains-union dots_total (set.difference s less) more d) ∙ is);
}

pub if_ok_so : {A : Type 0} (r : Result A Fault) (P Q : A → Type 0) → IfOk r P → ((x : A) → P x → Q x) → IfOk r Q
if_ok_so (Ok x) P Q is so = so x is
if_ok_so (Err e) P Q is so = tt

and_false : (b : Bool) → (b && false) ≡ false
and_false true = refl
and_false false = refl

-- ---- all of it

module _ (v : StateValue) (c : DigestValue) where
  abbrev s : DigestValue
  s = digest_of v

  abbrev dead : Dots
  dead = dead_there c s

  abbrev w : DigestValue
  w = wants_of c s

  abbrev g : DigestValue
  g = wanted_by s w

  abbrev dead_at : Dot → Bool
  dead_at d = dead_so (has c.live d) (has s.seen d) (has s.live d)

  abbrev lacked_at : Dot → Bool
  lacked_at d = ((has s.seen d && not (has c.seen d)) || dead_at d) && not (dead_at d)

  in_dead : (d : Dot) → has dead d ≡ dead_at d
  in_dead d = set.contains-intersection dots_total (set.difference c.live s.live) s.seen d ∙ ap (λ b. b && has s.seen d) (set.contains-difference dots_total c.live s.live d)

  in_wanted : (d : Dot) → has w.seen d ≡ ((has s.seen d && not (has c.seen d)) || dead_at d)
  in_wanted d =
      set.contains-union dots_total (set.difference s.seen c.seen) dead d
      ∙ ap (λ b. b || has dead d) (set.contains-difference dots_total s.seen c.seen d)
      ∙ ap (λ b. (has s.seen d && not (has c.seen d)) || b) (in_dead d)

  in_lacked : (d : Dot) → has (set.difference w.seen w.live) d ≡ lacked_at d
  in_lacked d =
      set.contains-difference dots_total w.seen w.live d
      ∙ ap (λ b. b && not (has w.live d)) (in_wanted d)
      ∙ ap (λ b. ((has s.seen d && not (has c.seen d)) || dead_at d) && not b) (in_dead d)

  in_taken : (t : Dots) (d : Dot) → has (set.union (set.difference t (set.difference w.seen w.live)) w.live) d ≡ ((has t d && not (lacked_at d)) || dead_at d)
  in_taken t d =
      set.contains-union dots_total (set.difference t (set.difference w.seen w.live)) w.live d
      ∙ ap (λ b. b || has w.live d) (set.contains-difference dots_total t (set.difference w.seen w.live) d ∙ ap (λ b. has t d && not b) (in_lacked d))
      ∙ ap (λ b. (has t d && not (lacked_at d)) || b) (in_dead d)

  rank_taken : (d : Dot) → rank_in g d ≡ taken (has c.seen d) (has c.live d) (has s.seen d) (has s.live d)
  rank_taken d =
      ap (λ b. cond b 1 (cond (has g.seen d) 2 0)) (in_taken s.live d)
      ∙ ap (λ b. cond ((has s.live d && not (lacked_at d)) || dead_at d) 1 (cond b 2 0)) (in_taken s.seen d)

  rank_here : (d : Dot) → life_rank (map.get v.lives d) ≡ rank_in s d
  rank_here d = ap (λ (r : Ranks). r.rank d) (sym (ranks_of_digest v))

  -- ---- the one who wants is taken for what it is, as far as that matters

  module _ (inside : IsInside c.live c.seen) where
    so : (d : Dot) → IsSo (has c.seen d) (has c.live d) (has s.seen d) (has s.live d)
    so d = one_dot (has c.seen d) (has c.live d) (has s.seen d) (has s.live d) (inside.each_dot d) ((live_inside v.lives).each_dot d)

    later_same : (d : Dot) → is_later g v d ≡ is_later c v d
    later_same d =
        ap (λ n. nat_lt n (life_rank (map.get v.lives d))) (rank_taken d)
        ∙ ap (nat_lt (taken (has c.seen d) (has c.live d) (has s.seen d) (has s.live d))) (rank_here d)
        ∙ (so d).0
        ∙ ap (nat_lt (rank_in c d)) (sym (rank_here d))

    rank_same : (d : Dot) → is_later c v d ≡ true → rank_in g d ≡ rank_in c d
    rank_same d later = rank_taken d ∙ (so d).1 (ap (nat_lt (rank_in c d)) (sym (rank_here d)) ∙ later)

    least_same : least_state v g ≡ least_state v c
    least_same = λ i. record { lives = map.retain_keys v.lives (λ d. later_same d i); counts = map.retain_keys v.counts (is_greater c v) }

    some_later : (b : Bool) (o : Option Life) (l : Life) → cond b o None ≡ Some l → b ≡ true
    some_later true o l is = refl
    some_later false o l is = absurd (let bad : None ≡ Some l = is in cc)

    abbrev SameRank : Dot × Life → Type 0
    SameRank e = rank_in g e.0 ≡ rank_in c e.0

    ranks_same : AllByRecursion SameRank (map.entries (least_state v c).lives)
    ranks_same = all_entries _ dots_total dots_exact SameRank (least_state v c).lives
        (λ d l is. rank_same d (some_later (is_later c v d) (map.get v.lives d) l (sym (kept_lives c v d) ∙ is)))

    claims_same : (es : List (Dot × Life)) → AllByRecursion SameRank es → each (life_claim (ranks_in g).rank) es ≡ each (life_claim (ranks_in c).rank) es
    claims_same [] all = refl
    claims_same (e ∷ es) all = λ i. claim_at e.0 (all.0 i) e.1 ∷ claims_same es all.1 i

    certificate_same : certificate_of g (least_state v c) ≡ certificate_of c (least_state v c)
    certificate_same =
        ap (λ (cs : List Claim). rows_of_claims (cs ++ each (number_claim (number c.counts)) (map.entries (least_state v c).counts))) (claims_same (map.entries (least_state v c).lives) ranks_same)

    -- so it is answered as it would be
    pub answer_same : (asker : ℕ) → answer asker (least_state v g) (certificate_of g (least_state v g)) ≡ answer asker (least_state v c) (certificate_of c (least_state v c))
    answer_same asker = ap (λ (x : StateValue). answer asker x (certificate_of g x)) least_same ∙ ap (answer asker (least_state v c)) certificate_same

  -- ---- what is wanted is a digest of as many replicas

  seen_so : (s_seen c_seen c_live s_live : Bool) → ((s_seen && not c_seen) || dead_so c_live s_seen s_live) ≡ true → s_seen ≡ true
  seen_so true c_seen c_live s_live is = refl
  seen_so false c_seen c_live s_live is = absurd (false≢true (sym (and_false (c_live && not s_live)) ∙ is))

  pub wants_is : (n : ℕ) → IsDigestOf n c → AreDotsOf n s.seen → IsDigestOf n w
  wants_is n is dots = record {
    dots = λ d h. dots d (seen_so (has s.seen d) (has c.seen d) (has c.live d) (has s.live d) (sym (in_wanted d) ∙ h));
    inside = union_inside (set.difference s.seen c.seen) dead;
    counts = is.counts;
  }
