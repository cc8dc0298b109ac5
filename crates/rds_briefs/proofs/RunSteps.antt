-- Runs of seen dots that are read again, one after the other.
use Rattle.std.proofs.Common.{◌≡◌, ◌≢◌, ℕ, ◌+◌, ◌-◌, ◌*◌, ◌<◌, ◌≤◌, Bool, true, false, ◌&&◌, ◌||◌, eqb, leb, ltb, List, [], ◌∷◌, ◌++◌, Some, refl, sym, subst, ◌∙◌, ap, arith, append_assoc}
use Rattle.std.specs.List.{AllByRecursion}
use Rattle.std.specs.Ordering.{is_lt, nat_cmp, ordering_then}
use Rattle.std.specs.FinSet as set
use mathlib.Core.Bool.{false≢true}
use Rattle.std.proofs.lemmas.Bool.Decides.{nat_tests}
use Rattle.rds_dots.specs.declared.dot.Dot.{Dot}
use Rattle.rds_dots.specs.declared.dot.Run.{Run}
use Rattle.rds_dots.specs.declared.dot.TheConstants.{MAX_SEQ}
use Rattle.rds_dots.specs.Dots.{Dots, dot_cmp, in_run, comes_after}
use Rattle.rds_dots.specs.Lacking.{dot_of}
use Rattle.rds_dots.specs.RunFacts.{Bounds, run_parts, lt_of, lt_by}
use Rattle.rds_dots.specs.Runs.{runs_cover, dot_place, start, stop, begins_past, are_maximal}
use Rattle.rds_bytes.specs.declared.packed.TheConstants.{MAX_PACKED}
use Rattle.rds_bytes.specs.Packed.{packed_text, packed_text_up_to}
use Rattle.rds_briefs.specs.Lives.{lives_in}
use Rattle.rds_briefs.specs.BriefTexts.{lives_text, brief_run_text, runs_text}
use Rattle.rds_briefs.specs.ReadLives.{is_in_stretch, HasLives}
use Rattle.rds_briefs.specs.RunsRead.{RunsAreRead}
use Rattle.rds_briefs.proofs.Shorter.{next_run_text, no_run_text}

-- ---- the text of runs at the front of bytes

abbrev pub lives_of : Dots → Run → List ℕ
lives_of lives r = lives_text (lives_in lives r.replica) r.lo (r.hi + 1 - r.lo)

-- the number that runs begin with, 0 where there is none
abbrev pub head : List Run → ℕ
head [] = 0
head (r ∷ rs) = r.lo

-- what follows that number
abbrev pub behind : Dots → List Run → List ℕ → List ℕ
behind lives [] end = end
behind lives (r ∷ rs) end = r.replica ∷ (packed_text (r.hi - r.lo) ++ (lives_of lives r ++ (runs_text lives rs ++ end)))

zero_text : packed_text 0 ≡ 0 ∷ []
unfolding packed_text_up_to
zero_text = refl

run_front : (lives : Dots) (r : Run) (more : List ℕ) → brief_run_text lives r ++ more ≡ packed_text r.lo ++ (r.replica ∷ (packed_text (r.hi - r.lo) ++ (lives_of lives r ++ more)))
unfolding brief_run_text
run_front lives r more =
    append_assoc (packed_text r.lo) (r.replica ∷ (packed_text (r.hi - r.lo) ++ lives_of lives r)) more
    ∙ ap (λ (l : List ℕ). packed_text r.lo ++ (r.replica ∷ l)) (append_assoc (packed_text (r.hi - r.lo)) (lives_of lives r) more)

pub runs_front : (lives : Dots) (rs : List Run) (end : List ℕ) → runs_text lives rs ++ end ≡ packed_text (head rs) ++ behind lives rs end
runs_front lives [] end = ap (λ (l : List ℕ). l ++ end) (no_run_text lives ∙ sym zero_text)
runs_front lives (r ∷ rs) end = ap (λ (l : List ℕ). l ++ end) (next_run_text lives r rs) ∙ append_assoc (brief_run_text lives r) (runs_text lives rs) end ∙ run_front lives r (runs_text lives rs ++ end)

-- ---- what was read, and what is left

abbrev pub AreOf : ℕ → List Run → Type 0
AreOf replicas rs = AllByRecursion (λ (r : Run). r.replica < replicas) rs

pub record AreRunsRead (replicas : ℕ) (all : List Run) (lives seen live : Dots) (rest end : List ℕ) (last : Dot) : Type 0 where
  pub left : List Run
  pub bytes : rest ≡ runs_text lives left ++ end
  pub maximal : are_maximal left ≡ true
  pub each : AreOf replicas left
  pub past : begins_past (dot_place last.replica last.seq) left ≡ true
  pub within : last.seq ≤ MAX_SEQ
  pub each_seen : (d : Dot) → runs_cover all d ≡ (set.contains seen d || runs_cover left d)
  pub each_live : (d : Dot) → set.contains live d ≡ (set.contains seen d && set.contains lives d)

none_before : (rs : List Run) → are_maximal rs ≡ true → begins_past 0 rs ≡ true
none_before [] max = refl
none_before (r ∷ rs) max = (let b = (run_parts r rs max).bounds in let one = b.one in lt_by 0 (start r) (omega arith))

nothing : (s : Dots) → s ≡ set.empty → (d : Dot) → set.contains s d ≡ false
nothing s none d = ap (λ (t : Dots). set.contains t d) none ∙ set.contains-empty dot_cmp d

pub runs_begin : (replicas : ℕ) (all : List Run) (lives none empty : Dots) (bytes end : List ℕ) → none ≡ set.empty → empty ≡ set.empty → are_maximal all ≡ true → AreOf replicas all → bytes ≡ runs_text lives all ++ end
    → (let d : Dot = record { replica = 0; seq = 0 } in AreRunsRead replicas all lives none empty bytes end d)
runs_begin replicas all lives none empty bytes end first second max each is = record {
  left = all;
  bytes = is;
  maximal = max;
  each = each;
  past = none_before all max;
  within = omega arith;
  each_seen = λ d. sym (ap (λ b. b || runs_cover all d) (nothing none first d));
  each_live = λ d. nothing empty second d ∙ sym (ap (λ b. b && set.contains lives d) (nothing none first d));
}

low : (rs : List Run) → are_maximal rs ≡ true → head rs ≤ MAX_PACKED
low [] max = omega arith
low (r ∷ rs) max = (let b = (run_parts r rs max).bounds in let rises = b.rises in let most = b.most in omega arith)

or_none : (a b : Bool) → a ≡ (b || false) → b ≡ a
or_none a true h = sym h
or_none a false h = sym h

swapped : (a b c x : Bool) → a ≡ (b || (c || x)) → a ≡ ((c || b) || x)
swapped a true true x h = h
swapped a true false x h = h
swapped a false true x h = h
swapped a false false x h = h

live_more : (s m l : Bool) → ((s && l) || (m && l)) ≡ ((m || s) && l)
live_more true true l = or_same l
  where
    or_same : (l : Bool) → (l || l) ≡ l
    or_same true = refl
    or_same false = refl
live_more true false l = or_false l
  where
    or_false : (l : Bool) → (l || false) ≡ l
    or_false true = refl
    or_false false = refl
live_more false true l = refl
live_more false false l = refl

run_is : (a s r lo hi : ℕ) → lo ≤ hi → (eqb a r && leb lo s && ltb s (lo + (hi + 1 - lo))) ≡ (eqb a r && leb lo s && leb s hi)
run_is a s r lo hi le = grind (arith, nat_tests)

same_replica : (a r lo s hi : ℕ) → (eqb a r && leb lo s && leb s hi) ≡ true → a ≡ r
same_replica a r lo s hi h = grind (arith, nat_tests)

and_when : (m x y : Bool) → (m ≡ true → x ≡ y) → (m && x) ≡ (m && y)
and_when true x y h = h refl
and_when false x y h = refl

later : (a s r t : ℕ) → s ≤ 281474976710655 → 1 ≤ t → t ≤ 281474976710655 → a * 281474976710656 + s < r * 281474976710656 + t → is_lt (ordering_then (nat_cmp a r) (nat_cmp s t)) ≡ true
later a s r t p q u h = grind (arith, nat_tests)

dot_is : (d : Dot) (r : ℕ) → d.replica ≡ r → dot_of r d.seq ≡ d
dot_is d r e i = record { replica = sym e i; seq = d.seq }

-- the run that comes next, and those after it
pub record IsNextRead (replicas : ℕ) (all : List Run) (lives seen live : Dots) (after end : List ℕ) (last : Dot) (lo : ℕ) : Type 0 where
  pub run : Run
  pub rs : List Run
  pub bounds : Bounds run
  pub begins : run.lo ≡ lo
  pub bytes : after ≡ run.replica ∷ (packed_text (run.hi - lo) ++ (lives_text (lives_in lives run.replica) lo (run.hi + 1 - lo) ++ (runs_text lives rs ++ end)))
  pub below : run.replica < replicas
  pub comes : (let d : Dot = record { replica = run.replica; seq = lo } in comes_after (Some last) d ≡ true)
  pub apart : begins_past (stop run + 1) rs ≡ true
  pub maximal : are_maximal rs ≡ true
  pub each : AreOf replicas rs
  pub each_seen : (d : Dot) → runs_cover all d ≡ (set.contains seen d || (in_run run d || runs_cover rs d))

module _ (replicas : ℕ) (all : List Run) (lives seen live : Dots) (rest end : List ℕ) (last : Dot) (is : AreRunsRead replicas all lives seen live rest end last) where
  pub first_packed : head is.left ≤ MAX_PACKED
  first_packed = low is.left is.maximal

  pub runs_text_front : rest ≡ packed_text (head is.left) ++ behind lives is.left end
  runs_text_front = is.bytes ∙ runs_front lives is.left end

  -- a 0 ends them
  pub runs_end : (after : List ℕ) → 0 ≡ head is.left → after ≡ behind lives is.left end → (after ≡ end) × RunsAreRead all lives seen live
  runs_end after none behind_is = ended is.left is.maximal none behind_is is.each_seen
    where
      ended : (left : List Run) → are_maximal left ≡ true → 0 ≡ head left → after ≡ behind lives left end → ((d : Dot) → runs_cover all d ≡ (set.contains seen d || runs_cover left d)) → (after ≡ end) × RunsAreRead all lives seen live
      ended [] max e b s =
          (b, record { each_seen = λ d. or_none (runs_cover all d) (set.contains seen d) (s d); each_live = λ d. is.each_live d ∙ ap (λ x. x && set.contains lives d) (or_none (runs_cover all d) (set.contains seen d) (s d)) })
      ended (r ∷ rs) max e b s = (let one = (run_parts r rs max).bounds.one in absurd (omega arith))

  pub one_more : (lo : ℕ) (after : List ℕ) → lo ≢ 0 → lo ≡ head is.left → after ≡ behind lives is.left end → IsNextRead replicas all lives seen live after end last lo
  one_more lo after some e b = opened is.left is.maximal is.each is.past e b is.each_seen
    where
      opened : (left : List Run) → are_maximal left ≡ true → AreOf replicas left → begins_past (dot_place last.replica last.seq) left ≡ true → lo ≡ head left → after ≡ behind lives left end → ((d : Dot) → runs_cover all d ≡ (set.contains seen d || runs_cover left d)) → IsNextRead replicas all lives seen live after end last lo
      opened [] max each past e b s = absurd (some e)
      opened (r ∷ rs) max each past e b s =
          let p = run_parts r rs max in
          let rises = p.bounds.rises in
          let most = p.bounds.most in
          let within = is.within in
          let lt = lt_of (dot_place last.replica last.seq) (start r) past in
          record {
            run = r;
            rs = rs;
            bounds = p.bounds;
            begins = sym e;
            bytes = b ∙ ap (λ (n : ℕ). r.replica ∷ (packed_text (r.hi - n) ++ (lives_text (lives_in lives r.replica) n (r.hi + 1 - n) ++ (runs_text lives rs ++ end)))) (sym e);
            below = each.0;
            comes = subst (λ (n : ℕ). (let d : Dot = record { replica = r.replica; seq = n } in comes_after (Some last) d ≡ true)) (sym e) (later last.replica last.seq r.replica r.lo within p.bounds.one (omega arith) lt);
            apart = p.apart;
            maximal = p.rest;
            each = each.1;
            each_seen = s;
          }

-- the run was put among the seen dots, and its live ones among the live
pub runs_go_on : (replicas : ℕ) (all : List Run) (lives seen live seen' live' : Dots) (after rest end : List ℕ) (last : Dot) (lo replica hi : ℕ) (next : IsNextRead replicas all lives seen live after end last lo)
    → ((d : Dot) → set.contains live d ≡ (set.contains seen d && set.contains lives d)) → replica ≡ next.run.replica → hi ≡ next.run.hi
    → (let run : Run = record { replica = replica; lo = lo; hi = hi } in (d : Dot) → set.contains seen' d ≡ (in_run run d || set.contains seen d)) → HasLives (lives_in lives next.run.replica) replica lo (hi + 1 - lo) live live'
    → rest ≡ runs_text lives next.rs ++ end → (let d : Dot = record { replica = replica; seq = hi } in AreRunsRead replicas all lives seen' live' rest end d)
runs_go_on replicas all lives seen live seen' live' after rest end last lo replica hi next is_live whose to put got bytes =
    let run = next.run in
    let most = next.bounds.most in
    let rises = next.bounds.rises in
    let begins = next.begins in
    let here : Run = record { replica = replica; lo = lo; hi = hi } in
    let same : here ≡ run = (λ i. record { replica = whose i; lo = sym begins i; hi = to i }) in
    let stops : stop here + 1 ≡ stop run + 1 = ap (λ (r : Run). stop r + 1) same in
    record {
      left = next.rs;
      bytes = bytes;
      maximal = next.maximal;
      each = next.each;
      past = begins_sooner next.rs (dot_place replica hi) (stop here + 1) (omega arith) (ap (λ n. begins_past n next.rs) stops ∙ next.apart);
      within = omega (arith, most, to);
      each_seen = λ d. swapped (runs_cover all d) (set.contains seen d) (in_run run d) (runs_cover next.rs d) (next.each_seen d) ∙ ap (λ b. b || runs_cover next.rs d) (sym (put d ∙ ap (λ (r : Run). in_run r d || set.contains seen d) same));
      each_live = λ d. (
          let among : is_in_stretch replica lo (hi + 1 - lo) d ≡ in_run here d = run_is d.replica d.seq replica lo hi (omega (arith, rises, begins, to)) in
          let mine : in_run here d ≡ true → lives_in lives run.replica d.seq ≡ set.contains lives d =
          λ h. ap (λ (x : Dot). set.contains lives x) (dot_is d run.replica (same_replica d.replica replica lo d.seq hi h ∙ whose)) in
          got d
          ∙ ap (λ b. b || (is_in_stretch replica lo (hi + 1 - lo) d && lives_in lives run.replica d.seq)) (is_live d)
          ∙ ap (λ b. (set.contains seen d && set.contains lives d) || (b && lives_in lives run.replica d.seq)) among
          ∙ ap (λ b. (set.contains seen d && set.contains lives d) || b) (and_when (in_run here d) _ _ mine)
          ∙ live_more (set.contains seen d) (in_run here d) (set.contains lives d)
          ∙ ap (λ b. b && set.contains lives d) (sym (put d)));
    }
  where
    begins_sooner : (rs : List Run) (m n : ℕ) → m ≤ n → begins_past n rs ≡ true → begins_past m rs ≡ true
    begins_sooner [] m n le h = refl
    begins_sooner (r ∷ rs) m n le h = (let lt = lt_of n (start r) h in lt_by m (start r) (omega arith))

-- ---- the walk goes up

sooner : (a s r t : ℕ) → s ≤ 281474976710655 → is_lt (ordering_then (nat_cmp a r) (nat_cmp s t)) ≡ true → a * 281474976710656 + s < r * 281474976710656 + t
sooner a s r t p h = grind (arith, nat_tests)

pub goes_up : (end first : Dot) (hi : ℕ) → end.seq ≤ MAX_SEQ → first.replica ≤ 255 → first.seq ≤ hi → hi ≤ MAX_SEQ → comes_after (Some end) first ≡ true
    → 256 * 281474976710656 - dot_place first.replica hi < 256 * 281474976710656 - dot_place end.replica end.seq
goes_up end first hi within small rises most comes = (let lt = sooner end.replica end.seq first.replica first.seq within comes in omega arith)

-- ---- parts of a step

pub none_seen : (s : Dots) → s ≡ set.empty → (d : Dot) → set.contains s d ≡ true → ⊥
none_seen s none d h = false≢true (sym (nothing s none d) ∙ h)

of_run : (a s r lo hi : ℕ) → (eqb a r && leb lo s && leb s hi) ≡ true → a ≡ r
of_run a s r lo hi h = grind (arith, nat_tests)

pub still_below : (replicas replica lo hi : ℕ) (seen new : Dots) → ((d : Dot) → set.contains seen d ≡ true → d.replica < replicas) → replica < replicas
    → (let run : Run = record { replica = replica; lo = lo; hi = hi } in (d : Dot) → set.contains new d ≡ (in_run run d || set.contains seen d)) → (d : Dot) → set.contains new d ≡ true → d.replica < replicas
still_below replicas replica lo hi seen new below one put d h =
    let run : Run = record { replica = replica; lo = lo; hi = hi } in
    elim (in_run run d) as (λ b. in_run run d ≡ b → (b || set.contains seen d) ≡ true → d.replica < replicas) [
      | true ↦ λ is _. (let e = of_run d.replica d.seq replica lo hi is in omega (arith, e, one))
      | false ↦ λ _ old. below d old
    ] refl (sym (put d) ∙ h)

pub run_fits : (r : Run) → Bounds r → (lo : ℕ) → r.lo ≡ lo → (lo ≤ r.hi) × (r.hi ≤ MAX_SEQ)
run_fits r b lo e = (let rises = b.rises in (omega arith, b.most))

pub after_is : (last : Dot) (replica same lo : ℕ) (b : Bool) → replica ≡ same → (let d : Dot = record { replica = same; seq = lo } in comes_after (Some last) d ≡ true) → (let d : Dot = record { replica = replica; seq = lo } in b ≡ comes_after (Some last) d) → b ≡ false → ⊥
after_is last replica same lo true e comes is h = false≢true (sym h)
after_is last replica same lo false e comes is h =
    false≢true (is ∙ ap (λ (n : ℕ). (let d : Dot = record { replica = n; seq = lo } in comes_after (Some last) d)) e ∙ comes)
