-- What is read as a brief is the brief of what is read.
use Rattle.std.proofs.Common.{◌≡◌, ℕ, ◌<◌, Bool, true, cond, ◌&&◌, ◌||◌, inl, inr, ltb, List, ◌++◌, length, take, drop, Result, Ok, Err, refl, sym, ap, subst, ◌∙◌, append_assoc}
use Rattle.std.specs.Prelude.{min}
use Rattle.std.specs.Str.{bytes_eq}
use Rattle.std.specs.FinSet as set
use mathlib.Core.Bool.{false≢true}
use Rattle.std.proofs.lemmas.Bool.{lt-ltb, ltb-true}
use Rattle.std.proofs.lemmas.List.{drop_at, take-append-drop}
use Rattle.std.proofs.lemmas.Slice.Eq.{bytes_eq-Decides}
use Rattle.rds_names.specs.Conditions.{and_left, and_right, and_true}
use Rattle.rds_names.specs.declared.fault.Fault.{Fault}
use Rattle.rds_names.specs.declared.fault.Fault.TheVariants.{Cut, Bad}
use Rattle.rds_dots.specs.declared.dot.Dot.{Dot}
use Rattle.rds_dots.specs.declared.dot.TheConstants.{MAX_SEQ}
use Rattle.rds_dots.specs.Dots.{Dots, dot_cmp, is_dot}
use Rattle.rds_dots.specs.Listed.{lists}
use Rattle.rds_dots.specs.Runs.{runs_of}
use Rattle.rds_counts.specs.Counted.{Counted}
use Rattle.rds_delta.specs.Digested.{DigestValue, IsInside}
use Rattle.rds_bytes.specs.Reading.{◌>>=◌, Reader, pair_at, bytes_at, counters_at}
use Rattle.rds_bytes.specs.Spelling.{counters_text}
use Rattle.rds_bytes.specs.Values.{AreDotsOf}
use Rattle.rds_bytes.proofs.CounterFormats.{AreCounts, counters_format}
use Rattle.rds_bytes.proofs.Format.{IsBytes, IsBytes-drop, IsFormat, Takes, bind_ok, chosen, guard_ok, ok_is, done, failed, known_format, when_format, pair_format}
use Rattle.rds_codec.specs.DigestTexts.{IsDigestOf, digest_by}
use Rattle.rds_codec.specs.Laws.{HasText}
use Rattle.rds_briefs.specs.BriefTexts.{runs_text}
use Rattle.rds_briefs.specs.Briefs.{brief_kind, brief_text}
use Rattle.rds_briefs.specs.ReadBriefs.{brief_at, brief_with_at, dots_up_to, exactly_at, with_some, ReadsTexts}
use Rattle.rds_briefs.proofs.Apart.{AreSets, few, same_after, same_live, same_seen, sets_of}
use Rattle.rds_briefs.proofs.DigestsRead.{brief_front, counters_found}
use Rattle.rds_briefs.proofs.Trying.{Succeeds, all_bad, lists-all, one_reads, read_with}

-- ---- a text in front

exact_format : (t : List ℕ) → IsFormat (exactly_at t) (λ x. x) (λ x. (length x ≡ length t) × (bytes_eq t x ≡ true))
exact_format t = when_format (bytes_eq t) (bytes_at (length t)) (λ x. x) (λ x. length x ≡ length t) (known_format (length t))

exact_found : (t bytes : List ℕ) (x : List ℕ × List ℕ) → exactly_at t bytes ≡ Ok x → bytes ≡ t ++ x.1
exact_found t bytes x e =
    let a = bind_ok (bytes_at (length t) bytes) (λ a. cond (bytes_eq t a.0) (Ok a) (Err Bad)) x e in
    let read = guard_ok (ltb (length bytes) (length t)) Cut (take (length t) bytes, drop (length t) bytes) a.0 a.1 in
    elim (chosen (bytes_eq t a.0.0) (Ok a.0) (Err Bad) (Ok x) a.2) [
      | inl k ↦
          let taken : take (length t) bytes ≡ t = ap (λ (p : List ℕ × List ℕ). p.0) read.1 ∙ sym ((bytes_eq-Decides t a.0.0).0 k.0) in
          let left : drop (length t) bytes ≡ x.1 = ap (λ (p : List ℕ × List ℕ). p.1) (read.1 ∙ ok_is a.0 x k.1) in
          sym (take-append-drop (length t) bytes) ∙ (λ i. taken i ++ left i)
      | inr k ↦ absurd (let bad : failed {A = List ℕ × List ℕ} Bad ≡ Ok x = k.1 in cc)
    ]

pub rest_fits : (t bytes rest : List ℕ) → IsBytes bytes → bytes ≡ t ++ rest → IsBytes rest
rest_fits t bytes rest fits is = subst IsBytes (ap (drop (length t)) is ∙ drop_at t rest (length t) refl) (IsBytes-drop (length t) bytes fits)

-- ---- a brief in front

in_none : (d : Dot) → set.contains (set.empty {R = dot_cmp}) d ≡ true → {A : Type 0} → A
in_none d h = absurd (false≢true (sym (set.contains-empty dot_cmp d) ∙ h))

beside_none : (d : Dot) (b : Bool) → (set.contains (set.empty {R = dot_cmp}) d || b) ≡ b
beside_none d b = ap (λ c. c || b) (set.contains-empty dot_cmp d)

module _ (replicas : ℕ) where
  abbrev seen_at : Dots → Reader DigestValue
  seen_at seen = with_some (brief_with_at replicas seen) (set.items seen) set.empty

  abbrev all : List Dot
  all = dots_up_to (min replicas 256) MAX_SEQ

  record Stands (bytes : List ℕ) (g : DigestValue) (rest : List ℕ) : Type 0 where
    pub after : List ℕ
    pub front : bytes ≡ runs_text g.live (runs_of g.seen) ++ after
    pub counts : counters_at replicas after ≡ Ok (g.counts, rest)
    pub sets : AreSets replicas g

  made_of : {A B : Type 0} (make : A → B) (p q : A × List ℕ) (x : B × List ℕ) → p ≡ q → done (make q.0, q.1) ≡ Ok x → (make p.0, p.1) ≡ x
  made_of {A} make p q x same e = ap (λ (r : A × List ℕ). (make r.0, r.1)) same ∙ ok_is (make q.0, q.1) x e

  stands_as : (bytes : List ℕ) (x y : DigestValue × List ℕ) → x ≡ y → Stands bytes x.0 x.1 → Stands bytes y.0 y.1
  stands_as bytes x y e h = subst (λ (z : DigestValue × List ℕ). Stands bytes z.0 z.1) e h

  stands_with : (seen live : Dots) (bytes : List ℕ) (x : DigestValue × List ℕ) → AreDotsOf replicas seen → IsInside live seen → brief_with_at replicas seen live bytes ≡ Ok x → Stands bytes x.0 x.1
  unfolding brief_with_at
  stands_with seen live bytes x dots inside e =
      let t = runs_text live (runs_of seen) in
      let make : List ℕ × Counted → DigestValue = λ p. digest_by (seen, (live, p.1)) in
      let a = bind_ok (pair_at (exactly_at t) (counters_at replicas) bytes) (λ a. Ok (make a.0, a.1)) x e in
      let b = bind_ok (exactly_at t bytes) (λ b. counters_at replicas b.1 >>= λ c. Ok ((b.0, c.0), c.1)) a.0 a.1 in
      let c = bind_ok (counters_at replicas b.0.1) (λ c. Ok ((b.0.0, c.0), c.1)) a.0 b.2 in
      stands_as bytes (make (b.0.0, c.0.0), c.0.1) x (made_of make ((b.0.0, c.0.0), c.0.1) a.0 x (ok_is ((b.0.0, c.0.0), c.0.1) a.0 c.2) a.2)
      (record { after = b.0.1; front = exact_found t bytes b.0 b.1; counts = c.1; sets = record { dots = dots; inside = inside } })

  of_few : (d : Dot) → (is_dot d && ltb d.replica replicas) ≡ true → (is_dot d ≡ true) × (d.replica < replicas)
  of_few d h = (and_left (is_dot d) _ h, ltb-true _ _ (and_right (is_dot d) _ h))

  is_of_few : (d : Dot) → (is_dot d ≡ true) × (d.replica < replicas) → (is_dot d && ltb d.replica replicas) ≡ true
  is_of_few d h = and_true (is_dot d) _ h.0 (lt-ltb _ _ h.1)

  stands : (bytes : List ℕ) (x : DigestValue × List ℕ) → brief_at replicas bytes ≡ Ok x → Stands bytes x.0 x.1
  unfolding brief_at
  stands bytes x e =
      let seen = read_with seen_at bytes all set.empty x e in
      let live = read_with (brief_with_at replicas seen.dots) bytes (set.items seen.dots) set.empty x seen.reads in
      stands_with seen.dots live.dots bytes x
      (λ d h. of_few d (sym (lists-all replicas d) ∙ sym (beside_none d (lists all d)) ∙ seen.within d h))
      (record { each_dot = λ d h. set.contains-items seen.dots d ∙ sym (beside_none d (lists (set.items seen.dots) d)) ∙ live.within d h }) live.reads

  -- a digest's brief is read as with its sets
  module _ (g : DigestValue) (rest : List ℕ) (has : HasText (brief_kind replicas) g) where
    abbrev bytes : List ℕ
    bytes = brief_text g ++ rest

    with_own : brief_with_at replicas g.seen g.live bytes ≡ Ok (g, rest)
    unfolding brief_with_at brief_text
    with_own =
        let t = runs_text g.live (runs_of g.seen) in
        let both = pair_format (exactly_at t) (counters_at replicas) (λ x. x) counters_text _ (AreCounts replicas) (exact_format t) (counters_format replicas) in
        ap (λ (r : Result ((List ℕ × Counted) × List ℕ) Fault). r >>= λ a. Ok (digest_by (g.seen, (g.live, a.0.1)), a.1))
        (both.again (t, g.counts) rest ((refl, (bytes_eq-Decides t t).1 refl), (has.is_value.counts, few replicas g has)))

    seen_succeeds : Succeeds (seen_at g.seen bytes)
    seen_succeeds =
        one_reads (brief_with_at replicas g.seen) bytes g.live ((g, rest), with_own) (set.items g.seen) set.empty (λ d h. in_none d h)
        (λ d h. beside_none d (lists (set.items g.seen) d) ∙ sym (set.contains-items g.seen d) ∙ has.is_value.inside.each_dot d h)

    succeeds : Succeeds (brief_at replicas bytes)
    unfolding brief_at
    succeeds =
        one_reads seen_at bytes g.seen seen_succeeds all set.empty (λ d h. in_none d h)
        (λ d h. beside_none d (lists all d) ∙ lists-all replicas d ∙ is_of_few d (has.is_value.dots d h))

    read_again : brief_at replicas bytes ≡ Ok (g, rest)
    read_again =
        let s = stands bytes succeeds.0 succeeds.1 in
        let h = succeeds.0.0 in
        let is = has.is_value in
        let e = sym (brief_front replicas g is bytes rest refl) ∙ s.front in
        let after = counters_text g.counts ++ rest in
        let seen = same_seen replicas g h after s.after (sets_of replicas g is) s.sets e in
        let live = same_live replicas g h after s.after (sets_of replicas g is) s.sets e in
        let behind = same_after replicas g h after s.after (sets_of replicas g is) s.sets e in
        let last = counters_found replicas s.after g.counts rest is.counts (few replicas g has) (sym behind) h.counts succeeds.0.1 s.counts in
        let same : h ≡ g = (λ i. record { seen = sym seen i; live = sym live i; counts = last.0 i }) in
        succeeds.1 ∙ (λ i. done (same i, last.1 i))

  module _ (bytes : List ℕ) (g : DigestValue) (rest : List ℕ) (fits : IsBytes bytes) (e : brief_at replicas bytes ≡ Ok (g, rest)) where
    what_stands : Stands bytes g rest
    what_stands = stands bytes (g, rest) e

    counters : Takes what_stands.after (counters_text g.counts) rest × AreCounts replicas g.counts
    counters =
        let s = what_stands in
        (counters_format replicas).takes s.after (g.counts, rest) (rest_fits (runs_text g.live (runs_of g.seen)) bytes s.after fits s.front) s.counts

    its_brief : bytes ≡ brief_text g ++ rest
    unfolding brief_text
    its_brief =
        let runs = runs_text g.live (runs_of g.seen) in
        what_stands.front ∙ ap (λ (l : List ℕ). runs ++ l) counters.0.parts ∙ sym (append_assoc runs (counters_text g.counts) rest)

    is_digest : IsDigestOf replicas g
    is_digest = record { dots = what_stands.sets.dots; inside = what_stands.sets.inside; counts = counters.1.0 }

  never_else : (bytes : List ℕ) (e : Fault) → brief_at replicas bytes ≡ Err e → e ≡ Bad
  unfolding brief_at
  never_else bytes e h = all_bad seen_at bytes all set.empty e h

-- what is read as a brief is one, and each brief is read
pub briefs_read : (replicas : ℕ) → ReadsTexts (brief_kind replicas) (brief_at replicas)
briefs_read replicas = record {
  spelled = λ bytes g rest fits e. (is_digest replicas bytes g rest fits e, its_brief replicas bytes g rest fits e);
  taken = read_again replicas;
  refused = never_else replicas;
}
