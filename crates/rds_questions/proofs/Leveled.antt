-- Where a replica and one that asked it lack nothing of one another's.
use Rattle.std.proofs.Common.{◌≡◌, ◌≤◌, ℕ, Bool, true, false, List, ◌++◌, length, inl, inr, refl, sym, ap, subst, ◌∙◌, length-append, arith}
use Rattle.std.specs.FinSet as set
use Rattle.std.proofs.lemmas.List.{append-nil, nil_from_length}
use Rattle.rds_names.specs.Roster.{Begins, OneBegins, RosterValue}
use Rattle.rds_dots.specs.Order.{dots_exact, dots_total}
use Rattle.rds_counts.proofs.SameCounts.{same_counts}
use Rattle.rds_state.specs.Value.{StateValue, coordinates}
use Rattle.rds_delta.specs.Digested.{DigestValue, IsInside, digest_of, ranks_in}
use Rattle.rds_delta.specs.Least.{IsNothing, least}
use Rattle.rds_delta.specs.Ranks.{Ranks, ranks}
use Rattle.rds_delta.proofs.Digests.{live_inside, ranks_of_digest}
use Rattle.rds_questions.specs.Lacking.{LevelReplicasLackNothing}
use Rattle.rds_questions.specs.Taking.{AreReached, HasAllOf}
use Rattle.rds_questions.proofs.Reached.{here_told, live_reached, nothing_above, seen_reached, told_here}

-- ---- rosters of one length, of which one begins the other

begun : (r s : RosterValue) → Begins r s → length s.names ≤ length r.names → s ≡ r
begun r s begins le =
    let more = begins.1.0 in
    let parts = ap length begins.1.1 ∙ length-append r.names more in
    let none = nil_from_length more (omega (arith, le, parts)) in
    let names : s.names ≡ r.names = begins.1.1 ∙ (ap (λ (m : List (List ℕ)). r.names ++ m) none ∙ append-nil r.names) in
    λ i. record { group = sym begins.0 i; names = names i }

one_roster : (r s : RosterValue) → OneBegins r s → length r.names ≤ length s.names → length s.names ≤ length r.names → s ≡ r
one_roster r s (inl begins) le ge = begun r s begins ge
one_roster r s (inr begins) le ge = sym (begun s r begins le)

-- ---- digests that have come as far as one another

both_ways : (a b : Bool) → (a ≡ true → b ≡ true) → (b ≡ true → a ≡ true) → a ≡ b
both_ways true b there back = sym (there refl)
both_ways false true there back = back refl
both_ways false false there back = refl

module _ (g : DigestValue) (v : StateValue) (inside : IsInside g.live g.seen) (has : HasAllOf g v) (none : IsNothing (least (coordinates v) (ranks_in g))) where
  one_digest : g ≡ digest_of v
  one_digest =
      let own = digest_of v in
      let there = told_here v g has in
      let back = here_told v g none in
      let in_seen = seen_reached g own (live_inside v.lives) there in
      let has_seen = seen_reached own g inside back in
      let seen = set.same_set dots_total dots_exact g.seen own.seen (λ d. both_ways (set.contains g.seen d) (set.contains own.seen d) (in_seen.each_dot d) (has_seen.each_dot d)) in
      let live = set.same_set dots_total dots_exact g.live own.live (λ d. both_ways (set.contains g.live d) (set.contains own.live d)
      (λ is. live_reached own g back d is (in_seen.each_dot d (inside.each_dot d is)))
      (λ is. live_reached g own there d is (has_seen.each_dot d ((live_inside v.lives).each_dot d is)))) in
      let counts = same_counts g.counts v.counts (λ q. let le = has.numbers q in let ge = back.numbers q in omega (arith, le, ge)) in
      λ i. record { seen = seen i; live = live i; counts = counts i }

reached_itself : (r : Ranks) → AreReached r r
reached_itself r = record { ranks = λ d. omega arith; numbers = λ q. omega arith }

module _ (g : DigestValue) (v : StateValue) (same : g ≡ digest_of v) where
  ranked : ranks_in g ≡ ranks (coordinates v)
  ranked = ap (λ (x : DigestValue). ranks_in x) same ∙ ranks_of_digest v

  has_all_of_it : HasAllOf g v
  has_all_of_it = subst (λ (r : Ranks). AreReached r (ranks (coordinates v))) (sym ranked) (reached_itself (ranks (coordinates v)))

  nothing_for_it : IsNothing (least (coordinates v) (ranks_in g))
  nothing_for_it = nothing_above (coordinates v) (ranks_in g) (subst (AreReached (ranks (coordinates v))) (sym ranked) (reached_itself (ranks (coordinates v))))

-- ---- level replicas

pub level_lack_nothing : LevelReplicasLackNothing
level_lack_nothing q held lacks is gives = (
  λ none.
      (let here = gives.1.here.0 none.here in
      let there = gives.1.there.0 none.there in
      record {
        roster = one_roster held.roster q.hello.roster gives.0.0 there.roster here.roster;
        digest = one_digest q.digest held.state is.digest.inside here.state there.delta;
      }),
  λ level.
      (let names = ap (λ (r : RosterValue). length r.names) level.roster in
      record {
        here = gives.1.here.1 (record { roster = omega (arith, names); state = has_all_of_it q.digest held.state level.digest });
        there = gives.1.there.1 (record { roster = omega (arith, names); delta = nothing_for_it q.digest held.state level.digest });
      }),
)
