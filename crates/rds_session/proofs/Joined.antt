-- With a delta that is above what is kept there is their join.
use Rattle.std.proofs.Common.{◌≡◌, ◌∙◌, ◌<◌, Bool, true, false, cond, List, [], ◌∷◌, ◌++◌, max, Option, Some, None, is_some, refl, sym, ap, subst, arith}
use Rattle.std.specs.FinMap as map
use Rattle.std.specs.Ordering.{eq_by_cmp}
use Rattle.std.specs.declared.cmp.Ordering.{Ordering}
use Rattle.rds_dots.specs.declared.dot.Dot.{Dot}
use Rattle.rds_dots.specs.Dots.{dot_cmp}
use Rattle.rds_dots.specs.Order.{dots_total}
use Rattle.rds_counts.specs.Counted.{Above, number_from}
use Rattle.rds_counts.specs.Place.{Place, place_cmp}
use Rattle.rds_counts.specs.PlaceOrder.{place_total}
use Rattle.rds_delta.proofs.Digests.{ranks_of_digest}
use Rattle.rds_delta.proofs.LeastLaws.{grown_delta, least_above}
use Rattle.rds_delta.specs.Digested.{digest_of}
use Rattle.rds_delta.specs.Least.{IsAbove, least}
use Rattle.rds_delta.specs.Ranks.{life_rank, ranks}
use Rattle.rds_life.specs.Life.{Life, Live, Dead, LivesAreCompatible, join_life}
use Rattle.rds_state.proofs.JoinLaws.{commutative, reflexive, same_coordinates, same_value}
use Rattle.rds_state.specs.Coordinates.{Coordinates, join}
use Rattle.rds_state.specs.Fits.{ReplicaValue}
use Rattle.rds_state.specs.Value.{StateValue, coordinates}
use Rattle.rds_answers.proofs.Checks.{least_coordinates}
use Rattle.rds_answers.specs.Checked.{least_state}
use Rattle.rds_session.specs.Marked.{with_delta}
use Rattle.rds_session.specs.Meeting.{HoldJoins, held_with}

-- ---- one map laid over another

abbrev pub over : {X : Type 0} → Option X → Option X → Option X
over (Some x) below = Some x
over None below = below

find_by : {X : Type 0} (b : Bool) (x : X) (all first later : Option X) → all ≡ over first later → cond b (Some x) all ≡ over (cond b (Some x) first) later
find_by true x all first later is = refl
find_by false x all first later is = is

find_over : {K X : Type 0} (R : K → K → Ordering) (q : K) (xs ys : List (K × X)) → map.find R q (xs ++ ys) ≡ over (map.find R q xs) (map.find R q ys)
find_over R q [] ys = refl
find_over R q (e ∷ xs) ys = find_by (eq_by_cmp R q e.0) e.1 (map.find R q (xs ++ ys)) (map.find R q xs) (map.find R q ys) (find_over R q xs ys)

pub life_over : (kept delta : StateValue) (d : Dot) → map.get (with_delta kept delta).lives d ≡ over (map.get delta.lives d) (map.get kept.lives d)
life_over kept delta d =
    map.get-from_entries dots_total (map.entries delta.lives ++ map.entries kept.lives) d
    ∙ find_over dot_cmp d (map.entries delta.lives) (map.entries kept.lives)
    ∙ rw (← map.get-entries delta.lives d, ← map.get-entries kept.lives d) refl

count_over : (kept delta : StateValue) (q : Place) → map.get (with_delta kept delta).counts q ≡ over (map.get delta.counts q) (map.get kept.counts q)
count_over kept delta q =
    map.get-from_entries place_total (map.entries delta.counts ++ map.entries kept.counts) q
    ∙ find_over place_cmp q (map.entries delta.counts) (map.entries kept.counts)
    ∙ rw (← map.get-entries delta.counts q, ← map.get-entries kept.counts q) refl

-- ---- it is the join

later_joins : (kept delta : Option Life) → (is_some delta ≡ true → life_rank kept < life_rank delta) → over delta kept ≡ join_life kept delta
later_joins None None above = refl
later_joins (Some (Live e)) None above = refl
later_joins (Some Dead) None above = refl
later_joins None (Some life) above = refl
later_joins (Some (Live e)) (Some (Live f)) above = absurd (omega (arith, above refl))
later_joins (Some Dead) (Some (Live f)) above = absurd (omega (arith, above refl))
later_joins (Some (Live e)) (Some Dead) above = refl
later_joins (Some Dead) (Some Dead) above = absurd (omega (arith, above refl))

greater_joins : (kept delta : Option Above) → (0 < number_from delta → number_from kept < number_from delta) → number_from (over delta kept) ≡ max (number_from kept) (number_from delta)
greater_joins kept None above = omega arith
greater_joins kept (Some a) above = omega (arith, above (omega arith))

pub with_delta_joins : (kept delta : StateValue) → IsAbove (coordinates delta) (ranks (coordinates kept)) → coordinates (with_delta kept delta) ≡ join (coordinates kept) (coordinates delta)
with_delta_joins kept delta above =
    same_coordinates (coordinates (with_delta kept delta)) (join (coordinates kept) (coordinates delta))
    (λ d. life_over kept delta d ∙ later_joins (map.get kept.lives d) (map.get delta.lives d) (above.lives d))
    (λ q. ap number_from (count_over kept delta q) ∙ greater_joins (map.get kept.counts q) (map.get delta.counts q) (above.numbers q))

-- a state with the coordinates of the join is that
pub is_with_delta : (kept delta joined : StateValue) → IsAbove (coordinates delta) (ranks (coordinates kept)) → coordinates joined ≡ join (coordinates kept) (coordinates delta) → joined ≡ with_delta kept delta
is_with_delta kept delta joined above is = same_value joined (with_delta kept delta) (is ∙ sym (with_delta_joins kept delta above))

-- ---- what two hold at the end

-- the least delta against a state's digest, by its coordinates
least_of : (own peer : ReplicaValue) → coordinates (least_state peer.state (digest_of own.state)) ≡ least (coordinates peer.state) (ranks (coordinates own.state))
least_of own peer = least_coordinates peer.state (digest_of own.state) ∙ ap (least (coordinates peer.state)) (ranks_of_digest own.state)

pub hold_joins : HoldJoins
hold_joins own peer =
    with_delta_joins own.state (least_state peer.state (digest_of own.state))
    (subst (λ (c : Coordinates). IsAbove c (ranks (coordinates own.state))) (sym (least_of own peer)) (least_above (coordinates peer.state) (ranks (coordinates own.state))))

-- it is the join with all that the peer kept
held_is : (own peer : ReplicaValue) → coordinates (held_with own peer) ≡ join (coordinates own.state) (coordinates peer.state)
held_is own peer =
    hold_joins own peer ∙ ap (join (coordinates own.state)) (least_of own peer)
    ∙ grown_delta (coordinates peer.state) (coordinates own.state) (coordinates own.state) (reflexive (coordinates own.state))

-- so both hold one state, where no dot is live in both with different entries
pub both_hold : (a b : ReplicaValue) → LivesAreCompatible a.state.lives b.state.lives → held_with a b ≡ held_with b a
both_hold a b agree =
    same_value (held_with a b) (held_with b a)
    (held_is a b ∙ commutative (coordinates a.state) (coordinates b.state) (record { each_dot = agree.each_dot }) ∙ sym (held_is b a))
