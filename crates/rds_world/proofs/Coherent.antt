-- Coherence is kept by each event.
use Rattle.std.proofs.Common.{◌≡◌, ◌≢◌, ◌<◌, ℕ, Bool, true, false, cond, List, [], ◌∷◌, ◌++◌, refl, sym, ap, ◌∙◌, subst}
use Rattle.std.proofs.Common.{inl, inr, ◌⊎◌, arith, nat_lt, suc, max, Option, Some, None, slice_get, length}
use Rattle.std.specs.Prelude.{is_some}
use Rattle.std.proofs.lemmas.Bool.Decides.{nat_tests}
use Rattle.rds_names.specs.declared.entry.Entry.{Entry}
use Rattle.rds_names.specs.declared.fault.Fault.{Fault}
use Rattle.rds_names.specs.declared.fault.Fault.TheVariants.{NoSuch}
use Rattle.rds_dots.specs.declared.dot.Dot.{Dot}
use Rattle.rds_dots.specs.Lacking.{dot_of}
use Rattle.rds_life.specs.Life.{Live}
use Rattle.rds_state.specs.Coordinates.{Coordinates, AtMost, AreCompatible, join}
use Rattle.rds_state.specs.Edit.{refusal, effect}
use Rattle.rds_state.specs.Fits.{Fits}
use Rattle.rds_state.specs.Friends.{KnowsItsOwn}
use Rattle.rds_state.specs.Made.{entry_made}
use Rattle.rds_state.specs.declared.command.Command.{Command}
use Rattle.rds_state.proofs.FitsLemmas.{fits_more}
use Rattle.rds_state.proofs.JoinLaws.{reflexive, transitive, above_left, compatible_join}
use Rattle.rds_delta.specs.Ranks.{ranks}
use Rattle.rds_world.specs.declared.event.Event.{Event}
use Rattle.rds_world.specs.declared.event.Event.TheVariants.{Edit, Save, Crash, Ask, Answer, Take, Grow}
use Rattle.rds_world.specs.World.{World, Happening, Of, AnswerLent, Question, Reply, empty, put, initial_world, after_edit, lend}
use Rattle.rds_world.specs.World.{reply_from, after_reply, after_lent, after_take, after, refusal_of, next, hindrance, run}
use Rattle.rds_world.specs.World.{Accepted}
use Rattle.rds_world.specs.Coherent.{Position, AtMemory, AtKept, AtAsk, AtAnswer, state_asked, state_answered}
use Rattle.rds_world.specs.Coherent.{state_at_position}
use Rattle.rds_world.specs.Coherent.{AnswersIts, IsCoherent}
use Rattle.rds_delta.proofs.LeastLaws.{compatible_sym, compatible_least, least_part, least_above}
use Rattle.rds_world.proofs.States.{by_life, agree_if, compatible_same, knows_same, knows_grown, knows_join, knows_less}
use Rattle.rds_world.proofs.States.{fits_join, fits_below}
use Rattle.rds_world.proofs.Effects.{next_dot, next_unseen, effect_live, effect_dead, effect_number_own}
use Rattle.rds_world.proofs.Tables.{put_one, same_some, last_get, get_front, same_or_not}

-- a state of a world, wherever it stands
pub data IsIn (w : World) : Coordinates → Type 0 where
  of_memory : (r : ℕ) → IsIn w (w.memory r)
  of_kept : (r : ℕ) → IsIn w (w.kept r)
  of_ask : (k : ℕ) (q : Question) → slice_get w.asks k ≡ Some q → IsIn w q.state
  of_answer : (k : ℕ) (m : Reply) → slice_get w.answers k ≡ Some m → IsIn w m.state

asked_in : (P : Coordinates → Type 0) (o : Option Question) (a : Coordinates) → ((q : Question) → o ≡ Some q → P q.state) → state_asked o ≡ Some a → P a
asked_in P None a k e = cc
asked_in P (Some q) a k e = subst P (same_some q.state a e) (k q refl)

answered_in : (P : Coordinates → Type 0) (o : Option Reply) (a : Coordinates) → ((m : Reply) → o ≡ Some m → P m.state) → state_answered o ≡ Some a → P a
answered_in P None a k e = cc
answered_in P (Some m) a k e = subst P (same_some m.state a e) (k m refl)

in_of : (w : World) (p : Position) (a : Coordinates) → state_at_position w p ≡ Some a → IsIn w a
in_of w (AtMemory r) a e = subst (IsIn w) (same_some (w.memory r) a e) (of_memory r)
in_of w (AtKept r) a e = subst (IsIn w) (same_some (w.kept r) a e) (of_kept r)
in_of w (AtAsk k) a e = asked_in (IsIn w) (slice_get w.asks k) a (λ q p. of_ask k q p) e
in_of w (AtAnswer k) a e = answered_in (IsIn w) (slice_get w.answers k) a (λ m p. of_answer k m p) e

position_of : (w : World) (a : Coordinates) → IsIn w a → (p : Position) × (state_at_position w p ≡ Some a)
position_of w a (of_memory r) = (AtMemory r, refl)
position_of w a (of_kept r) = (AtKept r, refl)
position_of w a (of_ask k q e) = (AtAsk k, ap state_asked e)
position_of w a (of_answer k m e) = (AtAnswer k, ap state_answered e)

-- what others have of a replica, it has kept; and how states lie
module _ (w : World) (i : IsCoherent w) where
  pub agree_in : (a b : Coordinates) → IsIn w a → IsIn w b → AreCompatible a b
  agree_in a b x y = let p = position_of w a x in let q = position_of w b y in i.compatible p.0 q.0 a b p.1 q.1

  fits_in : (a : Coordinates) → IsIn w a → Fits w.replicas a
  fits_in a x = let p = position_of w a x in i.fits p.0 a p.1

  -- what any state has of a replica is in its memory
  pub own_known : (a : Coordinates) → IsIn w a → (r : ℕ) → KnowsItsOwn r (w.memory r) a
  own_known a (of_memory t) r = elim (same_or_not t r) [
    | inl e ↦ subst (λ s. KnowsItsOwn r (w.memory r) (w.memory s)) (sym e) (knows_same r (w.memory r))
    | inr n ↦ knows_grown r (w.kept r) (w.memory r) (w.memory t) (i.in_memory t r n) (i.kept_below r)
  ]
  own_known a (of_kept t) r = knows_grown r (w.kept r) (w.memory r) (w.kept t) (i.in_kept t r) (i.kept_below r)
  own_known a (of_ask k q e) r = knows_grown r (w.kept r) (w.memory r) q.state (i.in_asks k q e r) (i.kept_below r)
  own_known a (of_answer k m e) r = knows_grown r (w.kept r) (w.memory r) m.state (i.in_answers k m e r) (i.kept_below r)

-- where each state of a world is one of another or this one, which agrees with all of those
module _ (v w : World) (i : IsCoherent v) where
  one_more : (x : Coordinates) → ((a : Coordinates) → IsIn w a → IsIn v a ⊎ (a ≡ x)) → ((a : Coordinates) → IsIn v a → AreCompatible x a)
      → (p q : Position) (a b : Coordinates) → state_at_position w p ≡ Some a → state_at_position w q ≡ Some b
      → AreCompatible a b
  one_more x k h p q a b d e = go (k a (in_of w p a d)) (k b (in_of w q b e))
    where
      go : IsIn v a ⊎ (a ≡ x) → IsIn v b ⊎ (b ≡ x) → AreCompatible a b
      go (inl s) (inl t) = agree_in v i a b s t
      go (inl s) (inr t) = subst (AreCompatible a) (sym t) (compatible_sym x a (h a s))
      go (inr s) (inl t) = subst (λ y. AreCompatible y b) (sym s) (h b t)
      go (inr s) (inr t) = subst (λ y. AreCompatible y b) (sym s) (subst (AreCompatible x) (sym t) (compatible_same x))

  one_fits : (x : Coordinates) → ((a : Coordinates) → IsIn w a → IsIn v a ⊎ (a ≡ x)) → Fits v.replicas x → (p : Position) (a : Coordinates) → state_at_position w p ≡ Some a → Fits v.replicas a
  one_fits x k f p a d = elim (k a (in_of w p a d)) [ inl s ↦ fits_in v i a s | inr s ↦ subst (Fits v.replicas) (sym s) f ]

  -- where each state of a world is one of another
  none_more : ((a : Coordinates) → IsIn w a → IsIn v a) → (p q : Position) (a b : Coordinates) → state_at_position w p ≡ Some a → state_at_position w q ≡ Some b → AreCompatible a b
  none_more k p q a b d e = agree_in v i a b (k a (in_of w p a d)) (k b (in_of w q b e))

  none_fit : ((a : Coordinates) → IsIn w a → IsIn v a) → (p : Position) (a : Coordinates) → state_at_position w p ≡ Some a → Fits v.replicas a
  none_fit k p a d = fits_in v i a (k a (in_of w p a d))

module _ (w : World) (i : IsCoherent w) where
  -- ---- Save

  pub kept_grows : (r s : ℕ) → AtMost (w.kept s) (put w.kept r (w.memory r) s)
  kept_grows r s = put_one (λ t a. AtMost (w.kept t) a) w.kept r (w.memory r) (i.kept_below r) (λ t n. reflexive (w.kept t)) s

  up : (r s : ℕ) (a : Coordinates) → KnowsItsOwn s (w.kept s) a → KnowsItsOwn s (put w.kept r (w.memory r) s) a
  up r s a k = knows_grown s (w.kept s) (put w.kept r (w.memory r) s) a k (kept_grows r s)

  saved_known : (r s : ℕ) → KnowsItsOwn s (put w.kept r (w.memory r) s) (w.memory r)
  saved_known r s = put_one (λ t a. (r ≡ t → ⊥) ⊎ (t ≡ r) → KnowsItsOwn t a (w.memory r)) w.kept r (w.memory r) (λ z. knows_same r (w.memory r)) (λ t n z. i.in_memory r t (λ e. n (sym e))) s (not_or r s)
    where
      not_or : (a b : ℕ) → (a ≡ b → ⊥) ⊎ (b ≡ a)
      not_or a b = grind arith

  saved_in : (r : ℕ) (a : Coordinates) → IsIn (after w (Save r)) a → IsIn w a
  saved_in r a (of_memory t) = of_memory t
  saved_in r a (of_kept t) = put_one (λ t a. IsIn w a) w.kept r (w.memory r) (of_memory r) (λ t n. of_kept t) t
  saved_in r a (of_ask k q e) = of_ask k q e
  saved_in r a (of_answer k m e) = of_answer k m e

  save_coherent : (r : ℕ) → IsCoherent (after w (Save r))
  save_coherent r = record {
    compatible = none_more w (after w (Save r)) i (saved_in r);
    fits = none_fit w (after w (Save r)) i (saved_in r);
    in_memory = λ t s n. up r s (w.memory t) (i.in_memory t s n);
    in_kept = λ t s. put_one (λ t a. KnowsItsOwn s (put w.kept r (w.memory r) s) a) w.kept r (w.memory r) (saved_known r s) (λ t n. up r s (w.kept t) (i.in_kept t s)) t;
    in_asks = λ k q e s. up r s q.state (i.in_asks k q e s);
    in_answers = λ k m e s. up r s m.state (i.in_answers k m e s);
    kept_below = λ t. put_one (λ t a. AtMost a (w.memory t)) w.kept r (w.memory r) (reflexive (w.memory r)) (λ t n. i.kept_below t) t;
    asks_below = λ k q e. transitive _ _ _ (i.asks_below k q e) (kept_grows r q.asker);
    answers_below = λ k m e. transitive _ _ _ (i.answers_below k m e) (kept_grows r m.maker);
    askers = i.askers;
    makers = i.makers;
    answers_its = i.answers_its;
  }

  -- ---- Crash

  crashed_in : (r : ℕ) (a : Coordinates) → IsIn (after w (Crash r)) a → IsIn w a
  crashed_in r a (of_memory t) = put_one (λ t a. IsIn w a) w.memory r (w.kept r) (of_kept r) (λ t n. of_memory t) t
  crashed_in r a (of_kept t) = of_kept t
  crashed_in r a (of_ask k q e) = of_ask k q e
  crashed_in r a (of_answer k m e) = of_answer k m e

  crash_coherent : (r : ℕ) → IsCoherent (after w (Crash r))
  crash_coherent r = record {
    compatible = none_more w (after w (Crash r)) i (crashed_in r);
    fits = none_fit w (after w (Crash r)) i (crashed_in r);
    in_memory = λ t s. put_one (λ t a. t ≢ s → KnowsItsOwn s (w.kept s) a) w.memory r (w.kept r) (λ n. i.in_kept r s) (λ t n. i.in_memory t s) t;
    in_kept = i.in_kept;
    in_asks = i.in_asks;
    in_answers = i.in_answers;
    kept_below = λ t. put_one (λ t a. AtMost (w.kept t) a) w.memory r (w.kept r) (reflexive (w.kept r)) (λ t n. i.kept_below t) t;
    asks_below = i.asks_below;
    answers_below = i.answers_below;
    askers = i.askers;
    makers = i.makers;
    answers_its = i.answers_its;
  }

  -- ---- a memory becomes a state that agrees with all, and has of others what they keep

  module _ (r : ℕ) (x : Coordinates) (c : (a : Coordinates) → IsIn w a → AreCompatible x a) (f : Fits w.replicas x) (k : (s : ℕ) → r ≢ s → KnowsItsOwn s (w.kept s) x) (b : AtMost (w.memory r) x) (ns : ℕ → ℕ) where
    abbrev grown : World
    grown = record w { memory = put w.memory r x; memory_names = ns }

    grown_in : (a : Coordinates) → IsIn grown a → IsIn w a ⊎ (a ≡ x)
    grown_in a (of_memory t) = put_one (λ t a. IsIn w a ⊎ (a ≡ x)) w.memory r x (inr refl) (λ t n. inl (of_memory t)) t
    grown_in a (of_kept t) = inl (of_kept t)
    grown_in a (of_ask j q e) = inl (of_ask j q e)
    grown_in a (of_answer j m e) = inl (of_answer j m e)

    memory_grows : IsCoherent grown
    memory_grows = record {
      compatible = one_more w grown i x grown_in c;
      fits = one_fits w grown i x grown_in f;
      in_memory = λ t s. put_one (λ t a. t ≢ s → KnowsItsOwn s (w.kept s) a) w.memory r x (k s) (λ t n. i.in_memory t s) t;
      in_kept = i.in_kept;
      in_asks = i.in_asks;
      in_answers = i.in_answers;
      kept_below = λ t. put_one (λ t a. AtMost (w.kept t) a) w.memory r x (transitive _ _ _ (i.kept_below r) b) (λ t n. i.kept_below t) t;
      asks_below = i.asks_below;
      answers_below = i.answers_below;
      askers = i.askers;
      makers = i.makers;
      answers_its = i.answers_its;
    }

  -- ---- Edit: the new dot stands nowhere

  module _ (r : ℕ) (c : Command) (lt : r < w.replicas) (ok : refusal (w.memory r) r c ≡ None) where
    abbrev its_effect : Coordinates
    its_effect = effect (w.memory r) r c (entry_made c)

    new_nowhere : (a : Coordinates) → IsIn w a → (e g : Entry) (d : Dot) → its_effect.life d ≡ Some (Live e) → a.life d ≡ Some (Live g) → ⊥
    new_nowhere a x e g d p q =
        let n = effect_live (w.memory r) r c d e p in
        let u : (w.memory r).life (next_dot (w.memory r) r) ≡ None = next_unseen (w.memory r) r c e ok n.1 in
        let v : a.life (next_dot (w.memory r) r) ≡ Some (Live g) = subst (λ y. a.life y ≡ Some (Live g)) n.0 q in
        let y : is_some ((w.memory r).life (next_dot (w.memory r) r)) ≡ true = (own_known w i a x r).dots _ (ap is_some v) in
        let z : is_some ((w.memory r).life (next_dot (w.memory r) r)) ≡ false = ap is_some u in
        cc

    effect_agrees_all : (a : Coordinates) → IsIn w a → AreCompatible its_effect a
    effect_agrees_all a x = record { each_dot = λ d. agree_if (its_effect.life d) (a.life d) (λ e g p q. absurd (new_nowhere a x e g d p q)) }

    -- what the effect has is seen already, or the replica's own
    effect_seen : (d : Dot) → is_some (its_effect.life d) ≡ true → (d.replica ≡ r) ⊎ (is_some ((w.memory r).life d) ≡ true)
    effect_seen d p = by_life (its_effect.life d)
        (λ u. let q : is_some (its_effect.life d) ≡ false = ap is_some u in cc)
        (λ e q. inl (ap (λ y. y.replica) (effect_live (w.memory r) r c d e q).0))
        (λ q. inr (ap is_some (effect_dead (w.memory r) r c d q).1))

    effect_known : (s : ℕ) → r ≢ s → KnowsItsOwn s (w.kept s) its_effect
    effect_known s n = record {
      dots = λ m p. elim (effect_seen (dot_of s m) p) [ inl e ↦ absurd (n (sym e)) | inr q ↦ (i.in_memory r s n).dots m q ];
      numbers = λ q e. elim (effect_number_own (w.memory r) r c q) [ inl z ↦ omega (arith, z) | inr o ↦ absurd (n (sym o ∙ e)) ];
    }

    effect_fits : Fits w.replicas its_effect
    effect_fits = record {
      dots = λ d p. elim (effect_seen d p) [ inl e ↦ omega (arith, e, lt) | inr q ↦ (fits_in w i (w.memory r) (of_memory r)).dots d q ];
      numbers = λ q p. elim (effect_number_own (w.memory r) r c q) [ inl z ↦ absurd (omega (arith, z, p)) | inr o ↦ omega (arith, o, lt) ];
    }

    edit_coherent : IsCoherent (after w (Edit r c))
    edit_coherent = memory_grows r (after_edit (w.memory r) r c)
        (λ a x. compatible_join (w.memory r) its_effect a (agree_in w i (w.memory r) a (of_memory r) x) (effect_agrees_all a x))
        (fits_join w.replicas (w.memory r) its_effect (fits_in w i (w.memory r) (of_memory r)) effect_fits)
        (λ s n. knows_join s (w.kept s) (w.memory r) its_effect (i.in_memory r s n) (effect_known s n))
        (above_left (w.memory r) its_effect)
        w.memory_names

  -- ---- Take

  take_coherent : (k : ℕ) (o : Option Reply) → slice_get w.answers k ≡ o → IsCoherent (after_take w o)
  take_coherent k None e = i
  take_coherent k (Some m) e = memory_grows m.asker (join (w.memory m.asker) m.state)
      (λ a x. compatible_join (w.memory m.asker) m.state a (agree_in w i (w.memory m.asker) a (of_memory m.asker) x) (agree_in w i m.state a (of_answer k m e) x))
      (fits_join w.replicas (w.memory m.asker) m.state (fits_in w i (w.memory m.asker) (of_memory m.asker)) (fits_in w i m.state (of_answer k m e)))
      (λ s n. knows_join s (w.kept s) (w.memory m.asker) m.state (i.in_memory m.asker s n) (i.in_answers k m e s))
      (above_left (w.memory m.asker) m.state)
      (put w.memory_names m.asker (max (w.memory_names m.asker) m.names))

  -- ---- Ask

  asking_in : (r : ℕ) (a : Coordinates) → IsIn (after w (Ask r)) a → IsIn w a
  asking_in r a (of_memory t) = of_memory t
  asking_in r a (of_kept t) = of_kept t
  asking_in r a (of_ask k q e) = elim (last_get w.asks (lend w r) q k e) [ inl p ↦ of_ask k q p | inr p ↦ subst (λ x. IsIn w x.state) (sym p) (of_kept r) ]
  asking_in r a (of_answer k m e) = of_answer k m e

  still_its : (r : ℕ) (m : Reply) → AnswersIts w.asks m → AnswersIts (w.asks ++ lend w r ∷ []) m
  still_its r m a = record { question = a.question; asked = get_front w.asks (lend w r ∷ []) m.question a.question a.asked; asker = a.asker; above = a.above }

  ask_coherent : (r : ℕ) → r < w.replicas → IsCoherent (after w (Ask r))
  ask_coherent r lt = record {
    compatible = none_more w (after w (Ask r)) i (asking_in r);
    fits = none_fit w (after w (Ask r)) i (asking_in r);
    in_memory = i.in_memory;
    in_kept = i.in_kept;
    in_asks = λ k q e s. elim (last_get w.asks (lend w r) q k e) [ inl p ↦ i.in_asks k q p s | inr p ↦ subst (λ x. KnowsItsOwn s (w.kept s) x.state) (sym p) (i.in_kept r s) ];
    in_answers = i.in_answers;
    kept_below = i.kept_below;
    asks_below = λ k q e. elim (last_get w.asks (lend w r) q k e) [ inl p ↦ i.asks_below k q p | inr p ↦ subst (λ x. AtMost x.state (w.kept x.asker)) (sym p) (reflexive (w.kept r)) ];
    answers_below = i.answers_below;
    askers = λ k q e. elim (last_get w.asks (lend w r) q k e) [ inl p ↦ i.askers k q p | inr p ↦ subst (λ x. x.asker < w.replicas) (sym p) lt ];
    makers = i.makers;
    answers_its = λ k m e. still_its r m (i.answers_its k m e);
  }

  -- ---- Answer, of what was lent

  module _ (p : Question) (lent : IsIn w p.state) (known : (t : ℕ) → KnowsItsOwn t (w.kept t) p.state) (below : AtMost p.state (w.kept p.asker)) (lt : p.asker < w.replicas) where
    module _ (k : ℕ) (q : Question) (asked : slice_get w.asks k ≡ Some q) where
      abbrev new : Reply
      new = reply_from p k q

      answering_in : (a : Coordinates) → IsIn (after_reply w p k (Some q)) a → IsIn w a ⊎ (a ≡ new.state)
      answering_in a (of_memory t) = inl (of_memory t)
      answering_in a (of_kept t) = inl (of_kept t)
      answering_in a (of_ask j r e) = inl (of_ask j r e)
      answering_in a (of_answer j m e) = elim (last_get w.answers new m j e) [ inl o ↦ inl (of_answer j m o) | inr o ↦ inr (ap (λ x. x.state) o) ]

      new_agrees : (a : Coordinates) → IsIn w a → AreCompatible new.state a
      new_agrees a x = compatible_sym a new.state (compatible_least p.state (ranks q.state) a (agree_in w i a p.state x lent))

      new_fits : Fits w.replicas new.state
      new_fits = fits_below w.replicas new.state p.state (least_part p.state (ranks q.state)) (fits_in w i p.state lent)

      new_its : AnswersIts w.asks new
      new_its = record { question = q; asked = asked; asker = refl; above = least_above p.state (ranks q.state) }

      reply_coherent : IsCoherent (after_reply w p k (Some q))
      reply_coherent = record {
        compatible = one_more w (after_reply w p k (Some q)) i new.state answering_in new_agrees;
        fits = one_fits w (after_reply w p k (Some q)) i new.state answering_in new_fits;
        in_memory = i.in_memory;
        in_kept = i.in_kept;
        in_asks = i.in_asks;
        in_answers = λ j m e t. elim (last_get w.answers new m j e) [ inl o ↦ i.in_answers j m o t | inr o ↦ subst (λ x. KnowsItsOwn t (w.kept t) x.state) (sym o) (knows_less t (w.kept t) p.state new.state (known t) (least_part p.state (ranks q.state))) ];
        kept_below = i.kept_below;
        asks_below = i.asks_below;
        answers_below = λ j m e. elim (last_get w.answers new m j e) [ inl o ↦ i.answers_below j m o | inr o ↦ subst (λ x. AtMost x.state (w.kept x.maker)) (sym o) (transitive _ _ _ (least_part p.state (ranks q.state)) below) ];
        askers = i.askers;
        makers = λ j m e. elim (last_get w.answers new m j e) [ inl o ↦ i.makers j m o | inr o ↦ subst (λ x. x.maker < w.replicas) (sym o) lt ];
        answers_its = λ j m e. elim (last_get w.answers new m j e) [ inl o ↦ i.answers_its j m o | inr o ↦ subst (AnswersIts w.asks) (sym o) new_its ];
      }

    reply_any : (k : ℕ) (o : Option Question) → slice_get w.asks k ≡ o → IsCoherent (after_reply w p k o)
    reply_any k None e = i
    reply_any k (Some q) e = reply_coherent k q e

  answer_coherent : (s k : ℕ) → s < w.replicas → IsCoherent (after w (Answer s k))
  answer_coherent s k lt = reply_any (lend w s) (of_kept s) (i.in_kept s) (reflexive (w.kept s)) lt k (slice_get w.asks k) refl

  lent_coherent : (j k : ℕ) (o : Option Question) → slice_get w.asks j ≡ o → IsCoherent (after_lent w o k)
  lent_coherent j k None e = i
  lent_coherent j k (Some p) e = reply_any p (of_ask j p e) (i.in_asks j p e) (i.asks_below j p e) (i.askers j p e) k (slice_get w.asks k) refl

  -- ---- Grow

  growing_in : (r : ℕ) (name : List ℕ) (a : Coordinates) → IsIn (after w (Grow r name)) a → IsIn w a
  growing_in r name a (of_memory t) = of_memory t
  growing_in r name a (of_kept t) = of_kept t
  growing_in r name a (of_ask k q e) = of_ask k q e
  growing_in r name a (of_answer k m e) = of_answer k m e

  grow_coherent : (r : ℕ) (name : List ℕ) → IsCoherent (after w (Grow r name))
  grow_coherent r name = record {
    compatible = none_more w (after w (Grow r name)) i (growing_in r name);
    fits = λ p a d. fits_more w.replicas (suc w.replicas) a (omega arith) (none_fit w (after w (Grow r name)) i (growing_in r name) p a d);
    in_memory = i.in_memory;
    in_kept = i.in_kept;
    in_asks = i.in_asks;
    in_answers = i.in_answers;
    kept_below = i.kept_below;
    asks_below = i.asks_below;
    answers_below = i.answers_below;
    askers = λ k q e. let h : q.asker < w.replicas = i.askers k q e in omega arith;
    makers = λ k m e. let h : m.maker < w.replicas = i.makers k m e in omega arith;
    answers_its = i.answers_its;
  }

-- what an event that isn't refused says of its numbers
pub there : (b : Bool) (due : Option Fault) → cond b due (Some NoSuch) ≡ None → due ≡ None
there true due h = h
there false due h = cc

pub is_there : (r n : ℕ) (due : Option Fault) → cond (nat_lt r n) due (Some NoSuch) ≡ None → r < n
is_there r n due h = grind (arith, nat_tests)

pub event_coherent : (w : World) (i : IsCoherent w) (e : Event) → refusal_of w e ≡ None → IsCoherent (after w e)
event_coherent w i (Edit r c) ok = edit_coherent w i r c (is_there r w.replicas (refusal (w.memory r) r c) ok) (there (nat_lt r w.replicas) (refusal (w.memory r) r c) ok)
event_coherent w i (Save r) ok = save_coherent w i r
event_coherent w i (Crash r) ok = crash_coherent w i r
event_coherent w i (Ask r) ok = ask_coherent w i r (is_there r w.replicas None ok)
event_coherent w i (Answer s k) ok = answer_coherent w i s k (is_there s w.replicas (cond (is_some (slice_get w.asks k)) None (Some NoSuch)) ok)
event_coherent w i (Take k) ok = take_coherent w i k (slice_get w.answers k) refl
event_coherent w i (Grow r name) ok = grow_coherent w i r name

is_empty : (n : List (List ℕ)) (p : Position) (a : Coordinates) → state_at_position (initial_world n) p ≡ Some a → empty ≡ a
is_empty n (AtMemory s) a e = same_some empty a e
is_empty n (AtKept s) a e = same_some empty a e
is_empty n (AtAsk k) a e = cc
is_empty n (AtAnswer k) a e = cc

pub empty_fits : (n : ℕ) → Fits n empty
empty_fits n = record { dots = λ d p. cc; numbers = λ q p. absurd (omega arith) }

pub coherent_start : (ns : List (List ℕ)) → IsCoherent (initial_world ns)
coherent_start ns = record {
  compatible = λ p q a b d e. subst (λ x. AreCompatible x b) (is_empty ns p a d) (subst (AreCompatible empty) (is_empty ns q b e) (compatible_same empty));
  fits = λ p a d. subst (Fits (length ns)) (is_empty ns p a d) (empty_fits (length ns));
  in_memory = λ r s d. knows_same s empty;
  in_kept = λ r s. knows_same s empty;
  in_asks = λ k q e s. cc;
  in_answers = λ k m e s. cc;
  kept_below = λ r. reflexive empty;
  asks_below = λ k q e. cc;
  answers_below = λ k m e. cc;
  askers = λ k q e. cc;
  makers = λ k m e. cc;
  answers_its = λ k m e. cc;
}

pub next_coherent : (w : World) (i : IsCoherent w) (e : Happening) → hindrance w e ≡ None → IsCoherent (next w e)
next_coherent w i (Of e) ok = event_coherent w i e ok
next_coherent w i (AnswerLent j k) ok = lent_coherent w i j k (slice_get w.asks j) refl

pub run_coherent : (es : List Happening) (w : World) → IsCoherent w → Accepted es w → IsCoherent (run es w)
run_coherent [] w i a = i
run_coherent (e ∷ es) w i a = run_coherent es (next w e) (next_coherent w i e a.0) a.1
