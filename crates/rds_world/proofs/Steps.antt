-- Each event keeps the invariant.
use Rattle.std.proofs.Common.{◌≡◌, ℕ, ◌<◌, suc, Bool, true, List, [], ◌∷◌, ◌++◌, refl, sym, ap, ◌∙◌, subst, inl, inr}
use Rattle.std.proofs.Common.{◌⊎◌, arith, ◌==◌, ◌||◌, nat_lt, Option, Some, None, slice_get}
use Rattle.std.specs.List.{AllZip}
use Rattle.std.proofs.lemmas.Bool.Decides.{nat_tests}
use Rattle.rds_state.specs.Coordinates.{Coordinates, AtMost, AreCompatible, join}
use Rattle.rds_state.specs.Edit.{effect, refusal}
use Rattle.rds_state.specs.Made.{entry_made}
use Rattle.rds_state.specs.declared.command.Command.{Command}
use Rattle.rds_state.proofs.JoinLaws.{reflexive, transitive}
use Rattle.rds_world.specs.declared.event.Event.{Event}
use Rattle.rds_world.specs.declared.event.Event.TheVariants.{Edit, Save, Crash, Ask, Answer, Take, Grow}
use Rattle.rds_world.specs.World.{World, Happening, Of, AnswerLent, Question, Reply, empty, put, initial_world, lend, reply_from}
use Rattle.rds_world.specs.World.{after, after_reply, after_lent, after_take, refusal_of, next, hindrance, run, Accepted}
use Rattle.rds_world.specs.Held.{Update, Remembered, Holdings, in_one_of, with_update, nothing_held, hold, remembers}
use Rattle.rds_world.specs.Held.{remembers_lent, takes, held_next, holdings_after}
use Rattle.rds_world.specs.Updates.{effect_of, bases_with, bases}
use Rattle.rds_delta.proofs.LeastLaws.{grown_delta}
use Rattle.rds_world.proofs.Effects.{effect_agrees}
use Rattle.rds_world.proofs.Coherent.{there, is_there}
use Rattle.rds_world.proofs.Joins.{IsGathered, gathered_smaller, gathered_none, gathered_single, gathered_both}
use Rattle.rds_world.proofs.Joins.{in_either, in_left, in_right}
use Rattle.rds_world.proofs.Tables.{Together, matched_last, matched_weaker, matched_at, put_one, put_two, put_here}
use Rattle.rds_world.proofs.Tables.{put_there}
use Rattle.rds_world.proofs.Invariant.{IsRecorded, IsBacked, IsAsk, IsAnswer, Lawful, own, compatible, kept_own}

-- at the beginning
pub lawful_start : (T : ℕ → Update) (B : ℕ → Coordinates) (n : List (List ℕ)) → Lawful T B nothing_held (initial_world n)
lawful_start T B n = record {
  recorded = λ i k. absurd (omega arith);
  placed = λ i k. absurd (omega arith);
  few = λ r i k. cc;
  within = λ r i k. cc;
  closed = λ r i j k p. cc;
  backed = λ r i k. cc;
  kept_backed = λ r. record { closed = λ i j k p. cc; backed = λ i k. cc };
  line = λ r i j k. cc;
  memory = λ r. gathered_none (effect_of T B);
  kept = λ r. gathered_none (effect_of T B);
  asks = tt;
  answers = tt;
}

-- what is in one or the other
either : {P : Type 0} (a b : Bool) → (a || b) ≡ true → (a ≡ true → P) → (b ≡ true → P) → P
either a b h f g = elim (in_either a b h) [ inl p ↦ f p | inr p ↦ g p ]

less_or_same : (i n : ℕ) → i < suc n → (i < n) ⊎ (i ≡ n)
less_or_same i n h = grind arith

is_same : (i n : ℕ) → (i == n) ≡ true → i ≡ n
is_same i n h = grind (arith, nat_tests)

module _ (T : ℕ → Update) (B : ℕ → Coordinates) (h : Holdings) (w : World) (l : Lawful T B h w) where
  -- Save: what is kept grows
  kept_grows : (r s i : ℕ) → h.kept s i ≡ true → put h.kept r (h.memory r) s i ≡ true
  kept_grows r s i = put_one (λ t S. h.kept t i ≡ true → S i ≡ true) h.kept r (h.memory r) (l.within r i) (λ t n k. k) s

  kept_state_grows : (r s : ℕ) → AtMost (w.kept s) (put w.kept r (w.memory r) s)
  kept_state_grows r s = put_one (λ t f. AtMost (w.kept t) f) w.kept r (w.memory r) (gathered_smaller (effect_of T B) (h.kept r) (h.memory r) (w.kept r) (w.memory r) (l.kept r) (l.memory r) (l.within r)) (λ t n. reflexive (w.kept t)) s

  backed_grows : (r : ℕ) (S : ℕ → Bool) → IsBacked T h.kept S → IsBacked T (put h.kept r (h.memory r)) S
  backed_grows r S b = record { closed = b.closed; backed = λ i m. kept_grows r (T i).replica i (b.backed i m) }

  saved_here : (r i : ℕ) → (T i).replica ≡ r → h.memory r i ≡ true → put h.kept r (h.memory r) (T i).replica i ≡ true
  saved_here r i e m = subst (λ s. put h.kept r (h.memory r) s i ≡ true) (sym e) (subst (λ (S : ℕ → Bool). S i ≡ true) (sym (put_here h.kept r (h.memory r))) m)

  saved_backed : (r : ℕ) → IsBacked T (put h.kept r (h.memory r)) (h.memory r)
  saved_backed r = record {
    closed = l.closed r;
    backed = λ i m. elim (l.backed r i m) [
      | inl e ↦ saved_here r i e m
      | inr k ↦ kept_grows r (T i).replica i k
    ];
  }

  save_keeps : (r : ℕ) → Lawful T B (hold h (Save r)) (after w (Save r))
  save_keeps r = record {
    recorded = l.recorded;
    placed = l.placed;
    few = l.few;
    within = λ s i. put_one (λ t S. S i ≡ true → h.memory t i ≡ true) h.kept r (h.memory r) (λ m. m) (λ t n. l.within t i) s;
    closed = l.closed;
    backed = λ s i m. elim (l.backed s i m) [ inl e ↦ inl e | inr k ↦ inr (kept_grows r (T i).replica i k) ];
    kept_backed = λ s. put_one (λ t S. IsBacked T (put h.kept r (h.memory r)) S) h.kept r (h.memory r) (saved_backed r) (λ t n. backed_grows r (h.kept t) (l.kept_backed t)) s;
    line = l.line;
    memory = l.memory;
    kept = λ s. put_two (λ t S f. IsGathered (effect_of T B) S f) h.kept w.kept r (h.memory r) (w.memory r) (l.memory r) (λ t n. l.kept t) s;
    asks = matched_weaker (IsAsk T B h w) (IsAsk T B (hold h (Save r)) (after w (Save r))) w.asks h.asks (λ m a x. record {
      same = x.same;
      below = transitive _ _ _ x.below (kept_state_grows r m.asker);
      backed = backed_grows r a.held x.backed;
      join = x.join;
    }) l.asks;
    answers = matched_weaker (IsAnswer T B h w) (IsAnswer T B (hold h (Save r)) (after w (Save r))) w.answers h.answers (λ m a x. record {
      same = x.same;
      full = x.full;
      asked = x.asked;
      sent = x.sent;
      below = transitive _ _ _ x.below (kept_state_grows r m.asker);
      backed = backed_grows r a.held x.backed;
      join = x.join;
    }) l.answers;
  }

  -- asks and answers do not depend on memory
  asks_stay : (h' : Holdings) (w' : World) → h'.kept ≡ h.kept → w'.kept ≡ w.kept → AllZip (IsAsk T B h' w') w.asks h.asks
  asks_stay h' w' p q = matched_weaker (IsAsk T B h w) (IsAsk T B h' w') w.asks h.asks (λ m a x. record {
    same = x.same;
    below = subst (λ f. AtMost m.state (f m.asker)) (sym q) x.below;
    backed = subst (λ K. IsBacked T K a.held) (sym p) x.backed;
    join = x.join;
  }) l.asks

  answers_stay : (h' : Holdings) (w' : World) → h'.kept ≡ h.kept → w'.kept ≡ w.kept → AllZip (IsAnswer T B h' w') w.answers h.answers
  answers_stay h' w' p q = matched_weaker (IsAnswer T B h w) (IsAnswer T B h' w') w.answers h.answers (λ m a x. record {
    same = x.same;
    full = x.full;
    asked = x.asked;
    sent = x.sent;
    below = subst (λ f. AtMost x.asked (f m.asker)) (sym q) x.below;
    backed = subst (λ K. IsBacked T K a.held) (sym p) x.backed;
    join = x.join;
  }) l.answers

  crash_keeps : (r : ℕ) → Lawful T B (hold h (Crash r)) (after w (Crash r))
  crash_keeps r = record {
    recorded = l.recorded;
    placed = l.placed;
    few = λ s i. put_one (λ t S. S i ≡ true → i < h.size) h.memory r (h.kept r) (λ m. l.few r i (l.within r i m)) (λ t n. l.few t i) s;
    within = λ s i. put_one (λ t S. h.kept t i ≡ true → S i ≡ true) h.memory r (h.kept r) (λ m. m) (λ t n. l.within t i) s;
    closed = λ s i j. put_one (λ t S. S i ≡ true → (T i).past j ≡ true → S j ≡ true) h.memory r (h.kept r) ((l.kept_backed r).closed i j) (λ t n. l.closed t i j) s;
    backed = λ s i. put_one (λ t S. S i ≡ true → ((T i).replica ≡ t) ⊎ (h.kept (T i).replica i ≡ true)) h.memory r (h.kept r) (λ m. inr ((l.kept_backed r).backed i m)) (λ t n. l.backed t i) s;
    kept_backed = l.kept_backed;
    line = λ s i j. put_one (λ t S. S i ≡ true → S j ≡ true → (T i).replica ≡ t → (T j).replica ≡ t → i < j → (T j).past i ≡ true) h.memory r (h.kept r) (λ m k. l.line r i j (l.within r i m) (l.within r j k)) (λ t n. l.line t i j) s;
    memory = λ s. put_two (λ t S f. IsGathered (effect_of T B) S f) h.memory w.memory r (h.kept r) (w.kept r) (l.kept r) (λ t n. l.memory t) s;
    kept = l.kept;
    asks = asks_stay (hold h (Crash r)) (after w (Crash r)) refl refl;
    answers = answers_stay (hold h (Crash r)) (after w (Crash r)) refl refl;
  }

  -- nothing changes but what was asked and answered
  texts_keep : (asked answered : List Remembered) (qs : List Question) (ms : List Reply)
      → AllZip (IsAsk T B (record h { asks = asked; answers = answered }) (record w { asks = qs; answers = ms })) qs asked
      → AllZip (IsAnswer T B (record h { asks = asked; answers = answered }) (record w { asks = qs; answers = ms })) ms answered
      → Lawful T B (record h { asks = asked; answers = answered }) (record w { asks = qs; answers = ms })
  texts_keep asked answered qs ms p q = record {
    recorded = l.recorded;
    placed = l.placed;
    few = l.few;
    within = l.within;
    closed = l.closed;
    backed = l.backed;
    kept_backed = l.kept_backed;
    line = l.line;
    memory = l.memory;
    kept = l.kept;
    asks = p;
    answers = q;
  }

  ask_keeps : (r : ℕ) → Lawful T B (hold h (Ask r)) (after w (Ask r))
  ask_keeps r =
      let a : Remembered = record { asker = r; held = h.kept r } in
      texts_keep (h.asks ++ a ∷ []) h.answers (w.asks ++ lend w r ∷ []) w.answers
      (matched_last (IsAsk T B (hold h (Ask r)) (after w (Ask r))) w.asks h.asks (lend w r) a (asks_stay (hold h (Ask r)) (after w (Ask r)) refl refl) (record {
        same = refl;
        below = reflexive (w.kept r);
        backed = l.kept_backed r;
        join = l.kept r;
      }))
      (answers_stay (hold h (Ask r)) (after w (Ask r)) refl refl)

  grow_keeps : (r : ℕ) (name : List ℕ) → Lawful T B (hold h (Grow r name)) (after w (Grow r name))
  grow_keeps r name = record {
    recorded = l.recorded;
    placed = λ i k. let x : (T i).replica < w.replicas = l.placed i k in omega arith;
    few = l.few;
    within = l.within;
    closed = l.closed;
    backed = l.backed;
    kept_backed = l.kept_backed;
    line = l.line;
    memory = l.memory;
    kept = l.kept;
    asks = asks_stay (hold h (Grow r name)) (after w (Grow r name)) refl refl;
    answers = answers_stay (hold h (Grow r name)) (after w (Grow r name)) refl refl;
  }

  -- an answer, of a state that was kept once
  reply_keeps : (p : Question) (held : ℕ → Bool) → IsBacked T h.kept held → IsGathered (effect_of T B) held p.state → (k : ℕ) (m : Option Question) (a : Option Remembered) → Together (IsAsk T B h w) m a
      → Lawful T B (remembers h held a) (after_reply w p k m)
  reply_keeps p held backed join k None None x = l
  reply_keeps p held backed join k None (Some a) x = absurd x
  reply_keeps p held backed join k (Some m) None x = absurd x
  reply_keeps p held backed join k (Some m) (Some a) x =
      let g = remembers h held (Some a) in
      let u = after_reply w p k (Some m) in
      texts_keep h.asks (h.answers ++ record { asker = a.asker; held = held } ∷ []) w.asks (w.answers ++ reply_from p k m ∷ []) (asks_stay g u refl refl)
      (matched_last (IsAnswer T B g u) w.answers h.answers (reply_from p k m) (record { asker = a.asker; held = held }) (answers_stay g u refl refl) (record {
        same = x.same;
        full = p.state;
        asked = m.state;
        sent = refl;
        below = x.below;
        backed = backed;
        join = join;
      }))

  both_asked : (k : ℕ) → Together (IsAsk T B h w) (slice_get w.asks k) (slice_get h.asks k)
  both_asked k = matched_at (IsAsk T B h w) w.asks h.asks k l.asks

  answer_keeps : (s k : ℕ) → Lawful T B (hold h (Answer s k)) (after w (Answer s k))
  answer_keeps s k = reply_keeps (lend w s) (h.kept s) (l.kept_backed s) (l.kept s) k (slice_get w.asks k) (slice_get h.asks k) (both_asked k)

  lent_keeps : (k : ℕ) (m : Option Question) (a : Option Remembered) → Together (IsAsk T B h w) m a → Lawful T B (remembers_lent h a k) (after_lent w m k)
  lent_keeps k None None x = l
  lent_keeps k None (Some a) x = absurd x
  lent_keeps k (Some m) None x = absurd x
  lent_keeps k (Some m) (Some a) x = reply_keeps m a.held x.backed x.join k (slice_get w.asks k) (slice_get h.asks k) (both_asked k)

  kept_below : (r : ℕ) → AtMost (w.kept r) (w.memory r)
  kept_below r = gathered_smaller (effect_of T B) (h.kept r) (h.memory r) (w.kept r) (w.memory r) (l.kept r) (l.memory r) (l.within r)

  -- what an answer brings to a memory is what its maker had kept
  pub brings : (m : Reply) (a : Remembered) (x : IsAnswer T B h w m a) → join (w.memory m.asker) m.state ≡ join (w.memory m.asker) x.full
  brings m a x = ap (join (w.memory m.asker)) x.sent ∙ grown_delta x.full x.asked (w.memory m.asker) (transitive _ _ _ x.below (kept_below m.asker))

  full_agrees : (r : ℕ) (m : Reply) (a : Remembered) (x : IsAnswer T B h w m a) → AreCompatible (w.memory r) x.full
  full_agrees r m a x = compatible T B h w l (h.memory r) a.held (w.memory r) x.full (l.memory r) x.join (own T B h w l r) (kept_own T B h w l a.held x.backed)

  taken_join : (m : Reply) (a : Remembered) (x : IsAnswer T B h w m a) → IsGathered (effect_of T B) (in_one_of (h.memory m.asker) a.held) (join (w.memory m.asker) m.state)
  taken_join m a x = subst (IsGathered (effect_of T B) (in_one_of (h.memory m.asker) a.held)) (sym (brings m a x))
      (gathered_both (effect_of T B) (h.memory m.asker) a.held (w.memory m.asker) x.full (l.memory m.asker) x.join (full_agrees m.asker m a x))

  -- an own update that comes back was there
  came_back : (m : Reply) (a : Remembered) (x : IsAnswer T B h w m a) (i : ℕ) → in_one_of (h.memory m.asker) a.held i ≡ true → (T i).replica ≡ m.asker → h.memory m.asker i ≡ true
  came_back m a x i p e = either (h.memory m.asker i) (a.held i) p (λ q. q) (λ q. subst (λ r. h.memory r i ≡ true) e (l.within (T i).replica i (x.backed.backed i q)))

  take_one : (m : Reply) (a : Remembered) → IsAnswer T B h w m a → Lawful T B (record h { memory = put h.memory m.asker (in_one_of (h.memory m.asker) a.held) }) (after_take w (Some m))
  take_one m a x = record {
    recorded = l.recorded;
    placed = l.placed;
    few = λ s i. put_one (λ t S. S i ≡ true → i < h.size) h.memory m.asker (in_one_of (h.memory m.asker) a.held) (λ p. either (h.memory m.asker i) (a.held i) p (l.few m.asker i) (λ q. l.few (T i).replica i (l.within (T i).replica i (x.backed.backed i q)))) (λ t n. l.few t i) s;
    within = λ s i. put_one (λ t S. h.kept t i ≡ true → S i ≡ true) h.memory m.asker (in_one_of (h.memory m.asker) a.held) (λ p. in_left (h.memory m.asker i) (a.held i) (l.within m.asker i p)) (λ t n. l.within t i) s;
    closed = λ s i j. put_one (λ t S. S i ≡ true → (T i).past j ≡ true → S j ≡ true) h.memory m.asker (in_one_of (h.memory m.asker) a.held) (λ p q. either (h.memory m.asker i) (a.held i) p (λ y. in_left (h.memory m.asker j) (a.held j) (l.closed m.asker i j y q)) (λ y. in_right (h.memory m.asker j) (a.held j) (x.backed.closed i j y q))) (λ t n. l.closed t i j) s;
    backed = λ s i. put_one (λ t S. S i ≡ true → ((T i).replica ≡ t) ⊎ (h.kept (T i).replica i ≡ true)) h.memory m.asker (in_one_of (h.memory m.asker) a.held) (λ p. either (h.memory m.asker i) (a.held i) p (l.backed m.asker i) (λ y. inr (x.backed.backed i y))) (λ t n. l.backed t i) s;
    kept_backed = l.kept_backed;
    line = λ s i j. put_one (λ t S. S i ≡ true → S j ≡ true → (T i).replica ≡ t → (T j).replica ≡ t → i < j → (T j).past i ≡ true) h.memory m.asker (in_one_of (h.memory m.asker) a.held) (λ p q e f. l.line m.asker i j (came_back m a x i p e) (came_back m a x j q f) e f) (λ t n. l.line t i j) s;
    memory = λ s. put_two (λ t S f. IsGathered (effect_of T B) S f) h.memory w.memory m.asker (in_one_of (h.memory m.asker) a.held) (join (w.memory m.asker) m.state) (taken_join m a x) (λ t n. l.memory t) s;
    kept = l.kept;
    asks = asks_stay (record h { memory = put h.memory m.asker (in_one_of (h.memory m.asker) a.held) }) (after_take w (Some m)) refl refl;
    answers = answers_stay (record h { memory = put h.memory m.asker (in_one_of (h.memory m.asker) a.held) }) (after_take w (Some m)) refl refl;
  }

  take_keeps : (m : Option Reply) (a : Option Remembered) → Together (IsAnswer T B h w) m a → Lawful T B (takes h a) (after_take w m)
  take_keeps None None x = l
  take_keeps None (Some a) x = absurd x
  take_keeps (Some m) None x = absurd x
  take_keeps (Some m) (Some a) x = subst (λ n. Lawful T B (record h { memory = put h.memory n (in_one_of (h.memory n) a.held) }) (after_take w (Some m))) x.same (take_one m a x)

  module _ (r : ℕ) (c : Command) (lt : r < w.replicas) (ok : refusal (w.memory r) r c ≡ None) (tr : (T h.size).replica ≡ r) (tc : (T h.size).command ≡ c) (tp : (T h.size).past ≡ h.memory r) (tb : B h.size ≡ w.memory r) where
    same_effect : effect_of T B h.size ≡ effect (w.memory r) r c (entry_made c)
    same_effect = λ k. effect (tb k) (tr k) (tc k) (entry_made (tc k))

    in_past : (j : ℕ) → h.memory r j ≡ true → (T h.size).past j ≡ true
    in_past j m = subst (λ S. S j ≡ true) (sym tp) m

    of_past : (j : ℕ) → (T h.size).past j ≡ true → h.memory r j ≡ true
    of_past j m = subst (λ S. S j ≡ true) tp m

    record_new : IsRecorded T B h.size
    record_new = record {
      base = subst (λ S. IsGathered (effect_of T B) S (B h.size)) (sym tp) (subst (IsGathered (effect_of T B) (h.memory r)) (sym tb) (l.memory r));
      accepted = (λ k. refusal (tb k) (tr k) (tc k)) ∙ ok;
      closed = λ j k p q. in_past k (l.closed r j k (of_past j p) q);
      earlier = λ j p. l.few r j (of_past j p);
      line = λ j k p q e lt. l.line (T k).replica j k (subst (λ s. h.memory s j ≡ true) e (own T B h w l r j (of_past j p))) (own T B h w l r k (of_past k q)) e refl lt;
    }

    record_at : (i : ℕ) → (i < h.size) ⊎ (i ≡ h.size) → IsRecorded T B i
    record_at i (inl p) = l.recorded i p
    record_at i (inr e) = subst (IsRecorded T B) (sym e) record_new

    placed_at : (i : ℕ) → (i < h.size) ⊎ (i ≡ h.size) → (T i).replica < w.replicas
    placed_at i (inl p) = l.placed i p
    placed_at i (inr e) = subst (λ j. (T j).replica < w.replicas) (sym e) (subst (λ a. a < w.replicas) (sym tr) lt)

    edited_join : IsGathered (effect_of T B) (with_update (h.memory r) h.size) (join (w.memory r) (effect (w.memory r) r c (entry_made c)))
    edited_join = subst (λ g. IsGathered (effect_of T B) (with_update (h.memory r) h.size) (join (w.memory r) g)) same_effect
        (gathered_both (effect_of T B) (h.memory r) (λ i. i == h.size) (w.memory r) (effect_of T B h.size) (l.memory r) (gathered_single (effect_of T B) h.size) (subst (AreCompatible (w.memory r)) (sym same_effect) (effect_agrees (w.memory r) r c ok)))

    -- a member is an old one or the new one
    old_or_new : {P : Type 0} (i : ℕ) → with_update (h.memory r) h.size i ≡ true → (h.memory r i ≡ true → P) → (i ≡ h.size → P) → P
    old_or_new i p f g = either (h.memory r i) (i == h.size) p f (λ q. g (is_same i h.size q))

    edit_keeps : Lawful T B (hold h (Edit r c)) (after w (Edit r c))
    edit_keeps = record {
      recorded = λ i p. record_at i (less_or_same i h.size p);
      placed = λ i p. placed_at i (less_or_same i h.size p);
      few = λ s i. put_one (λ t S. S i ≡ true → i < suc h.size) h.memory r (with_update (h.memory r) h.size) (λ p. old_or_new i p (λ q. let k : i < h.size = l.few r i q in omega arith) (λ e. omega arith)) (λ t n m. let k : i < h.size = l.few t i m in omega arith) s;
      within = λ s i. put_one (λ t S. h.kept t i ≡ true → S i ≡ true) h.memory r (with_update (h.memory r) h.size) (λ p. in_left (h.memory r i) (i == h.size) (l.within r i p)) (λ t n. l.within t i) s;
      closed = λ s i j. put_one (λ t S. S i ≡ true → (T i).past j ≡ true → S j ≡ true) h.memory r (with_update (h.memory r) h.size) (λ p q. in_left (h.memory r j) (j == h.size) (old_or_new i p (λ y. l.closed r i j y q) (λ e. of_past j (subst (λ k. (T k).past j ≡ true) e q)))) (λ t n. l.closed t i j) s;
      backed = λ s i. put_one (λ t S. S i ≡ true → ((T i).replica ≡ t) ⊎ (h.kept (T i).replica i ≡ true)) h.memory r (with_update (h.memory r) h.size) (λ p. old_or_new i p (l.backed r i) (λ e. inl (ap (λ k. (T k).replica) e ∙ tr))) (λ t n. l.backed t i) s;
      kept_backed = l.kept_backed;
      line = λ s i j. put_one (λ t S. S i ≡ true → S j ≡ true → (T i).replica ≡ t → (T j).replica ≡ t → i < j → (T j).past i ≡ true) h.memory r (with_update (h.memory r) h.size) (λ p q e f lt. old_or_new j q
          (λ y. old_or_new i p (λ x. l.line r i j x y e f lt) (λ n. let k : j < h.size = l.few r j y in absurd (omega arith)))
          (λ n. subst (λ k. (T k).past i ≡ true) (sym n) (in_past i (old_or_new i p (λ x. x) (λ o. absurd (omega arith))))))
          (λ t n. l.line t i j) s;
      memory = λ s. put_two (λ t S f. IsGathered (effect_of T B) S f) h.memory w.memory r (with_update (h.memory r) h.size) (join (w.memory r) (effect (w.memory r) r c (entry_made c))) edited_join (λ t n. l.memory t) s;
      kept = l.kept;
      asks = asks_stay (hold h (Edit r c)) (after w (Edit r c)) refl refl;
      answers = answers_stay (hold h (Edit r c)) (after w (Edit r c)) refl refl;
    }

-- what the tables say of what happens
abbrev pub IsInTables : (ℕ → Update) → (ℕ → Coordinates) → Holdings → World → Happening → Type 0
IsInTables T B h w (Of (Edit r c)) = (T h.size ≡ record { replica = r; command = c; past = h.memory r }) × (B h.size ≡ w.memory r)
IsInTables T B h w e = Unit {0}

pub event_keeps : (T : ℕ → Update) (B : ℕ → Coordinates) (h : Holdings) (w : World) (e : Event) → Lawful T B h w → refusal_of w e ≡ None → IsInTables T B h w (Of e) → Lawful T B (hold h e) (after w e)
event_keeps T B h w (Edit r c) l ok t = edit_keeps T B h w l r c (is_there r w.replicas (refusal (w.memory r) r c) ok) (there (nat_lt r w.replicas) (refusal (w.memory r) r c) ok) (ap (λ u. u.replica) t.0) (ap (λ u. u.command) t.0) (ap (λ u. u.past) t.0) t.1
event_keeps T B h w (Save r) l ok t = save_keeps T B h w l r
event_keeps T B h w (Crash r) l ok t = crash_keeps T B h w l r
event_keeps T B h w (Ask r) l ok t = ask_keeps T B h w l r
event_keeps T B h w (Answer s k) l ok t = answer_keeps T B h w l s k
event_keeps T B h w (Take k) l ok t = take_keeps T B h w l (slice_get w.answers k) (slice_get h.answers k) (matched_at (IsAnswer T B h w) w.answers h.answers k l.answers)
event_keeps T B h w (Grow r name) l ok t = grow_keeps T B h w l r name

next_keeps : (T : ℕ → Update) (B : ℕ → Coordinates) (h : Holdings) (w : World) (e : Happening) → Lawful T B h w → hindrance w e ≡ None → IsInTables T B h w e → Lawful T B (held_next h e) (next w e)
next_keeps T B h w (Of e) l ok t = event_keeps T B h w e l ok t
next_keeps T B h w (AnswerLent j k) l ok t = lent_keeps T B h w l k (slice_get w.asks j) (slice_get h.asks j) (both_asked T B h w l j)

remembers_same : (h : Holdings) (held : ℕ → Bool) (o : Option Remembered) → ((remembers h held o).size ≡ h.size) × ((remembers h held o).update ≡ h.update)
remembers_same h held None = (refl, refl)
remembers_same h held (Some a) = (refl, refl)

lent_same : (h : Holdings) (o : Option Remembered) (k : ℕ) → ((remembers_lent h o k).size ≡ h.size) × ((remembers_lent h o k).update ≡ h.update)
lent_same h None k = (refl, refl)
lent_same h (Some a) k = remembers_same h a.held (slice_get h.asks k)

takes_same : (h : Holdings) (o : Option Remembered) → ((takes h o).size ≡ h.size) × ((takes h o).update ≡ h.update)
takes_same h None = (refl, refl)
takes_same h (Some a) = (refl, refl)

hold_same : (h : Holdings) (e : Happening) (i : ℕ) → i < h.size → (i < (held_next h e).size) × ((held_next h e).update i ≡ h.update i)
hold_same h (Of (Edit r c)) i k = (omega arith, put_there h.update h.size (record { replica = r; command = c; past = h.memory r }) i (λ e. absurd (omega arith)))
hold_same h (Of (Save r)) i k = (k, refl)
hold_same h (Of (Crash r)) i k = (k, refl)
hold_same h (Of (Ask r)) i k = (k, refl)
hold_same h (Of (Grow r name)) i k = (k, refl)
hold_same h (Of (Answer s n)) i k = let x = remembers_same h (h.kept s) (slice_get h.asks n) in (subst (λ m. i < m) (sym x.0) k, ap (λ f. f i) x.1)
hold_same h (Of (Take n)) i k = let x = takes_same h (slice_get h.answers n) in (subst (λ m. i < m) (sym x.0) k, ap (λ f. f i) x.1)
hold_same h (AnswerLent j n) i k = let x = lent_same h (slice_get h.asks j) n in (subst (λ m. i < m) (sym x.0) k, ap (λ f. f i) x.1)

noted_same : (base : ℕ → Coordinates) (n : ℕ) (w : World) (e : Happening) (i : ℕ) → i < n → bases_with base n w e i ≡ base i
noted_same base n w (Of (Edit r c)) i k = put_there base n (w.memory r) i (λ e. absurd (omega arith))
noted_same base n w (Of (Save r)) i k = refl
noted_same base n w (Of (Crash r)) i k = refl
noted_same base n w (Of (Ask r)) i k = refl
noted_same base n w (Of (Answer s m)) i k = refl
noted_same base n w (Of (Take m)) i k = refl
noted_same base n w (Of (Grow r name)) i k = refl
noted_same base n w (AnswerLent j m) i k = refl

held_same : (es : List Happening) (h : Holdings) (i : ℕ) → i < h.size → (holdings_after es h).update i ≡ h.update i
held_same [] h i k = refl
held_same (e ∷ es) h i k = let x = hold_same h e i k in held_same es (held_next h e) i x.0 ∙ x.1

bases_same : (es : List Happening) (base : ℕ → Coordinates) (h : Holdings) (w : World) (i : ℕ) → i < h.size → bases es base h w i ≡ base i
bases_same [] base h w i k = refl
bases_same (e ∷ es) base h w i k = bases_same es (bases_with base h.size w e) (held_next h e) (next w e) i (hold_same h e i k).0 ∙ noted_same base h.size w e i k

in_tables : (es : List Happening) (base : ℕ → Coordinates) (h : Holdings) (w : World) (e : Happening) → IsInTables (holdings_after es (held_next h e)).update (bases es (bases_with base h.size w e) (held_next h e) (next w e)) h w e
in_tables es base h w (Of (Edit r c)) = (
  held_same es (hold h (Edit r c)) h.size (omega arith) ∙ put_here h.update h.size (record { replica = r; command = c; past = h.memory r }),
  bases_same es (bases_with base h.size w (Of (Edit r c))) (hold h (Edit r c)) (after w (Edit r c)) h.size (omega arith) ∙ put_here base h.size (w.memory r),
)
in_tables es base h w (Of (Save r)) = tt
in_tables es base h w (Of (Crash r)) = tt
in_tables es base h w (Of (Ask r)) = tt
in_tables es base h w (Of (Answer s k)) = tt
in_tables es base h w (Of (Take k)) = tt
in_tables es base h w (Of (Grow r name)) = tt
in_tables es base h w (AnswerLent j k) = tt

run_keeps : (es : List Happening) (base : ℕ → Coordinates) (h : Holdings) (w : World) → Lawful (holdings_after es h).update (bases es base h w) h w → Accepted es w → Lawful (holdings_after es h).update (bases es base h w) (holdings_after es h) (run es w)
run_keeps [] base h w l a = l
run_keeps (e ∷ es) base h w l a = run_keeps es (bases_with base h.size w e) (held_next h e) (next w e)
    (next_keeps (holdings_after es (held_next h e)).update (bases es (bases_with base h.size w e) (held_next h e) (next w e)) h w e l a.0 (in_tables es base h w e)) a.1

-- ---- what was kept once

answered_holds : (h : Holdings) (held : ℕ → Bool) (o : Option Remembered) → (remembers h held o).kept ≡ h.kept
answered_holds h held None = refl
answered_holds h held (Some a) = refl

lent_holds : (h : Holdings) (o : Option Remembered) (k : ℕ) → (remembers_lent h o k).kept ≡ h.kept
lent_holds h None k = refl
lent_holds h (Some a) k = answered_holds h a.held (slice_get h.asks k)

taken_holds : (h : Holdings) (o : Option Remembered) → (takes h o).kept ≡ h.kept
taken_holds h None = refl
taken_holds h (Some a) = refl

-- what was backed stays so
stays_backed : (T : ℕ → Update) (B : ℕ → Coordinates) (h : Holdings) (w : World) (l : Lawful T B h w) (e : Happening) (S : ℕ → Bool) → IsBacked T h.kept S → IsBacked T (held_next h e).kept S
stays_backed T B h w l (Of (Edit r c)) S b = b
stays_backed T B h w l (Of (Save r)) S b = backed_grows T B h w l r S b
stays_backed T B h w l (Of (Crash r)) S b = b
stays_backed T B h w l (Of (Ask r)) S b = b
stays_backed T B h w l (Of (Grow r name)) S b = b
stays_backed T B h w l (Of (Answer s k)) S b = subst (λ K. IsBacked T K S) (sym (answered_holds h (h.kept s) (slice_get h.asks k))) b
stays_backed T B h w l (Of (Take k)) S b = subst (λ K. IsBacked T K S) (sym (taken_holds h (slice_get h.answers k))) b
stays_backed T B h w l (AnswerLent j k) S b = subst (λ K. IsBacked T K S) (sym (lent_holds h (slice_get h.asks j) k)) b

-- each later memory is compatible with a join of updates that were backed
backed_agrees : (es : List Happening) (base : ℕ → Coordinates) (h : Holdings) (w : World) → Lawful (holdings_after es h).update (bases es base h w) h w → Accepted es w
    → (S : ℕ → Bool) (a : Coordinates) → IsBacked (holdings_after es h).update h.kept S → IsGathered (effect_of (holdings_after es h).update (bases es base h w)) S a → (r : ℕ) → AreCompatible ((run es w).memory r) a
backed_agrees [] base h w l ok S a b j r = compatible h.update base h w l (h.memory r) S (w.memory r) a (l.memory r) j (own h.update base h w l r) (kept_own h.update base h w l S b)
backed_agrees (e ∷ es) base h w l ok S a b j r =
    let T = (holdings_after es (held_next h e)).update in
    let B = bases es (bases_with base h.size w e) (held_next h e) (next w e) in
    backed_agrees es (bases_with base h.size w e) (held_next h e) (next w e) (next_keeps T B h w e l ok.0 (in_tables es base h w e)) ok.1 S a (stays_backed T B h w l e S b) j r

kept_agrees_from : (es later : List Happening) (base : ℕ → Coordinates) (h : Holdings) (w : World) → Lawful (holdings_after (es ++ later) h).update (bases (es ++ later) base h w) h w → Accepted (es ++ later) w
    → (r s : ℕ) → AreCompatible ((run (es ++ later) w).memory r) ((run es w).kept s)
kept_agrees_from [] later base h w l ok r s = backed_agrees later base h w l ok (h.kept s) (w.kept s) (l.kept_backed s) (l.kept s) r
kept_agrees_from (e ∷ es) later base h w l ok r s = kept_agrees_from es later (bases_with base h.size w e) (held_next h e) (next w e)
    (next_keeps (holdings_after (es ++ later) (held_next h e)).update (bases (es ++ later) (bases_with base h.size w e) (held_next h e) (next w e)) h w e l ok.0 (in_tables (es ++ later) base h w e)) ok.1 r s

-- each memory is compatible with all that was kept at an earlier moment
pub kept_agrees : (n : List (List ℕ)) (es later : List Happening) → Accepted (es ++ later) (initial_world n) → (r s : ℕ) → AreCompatible ((run (es ++ later) (initial_world n)).memory r) ((run es (initial_world n)).kept s)
kept_agrees n es later ok = kept_agrees_from es later (λ i. empty) nothing_held (initial_world n) (lawful_start (holdings_after (es ++ later) nothing_held).update (bases (es ++ later) (λ i. empty) nothing_held (initial_world n)) n) ok

-- after any list of events none of which is refused
pub lawful : (n : List (List ℕ)) (es : List Happening) → Accepted es (initial_world n) → Lawful (holdings_after es nothing_held).update (bases es (λ i. empty) nothing_held (initial_world n)) (holdings_after es nothing_held) (run es (initial_world n))
lawful n es a = run_keeps es (λ i. empty) nothing_held (initial_world n) (lawful_start (holdings_after es nothing_held).update (bases es (λ i. empty) nothing_held (initial_world n)) n) a
