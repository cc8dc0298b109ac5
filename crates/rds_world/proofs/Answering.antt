-- What an answer brings, whenever it is taken.
use Rattle.std.proofs.Common.{◌≡◌, length, ℕ, List, [], ◌∷◌, ◌++◌, refl, sym, ap, ◌∙◌, subst, Option, Some, None}
use Rattle.std.proofs.Common.{slice_get}
use Rattle.rds_state.specs.Coordinates.{AtMost, AreCompatible}
use Rattle.rds_state.proofs.JoinLaws.{reflexive, transitive}
use Rattle.rds_world.specs.declared.event.Event.TheVariants.{Edit, Save, Crash, Ask, Answer, Take, Grow}
use Rattle.rds_world.specs.World.{World, Happening, Of, AnswerLent, Question, Reply, initial_world, lend, reply_from, after_reply}
use Rattle.rds_world.specs.World.{after_answer, after_lent, after_take, next, run, Accepted}
use Rattle.rds_world.specs.Coherent.{IsCoherent}
use Rattle.rds_world.specs.Law.{world_after, BringsWhatWasKept}
use Rattle.rds_delta.proofs.LeastLaws.{grown_delta, least_delta}
use Rattle.rds_world.proofs.Coherent.{agree_in, kept_grows, next_coherent, coherent_start, of_ask, of_memory, run_coherent}
use Rattle.rds_world.proofs.Runs.{run_on, accepted_on}
use Rattle.rds_world.proofs.Steps.{kept_agrees}
use Rattle.rds_world.proofs.Tables.{get_front, get_last}

-- ---- what is kept only grows, and what was asked stands

replied_same : (w : World) (p : Question) (k : ℕ) (o : Option Question) → ((after_reply w p k o).kept ≡ w.kept) × ((after_reply w p k o).asks ≡ w.asks)
replied_same w p k None = (refl, refl)
replied_same w p k (Some q) = (refl, refl)

lent_same : (w : World) (o : Option Question) (k : ℕ) → ((after_lent w o k).kept ≡ w.kept) × ((after_lent w o k).asks ≡ w.asks)
lent_same w None k = (refl, refl)
lent_same w (Some p) k = replied_same w p k (slice_get w.asks k)

taken_same : (w : World) (o : Option Reply) → ((after_take w o).kept ≡ w.kept) × ((after_take w o).asks ≡ w.asks)
taken_same w None = (refl, refl)
taken_same w (Some m) = (refl, refl)

kept_step : (w : World) (i : IsCoherent w) (e : Happening) (r : ℕ) → AtMost (w.kept r) ((next w e).kept r)
kept_step w i (Of (Edit s c)) r = reflexive (w.kept r)
kept_step w i (Of (Save s)) r = kept_grows w i s r
kept_step w i (Of (Crash s)) r = reflexive (w.kept r)
kept_step w i (Of (Ask s)) r = reflexive (w.kept r)
kept_step w i (Of (Grow s name)) r = reflexive (w.kept r)
kept_step w i (Of (Answer s k)) r = subst (λ f. AtMost (w.kept r) (f r)) (sym (replied_same w (lend w s) k (slice_get w.asks k)).0) (reflexive (w.kept r))
kept_step w i (Of (Take k)) r = subst (λ f. AtMost (w.kept r) (f r)) (sym (taken_same w (slice_get w.answers k)).0) (reflexive (w.kept r))
kept_step w i (AnswerLent j k) r = subst (λ f. AtMost (w.kept r) (f r)) (sym (lent_same w (slice_get w.asks j) k).0) (reflexive (w.kept r))

kept_run : (es : List Happening) (w : World) → IsCoherent w → Accepted es w → (r : ℕ) → AtMost (w.kept r) ((run es w).kept r)
kept_run [] w i a r = reflexive (w.kept r)
kept_run (e ∷ es) w i a r = transitive _ _ _ (kept_step w i e r) (kept_run es (next w e) (next_coherent w i e a.0) a.1 r)

asks_step : (w : World) (e : Happening) (k : ℕ) (q : Question) → slice_get w.asks k ≡ Some q → slice_get (next w e).asks k ≡ Some q
asks_step w (Of (Edit s c)) k q e = e
asks_step w (Of (Save s)) k q e = e
asks_step w (Of (Crash s)) k q e = e
asks_step w (Of (Ask s)) k q e = get_front w.asks (lend w s ∷ []) k q e
asks_step w (Of (Grow s name)) k q e = e
asks_step w (Of (Answer s j)) k q e = subst (λ l. slice_get l k ≡ Some q) (sym (replied_same w (lend w s) j (slice_get w.asks j)).1) e
asks_step w (Of (Take j)) k q e = subst (λ l. slice_get l k ≡ Some q) (sym (taken_same w (slice_get w.answers j)).1) e
asks_step w (AnswerLent i j) k q e = subst (λ l. slice_get l k ≡ Some q) (sym (lent_same w (slice_get w.asks i) j).1) e

pub asks_run : (es : List Happening) (w : World) (k : ℕ) (q : Question) → slice_get w.asks k ≡ Some q → slice_get (run es w).asks k ≡ Some q
asks_run [] w k q e = e
asks_run (f ∷ es) w k q e = asks_run es (next w f) k q (asks_step w f k q e)

-- ---- an answer keeps its number

replied_stands : (w : World) (p : Question) (j : ℕ) (o : Option Question) (k : ℕ) (m : Reply) → slice_get w.answers k ≡ Some m → slice_get (after_reply w p j o).answers k ≡ Some m
replied_stands w p j None k m e = e
replied_stands w p j (Some q) k m e = get_front w.answers (reply_from p j q ∷ []) k m e

lent_stands : (w : World) (o : Option Question) (j k : ℕ) (m : Reply) → slice_get w.answers k ≡ Some m → slice_get (after_lent w o j).answers k ≡ Some m
lent_stands w None j k m e = e
lent_stands w (Some p) j k m e = replied_stands w p j (slice_get w.asks j) k m e

taken_stands : (w : World) (o : Option Reply) (k : ℕ) (m : Reply) → slice_get w.answers k ≡ Some m → slice_get (after_take w o).answers k ≡ Some m
taken_stands w None k m e = e
taken_stands w (Some q) k m e = e

stands_step : (w : World) (e : Happening) (k : ℕ) (m : Reply) → slice_get w.answers k ≡ Some m → slice_get (next w e).answers k ≡ Some m
stands_step w (Of (Edit s c)) k m e = e
stands_step w (Of (Save s)) k m e = e
stands_step w (Of (Crash s)) k m e = e
stands_step w (Of (Ask s)) k m e = e
stands_step w (Of (Grow s name)) k m e = e
stands_step w (Of (Answer s j)) k m e = replied_stands w (lend w s) j (slice_get w.asks j) k m e
stands_step w (Of (Take j)) k m e = taken_stands w (slice_get w.answers j) k m e
stands_step w (AnswerLent i j) k m e = lent_stands w (slice_get w.asks i) j k m e

pub stands_run : (es : List Happening) (w : World) (k : ℕ) (m : Reply) → slice_get w.answers k ≡ Some m → slice_get (run es w).answers k ≡ Some m
stands_run [] w k m e = e
stands_run (f ∷ es) w k m e = stands_run es (next w f) k m (stands_step w f k m e)

-- ---- what it brings

module _ (w : World) (i : IsCoherent w) (lent : Question) (k : ℕ) (q : Question) (asked : slice_get w.asks k ≡ Some q) where
  reply_brings : (e : Happening) (es : List Happening) → next w e ≡ after_reply w lent k (Some q) → Accepted (e ∷ es) w → AreCompatible ((run (e ∷ es) w).memory q.asker) lent.state
      → BringsWhatWasKept (run (e ∷ es) w) (length w.answers) lent k q
  reply_brings e es is a agree =
      let now = next_coherent w i e a.0 in
      let last = run_coherent es (next w e) now a.1 in
      let up : AtMost q.state ((run es (next w e)).memory q.asker) =
      transitive _ _ _ (i.asks_below k q asked) (transitive _ _ _ (kept_step w i e q.asker) (transitive _ _ _ (kept_run es (next w e) now a.1 q.asker) (last.kept_below q.asker))) in
      record {
        stands = stands_run es (next w e) (length w.answers) (reply_from lent k q)
            (subst (λ (v : World). slice_get v.answers (length w.answers) ≡ Some (reply_from lent k q)) (sym is) (get_last w.answers (reply_from lent k q)));
        compatible = agree;
        effect = grown_delta lent.state q.state ((run es (next w e)).memory q.asker) up;
        least = λ c h p. least_delta lent.state q.state c p;
      }

-- where it is one of a list
module _ (n : List (List ℕ)) (es : List Happening) (a : Accepted es (initial_world n)) (before later : List Happening) (e : Happening) (is : es ≡ before ++ e ∷ later) where
  abbrev old : World
  old = world_after n before

  whole : Accepted (before ++ e ∷ later) (initial_world n)
  whole = subst (λ fs. Accepted fs (initial_world n)) is a

  there : run (e ∷ later) old ≡ world_after n es
  there = sym (run_on before (e ∷ later) (initial_world n)) ∙ ap (λ fs. run fs (initial_world n)) (sym is)

  it_brings : (lent : Question) (k : ℕ) (q : Question) → slice_get old.asks k ≡ Some q → next old e ≡ after_reply old lent k (Some q) → AreCompatible ((world_after n es).memory q.asker) lent.state
      → BringsWhatWasKept (world_after n es) (length old.answers) lent k q
  it_brings lent k q asked does agree =
      let both = (accepted_on before (e ∷ later) (initial_world n)).0 whole in
      subst (λ w. BringsWhatWasKept w (length old.answers) lent k q) there
      (reply_brings old (run_coherent before (initial_world n) (coherent_start n) both.0) lent k q asked e later does both.1 (subst (λ (w : World). AreCompatible (w.memory q.asker) lent.state) (sym there) agree))

pub each_answer_brings : (n : List (List ℕ)) (es : List Happening) → Accepted es (initial_world n) → (before later : List Happening) (s k : ℕ) (q : Question) → es ≡ before ++ Of (Answer s k) ∷ later
    → slice_get (world_after n before).asks k ≡ Some q → BringsWhatWasKept (world_after n es) (length (world_after n before).answers) (lend (world_after n before) s) k q
each_answer_brings n es a before later s k q is asked =
    let w = world_after n before in
    let e = Of (Answer s k) in
    it_brings n es a before later e is (lend w s) k q asked (ap (after_answer w s k) asked)
    (subst (λ fs. AreCompatible ((world_after n fs).memory q.asker) (w.kept s)) (sym is) (kept_agrees n before (e ∷ later) (whole n es a before later e is) q.asker s))

pub each_lent_brings : (n : List (List ℕ)) (es : List Happening) → Accepted es (initial_world n) → (before later : List Happening) (j k : ℕ) (p q : Question) → es ≡ before ++ AnswerLent j k ∷ later
    → slice_get (world_after n before).asks j ≡ Some p → slice_get (world_after n before).asks k ≡ Some q → BringsWhatWasKept (world_after n es) (length (world_after n before).answers) p k q
each_lent_brings n es a before later j k p q is lent asked =
    let w = world_after n before in
    let e = AnswerLent j k in
    let last = world_after n es in
    let stays : slice_get last.asks j ≡ Some p = subst (λ (v : World). slice_get v.asks j ≡ Some p) (there n es a before later e is) (asks_run (e ∷ later) w j p lent) in
    it_brings n es a before later e is p k q asked (ap (λ o. after_lent w o k) lent ∙ ap (after_reply w p k) asked)
    (agree_in last (run_coherent es (initial_world n) (coherent_start n) a) (last.memory q.asker) p.state (of_memory q.asker) (of_ask j p stays))
