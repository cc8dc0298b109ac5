-- Each event does to the value of a world what it does to the model.
use Rattle.std.proofs.Common.{◌≡◌, ◌≢◌, Bool, true, false, ◌+◌, suc, zero, ℕ, ◌<◌, ◌≤◌, List, [], ◌∷◌, ◌++◌, length}
use Rattle.std.proofs.Common.{length-append, Option, Some, None, refl, sym, ap, ◌∙◌, subst, arith, slice_get, inl, inr}
use Rattle.std.proofs.Common.{◌⊎◌, count_by, nat_lt}
use Rattle.std.specs.List.{AllZip}
use Rattle.std.proofs.Math.ListN.{set, length-set}
use Rattle.std.proofs.lemmas.Bool.{lt-ltb, le-ltb}
use Rattle.rds_names.specs.Roster.{RosterValue, Begins}
use Rattle.rds_names.specs.declared.fault.Fault.{Fault}
use Rattle.rds_names.specs.declared.fault.Fault.TheVariants.{Memory, NoSuch, TooLong}
use Rattle.rds_life.specs.Life.{live_rows}
use Rattle.rds_state.specs.Edit.{IsDue, JoinsEffect, covers, needs_room, new_dot, refusal}
use Rattle.rds_state.specs.Fits.{ReplicaValue}
use Rattle.rds_state.specs.Value.{coordinates}
use Rattle.rds_state.specs.declared.command.Command.{Command}
use Rattle.rds_state.specs.declared.command.Edited.{Edited as Effected}
use Rattle.rds_delta.specs.Digested.{digest_of}
use Rattle.rds_codec.specs.DigestTexts.{digest_text}
use Rattle.rds_codec.specs.StateTexts.{snapshot_text}
use Rattle.rds_codec.specs.declared.limits.TheConstants.{LIMIT}
use Rattle.rds_world.specs.declared.event.Event.{Event}
use Rattle.rds_world.specs.declared.event.Event.TheVariants.{Edit, Save, Crash, Ask}
use Rattle.rds_world.specs.declared.event.Done.TheVariants.{Edited, Plain, Asked}
use Rattle.rds_world.specs.declared.world.World.TheInside.{Inside}
use Rattle.rds_world.specs.World.{World, Question, after_edit, put, refusal_of, unless_there}
use Rattle.rds_world.specs.Stored.{AskText, WorldValue}
use Rattle.rds_world.specs.Stands.{state_of, HoldsAsk, Stands, HasModel, IsWhole, IsWorld}
use Rattle.rds_world.specs.Events.{RefusesEvent, NoMemory, Due, Long, TakesMemory, IsLongSnapshot}
use Rattle.rds_world.specs.Steps.{IsStep, IsStopped}
use Rattle.rds_world.proofs.Edits.{edit_is}
use Rattle.rds_world.proofs.Standing.{names_put, names_same, places_set, stands_memory, stands_kept, stands_asked}
use Rattle.rds_world.proofs.Standing.{model_after}
use Rattle.rds_world.proofs.Tables.{same_some, last_get}

-- the value of a world, by its parts
abbrev pub value_of : {S : Type 0} → Inside S → WorldValue
value_of w = record { roster = w.roster; memory = w.memory.items; kept = w.kept.items; asks = w.asks.items; answers = w.answers.items }

-- the world that an event leaves is one, and stands for the model's
pub record IsDoneTo (v : WorldValue) (e : Event) (answer : Rattle.rds_world.specs.declared.event.Done.Done) (u : WorldValue) : Type 0 where
  pub world : IsWorld u
  pub step : IsStep v e answer u

pub read_at : {A : Type 0} (xs : List A) (i : ℕ) (x y : A) → slice_get xs i ≡ Some x → slice_get xs i ≡ Some y → y ≡ x
read_at xs i x y p q = same_some y x (sym q ∙ p)

pub matched_length : {A C : Type 0} (P : A → C → Type 0) (xs : List A) (ys : List C) → AllZip P xs ys → length xs ≡ length ys
matched_length P [] [] m = refl
matched_length P [] (y ∷ ys) m = absurd m
matched_length P (x ∷ xs) [] m = absurd m
matched_length P (x ∷ xs) (y ∷ ys) m = ap suc (matched_length P xs ys m.1)

pub set_same : {A : Type 0} (xs : List A) (i : ℕ) (x : A) → slice_get xs i ≡ Some x → set xs i x ≡ xs
set_same [] i x is = refl
set_same (y ∷ ys) zero x is = ap (λ z. z ∷ ys) (sym (same_some y x is))
set_same (y ∷ ys) (suc i) x is = ap (λ zs. y ∷ zs) (set_same ys i x is)

-- ---- refusals

pub is_there : (r n : ℕ) (due : Option Fault) → r < n → unless_there (nat_lt r n) due ≡ due
is_there r n due h = ap (λ b. unless_there b due) (lt-ltb r n h)

pub not_there : (r n : ℕ) (due : Option Fault) → n ≤ r → unless_there (nat_lt r n) due ≡ Some NoSuch
not_there r n due h = ap (λ b. unless_there b due) (le-ltb r n h)

pub stopped : (v : WorldValue) (e : Event) (f : Fault) → ((w : World) → Stands v w → RefusesEvent v w e f) → IsStopped v e f v
stopped v e f h = record { refused = h; same = refl }

-- Memory, where nothing is in the way that is found without memory
pub no_memory : (v : WorldValue) (e : Event) (f : Fault) → f ≡ Memory → ((w : World) → Stands v w → refusal_of w e ≡ None) → ((w : World) → TakesMemory w e) → IsStopped v e f v
no_memory v e f is due takes = subst (λ x. IsStopped v e x v) (sym is) (stopped v e Memory (λ w s. NoMemory (due w s) (takes w)))

-- a replica of the world is one of the model's
pub of_roster : (v : WorldValue) (r : ℕ) → r < length v.memory → (w : World) → Stands v w → unless_there (nat_lt r w.replicas) None ≡ None
of_roster v r lt w s = is_there r w.replicas None (subst (λ n. r < n) (sym s.replicas) lt)

pub edit_absent : (v : WorldValue) (r : ℕ) (c : Command) → length v.memory ≤ r → IsStopped v (Edit r c) NoSuch v
edit_absent v r c h = stopped v (Edit r c) NoSuch (λ w s. Due NoSuch (not_there r w.replicas (refusal (w.memory r) r c) (subst (λ n. n ≤ r) (sym s.replicas) h)))

pub save_absent : (v : WorldValue) (r : ℕ) → length v.memory ≤ r → IsStopped v (Save r) NoSuch v
save_absent v r h = stopped v (Save r) NoSuch (λ w s. Due NoSuch (not_there r w.replicas None (subst (λ n. n ≤ r) (sym s.replicas) h)))

pub crash_absent : (v : WorldValue) (r : ℕ) → length v.memory ≤ r → IsStopped v (Crash r) NoSuch v
crash_absent v r h = stopped v (Crash r) NoSuch (λ w s. Due NoSuch (not_there r w.replicas None (subst (λ n. n ≤ r) (sym s.replicas) h)))

pub ask_absent : (v : WorldValue) (r : ℕ) → length v.memory ≤ r → IsStopped v (Ask r) NoSuch v
ask_absent v r h = stopped v (Ask r) NoSuch (λ w s. Due NoSuch (not_there r w.replicas None (subst (λ n. n ≤ r) (sym s.replicas) h)))

pub stopped_same : (v u : WorldValue) (e : Event) (f : Fault) → u ≡ v → IsStopped v e f v → IsStopped v e f u
stopped_same v u e f same h = record { refused = h.refused; same = same }

whole_as : (roster : RosterValue) (xs ys : List ReplicaValue) → length ys ≡ length xs → IsWhole roster xs → IsWhole roster ys
whole_as roster xs ys same (inl none) = inl (same ∙ none)
whole_as roster xs ys same (inr all) = inr (same ∙ all)

-- a world with another replica in memory
pub world_memory : (v : WorldValue) (i : IsWorld v) (r : ℕ) (x : ReplicaValue) → r < length v.memory → Begins x.roster v.roster × (x.own ≡ r) → ∥ HasModel (record v { memory = set v.memory r x }) ∥₁ → IsWorld (record v { memory = set v.memory r x })
world_memory v i r x lt at model =
    let len : length (set v.memory r x) ≡ length v.memory = length-set v.memory r x in
    record {
      memory = places_set v.roster v.memory r x lt at i.memory;
      kept = i.kept;
      same_length = i.same_length ∙ sym len;
      whole = whole_as v.roster v.memory (set v.memory r x) len i.whole;
      asks = λ k a h. subst (λ n. a.asker < n) (sym len) (i.asks k a h);
      answers = λ k a h. (let x = i.answers k a h in (subst (λ n. a.asker < n) (sym len) x.0, x.1));
      model = model;
    }

not_false : (b : Bool) → (b ≡ false → ⊥) → b ≡ true
not_false true k = refl
not_false false k = absurd (k refl)

-- a replica in memory
module _ (v : WorldValue) (i : IsWorld v) (r : ℕ) (m : ReplicaValue) (lt : r < length v.memory) (there : slice_get v.memory r ≡ Some m) where
  in_model : (w : World) → Stands v w → w.memory r ≡ coordinates m.state
  in_model w s = s.memory r ∙ ap state_of there

  below : (w : World) → Stands v w → r < w.replicas
  below w s = subst (λ n. r < n) (sym s.replicas) lt

  -- ---- edits

  module _ (c : Command) where
    edit_due : (w : World) → Stands v w → refusal_of w (Edit r c) ≡ refusal (coordinates m.state) m.own c
    edit_due w s =
        let own : r ≡ m.own = sym (i.memory r m there).1 in
        let same = in_model w s in
        is_there r w.replicas (refusal (w.memory r) r c) (below w s) ∙ (λ j. refusal (same j) (own j) c)

    edit_takes : (needs_room (coordinates m.state) m.own c ≡ false → ⊥) → (w : World) → Stands v w → needs_room (w.memory r) r c ≡ true
    edit_takes room w s =
        let own : r ≡ m.own = sym (i.memory r m there).1 in
        let same = in_model w s in
        (λ j. needs_room (same j) (own j) c) ∙ not_false (needs_room (coordinates m.state) m.own c) room

    edit_stopped_by : (f : Fault) → IsDue (refusal (coordinates m.state) m.own c) f → (needs_room (coordinates m.state) m.own c ≡ false → f ≢ Memory) → (w : World) → Stands v w → RefusesEvent v w (Edit r c) f
    edit_stopped_by Memory h room w s = NoMemory (edit_due w s ∙ h) (edit_takes (λ e. room e refl) w s)
    edit_stopped_by f h room w s = Due f (edit_due w s ∙ h)

    pub edit_stopped : (x : ReplicaValue) (f : Fault) → x ≡ m → IsDue (refusal (coordinates m.state) m.own c) f → (needs_room (coordinates m.state) m.own c ≡ false → f ≢ Memory)
        → IsStopped v (Edit r c) f (record v { memory = set v.memory r x })
    edit_stopped x f is h room =
        let same : set v.memory r x ≡ v.memory = ap (λ y. set v.memory r y) is ∙ set_same v.memory r m there in
        record { refused = edit_stopped_by f h room; same = λ j. record v { memory = same j } }

    pub edit_done : (x : ReplicaValue) (e : Effected) → (x.roster ≡ m.roster) × (x.own ≡ m.own) → JoinsEffect (coordinates m.state) m.own c (coordinates x.state)
        → e.dot ≡ new_dot (coordinates m.state) m.own c → e.killed ≡ count_by (λ row. covers c row.1) (live_rows m.state.lives) → refusal (coordinates m.state) m.own c ≡ None
        → IsDoneTo v (Edit r c) (Edited e) (record v { memory = set v.memory r x })
    edit_done x e same joins dot killed due =
        let own : r ≡ m.own = sym (i.memory r m there).1 in
        let at : Begins x.roster v.roster × (x.own ≡ r) = (subst (λ o. Begins o v.roster) (sym same.0) (i.memory r m there).0, same.1 ∙ (i.memory r m there).1) in
        let names : (w : World) → Stands v w → length x.roster.names ≡ w.memory_names r = λ w s. ap (λ (o : RosterValue). length o.names) same.0 ∙ s.memory_names r m there in
        let stands : (w : World) → Stands v w → Stands (record v { memory = set v.memory r x }) (Rattle.rds_world.specs.World.after w (Edit r c)) =
        λ w s. (let same = in_model w s in stands_memory v w r x (after_edit (w.memory r) r c) w.memory_names lt at (names_same w.memory_names v.memory r x lt (names w s) s.memory_names) s
        ((λ j. after_edit (same j) (own j) c) ∙ sym (edit_is (coordinates m.state) (coordinates x.state) m.own c joins))) in
        let accepted : (w : World) → Stands v w → refusal_of w (Edit r c) ≡ None = λ w s. edit_due w s ∙ due in
        record {
          world = world_memory v i r x lt at (model_after v (record v { memory = set v.memory r x }) (Edit r c) (λ w s. (accepted w s, stands w s)) i.model);
          step = record {
            accepted = λ w s. record { due = accepted w s; short = λ h. h };
            stands = stands;
            done = λ w s. record { dot = (let same = in_model w s in dot ∙ sym (λ j. new_dot (same j) (own j) c)); killed = λ n is. killed ∙ ap (λ (z : ReplicaValue). count_by (λ row. covers c row.1) (live_rows z.state.lives)) (read_at v.memory r n m is there) };
            roster = refl;
          };
        }

  -- ---- saves

  short_snapshot : length (snapshot_text m) ≤ LIMIT → IsLongSnapshot v r → ⊥
  short_snapshot short h =
      let same = read_at v.memory r h.replica m h.there there in
      let long = h.long in
      let long' : LIMIT < length (snapshot_text m) = subst (λ (z : ReplicaValue). LIMIT < length (snapshot_text z)) (sym same) long in
      omega (arith, short, long')

  pub save_stopped : (f : Fault) → (f ≡ Memory) ⊎ ((f ≡ TooLong) × (LIMIT < length (snapshot_text m))) → IsStopped v (Save r) f v
  save_stopped f h = elim h [
    | inl is ↦ no_memory v (Save r) f is (of_roster v r lt) (λ w. tt)
    | inr l ↦ subst (λ x. IsStopped v (Save r) x v) (sym l.0) (stopped v (Save r) TooLong (λ w s. Long (is_there r w.replicas None (below w s)) (record { replica = m; there = there; long = l.1 })))
  ]

  pub save_done : (x : ReplicaValue) → x ≡ m → length (snapshot_text m) ≤ LIMIT → IsDoneTo v (Save r) Plain (record v { kept = set v.kept r x })
  save_done x is short =
      let lt_kept : r < length v.kept = subst (λ n. r < n) (sym i.same_length) lt in
      let at : Begins x.roster v.roster × (x.own ≡ r) = subst (λ (z : ReplicaValue). Begins z.roster v.roster × (z.own ≡ r)) (sym is) (i.memory r m there) in
      let names : (w : World) → Stands v w → length x.roster.names ≡ w.memory_names r = λ w s. ap (λ (z : ReplicaValue). length z.roster.names) is ∙ s.memory_names r m there in
      let stands : (w : World) → Stands v w → Stands (record v { kept = set v.kept r x }) (Rattle.rds_world.specs.World.after w (Save r)) =
      λ w s. stands_kept v w r x (w.memory r) (w.memory_names r) lt_kept at (names w s) s (in_model w s ∙ ap (λ (z : ReplicaValue). coordinates z.state) (sym is)) in
      let accepted : (w : World) → Stands v w → refusal_of w (Save r) ≡ None = λ w s. is_there r w.replicas None (below w s) in
      record {
        world = record {
          memory = i.memory;
          kept = places_set v.roster v.kept r x lt_kept at i.kept;
          same_length = length-set v.kept r x ∙ i.same_length;
          whole = i.whole;
          asks = i.asks;
          answers = i.answers;
          model = model_after v (record v { kept = set v.kept r x }) (Save r) (λ w s. (accepted w s, stands w s)) i.model;
        };
        step = record {
          accepted = λ w s. record {
            due = accepted w s;
            short = short_snapshot short;
          };
          stands = stands;
          done = λ w s. tt;
          roster = refl;
        };
      }

-- a replica that is kept
module _ (v : WorldValue) (i : IsWorld v) (r : ℕ) (m : ReplicaValue) (lt : r < length v.memory) (there : slice_get v.kept r ≡ Some m) where
  kept_in_model : (w : World) → Stands v w → w.kept r ≡ coordinates m.state
  kept_in_model w s = s.kept r ∙ ap state_of there

  kept_below : (w : World) → Stands v w → r < w.replicas
  kept_below w s = subst (λ n. r < n) (sym s.replicas) lt

  -- ---- crashes

  pub crash_done : (x : ReplicaValue) → x ≡ m → IsDoneTo v (Crash r) Plain (record v { memory = set v.memory r x })
  crash_done x is =
      let at : Begins x.roster v.roster × (x.own ≡ r) = subst (λ (z : ReplicaValue). Begins z.roster v.roster × (z.own ≡ r)) (sym is) (i.kept r m there) in
      let names : (w : World) → Stands v w → length x.roster.names ≡ w.kept_names r = λ w s. ap (λ (z : ReplicaValue). length z.roster.names) is ∙ s.kept_names r m there in
      let stands : (w : World) → Stands v w → Stands (record v { memory = set v.memory r x }) (Rattle.rds_world.specs.World.after w (Crash r)) =
      λ w s. stands_memory v w r x (w.kept r) (put w.memory_names r (w.kept_names r)) lt at (names_put w.memory_names (w.kept_names r) v.memory r x lt (names w s) s.memory_names) s (kept_in_model w s ∙ ap (λ (z : ReplicaValue). coordinates z.state) (sym is)) in
      let accepted : (w : World) → Stands v w → refusal_of w (Crash r) ≡ None = λ w s. is_there r w.replicas None (kept_below w s) in
      record {
        world = world_memory v i r x lt at (model_after v (record v { memory = set v.memory r x }) (Crash r) (λ w s. (accepted w s, stands w s)) i.model);
        step = record {
          accepted = λ w s. record { due = accepted w s; short = λ h. h };
          stands = stands;
          done = λ w s. tt;
          roster = refl;
        };
      }

  -- ---- asks

  pub ask_stopped : (f : Fault) → (f ≡ Memory) ⊎ ((f ≡ TooLong) × (LIMIT < length (digest_text (digest_of m.state)))) → IsStopped v (Ask r) f v
  ask_stopped f h = elim h [
    | inl is ↦ no_memory v (Ask r) f is (of_roster v r lt) (λ w. tt)
    | inr l ↦ subst (λ x. IsStopped v (Ask r) x v) (sym l.0) (stopped v (Ask r) TooLong (λ w s. Long (is_there r w.replicas None (kept_below w s)) (record { replica = m; there = there; long = l.1 })))
  ]

  pub ask_done : (ask : AskText) (asks : List AskText) (question : ℕ) → asks ≡ v.asks ++ ask ∷ [] → question ≡ length v.asks
      → HoldsAsk (record { asker = m.own; names = length m.roster.names; state = coordinates m.state }) ask → length (digest_text (digest_of m.state)) ≤ LIMIT
      → IsDoneTo v (Ask r) (Asked question) (record v { asks = asks })
  ask_done ask asks question are number holds short =
      let at = i.kept r m there in
      let here : (w : World) → Stands v w → HoldsAsk (record { asker = r; names = w.kept_names r; state = w.kept r }) ask =
      λ w s. (let names = s.kept_names r m there in let state = sym (kept_in_model w s) in
      subst (λ (q : Question). HoldsAsk q ask) (λ j. record { asker = at.1 j; names = names j; state = state j }) holds) in
      let stands : (w : World) → Stands v w → Stands (record v { asks = asks }) (Rattle.rds_world.specs.World.after w (Ask r)) =
      λ w s. subst (λ (l : List AskText). Stands (record v { asks = l }) (Rattle.rds_world.specs.World.after w (Ask r))) (sym are)
      (stands_asked v w (record { asker = r; names = w.kept_names r; state = w.kept r }) ask s (here w s)) in
      let accepted : (w : World) → Stands v w → refusal_of w (Ask r) ≡ None = λ w s. is_there r w.replicas None (kept_below w s) in
      let asker : ask.asker < length v.memory = subst (λ o. o < length v.memory) (sym (holds.asker ∙ at.1)) lt in
      record {
        world = record {
          memory = i.memory;
          kept = i.kept;
          same_length = i.same_length;
          whole = i.whole;
          asks = λ k a h. elim (last_get v.asks ask a k (subst (λ (l : List AskText). slice_get l k ≡ Some a) are h)) [ inl old ↦ i.asks k a old | inr new ↦ subst (λ (z : AskText). z.asker < length v.memory) (sym new) asker ];
          answers = λ k a h. (let x = i.answers k a h in (x.0, ((let len : length asks ≡ length v.asks + 1 = ap length are ∙ length-append v.asks (ask ∷ []) in let before = x.1.0 in omega (arith, len, before)), x.1.1)));
          model = model_after v (record v { asks = asks }) (Ask r) (λ w s. (accepted w s, stands w s)) i.model;
        };
        step = record {
          accepted = λ w s. record {
            due = accepted w s;
            short = λ h. (let same = read_at v.kept r h.replica m h.there there in let long : LIMIT < length (digest_text (digest_of m.state)) = subst (λ (z : ReplicaValue). LIMIT < length (digest_text (digest_of z.state))) (sym same) h.long in omega (arith, short, long));
          };
          stands = stands;
          done = λ w s. number ∙ sym (matched_length HoldsAsk w.asks v.asks s.asks);
          roster = refl;
        };
      }
