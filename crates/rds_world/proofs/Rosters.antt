-- Rosters grow, and each state speaks only of the replicas that the roster beside it names.
use Rattle.std.proofs.Common.{◌≡◌, ℕ, ◌≤◌, ◌<◌, suc, max, Bool, true, false, cond, IsTrue, ◌&&◌, ◌++◌, ◌∷◌, [], refl}
use Rattle.std.proofs.Common.{sym, subst, inl, inr, ap, arith, nat_lt, ◌==◌, List, length, Option, Some, None}
use Rattle.std.proofs.Common.{slice_get}
use Rattle.std.specs.Prelude.{is_some, nat_le}
use Rattle.std.proofs.lemmas.Grind.{common_steps}
use Rattle.std.proofs.lemmas.Bool.{leb-true}
use Rattle.std.proofs.lemmas.Bool.Decides.{nat_tests}
use Rattle.rds_names.specs.declared.fault.Fault.{Fault}
use Rattle.rds_names.specs.declared.fault.Fault.TheVariants.{NoSuch, BadRoster, WrongRoster}
use Rattle.rds_names.specs.Conditions.{and_left, and_right}
use Rattle.rds_names.specs.Roster.{all_differ, are_names}
use Rattle.rds_dots.specs.declared.dot.Dot.{Dot}
use Rattle.rds_state.specs.Coordinates.{Coordinates, join}
use Rattle.rds_state.specs.Edit.{refusal, effect}
use Rattle.rds_state.specs.Fits.{Fits}
use Rattle.rds_state.specs.Made.{entry_made}
use Rattle.rds_state.specs.declared.command.Command.{Command}
use Rattle.rds_state.proofs.FitsLemmas.{fits_more}
use Rattle.rds_delta.specs.Ranks.{ranks}
use Rattle.rds_delta.proofs.LeastLaws.{least_part}
use Rattle.rds_world.specs.declared.event.Event.{Event}
use Rattle.rds_world.specs.declared.event.Event.TheVariants.{Edit, Save, Crash, Ask, Answer, Take, Grow}
use Rattle.rds_world.specs.World.{World, Happening, Of, AnswerLent, Question, Reply, put, initial_world, after_edit, lend}
use Rattle.rds_world.specs.World.{reply_from, after_reply, after_lent, after_take, after, refusal_of, next, hindrance, run}
use Rattle.rds_world.specs.World.{Accepted}
use Rattle.rds_world.specs.Coherent.{HasRosters}
use Rattle.rds_world.proofs.Coherent.{is_there, there, empty_fits}
use Rattle.rds_world.proofs.States.{by_life, fits_join, fits_below}
use Rattle.rds_world.proofs.Effects.{effect_live, effect_dead, effect_number_own}
use Rattle.rds_world.proofs.Tables.{put_one, put_two, last_get}

effect_fits : (n r : ℕ) (a : Coordinates) (c : Command) → r < n → Fits n a → Fits n (effect a r c (entry_made c))
effect_fits n r a c lt f = record {
  dots = λ d p. by_life ((effect a r c (entry_made c)).life d)
      (λ u. let q : is_some ((effect a r c (entry_made c)).life d) ≡ _ = ap is_some u in cc)
      (λ e q. let o = ap (λ (y : Dot). y.replica) (effect_live a r c d e q).0 in omega (arith, o, lt))
      (λ q. f.dots d (ap is_some (effect_dead a r c d q).1));
  numbers = λ q p. elim (effect_number_own a r c q) [ inl z ↦ absurd (omega (arith, z, p)) | inr o ↦ omega (arith, o, lt) ];
}

pub rosters_start : (ns : List (List ℕ)) → HasRosters (initial_world ns)
rosters_start ns = record { named = refl; own = λ r h. h; kept_within = λ r. omega arith; memory_within = λ r. omega arith; memory = λ r. empty_fits (length ns); kept = λ r. empty_fits (length ns); askers = λ k q e. cc; asks = λ k q e. cc; answers = λ k m e. cc }

-- a replica that may grow the roster knows the whole of it
grow_allowed : (r n : ℕ) (b d : Bool) → cond (nat_lt r n) (cond b (cond d None (Some BadRoster)) (Some WrongRoster)) (Some NoSuch) ≡ None → (r < n) × (b ≡ true)
grow_allowed r n b d h = grind (arith, nat_tests)

same_number : (a b : ℕ) → (a == b) ≡ true → a ≡ b
same_number a b p = grind (arith, nat_tests)

one_longer : (ns : List (List ℕ)) (n : List ℕ) (m : ℕ) → m ≡ length ns → suc m ≡ length (ns ++ n ∷ [])
one_longer ns n m e = grind (arith, common_steps)

module _ (w : World) (i : HasRosters w) where
  kept_grows : (r s : ℕ) → w.kept_names s ≤ put w.kept_names r (w.memory_names r) s
  kept_grows r s = put_one (λ t n. w.kept_names t ≤ n) w.kept_names r (w.memory_names r) (i.kept_within r) (λ t n. omega arith) s

  save_rosters : (r : ℕ) → HasRosters (after w (Save r))
  save_rosters r = record {
    named = i.named;
    own = λ s. put_one (λ t n. t < w.replicas → t < n) w.kept_names r (w.memory_names r) (λ h. let k : r < w.kept_names r = i.own r h in let j : w.kept_names r ≤ w.memory_names r = i.kept_within r in omega arith) (λ t n. i.own t) s;
    kept_within = λ s. put_one (λ t n. n ≤ w.memory_names t) w.kept_names r (w.memory_names r) (omega arith) (λ t n. i.kept_within t) s;
    memory_within = i.memory_within;
    memory = i.memory;
    kept = λ s. put_two (λ t n a. Fits n a) w.kept_names w.kept r (w.memory_names r) (w.memory r) (i.memory r) (λ t n. i.kept t) s;
    askers = i.askers;
    asks = λ k q e. let x = i.asks k q e in (x.0, (let y : q.names ≤ w.kept_names q.asker = x.1 in let z = kept_grows r q.asker in omega (arith, y, z)));
    answers = λ k m e. let x = i.answers k m e in (x.0, (let y : m.names ≤ w.kept_names m.maker = x.1 in let z = kept_grows r m.maker in omega (arith, y, z)));
  }

  crash_rosters : (r : ℕ) → HasRosters (after w (Crash r))
  crash_rosters r = record {
    named = i.named;
    own = i.own;
    kept_within = λ s. put_one (λ t n. w.kept_names t ≤ n) w.memory_names r (w.kept_names r) (omega arith) (λ t n. i.kept_within t) s;
    memory_within = λ s. put_one (λ t n. n ≤ w.replicas) w.memory_names r (w.kept_names r) (let j : w.kept_names r ≤ w.memory_names r = i.kept_within r in let k : w.memory_names r ≤ w.replicas = i.memory_within r in omega arith) (λ t n. i.memory_within t) s;
    memory = λ s. put_two (λ t n a. Fits n a) w.memory_names w.memory r (w.kept_names r) (w.kept r) (i.kept r) (λ t n. i.memory t) s;
    kept = i.kept;
    askers = i.askers;
    asks = i.asks;
    answers = i.answers;
  }

  edit_rosters : (r : ℕ) (c : Command) → r < w.replicas → HasRosters (after w (Edit r c))
  edit_rosters r c h = record {
    named = i.named;
    own = i.own;
    kept_within = i.kept_within;
    memory_within = i.memory_within;
    memory = λ s. put_one (λ t a. Fits (w.memory_names t) a) w.memory r (after_edit (w.memory r) r c)
        (fits_join (w.memory_names r) (w.memory r) (effect (w.memory r) r c (entry_made c)) (i.memory r)
        (effect_fits (w.memory_names r) r (w.memory r) c (let a : r < w.kept_names r = i.own r h in let b : w.kept_names r ≤ w.memory_names r = i.kept_within r in omega arith) (i.memory r)))
        (λ t n. i.memory t) s;
    kept = i.kept;
    askers = i.askers;
    asks = i.asks;
    answers = i.answers;
  }

  ask_rosters : (r : ℕ) → r < w.replicas → HasRosters (after w (Ask r))
  ask_rosters r h = record {
    named = i.named;
    own = i.own;
    kept_within = i.kept_within;
    memory_within = i.memory_within;
    memory = i.memory;
    kept = i.kept;
    askers = λ k q e. elim (last_get w.asks (lend w r) q k e) [ inl p ↦ i.askers k q p | inr p ↦ subst (λ (x : Question). x.asker < x.names) (sym p) (i.own r h) ];
    asks = λ k q e. elim (last_get w.asks (lend w r) q k e) [ inl p ↦ i.asks k q p | inr p ↦ subst (λ x. Fits x.names x.state × (x.names ≤ w.kept_names x.asker)) (sym p) (i.kept r, omega arith) ];
    answers = i.answers;
  }

  reply_rosters : (p : Question) → Fits p.names p.state → p.names ≤ w.kept_names p.asker → (k : ℕ) (o : Option Question) → HasRosters (after_reply w p k o)
  reply_rosters p fits le k None = i
  reply_rosters p fits le k (Some q) = record {
    named = i.named;
    own = i.own;
    kept_within = i.kept_within;
    memory_within = i.memory_within;
    memory = i.memory;
    kept = i.kept;
    askers = i.askers;
    asks = i.asks;
    answers = λ j m e. elim (last_get w.answers (reply_from p k q) m j e) [
      | inl o ↦ i.answers j m o
      | inr o ↦ subst (λ x. Fits x.names x.state × (x.names ≤ w.kept_names x.maker)) (sym o) (fits_below p.names (reply_from p k q).state p.state (least_part p.state (ranks q.state)) fits, le)
    ];
  }

  lent_rosters : (j k : ℕ) (o : Option Question) → slice_get w.asks j ≡ o → HasRosters (after_lent w o k)
  lent_rosters j k None e = i
  lent_rosters j k (Some p) e = let x = i.asks j p e in reply_rosters p x.0 x.1 k (slice_get w.asks k)

  take_rosters : (k : ℕ) (o : Option Reply) → slice_get w.answers k ≡ o → HasRosters (after_take w o)
  take_rosters k None e = i
  take_rosters k (Some m) e = record {
    named = i.named;
    own = i.own;
    kept_within = λ s. put_one (λ t n. w.kept_names t ≤ n) w.memory_names m.asker (max (w.memory_names m.asker) m.names) (let j : w.kept_names m.asker ≤ w.memory_names m.asker = i.kept_within m.asker in omega arith) (λ t n. i.kept_within t) s;
    memory_within = λ s. put_one (λ t n. n ≤ w.replicas) w.memory_names m.asker (max (w.memory_names m.asker) m.names)
        (let j : w.memory_names m.asker ≤ w.replicas = i.memory_within m.asker in let x : m.names ≤ w.kept_names m.maker = (i.answers k m e).1 in let y : w.kept_names m.maker ≤ w.memory_names m.maker = i.kept_within m.maker in let z : w.memory_names m.maker ≤ w.replicas = i.memory_within m.maker in omega arith) (λ t n. i.memory_within t) s;
    memory = λ s. put_two (λ t n a. Fits n a) w.memory_names w.memory m.asker (max (w.memory_names m.asker) m.names) (join (w.memory m.asker) m.state)
        (fits_join (max (w.memory_names m.asker) m.names) (w.memory m.asker) m.state (fits_more (w.memory_names m.asker) (max (w.memory_names m.asker) m.names) (w.memory m.asker) (omega arith) (i.memory m.asker)) (fits_more m.names (max (w.memory_names m.asker) m.names) m.state (omega arith) (i.answers k m e).0))
        (λ t n. i.memory t) s;
    kept = i.kept;
    askers = i.askers;
    asks = i.asks;
    answers = i.answers;
  }

  kept_in : (r : ℕ) → w.kept_names r ≤ w.replicas
  kept_in r = let j : w.kept_names r ≤ w.memory_names r = i.kept_within r in let k : w.memory_names r ≤ w.replicas = i.memory_within r in omega arith

  more_kept : (s : ℕ) → w.kept_names s ≤ put w.kept_names w.replicas (suc w.replicas) s
  more_kept s = put_one (λ t n. w.kept_names t ≤ n) w.kept_names w.replicas (suc w.replicas) (let x = kept_in w.replicas in omega (arith, x)) (λ t n. omega arith) s

  grow_rosters : (r : ℕ) (name : List ℕ) → r < w.replicas → w.memory_names r ≡ w.replicas → HasRosters (after w (Grow r name))
  grow_rosters r name h q = record {
    named = one_longer w.roster name w.replicas i.named;
    own = λ s. put_one (λ t n. t < suc w.replicas → t < n) w.kept_names w.replicas (suc w.replicas) (λ p. omega arith) (λ t n p. i.own t (let x : t < w.replicas = omega (arith, n) in x)) s;
    kept_within = λ s. put_two (λ t a b. a ≤ b) w.kept_names (put w.memory_names r (suc w.replicas)) w.replicas (suc w.replicas) (suc w.replicas) (omega arith)
        (λ t n. put_one (λ t b. w.kept_names t ≤ b) w.memory_names r (suc w.replicas) (let x : w.kept_names r ≤ w.replicas = kept_in r in omega arith) (λ t n. i.kept_within t) t) s;
    memory_within = λ s. put_one (λ t b. b ≤ suc w.replicas) (put w.memory_names r (suc w.replicas)) w.replicas (suc w.replicas) (omega arith)
        (λ t n. put_one (λ t b. b ≤ suc w.replicas) w.memory_names r (suc w.replicas) (omega arith) (λ t n. let x : w.memory_names t ≤ w.replicas = i.memory_within t in omega arith) t) s;
    memory = λ s. put_one (λ t n. Fits n (w.memory t)) (put w.memory_names r (suc w.replicas)) w.replicas (suc w.replicas) (more w.replicas)
        (λ t n. put_one (λ t n. Fits n (w.memory t)) w.memory_names r (suc w.replicas) (more r) (λ t n. i.memory t) t) s;
    kept = λ s. put_one (λ t n. Fits n (w.kept t)) w.kept_names w.replicas (suc w.replicas) (fits_more (w.kept_names w.replicas) (suc w.replicas) (w.kept w.replicas) (let x : w.kept_names w.replicas ≤ w.replicas = kept_in w.replicas in omega arith) (i.kept w.replicas)) (λ t n. i.kept t) s;
    askers = i.askers;
    asks = λ k p e. let x = i.asks k p e in (x.0, (let y : p.names ≤ w.kept_names p.asker = x.1 in let z = more_kept p.asker in omega (arith, y, z)));
    answers = λ k m e. let x = i.answers k m e in (x.0, (let y : m.names ≤ w.kept_names m.maker = x.1 in let z = more_kept m.maker in omega (arith, y, z)));
  }
    where
      more : (t : ℕ) → Fits (suc w.replicas) (w.memory t)
      more t = fits_more (w.memory_names t) (suc w.replicas) (w.memory t) (let x : w.memory_names t ≤ w.replicas = i.memory_within t in omega arith) (i.memory t)

pub event_rosters : (w : World) (i : HasRosters w) (e : Event) → refusal_of w e ≡ None → HasRosters (after w e)
event_rosters w i (Edit r c) ok = edit_rosters w i r c (is_there r w.replicas (refusal (w.memory r) r c) ok)
event_rosters w i (Save r) ok = save_rosters w i r
event_rosters w i (Crash r) ok = crash_rosters w i r
event_rosters w i (Ask r) ok = ask_rosters w i r (is_there r w.replicas None ok)
event_rosters w i (Answer s k) ok = reply_rosters w i (lend w s) (i.kept s) (omega arith) k (slice_get w.asks k)
event_rosters w i (Take k) ok = take_rosters w i k (slice_get w.answers k) refl
event_rosters w i (Grow r name) ok = let x = grow_allowed r w.replicas (w.memory_names r == w.replicas) (are_names (w.roster ++ name ∷ [])) ok in grow_rosters w i r name x.0 (same_number (w.memory_names r) w.replicas x.1)

pub next_rosters : (w : World) (i : HasRosters w) (e : Happening) → hindrance w e ≡ None → HasRosters (next w e)
next_rosters w i (Of e) ok = event_rosters w i e ok
next_rosters w i (AnswerLent j k) ok = lent_rosters w i j k (slice_get w.asks j) refl

pub run_rosters : (es : List Happening) (w : World) → HasRosters w → Accepted es w → HasRosters (run es w)
run_rosters [] w i a = i
run_rosters (e ∷ es) w i a = run_rosters es (next w e) (next_rosters w i e a.0) a.1

-- ---- at most 256 names

pub few_names : (names : List (List ℕ)) → IsTrue (are_names names) → length names ≤ 256
few_names names h = leb-true (length names) 256 (and_right (nat_le 1 (length names)) (nat_le (length names) 256) (and_left (nat_le 1 (length names) && nat_le (length names) 256) (all_differ names) h))

named_few : (b c : Bool) (due : Fault) → cond b (cond c None (Some BadRoster)) (Some due) ≡ None → c ≡ true
named_few true true due h = refl
named_few true false due h = cc
named_few false c due h = cc

reply_replicas : (w : World) (p : Question) (k : ℕ) (o : Option Question) → (after_reply w p k o).replicas ≡ w.replicas
reply_replicas w p k None = refl
reply_replicas w p k (Some q) = refl

lent_replicas : (w : World) (o : Option Question) (k : ℕ) → (after_lent w o k).replicas ≡ w.replicas
lent_replicas w None k = refl
lent_replicas w (Some p) k = reply_replicas w p k (slice_get w.asks k)

take_replicas : (w : World) (o : Option Reply) → (after_take w o).replicas ≡ w.replicas
take_replicas w None = refl
take_replicas w (Some m) = refl

few_after : (w : World) (i : HasRosters w) (e : Event) → refusal_of w e ≡ None → w.replicas ≤ 256 → (after w e).replicas ≤ 256
few_after w i (Edit r c) ok le = le
few_after w i (Save r) ok le = le
few_after w i (Crash r) ok le = le
few_after w i (Ask r) ok le = le
few_after w i (Answer s k) ok le = subst (λ n. n ≤ 256) (sym (reply_replicas w (lend w s) k (slice_get w.asks k))) le
few_after w i (Take k) ok le = subst (λ n. n ≤ 256) (sym (take_replicas w (slice_get w.answers k))) le
few_after w i (Grow r name) ok le =
    let due = there (nat_lt r w.replicas) (cond (w.memory_names r == w.replicas) (cond (are_names (w.roster ++ name ∷ [])) None (Some BadRoster)) (Some WrongRoster)) ok in
    let names : are_names (w.roster ++ name ∷ []) ≡ true = named_few (w.memory_names r == w.replicas) (are_names (w.roster ++ name ∷ [])) WrongRoster due in
    subst (λ n. n ≤ 256) (sym (one_longer w.roster name w.replicas i.named)) (few_names (w.roster ++ name ∷ []) names)

few_next : (w : World) (i : HasRosters w) (e : Happening) → hindrance w e ≡ None → w.replicas ≤ 256 → (next w e).replicas ≤ 256
few_next w i (Of e) ok le = few_after w i e ok le
few_next w i (AnswerLent j k) ok le = subst (λ n. n ≤ 256) (sym (lent_replicas w (slice_get w.asks j) k)) le

pub few_run : (es : List Happening) (w : World) → HasRosters w → Accepted es w → w.replicas ≤ 256 → (run es w).replicas ≤ 256
few_run [] w i a le = le
few_run (e ∷ es) w i a le = few_run es (next w e) (next_rosters w i e a.0) a.1 (few_next w i e a.0 le)
