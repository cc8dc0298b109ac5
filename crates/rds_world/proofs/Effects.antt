-- What a command's effect has at each dot and number.
use Rattle.std.proofs.Common.{◌≡◌, ℕ, ◌+◌, ◌≤◌, ◌<◌, suc, zero, Bool, true, false, cond, ◌&&◌, List, [], ◌∷◌, refl, sym}
use Rattle.std.proofs.Common.{ap, ◌∙◌, subst, inl, inr, ◌⊎◌, arith, ◌==◌, nat_lt, Option, Some, None}
use Rattle.std.specs.Prelude.{is_some}
use Rattle.std.specs.Str.{bytes_eq}
use Rattle.std.specs.Ordering.{eq_by_cmp, is_eq}
use Rattle.std.proofs.lemmas.Cmp.{tied_itself}
use Rattle.std.proofs.lemmas.Slice.Eq.{bytes_eq-Decides}
use Rattle.std.proofs.lemmas.Bool.Decides.{nat_tests}
use Rattle.rds_names.specs.Conditions.{equal_of}
use Rattle.rds_names.specs.declared.entry.Entry.{Entry}
use Rattle.rds_names.specs.declared.fault.Fault.{Fault}
use Rattle.rds_names.specs.declared.fault.Fault.TheVariants.{SeqFull}
use Rattle.rds_dots.specs.declared.dot.Dot.{Dot}
use Rattle.rds_dots.specs.declared.dot.TheConstants.{MAX_SEQ}
use Rattle.rds_dots.specs.Lacking.{dot_of}
use Rattle.rds_counts.specs.declared.row.Which.{Which}
use Rattle.rds_counts.specs.declared.row.Which.TheVariants.{P, N}
use Rattle.rds_counts.specs.Place.{Place, place_cmp}
use Rattle.rds_counts.specs.PlaceOrder.{place_total, place_exact}
use Rattle.rds_counts.specs.Counted.{place}
use Rattle.rds_life.specs.Life.{Life, Live, Dead}
use Rattle.rds_state.specs.Coordinates.{Coordinates, AreCompatible}
use Rattle.rds_state.specs.Edit.{covers, greatest, own_top, is_next, life_made, life_killed, effect, new_dot, refusal}
use Rattle.rds_state.specs.Edit.{path_fault, seq_fault}
use Rattle.rds_state.specs.Made.{entry_made}
use Rattle.rds_state.specs.declared.command.Command.{Command}
use Rattle.rds_state.specs.declared.command.Command.TheVariants.{Set, Add, Del, Clear, Inc, Dec}
use Rattle.rds_world.specs.Held.{amount}
use Rattle.rds_world.proofs.States.{agree_if}

-- ---- the next dot

greatest_step : (b : Bool) (m n g : ℕ) (p : ℕ → Bool) → p (suc m) ≡ b → (n ≤ m → g < n → p n ≡ false) → n ≤ suc m → cond b (suc m) g < n → p n ≡ false
greatest_step true m n g p e ih h k = absurd (omega arith)
greatest_step false m n g p e ih h k = grind arith

-- what lies above the greatest doesn't pass
above_greatest : (p : ℕ → Bool) (m n : ℕ) → n ≤ m → greatest p m < n → p n ≡ false
unfolding greatest
above_greatest p zero n h k = absurd (omega arith)
above_greatest p (suc m) n h k = greatest_step (p (suc m)) m n (greatest p m) p refl (above_greatest p m n) h k

unseen : (l : Option Life) → is_some l ≡ false → l ≡ None
unseen None h = refl
unseen (Some l) h = cc

room_of : (top most : ℕ) → cond (nat_lt top most) None (Some SeqFull) ≡ None → top < most
room_of top most h = grind (arith, nat_tests)

past_root : (p : List (List ℕ)) (f : Option Fault) → path_fault p f ≡ None → f ≡ None
past_root [] f h = cc
past_root (k ∷ ks) f h = h

-- the replica's next dot
abbrev pub next_dot : Coordinates → ℕ → Dot
next_dot a own = dot_of own (own_top a own + 1)

-- a command that makes an entry makes it at the next dot, and has room for it
pub made_next : (a : Coordinates) (own : ℕ) (c : Command) (e : Entry) → entry_made c ≡ Some e → new_dot a own c ≡ Some (next_dot a own)
made_next a own (Set p v) e k = refl
made_next a own (Add p v) e k = refl
made_next a own (Del p v) e k = cc
made_next a own (Clear p) e k = cc
made_next a own (Inc q n) e k = cc
made_next a own (Dec q n) e k = cc

entry_room : (a : Coordinates) (own : ℕ) (c : Command) (e : Entry) → refusal a own c ≡ None → entry_made c ≡ Some e → own_top a own < MAX_SEQ
entry_room a own (Set p v) e h k = room_of (own_top a own) MAX_SEQ (past_root p (seq_fault (own_top a own)) h)
entry_room a own (Add p v) e h k = room_of (own_top a own) MAX_SEQ (past_root p (seq_fault (own_top a own)) h)
entry_room a own (Del p v) e h k = cc
entry_room a own (Clear p) e h k = cc
entry_room a own (Inc q n) e h k = cc
entry_room a own (Dec q n) e h k = cc

-- the new dot is unseen
pub next_unseen : (a : Coordinates) (own : ℕ) (c : Command) (e : Entry) → refusal a own c ≡ None → entry_made c ≡ Some e → a.life (next_dot a own) ≡ None
next_unseen a own c e h k = let lt = entry_room a own c e h k in unseen (a.life (next_dot a own)) (above_greatest (λ n. is_some (a.life (dot_of own n))) MAX_SEQ (own_top a own + 1) (omega arith) (omega arith))

-- ---- lives of the effect

killed_live : (c : Command) (l : Option Life) (e : Entry) → life_killed c l ≡ Some (Live e) → ⊥
killed_live c None e h = cc
killed_live c (Some (Live f)) e h = never (covers c f) e h
  where
    never : (b : Bool) (e : Entry) → cond b (Some Dead) None ≡ Some (Live e) → ⊥
    never true e h = cc
    never false e h = cc
killed_live c (Some Dead) e h = cc

killed_dead : (c : Command) (l : Option Life) → life_killed c l ≡ Some Dead → (e : Entry) × (l ≡ Some (Live e)) × (covers c e ≡ true)
killed_dead c None h = cc
killed_dead c (Some (Live f)) h = (f, refl, must (covers c f) h)
  where
    must : (b : Bool) → cond b (Some Dead) None ≡ Some Dead → b ≡ true
    must true h = refl
    must false h = cc
killed_dead c (Some Dead) h = cc

life_live : (b : Bool) (o : Option Entry) (l : Option Life) (e : Entry) → (l ≡ Some (Live e) → ⊥) → cond b (life_made o l) l ≡ Some (Live e) → (b ≡ true) × (o ≡ Some e)
life_live true None l e k h = absurd (k h)
life_live true (Some f) l e k h = (refl, cc)
life_live false o l e k h = absurd (k h)

next_is : (a : Coordinates) (own : ℕ) (d : Dot) → is_next a own d ≡ true → d ≡ next_dot a own
next_is a own d h = let p = parts d.replica own d.seq (own_top a own + 1) h in λ i. dot_of (p.0 i) (p.1 i)
  where
    parts : (s r n m : ℕ) → (s == r && n == m) ≡ true → (s ≡ r) × (n ≡ m)
    parts s r n m h = grind (arith, nat_tests)

is_next_dot : (a : Coordinates) (own : ℕ) → is_next a own (next_dot a own) ≡ true
is_next_dot a own = same own (own_top a own + 1)
  where
    same : (s n : ℕ) → (s == s && n == n) ≡ true
    same s n = grind (arith, nat_tests)

module _ (a : Coordinates) (own : ℕ) (c : Command) where
  abbrev pub of_command : Coordinates
  of_command = effect a own c (entry_made c)

  -- only the new dot is live, with the command's entry
  pub effect_live : (d : Dot) (e : Entry) → of_command.life d ≡ Some (Live e) → (d ≡ next_dot a own) × (entry_made c ≡ Some e)
  effect_live d e h =
      let f = life_live (is_next a own d) (entry_made c) (life_killed c (a.life d)) e (killed_live c (a.life d) e) h in
      (next_is a own d f.0, f.1)

  life_dead : (b : Bool) (o : Option Entry) (l : Option Life) → cond b (life_made o l) l ≡ Some Dead → l ≡ Some Dead
  life_dead true None l h = h
  life_dead true (Some f) l h = cc
  life_dead false o l h = h

  -- only dots that were live and covered are dead
  pub effect_dead : (d : Dot) → of_command.life d ≡ Some Dead → (e : Entry) × (a.life d ≡ Some (Live e)) × (covers c e ≡ true)
  effect_dead d h = killed_dead c (a.life d) (life_dead (is_next a own d) (entry_made c) (life_killed c (a.life d)) h)

  life_new : (b : Bool) (o : Option Entry) (l : Option Life) (e : Entry) → b ≡ true → o ≡ Some e → cond b (life_made o l) l ≡ Some (Live e)
  life_new b o l e h k = rw (h, k) refl

  -- the new dot is live
  pub effect_made : (e : Entry) → entry_made c ≡ Some e → of_command.life (next_dot a own) ≡ Some (Live e)
  effect_made e h = life_new (is_next a own (next_dot a own)) (entry_made c) (life_killed c (a.life (next_dot a own))) e (is_next_dot a own) h

  killed_one : (l : Option Life) (e : Entry) → l ≡ Some (Live e) → covers c e ≡ true → life_killed c l ≡ Some Dead
  killed_one l e h k = rw h (rw k refl)

  life_stays : (b : Bool) (o : Option Entry) (l : Option Life) → l ≡ Some Dead → (o ≡ None) ⊎ (b ≡ false) → cond b (life_made o l) l ≡ Some Dead
  life_stays true o l h (inl k) = rw k h
  life_stays false o l h (inl k) = h
  life_stays b o l h (inr k) = rw k h

  new_not_live : refusal a own c ≡ None → (d : Dot) (e f : Entry) → a.life d ≡ Some (Live e) → entry_made c ≡ Some f → d ≡ next_dot a own → ⊥
  new_not_live ok d e f h k is =
      let u : a.life (next_dot a own) ≡ None = next_unseen a own c f ok k in
      let v : a.life (next_dot a own) ≡ Some (Live e) = subst (λ x. a.life x ≡ Some (Live e)) is h in
      cc

  old_dot : refusal a own c ≡ None → (d : Dot) (e : Entry) → a.life d ≡ Some (Live e) → (o : Option Entry) → entry_made c ≡ o → (b : Bool) → is_next a own d ≡ b → (entry_made c ≡ None) ⊎ (is_next a own d ≡ false)
  old_dot ok d e h None p b q = inl p
  old_dot ok d e h (Some f) p false q = inr q
  old_dot ok d e h (Some f) p true q = absurd (new_not_live ok d e f h p (next_is a own d q))

  -- a live dot that is covered is dead in the effect
  pub effect_kills : refusal a own c ≡ None → (d : Dot) (e : Entry) → a.life d ≡ Some (Live e) → covers c e ≡ true → of_command.life d ≡ Some Dead
  effect_kills ok d e h k = life_stays (is_next a own d) (entry_made c) (life_killed c (a.life d)) (killed_one (a.life d) e h k) (old_dot ok d e h (entry_made c) refl (is_next a own d) refl)

  -- the effect conflicts with nothing in the state
  pub effect_agrees : refusal a own c ≡ None → AreCompatible a of_command
  effect_agrees ok = record { each_dot = λ d. agree_if (a.life d) (of_command.life d) (λ e f h k. let x = effect_live d f k in absurd (new_not_live ok d e f h x.1 x.0)) }

-- ---- numbers of the effect

raised_own : (test : Bool) (n : ℕ) {A : Type 0} → (test ≡ true → A) → (cond test n 0 ≡ 0) ⊎ A
raised_own true n h = inr (h refl)
raised_own false n h = inl refl

at_place : (q at : Place) → eq_by_cmp place_cmp q at ≡ true → q ≡ at
at_place q at h = place_exact q at (equal_of (place_cmp q at) h)

-- a number of the effect is 0, or the replica's own
pub effect_number_own : (a : Coordinates) (own : ℕ) (c : Command) (q : Place) → ((effect a own c (entry_made c)).number q ≡ 0) ⊎ (q.replica ≡ own)
effect_number_own a own (Set p v) q = inl refl
effect_number_own a own (Add p v) q = inl refl
effect_number_own a own (Del p v) q = inl refl
effect_number_own a own (Clear p) q = inl refl
effect_number_own a own (Inc k by) q = raised_own (eq_by_cmp place_cmp q (place k own P)) (a.number q + by) (λ h. ap (λ x. x.replica) (at_place q (place k own P) h))
effect_number_own a own (Dec k by) q = raised_own (eq_by_cmp place_cmp q (place k own N)) (a.number q + by) (λ h. ap (λ x. x.replica) (at_place q (place k own N) h))

tied : (q : Place) → eq_by_cmp place_cmp q q ≡ true
tied q = ap is_eq (tied_itself place_total q)

same_key : (k key : List ℕ) → k ≡ key → bytes_eq k key ≡ true
same_key k key e = (bytes_eq-Decides k key).1 e

key_of : (b : Bool) (by : ℕ) → 0 < cond b by 0 → b ≡ true
key_of true by h = refl
key_of false by h = absurd (omega arith)

when : (b : Bool) (n m : ℕ) → b ≡ true → cond b n m ≡ n
when true n m h = refl
when false n m h = cc

-- a test that never passes, or one whose passing gives the rest
raised_by : (test : Bool) (n by : ℕ) {A : Type 0} → (test ≡ true → A × (by ≡ n)) → (b : ℕ) → (cond test (b + n) 0 ≡ 0) ⊎ (A × (cond test (b + n) 0 ≡ b + by))
raised_by true n by h b = let x = h refl in inr (x.0, omega (arith, x.1))
raised_by false n by h b = inl refl

never_raised : (test : Bool) (n : ℕ) {A : Type 0} → (test ≡ true → ⊥) → (cond test n 0 ≡ 0) ⊎ A
never_raised true n h = absurd (h refl)
never_raised false n h = inl refl

adds_here : (a : Coordinates) (own : ℕ) (k key : List ℕ) (by : ℕ) (which : Which) → 0 < cond (bytes_eq k key) by 0
    → cond (eq_by_cmp place_cmp (place key own which) (place k own which)) (a.number (place key own which) + by) 0 ≡ a.number (place key own which) + cond (bytes_eq k key) by 0
adds_here a own k key by which lt =
    let b = key_of (bytes_eq k key) by lt in
    let same : k ≡ key = (bytes_eq-Decides k key).0 b in
    when _ _ 0 (subst (λ x. eq_by_cmp place_cmp (place key own which) (place x own which) ≡ true) (sym same) (tied (place key own which)))
    ∙ ap (λ n. a.number (place key own which) + n) (sym (when (bytes_eq k key) by 0 b))

-- a number of the effect is 0, or that of the state and what the command adds to it
pub effect_number : (a : Coordinates) (own : ℕ) (c : Command) (key : List ℕ) (s : ℕ) (which : Which)
    → ((effect a own c (entry_made c)).number (place key s which) ≡ 0) ⊎ ((own ≡ s) × ((effect a own c (entry_made c)).number (place key s which) ≡ a.number (place key s which) + amount c key which))
effect_number a own (Set p v) key s which = inl refl
effect_number a own (Add p v) key s which = inl refl
effect_number a own (Del p v) key s which = inl refl
effect_number a own (Clear p) key s which = inl refl
effect_number a own (Inc k by) key s P = raised_by (eq_by_cmp place_cmp (place key s P) (place k own P)) by (cond (bytes_eq k key) by 0)
    (λ h. let e = at_place (place key s P) (place k own P) h in (sym (ap (λ x. x.replica) e), when (bytes_eq k key) by 0 (same_key k key (sym (ap (λ x. x.key) e))))) (a.number (place key s P))
effect_number a own (Inc k by) key s N = never_raised (eq_by_cmp place_cmp (place key s N) (place k own P)) (a.number (place key s N) + by) (λ h. other (ap (λ x. x.which) (at_place (place key s N) (place k own P) h)))
  where
    other : N ≡ P → ⊥
    other e = cc
effect_number a own (Dec k by) key s N = raised_by (eq_by_cmp place_cmp (place key s N) (place k own N)) by (cond (bytes_eq k key) by 0)
    (λ h. let e = at_place (place key s N) (place k own N) h in (sym (ap (λ x. x.replica) e), when (bytes_eq k key) by 0 (same_key k key (sym (ap (λ x. x.key) e))))) (a.number (place key s N))
effect_number a own (Dec k by) key s P = never_raised (eq_by_cmp place_cmp (place key s P) (place k own N)) (a.number (place key s P) + by) (λ h. other (ap (λ x. x.which) (at_place (place key s P) (place k own N) h)))
  where
    other : P ≡ N → ⊥
    other e = cc

-- where the command adds to a key, the own number is raised by so much
pub effect_adds : (a : Coordinates) (own : ℕ) (c : Command) (key : List ℕ) (which : Which) → 0 < amount c key which
    → (effect a own c (entry_made c)).number (place key own which) ≡ a.number (place key own which) + amount c key which
effect_adds a own (Set p v) key which lt = absurd (omega arith)
effect_adds a own (Add p v) key which lt = absurd (omega arith)
effect_adds a own (Del p v) key which lt = absurd (omega arith)
effect_adds a own (Clear p) key which lt = absurd (omega arith)
effect_adds a own (Inc k by) key P lt = adds_here a own k key by P lt
effect_adds a own (Inc k by) key N lt = absurd (omega arith)
effect_adds a own (Dec k by) key P lt = absurd (omega arith)
effect_adds a own (Dec k by) key N lt = adds_here a own k key by N lt
