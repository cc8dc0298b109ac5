-- States that are the effect of a command.
use Rattle.std.proofs.Common.{◌≡◌, ℕ, ◌+◌, ◌<◌, ◌≤◌, Bool, true, false, ◌&&◌, cond, max, List, []}
use Rattle.std.proofs.Common.{◌∷◌, nat_le, nat_lt, ◌⊎◌, inl, inr, refl, sym, ◌∙◌, ap, subst, arith}
use Rattle.std.proofs.lemmas.Bool.Decides.{nat_tests}
use Rattle.std.specs.Prelude.{Option, Some, None, is_some, length, Result, Ok, Err, IfOk}
use Rattle.std.specs.Ordering.{eq_by_cmp}
use Rattle.std.specs.FinMap as map
use Rattle.rds_names.specs.Conditions.{equal_of}
use Rattle.rds_names.specs.Entry.{HasParts}
use Rattle.rds_names.specs.Roster.{RosterValue}
use Rattle.rds_names.specs.declared.entry.Entry.{Entry}
use Rattle.rds_dots.specs.declared.dot.Dot.{Dot}
use Rattle.rds_names.specs.declared.fault.Fault.{Fault}
use Rattle.rds_names.specs.declared.fault.Fault.TheVariants.{Memory, SeqFull, CounterFull}
use Rattle.rds_dots.specs.declared.dot.TheConstants.{MAX_SEQ}
use Rattle.rds_dots.specs.Dots.{dot_cmp, is_dot}
use Rattle.rds_dots.specs.Lacking.{dot_of}
use Rattle.rds_dots.specs.Order.{dots_total}
use Rattle.rds_counts.specs.Counted.{Above, Counted, number, number_from, place}
use Rattle.rds_counts.specs.Place.{Place, place_cmp}
use Rattle.rds_counts.specs.PlaceOrder.{place_exact}
use Rattle.rds_counts.specs.declared.row.TheConstants.{MAX_COUNT}
use Rattle.rds_counts.specs.declared.row.Which.TheVariants.{P, N}
use Rattle.rds_life.specs.Life.{Life, Live, Dead, Lived, join_life}
use Rattle.rds_state.specs.Chosen.{CommandParts, command_parts, same_dot, AreRaised}
use Rattle.rds_state.specs.Coordinates.{Coordinates, join}
use Rattle.rds_state.specs.Edit.{effect, effect_number, is_next, life_killed, life_made, number_raised, own_top}
use Rattle.rds_state.specs.Edit.{count_fault, path_fault, seq_fault, IsDue, JoinsEffect}
use Rattle.rds_state.specs.Fits.{Fits, ReplicaValue}
use Rattle.rds_state.specs.Made.{entry_from, entry_made}
use Rattle.rds_state.specs.Results.{EditsReplica}
use Rattle.rds_state.specs.Value.{StateValue, coordinates}
use Rattle.rds_state.specs.declared.command.Command.{Command}
use Rattle.rds_state.specs.declared.command.Command.TheVariants.{Set, Add, Del, Clear, Inc, Dec}
use Rattle.rds_state.specs.declared.command.Edited.{Edited}
use Rattle.rds_state.proofs.CountLemmas.{same_dot-tied}
use Rattle.rds_state.proofs.EditLemmas.{made_of_parts}
use Rattle.rds_state.proofs.JoinLaws.{same_coordinates}
use Rattle.rds_tree.specs.EditsWithDelta.{EditsWithDelta}
use Rattle.rds_state.proofs.MadeLemmas.{made_is}

pub no_count : (v : Counted) → v ≡ map.empty → (q : Place) → number v q ≡ 0
no_count v none q = ap (λ m. number m q) none ∙ ap number_from (map.get-empty {X = Above} place_cmp q)

no_number : (c : Command) (p : CommandParts) → command_parts c ≡ Some p → (a : Coordinates) (own : ℕ) (q : Place) → effect_number a own c q ≡ 0
no_number (Set q v) p is a own x = refl
no_number (Add q v) p is a own x = refl
no_number (Del q v) p is a own x = refl
no_number (Clear q) p is a own x = refl
no_number (Inc k by) p is a own x = cc is
no_number (Dec k by) p is a own x = cc is

cond_same : {X : Type 0} (b : Bool) (x : X) → x ≡ cond b x x
cond_same true x = refl
cond_same false x = refl

module _ (a b : StateValue) (own : ℕ) where
  abbrev next : Dot → Bool
  next d = is_next (coordinates a) own d

  -- the covered dots dead, and a new one live
  pub put_is : (c : Command) (p : CommandParts) → command_parts c ≡ Some p → (e : Entry) → HasParts p.path p.kind p.value e → (new : Dot) → new ≡ dot_of own (own_top (coordinates a) own + 1) → (mid : Lived)
      → ((d : Dot) → map.get mid d ≡ life_killed c (map.get a.lives d)) → b.lives ≡ map.insert mid new (Live e) → b.counts ≡ map.empty → coordinates b ≡ effect (coordinates a) own c (entry_made c)
  put_is c p is e has new at mid killed lives counts = same_coordinates _ _
      (λ d. ap (λ l. map.get l d) lives ∙ map.get-insert dots_total mid new (Live e) d
      ∙ ap (λ x. cond x (Some (Live e)) (map.get mid d)) (same_dot-tied d new ∙ ap (same_dot d) at)
      ∙ ap (cond (next d) (Some (Live e))) (killed d)
      ∙ ap (λ m. cond (next d) (life_made m (life_killed c (map.get a.lives d))) (life_killed c (map.get a.lives d))) (made_is c (Some e) (made_of_parts c p e is has)))
      (λ q. no_count b.counts counts q ∙ sym (no_number c p is (coordinates a) own q))

  -- no entry made: the lives, by those that it makes dead
  pub kill_is : (c : Command) → command_parts c ≡ None → ((d : Dot) → map.get b.lives d ≡ life_killed c (map.get a.lives d)) → ((q : Place) → number b.counts q ≡ effect_number (coordinates a) own c q)
      → coordinates b ≡ effect (coordinates a) own c (entry_made c)
  kill_is c none lives numbers = same_coordinates _ _
      (λ d. lives d ∙ cond_same (next d) (life_killed c (map.get a.lives d))
      ∙ ap (λ m. cond (next d) (life_made (entry_from m) (life_killed c (map.get a.lives d))) (life_killed c (map.get a.lives d))) (sym none))
      numbers

  pub del_is : (c : Command) → command_parts c ≡ None → ((q : Place) → effect_number (coordinates a) own c q ≡ 0) → ((d : Dot) → map.get b.lives d ≡ life_killed c (map.get a.lives d)) → b.counts ≡ map.empty → coordinates b ≡ effect (coordinates a) own c (entry_made c)
  del_is c none unraised lives counts = kill_is c none lives (λ q. no_count b.counts counts q ∙ sym (unraised q))

  no_life : b.lives ≡ map.empty → (d : Dot) → map.get b.lives d ≡ None
  no_life none d = ap (λ l. map.get l d) none ∙ map.get-empty {X = Life} dot_cmp d

  pub inc_is : (k : List ℕ) (by : ℕ) → b.lives ≡ map.empty → ((q : Place) → number b.counts q ≡ number_raised (coordinates a) (place k own P) by q) → coordinates b ≡ effect (coordinates a) own (Inc k by) (entry_made (Inc k by))
  inc_is k by none numbers = kill_is (Inc k by) refl (λ d. no_life none d ∙ sym (kept (map.get a.lives d))) numbers
    where
      kept : (o : Option Life) → life_killed (Inc k by) o ≡ None
      kept None = refl
      kept (Some (Live e)) = refl
      kept (Some Dead) = refl

  pub dec_is : (k : List ℕ) (by : ℕ) → b.lives ≡ map.empty → ((q : Place) → number b.counts q ≡ number_raised (coordinates a) (place k own N) by q) → coordinates b ≡ effect (coordinates a) own (Dec k by) (entry_made (Dec k by))
  dec_is k by none numbers = kill_is (Dec k by) refl (λ d. no_life none d ∙ sym (kept (map.get a.lives d))) numbers
    where
      kept : (o : Option Life) → life_killed (Dec k by) o ≡ None
      kept None = refl
      kept (Some (Live e)) = refl
      kept (Some Dead) = refl

-- a number raised from 0 by what it was and an amount
pub raised_anew : (none new : Counted) (a : Coordinates) (at : Place) (by sum : ℕ) → none ≡ map.empty → sum ≡ a.number at + by → AreRaised none at sum new → (q : Place) → number new q ≡ number_raised a at by q
raised_anew none new a at by sum empty is raised q =
    raised q ∙ (λ i. cond (eq_by_cmp place_cmp q at) (no_count none empty q i + is i) (no_count none empty q i)) ∙ there (eq_by_cmp place_cmp q at) refl
  where
    same_sum : {x y : ℕ} → x ≡ y → 0 + (x + by) ≡ y + by
    same_sum same = omega (arith, same)

    there : (t : Bool) → eq_by_cmp place_cmp q at ≡ t → cond t (0 + (a.number at + by)) 0 ≡ cond t (a.number q + by) 0
    there true same = same_sum (ap a.number (sym (place_exact q at (equal_of _ same))))
    there false same = refl

-- ---- the next dot is one, and which sums are full

pub next_is_dot : (d : Dot) (own top : ℕ) (path : List (List ℕ)) → d.replica ≤ 255 → path_fault path (seq_fault top) ≡ None → d ≡ dot_of own (top + 1) → is_dot d ≡ true
next_is_dot d own top [] small none is = absurd (cc)
next_is_dot d own top (k ∷ path) small none is = all d.replica d.seq small (ap (λ (x : Dot). x.seq) is) (below top none)
  where
    room : (t : ℕ) (b : Bool) → nat_lt t MAX_SEQ ≡ b → cond b None (Some SeqFull) ≡ None → b ≡ true
    room t true is h = refl
    room t false is h = absurd (cc)

    lt_of : (x y : ℕ) → nat_lt x y ≡ true → x < y
    lt_of x y h = grind (arith, nat_tests)

    below : (t : ℕ) → seq_fault t ≡ None → t < MAX_SEQ
    below t h = lt_of t MAX_SEQ (room t (nat_lt t MAX_SEQ) refl h)

    three : (r s m t : ℕ) → r ≤ 255 → s ≡ t + 1 → t < m → (nat_le r 255 && nat_le 1 s && nat_le s m) ≡ true
    three r s m t a b c = grind (arith, nat_tests)

    all : (r s : ℕ) → r ≤ 255 → s ≡ top + 1 → top < MAX_SEQ → (nat_le r 255 && nat_le 1 s && nat_le s MAX_SEQ) ≡ true
    all r s a b c = three r s MAX_SEQ top a b c

le_true : (x y : ℕ) → x ≤ y → nat_le x y ≡ true
le_true x y h = grind (arith, nat_tests)

le_false : (x y : ℕ) → y < x → nat_le x y ≡ false
le_false x y h = grind (arith, nat_tests)

pub fits_count : (s : ℕ) → s ≤ MAX_COUNT → count_fault s ≡ None
fits_count s h = ap (λ b. cond b None (Some CounterFull)) (le_true s MAX_COUNT h)

pub full_count : (s : ℕ) → MAX_COUNT < s → count_fault s ≡ Some CounterFull
full_count s h = ap (λ b. cond b None (Some CounterFull)) (le_false s MAX_COUNT h)

pub raise_due : (empty : Counted) (at : Place) (n by before : ℕ) (fault : Fault) → empty ≡ map.empty → before ≡ n → before + by ≤ MAX_COUNT → (fault ≡ CounterFull → MAX_COUNT < number empty at + (before + by)) → (fault ≡ Memory) ⊎ (fault ≡ CounterFull) → IsDue (count_fault (n + by)) fault
raise_due empty at n by before fault none was few full (inl m) = subst (IsDue (count_fault (n + by))) (sym m) (fits_count (n + by) (omega (arith, was, few)))
raise_due empty at n by before fault none was few full (inr f) = let more = full f in let zero = no_count empty none at in absurd (omega (arith, more, zero, few))

-- what holds of an answer in two ways
pub if_both : {T : Type 0} {X Y Z : T → Type 0} (r : Result T Fault) → ((x : T) → X x → Y x → Z x) → IfOk r X → IfOk r Y → IfOk r Z
if_both (Ok x) f h k = f x h k
if_both (Err e) f h k = tt

-- ---- the effect fits where the join does

some_joined : (x y : Option Life) → is_some y ≡ true → is_some (join_life x y) ≡ true
some_joined None y h = h
some_joined (Some (Live e)) None h = refl
some_joined (Some (Live e)) (Some (Live f)) h = refl
some_joined (Some (Live e)) (Some Dead) h = refl
some_joined (Some Dead) y h = refl

more_joined : (x y : ℕ) → 0 < y → 0 < max x y
more_joined x y h = omega (arith, h)

pub effect_fits : (n : ℕ) (a b delta : StateValue) (own : ℕ) (c : Command) → coordinates delta ≡ effect (coordinates a) own c (entry_made c) → JoinsEffect (coordinates a) own c (coordinates b) → Fits n (coordinates b) → Fits n (coordinates delta)
effect_fits n a b delta own c is joins fits = record {
  dots = λ d h. fits.dots d (ap is_some (ap (λ x. x.life d) joined) ∙ some_joined (map.get a.lives d) (map.get delta.lives d) h);
  numbers = λ q h. fits.numbers q (more (ap (λ x. x.number q) joined) (more_joined (number a.counts q) (number delta.counts q) h));
}
  where
    joined : coordinates b ≡ join (coordinates a) (coordinates delta)
    joined = joins.joined ∙ ap (λ m. join (coordinates a) (effect (coordinates a) own c m)) (made_is c joins.made joins.is_made) ∙ ap (join (coordinates a)) (sym is)

    more : {x y : ℕ} → x ≡ y → 0 < y → 0 < x
    more same h = omega (arith, same, h)

-- an edit, and the effect that was made before it
pub edits_with_delta : (old new : ReplicaValue) (c : Command) (edited : Edited) (delta : StateValue) → EditsReplica old c (Ok edited) new → coordinates delta ≡ effect (coordinates old.state) old.own c (entry_made c) → Fits (length new.roster.names) (coordinates new.state)
    → EditsWithDelta old c (Ok (edited, delta)) new
edits_with_delta old new c edited delta done is fits = record {
  edited = done.edited;
  delta = is;
  fits = subst (λ (r : RosterValue). Fits (length r.names) (coordinates delta)) done.roster
      (effect_fits (length new.roster.names) old.state new.state delta old.own c is done.edited.joined fits);
  roster = done.roster;
  own = done.own;
  err = done.err;
}
