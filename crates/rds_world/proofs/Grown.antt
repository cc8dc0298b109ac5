-- A roster that grows, and its new replica.
use Rattle.std.proofs.Common.{◌≡◌, ◌<◌, ◌≤◌, ℕ, suc, zero, Bool, true, false, cond, List, [], ◌∷◌, ◌++◌, length}
use Rattle.std.proofs.Common.{length-append, take, Result, Ok, Err, IfOk, IfErr, Option, Some, None, refl, sym, ap, ◌∙◌}
use Rattle.std.proofs.Common.{subst, arith, slice_get, slice_index_or, inl, inr, ◌==◌}
use Rattle.std.proofs.Math.ListN.{set, length-set}
use Rattle.std.proofs.lemmas.Bool.Decides.{nat_tests}
use Rattle.std.proofs.lemmas.List.{take_all}
use Rattle.std.proofs.lemmas.Option.{slice_get_read}
use Rattle.rds_names.specs.Gives.{Gives}
use Rattle.rds_names.specs.Roster.{RosterValue, Begins, are_names, grown_of}
use Rattle.rds_names.specs.declared.fault.Fault.{Fault}
use Rattle.rds_names.specs.declared.fault.Fault.TheVariants.{Memory, NoSuch, BadRoster, WrongGroup, WrongRoster}
use Rattle.rds_state.specs.Coordinates.{Coordinates}
use Rattle.rds_state.specs.Fits.{ReplicaValue}
use Rattle.rds_state.specs.Grown.{GrowGives}
use Rattle.rds_state.specs.Value.{coordinates}
use Rattle.rds_world.specs.declared.event.Event.TheVariants.{Grow}
use Rattle.rds_world.specs.declared.event.Done.TheVariants.{Plain}
use Rattle.rds_world.specs.World.{World, Question, Reply, empty, put, after, refusal_of}
use Rattle.rds_world.specs.Events.{Due}
use Rattle.rds_world.specs.Stored.{AnswerText, WorldValue}
use Rattle.rds_world.specs.Stands.{state_of, AreAtTheirPlaces, HaveNames, HoldsAnswer, IsNew, IsWorld, Stands}
use Rattle.rds_world.specs.Steps.{IsStopped, MayGrow}
use Rattle.rds_world.proofs.Meeting.{begins_itself, begins_on, begins_after}
use Rattle.rds_world.proofs.Openings.{last_at, new_state}
use Rattle.rds_world.proofs.Performed.{IsDoneTo, is_there, not_there, no_memory, stopped}
use Rattle.rds_world.proofs.Rosters.{few_names}
use Rattle.rds_world.proofs.Standing.{holds_on, names_put, places_set, state_put, model_after}
use Rattle.rds_world.proofs.Tables.{is_same, matched_weaker, put_here, put_there, same_some, slice_get_below}

-- ---- refusals

pub grow_absent : (v : WorldValue) (r : ℕ) (name : List ℕ) → length v.memory ≤ r → IsStopped v (Grow r name) NoSuch v
grow_absent v r name h = stopped v (Grow r name) NoSuch (λ w s. Due NoSuch (not_there r w.replicas _ (subst (λ n. n ≤ r) (sym s.replicas) h)))

-- a replica in memory, and the roster that it knows
pub record IsGrower (v : WorldValue) (r : ℕ) (m : ReplicaValue) (own : RosterValue) : Type 0 where
  pub below : r < length v.memory
  pub there : slice_get v.memory r ≡ Some m
  pub roster : own ≡ m.roster

differ : (n m : ℕ) → n < m → (n == m) ≡ false
differ n m lt = grind (arith, nat_tests)

agree : (n m : ℕ) → n ≡ m → (n == m) ≡ true
agree n m e = grind (arith, nat_tests)

first_of : (names more others : List (List ℕ)) → names ++ more ≡ others → length others ≤ length names → names ≡ others
first_of [] [] others e le = e
first_of [] (m ∷ more) others e le = absurd (let len : length others ≡ suc (length more) = sym (ap length e) in omega (arith, le, len))
first_of (n ∷ names) more [] e le = absurd (let bad : n ∷ (names ++ more) ≡ [] = e in cc)
first_of (n ∷ names) more (o ∷ others) e le =
    let whole : n ∷ (names ++ more) ≡ o ∷ others = e in
    let head : n ≡ o = cc in
    let tail : names ++ more ≡ others = cc in
    let rest = first_of names more others tail (omega (arith, le)) in
    λ i. head i ∷ rest i

module _ (v : WorldValue) (i : IsWorld v) (r : ℕ) (name : List ℕ) (m : ReplicaValue) (lt : r < length v.memory) (there : slice_get v.memory r ≡ Some m) where
  abbrev rest : World → Option Fault
  rest w = cond (w.memory_names r == w.replicas) (cond (are_names (w.roster ++ name ∷ [])) None (Some BadRoster)) (Some WrongRoster)

  due_is : (w : World) → Stands v w → refusal_of w (Grow r name) ≡ rest w
  due_is w s = is_there r w.replicas (rest w) (subst (λ n. r < n) (sym s.replicas) lt)

  pub grow_behind : length m.roster.names < length v.memory → IsStopped v (Grow r name) WrongRoster v
  grow_behind short = stopped v (Grow r name) WrongRoster (λ w s.
      let names : length m.roster.names ≡ w.memory_names r = s.memory_names r m there in
      let replicas : w.replicas ≡ length v.memory = s.replicas in
      let less : (w.memory_names r == w.replicas) ≡ false = differ (w.memory_names r) w.replicas (omega (arith, names, replicas, short)) in
      Due WrongRoster (due_is w s ∙ ap (λ b. cond b (cond (are_names (w.roster ++ name ∷ [])) None (Some BadRoster)) (Some WrongRoster)) less))

  module _ (knows : length v.memory ≤ length m.roster.names) where
    whole : length v.memory ≡ length v.roster.names
    whole = elim i.whole [ inl none ↦ absurd (omega (arith, none, lt)) | inr all ↦ all ]

    roster_is : m.roster ≡ v.roster
    roster_is =
        let begins = (i.memory r m there).0 in
        let same : m.roster.names ≡ v.roster.names = first_of m.roster.names begins.1.0 v.roster.names (sym begins.1.1) (let all = whole in omega (arith, all, knows)) in
        λ j. record { group = begins.0 j; names = same j }

    names_are : (w : World) → Stands v w → w.roster ≡ m.roster.names
    names_are w s = s.roster ∙ take_all (length v.memory) v.roster.names (let all = whole in omega (arith, all)) ∙ ap (λ (o : RosterValue). o.names) (sym roster_is)

    due_then : (w : World) → Stands v w → refusal_of w (Grow r name) ≡ cond (are_names (m.roster.names ++ name ∷ [])) None (Some BadRoster)
    due_then w s =
        let names : length m.roster.names ≡ w.memory_names r = s.memory_names r m there in
        let replicas : w.replicas ≡ length v.memory = s.replicas in
        let all = whole in
        let full : length m.roster.names ≡ length v.roster.names = ap (λ (o : RosterValue). length o.names) roster_is in
        let same : (w.memory_names r == w.replicas) ≡ true = agree (w.memory_names r) w.replicas (omega (arith, names, replicas, all, full)) in
        due_is w s ∙ ap (λ b. cond b (cond (are_names (w.roster ++ name ∷ [])) None (Some BadRoster)) (Some WrongRoster)) same
        ∙ ap (λ ns. cond (are_names (ns ++ name ∷ [])) None (Some BadRoster)) (names_are w s)

    abbrev Grows : Bool → Result RosterValue Fault → Type 0
    Grows b result = Gives result (cond b (Ok (record { group = m.roster.group; names = m.roster.names ++ name ∷ [] })) (Err BadRoster))

    ok_is : (x y : RosterValue) → (let a : Result RosterValue Fault = Ok x in a ≡ Ok y) → x ≡ y
    ok_is x y e = cc

    may_grow : (b : Bool) → are_names (m.roster.names ++ name ∷ []) ≡ b → (result : Result RosterValue Fault) → Grows b result → IfOk result (MayGrow v r name)
    may_grow true e (Ok roster) gives = record {
      below = lt;
      knows = λ n is. ap (λ (z : ReplicaValue). z.roster) (same_some n m (sym is ∙ there)) ∙ roster_is;
      whole = whole;
      few = (
          let few = few_names (m.roster.names ++ name ∷ []) e in
          let len = length-append m.roster.names (name ∷ []) in
          let full : length m.roster.names ≡ length v.roster.names = ap (λ (o : RosterValue). length o.names) roster_is in
          let all = whole in
          omega (arith, few, len, full, all)
          );
      grown = ok_is roster _ (sym gives) ∙ ap (λ (o : RosterValue). record o { names = o.names ++ name ∷ [] }) roster_is;
      due = λ w s. due_then w s ∙ ap (λ b. cond b None (Some BadRoster)) e;
    }
    may_grow false e (Ok roster) gives = absurd cc
    may_grow b e (Err f) gives = tt

    may_not : (b : Bool) → are_names (m.roster.names ++ name ∷ []) ≡ b → (result : Result RosterValue Fault) → Grows b result → IfErr result (λ f. IsStopped v (Grow r name) f v)
    may_not b e (Ok roster) gives = tt
    may_not true e (Err Memory) gives = no_memory v (Grow r name) Memory refl (λ w s. due_then w s ∙ ap (λ b. cond b None (Some BadRoster)) e) (λ w. tt)
    may_not false e (Err BadRoster) gives = stopped v (Grow r name) BadRoster (λ w s. Due BadRoster (due_then w s ∙ ap (λ b. cond b None (Some BadRoster)) e))
    may_not true e (Err f) gives = absurd cc
    may_not false e (Err f) gives = absurd cc

    pub may_grow_if : (result : Result RosterValue Fault) → Gives result (grown_of m.roster (name ∷ [])) → IfOk result (MayGrow v r name)
    may_grow_if result gives = may_grow (are_names (m.roster.names ++ name ∷ [])) refl result gives

    pub may_not_if : (result : Result RosterValue Fault) → Gives result (grown_of m.roster (name ∷ [])) → IfErr result (λ f. IsStopped v (Grow r name) f v)
    may_not_if result gives = may_not (are_names (m.roster.names ++ name ∷ [])) refl result gives

-- ---- the world after it

pub grow_memory : (v : WorldValue) (r : ℕ) (name : List ℕ) (roster : RosterValue) → MayGrow v r name roster → IsStopped v (Grow r name) Memory v
grow_memory v r name roster may = no_memory v (Grow r name) Memory refl may.due (λ w. tt)

module _ (before now : RosterValue) (on : Begins before now) where
  places_more : (xs : List ReplicaValue) (y : ReplicaValue) → AreAtTheirPlaces before xs → Begins y.roster now × (y.own ≡ length xs) → AreAtTheirPlaces now (xs ++ y ∷ [])
  places_more xs y all last k n is = elim (last_at xs y n k is) [
    | inl old ↦ (let at = all k n old in (begins_on n.roster before now at.0 on, at.1))
    | inr new ↦ subst (λ j. Begins n.roster now × (n.own ≡ j)) (sym new.1) (subst (λ (z : ReplicaValue). Begins z.roster now × (z.own ≡ length xs)) (sym new.0) last)
  ]

  answer_on : (qs : List Question) (m : Reply) (t : AnswerText) → HoldsAnswer before qs m t → HoldsAnswer now qs m t
  answer_on qs m t h = holds_on before now qs qs m t h (begins_on t.roster before now h.begins on) h.ask

names_more : (names : ℕ → ℕ) (xs : List ReplicaValue) (y : ReplicaValue) (n : ℕ) → HaveNames names xs → length y.roster.names ≡ n → HaveNames (put names (length xs) n) (xs ++ y ∷ [])
names_more names xs y n all last k m is = elim (last_at xs y m k is) [
  | inl old ↦ (let below = slice_get_below xs k m old in all k m old ∙ sym (put_there names (length xs) n k (λ e. omega (arith, below, e))))
  | inr new ↦ ap (λ (z : ReplicaValue). length z.roster.names) new.0 ∙ last ∙ sym (ap (put names (length xs) n) new.1 ∙ put_here names (length xs) n)
]

state_more : (xs : List ReplicaValue) (y : ReplicaValue) (k : ℕ) → coordinates y.state ≡ empty → state_of (slice_get xs k) ≡ state_of (slice_get (xs ++ y ∷ []) k)
state_more [] y zero e = sym e
state_more [] y (suc k) e = refl
state_more (x ∷ xs) y zero e = refl
state_more (x ∷ xs) y (suc k) e = state_more xs y k e

put_same : (f : ℕ → Coordinates) (r k : ℕ) → put f r (f r) k ≡ f k
put_same f r k = by_case (k == r) refl
  where
    by_case : (b : Bool) → (k == r) ≡ b → cond (k == r) (f r) (f k) ≡ f k
    by_case true e = ap (λ c. cond c (f r) (f k)) e ∙ ap f (sym (is_same k r e))
    by_case false e = ap (λ c. cond c (f r) (f k)) e

module _ (v : WorldValue) (i : IsWorld v) (r : ℕ) (name : List ℕ) (roster : RosterValue) (may : MayGrow v r name roster) (m : ReplicaValue) (there : slice_get v.memory r ≡ Some m)
    (x : ReplicaValue) (grown : x.roster ≡ roster) (own : x.own ≡ m.own) (state : x.state ≡ m.state) (y : ReplicaValue) (new : IsNew roster (length v.memory) y) (z : ReplicaValue) (kept : IsNew roster (length v.memory) z) where
  abbrev memory : List ReplicaValue
  memory = set v.memory r x

  abbrev u : WorldValue
  u = record { roster = roster; memory = memory ++ y ∷ []; kept = v.kept ++ z ∷ []; asks = v.asks; answers = v.answers }

  same_length : length memory ≡ length v.memory
  same_length = length-set v.memory r x

  on : Begins v.roster roster
  on = subst (Begins v.roster) (sym may.grown) (begins_after v.roster (Grow r name))

  many : length roster.names ≡ suc (length v.memory)
  many =
      let len : length roster.names ≡ length (v.roster.names ++ name ∷ []) = ap (λ (o : RosterValue). length o.names) may.grown in
      let one = length-append v.roster.names (name ∷ []) in
      let all = may.whole in
      omega (arith, len, one, all)

  longer : length u.memory ≡ suc (length v.memory)
  longer = let one = length-append memory (y ∷ []) in let same = same_length in omega (arith, one, same)

  -- the replica at which the roster grows
  here : Begins x.roster roster × (x.own ≡ r)
  here = (subst (λ o. Begins o roster) (sym grown) (begins_itself roster), own ∙ (i.memory r m there).1)

  old_places : AreAtTheirPlaces v.roster v.memory → AreAtTheirPlaces roster memory
  old_places all = places_set roster v.memory r x may.below here (λ k n is. let at = all k n is in (begins_on n.roster v.roster roster at.0 on, at.1))

  newcomer : (xs : List ReplicaValue) (n : ReplicaValue) → length xs ≡ length v.memory → IsNew roster (length v.memory) n → Begins n.roster roster × (n.own ≡ length xs)
  newcomer xs n len is = (subst (λ o. Begins o roster) (sym is.same_roster) (begins_itself roster), is.own ∙ sym len)

  memory_places : AreAtTheirPlaces roster u.memory
  memory_places = places_more roster roster (begins_itself roster) memory y (old_places i.memory) (newcomer memory y same_length new)

  kept_places : AreAtTheirPlaces roster u.kept
  kept_places = places_more v.roster roster on v.kept z i.kept (newcomer v.kept z i.same_length kept)

  module _ (w : World) (s : Stands v w) where
    replicas : suc w.replicas ≡ length u.memory
    replicas = let before = s.replicas in let now = longer in omega (arith, before, now)

    names_now : length roster.names ≡ suc w.replicas
    names_now = let before = s.replicas in let all = many in omega (arith, before, all)

    roster_now : w.roster ++ name ∷ [] ≡ take (length u.memory) roster.names
    roster_now =
        let all : w.roster ≡ v.roster.names = s.roster ∙ take_all (length v.memory) v.roster.names (let whole = may.whole in omega (arith, whole)) in
        let grows : roster.names ≡ v.roster.names ++ name ∷ [] = ap (λ (o : RosterValue). o.names) may.grown in
        let len = longer in let full = many in
        ap (λ ns. ns ++ name ∷ []) all ∙ sym grows ∙ sym (take_all (length u.memory) roster.names (omega (arith, len, full)))

    memory_names : HaveNames (put (put w.memory_names r (suc w.replicas)) w.replicas (suc w.replicas)) u.memory
    memory_names =
        let first = names_put w.memory_names (suc w.replicas) v.memory r x may.below (ap (λ (o : RosterValue). length o.names) grown ∙ names_now) s.memory_names in
        subst (λ n. HaveNames (put (put w.memory_names r (suc w.replicas)) n (suc w.replicas)) u.memory) (same_length ∙ sym s.replicas)
        (names_more (put w.memory_names r (suc w.replicas)) memory y (suc w.replicas) first (ap (λ (o : RosterValue). length o.names) new.same_roster ∙ names_now))

    kept_names : HaveNames (put w.kept_names w.replicas (suc w.replicas)) u.kept
    kept_names =
        subst (λ n. HaveNames (put w.kept_names n (suc w.replicas)) u.kept) (i.same_length ∙ sym s.replicas)
        (names_more w.kept_names v.kept z (suc w.replicas) s.kept_names (ap (λ (o : RosterValue). length o.names) kept.same_roster ∙ names_now))

    memory_states : (k : ℕ) → w.memory k ≡ state_of (slice_get u.memory k)
    memory_states k =
        let same : w.memory r ≡ coordinates x.state = s.memory r ∙ ap state_of there ∙ ap coordinates (sym state) in
        sym (put_same w.memory r k) ∙ state_put v.memory w.memory r x (w.memory r) may.below s.memory same k ∙ state_more memory y k (new_state roster (length v.memory) y new)

    pub stands_grown : Stands u (after w (Grow r name))
    stands_grown = record {
      roster = roster_now;
      replicas = replicas;
      same_length = (let a = length-append v.kept (z ∷ []) in let b = i.same_length in let c = longer in omega (arith, a, b, c));
      memory_places = memory_places;
      kept_places = kept_places;
      memory_names = memory_names;
      kept_names = kept_names;
      memory = memory_states;
      kept = λ k. s.kept k ∙ state_more v.kept z k (new_state roster (length v.memory) z kept);
      asks = s.asks;
      answers = matched_weaker (HoldsAnswer v.roster w.asks) (HoldsAnswer roster w.asks) w.answers v.answers (answer_on v.roster roster on w.asks) s.answers;
    }

  pub grow_done : IsDoneTo v (Grow r name) Plain u
  grow_done = record {
    world = record {
      memory = memory_places;
      kept = kept_places;
      same_length = (let a = length-append v.kept (z ∷ []) in let b = i.same_length in let c = longer in omega (arith, a, b, c));
      whole = inr (let now = longer in let all = many in omega (arith, now, all));
      asks = λ k a is. (let below = i.asks k a is in let now = longer in omega (arith, below, now));
      answers = λ k a is. (let at = i.answers k a is in ((let below = at.0 in let now = longer in omega (arith, below, now)), (at.1.0, begins_on a.roster v.roster roster at.1.1 on)));
      model = model_after v u (Grow r name) (λ w s. (may.due w s, stands_grown w s)) i.model;
    };
    step = record {
      accepted = λ w s. record { due = may.due w s; short = λ h. h };
      stands = stands_grown;
      done = λ w s. tt;
      roster = may.grown;
    };
  }

-- ---- both lists with one more, and then the roster at one place

set_front : (xs : List ReplicaValue) (y x : ReplicaValue) (r : ℕ) → r < length xs → set (xs ++ y ∷ []) r x ≡ set xs r x ++ y ∷ []
set_front [] y x r h = absurd (omega (arith, h))
set_front (z ∷ xs) y x zero h = refl
set_front (z ∷ xs) y x (suc r) h = ap (λ zs. z ∷ zs) (set_front xs y x r (omega (arith, h)))

grows_on : (r s : RosterValue) (f : Fault) → Begins r s → GrowGives {T = Unit {0}} r s (Err f) → ⊥
grows_on r s WrongGroup b gives = gives b.0
grows_on r s WrongRoster b gives = gives.1 b
grows_on r s f b gives = gives

module _ (v : WorldValue) (i : IsWorld v) (n : ℕ) (name : List ℕ) (roster : RosterValue) (may : MayGrow v n name roster) (first second : List ReplicaValue) (y z : ReplicaValue)
    (first_is : first ≡ v.memory ++ y ∷ []) (second_is : second ≡ v.kept ++ z ∷ []) (at : ℕ) (at_is : at ≡ n) (m : ReplicaValue) (read : m ≡ slice_index_or first at m) where
  there : slice_get v.memory n ≡ Some m
  there =
      let here : m ≡ slice_index_or (v.memory ++ y ∷ []) n m = read ∙ (λ j. slice_index_or (first_is j) (at_is j) m) in
      let below = may.below in
      let one = length-append v.memory (y ∷ []) in
      let got = slice_get_read (v.memory ++ y ∷ []) (length (v.memory ++ y ∷ [])) n m refl (omega (arith, below, one)) here in
      elim (last_at v.memory y m n got) [ inl old ↦ old | inr new ↦ absurd (let e = new.1 in omega (arith, below, e)) ]

  pub never_refused : (own : RosterValue) → own ≡ roster → (f : Fault) → GrowGives {T = Unit {0}} m.roster own (Err f) → ⊥
  never_refused own is f gives =
      let on : Begins v.roster roster = subst (Begins v.roster) (sym may.grown) (begins_after v.roster (Grow n name)) in
      let begins : Begins m.roster own = subst (λ o. Begins o own) (sym (may.knows m there)) (subst (Begins v.roster) (sym is) on) in
      grows_on m.roster own f begins gives

  pub grown_so : (x : ReplicaValue) → x.roster ≡ roster → x.own ≡ m.own → x.state ≡ m.state → IsNew roster (length v.memory) y → IsNew roster (length v.memory) z
      → IsDoneTo v (Grow n name) Plain (record { roster = roster; memory = set first at x; kept = second; asks = v.asks; answers = v.answers })
  grown_so x grown own state new kept =
      let memory : set first at x ≡ set v.memory n x ++ y ∷ [] = (λ j. set (first_is j) (at_is j) x) ∙ set_front v.memory y x n may.below in
      let both : List ReplicaValue → List ReplicaValue → WorldValue = λ a b. record { roster = roster; memory = a; kept = b; asks = v.asks; answers = v.answers } in
      subst (λ l. IsDoneTo v (Grow n name) Plain (both l second)) (sym memory)
      (subst (λ l. IsDoneTo v (Grow n name) Plain (both (set v.memory n x ++ y ∷ []) l)) (sym second_is)
      (grow_done v i n name roster may m there x grown own state y new z kept))
