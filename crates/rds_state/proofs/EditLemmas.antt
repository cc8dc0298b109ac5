-- What the steps of an edit come to: the join with the command's effect.
use Rattle.std.proofs.Common.{◌≡◌, ℕ, zero, suc, ◌+◌, ◌<◌, ◌≤◌, Bool, true, false, not, ◌&&◌, cond, max, List, [], ◌∷◌}
use Rattle.std.proofs.Common.{Option, Some, None, Result, Ok, Err, refl, sym, ◌∙◌, ap, subst, arith, ◌⊎◌, inl, inr, eqb}
use Rattle.std.proofs.Common.{nat_lt}
use Rattle.std.proofs.lemmas.Bool.{false_from_ne_true}
use mathlib.Core.Bool.{false≢true}
use Rattle.std.specs.Prelude.{is_some, ◌≢◌, IfOk}
use Rattle.std.specs.Ordering.{eq_by_cmp}
use Rattle.std.specs.FinMap as map
use Rattle.std.specs.FinSet as set
use Rattle.std.proofs.lemmas.Bool.Decides.{nat_tests}
use Rattle.rds_names.specs.declared.entry.Entry.{Entry}
use Rattle.rds_names.specs.declared.entry.Kind.TheVariants.{Reg, Elem}
use Rattle.rds_names.specs.declared.fault.Fault.{Fault}
use Rattle.rds_names.specs.declared.fault.Fault.TheVariants.{SeqFull}
use Rattle.rds_names.specs.Entry.{HasParts}
use Rattle.rds_dots.specs.declared.dot.Dot.{Dot}
use Rattle.rds_dots.specs.declared.dot.TheConstants.{MAX_SEQ}
use Rattle.rds_dots.specs.Dots.{Dots, dot_cmp, is_dot, IsTop}
use Rattle.rds_dots.specs.Lacking.{dot_of}
use Rattle.rds_dots.specs.Order.{dots_total}
use Rattle.rds_dots.specs.Sets.{dot_limits, tied_dots_are_one as dot_is}
use Rattle.rds_counts.specs.declared.row.Which.TheVariants.{P, N}
use Rattle.rds_counts.specs.Place.{Place, place_cmp}
use Rattle.rds_counts.specs.Counted.{number, place}
use Rattle.rds_life.specs.Killed.{killed_by}
use Rattle.rds_life.specs.Life.{Life, Live, Dead, join_life, seen_of}
use Rattle.rds_life.proofs.LifeOrder.{join_none}
use Rattle.rds_life.proofs.Views.{contains-seen_of}
use Rattle.rds_state.specs.Chosen.{CommandParts, command_parts, is_chosen, same_dot, AreRaised}
use Rattle.rds_state.specs.Coordinates.{Coordinates}
use Rattle.rds_state.specs.Edit.{covers, IsMade, greatest, own_top, is_next, life_made, life_killed, number_raised}
use Rattle.rds_state.specs.Edit.{effect_number, JoinsEffect, refusal, path_fault, seq_fault}
use Rattle.rds_state.specs.Value.{StateValue, coordinates}
use Rattle.rds_state.specs.declared.command.Command.{Command}
use Rattle.rds_state.specs.declared.command.Command.TheVariants.{Set, Add, Del, Clear, Inc, Dec}
use Rattle.rds_state.proofs.CountLemmas.{same_dot-tied}
use Rattle.rds_state.proofs.JoinLaws.{same_coordinates}

-- ---- the greatest own number

greatest_is : (p : ℕ → Bool) (m n : ℕ) → n ≤ m → ((k : ℕ) → n < k → k ≤ m → p k ≡ false) → (n ≡ 0) ⊎ (p n ≡ true) → greatest p m ≡ n
unfolding greatest
greatest_is p zero n h k o = omega arith
greatest_is p (suc m) n h k o = elim (last_or_less n m h) [
  | inl e ↦ elim o [ inl z ↦ absurd (omega arith) | inr q ↦ at_true (p (suc m)) (suc m) (greatest p m) n (subst (λ j. p j ≡ true) e q) e ]
  | inr lt ↦ let x : p (suc m) ≡ false = k (suc m) (omega arith) (omega arith) in at_false (p (suc m)) (suc m) (greatest p m) n x (greatest_is p m n lt (λ j a b. k j a (omega arith)) o)
]
  where
    last_or_less : (n m : ℕ) → n ≤ suc m → (n ≡ suc m) ⊎ (n ≤ m)
    last_or_less n m h = grind arith

    at_true : (b : Bool) (j g n : ℕ) → b ≡ true → n ≡ j → cond b j g ≡ n
    at_true b j g n h e = grind arith

    at_false : (b : Bool) (j g n : ℕ) → b ≡ false → g ≡ n → cond b j g ≡ n
    at_false b j g n h e = grind arith

none_of : (o : Option Life) → is_some o ≡ false → o ≡ None
none_of None h = refl
none_of (Some l) h = absurd (false≢true (sym h))

above_zero : (t : ℕ) → (t ≡ 0) ⊎ (1 ≤ t)
above_zero zero = inl refl
above_zero (suc t) = inr (omega arith)

module _ (v : StateValue) (own t : ℕ) (s : Dots) (seen : s ≡ seen_of v.lives) (dots : (d : Dot) → set.contains s d ≡ true → is_dot d ≡ true) (is : IsTop s own t) where
  seen_at : (n : ℕ) → is_some (map.get v.lives (dot_of own n)) ≡ set.contains s (dot_of own n)
  seen_at n = sym (ap (λ x. set.contains x (dot_of own n)) seen ∙ contains-seen_of v.lives (dot_of own n))

  past : (n : ℕ) → t < n → is_some (map.get v.lives (dot_of own n)) ≡ false
  past n lt = false_from_ne_true _ (λ h. let le = is.at_most n (sym (seen_at n) ∙ h) in omega (arith, le, lt))

  within : t ≤ MAX_SEQ
  within = elim (above_zero t) [ inl z ↦ omega (arith, z) | inr one ↦ (dot_limits (dot_of own t) (dots (dot_of own t) (is.there one))).within ]

  at_top : (t ≡ 0) ⊎ (is_some (map.get v.lives (dot_of own t)) ≡ true)
  at_top = elim (above_zero t) [ inl z ↦ inl z | inr one ↦ inr (seen_at t ∙ is.there one) ]

  -- what a set answers is the greatest own number
  pub top_is : own_top (coordinates v) own ≡ t
  top_is = greatest_is (λ n. is_some (map.get v.lives (dot_of own n))) MAX_SEQ t within (λ k lt le. past k lt) at_top

  -- and the dot after it is unseen
  pub next_unseen : map.get v.lives (dot_of own (t + 1)) ≡ None
  next_unseen = none_of _ (past (t + 1) (omega arith))

-- ---- commands that make an entry

module _ (a : Coordinates) (own : ℕ) where
  pub refusal_of_parts : (c : Command) (p : CommandParts) → command_parts c ≡ Some p → refusal a own c ≡ path_fault p.path (seq_fault (own_top a own))
  refusal_of_parts (Set q v) p is = let e : q ≡ p.path = cc is in ap (λ x. path_fault x (seq_fault (own_top a own))) e
  refusal_of_parts (Add q v) p is = let e : q ≡ p.path = cc is in ap (λ x. path_fault x (seq_fault (own_top a own))) e
  refusal_of_parts (Del q v) p is = cc is
  refusal_of_parts (Clear q) p is = cc is
  refusal_of_parts (Inc k by) p is = cc is
  refusal_of_parts (Dec k by) p is = cc is

  past_root : (p : List (List ℕ)) (f : Option Fault) → p ≢ [] → path_fault p f ≡ f
  past_root [] f h = absurd (h refl)
  past_root (k ∷ ks) f h = refl

  full : (t : ℕ) → MAX_SEQ ≤ t → seq_fault t ≡ Some SeqFull
  full t h = ap (λ b. cond b None (Some SeqFull)) (lt_false t MAX_SEQ h)
    where
      lt_false : (x y : ℕ) → y ≤ x → nat_lt x y ≡ false
      lt_false x y h = grind (arith, nat_tests)

  room : (t : ℕ) → t < MAX_SEQ → seq_fault t ≡ None
  room t h = ap (λ b. cond b None (Some SeqFull)) (lt_true t MAX_SEQ h)
    where
      lt_true : (x y : ℕ) → x < y → nat_lt x y ≡ true
      lt_true x y h = grind (arith, nat_tests)

  module _ (c : Command) (p : CommandParts) (is : command_parts c ≡ Some p) (t : ℕ) (top : own_top a own ≡ t) where
    pub full_is_due : p.path ≢ [] → MAX_SEQ ≤ t → refusal a own c ≡ Some SeqFull
    full_is_due below h = refusal_of_parts c p is ∙ past_root p.path _ below ∙ ap seq_fault top ∙ full t h

    pub none_is_due : p.path ≢ [] → t < MAX_SEQ → refusal a own c ≡ None
    none_is_due below h = refusal_of_parts c p is ∙ past_root p.path _ below ∙ ap seq_fault top ∙ room t h

pub made_of_parts : (c : Command) (p : CommandParts) (e : Entry) → command_parts c ≡ Some p → HasParts p.path p.kind p.value e → IsMade c (Some e)
made_of_parts (Set q v) p e is has =
    let path : p.path ≡ q = cc is in
    let kind : p.kind ≡ Reg = cc is in
    let value : p.value ≡ v = cc is in
    record { at = has.at ∙ path; stands = has.stands ∙ kind; holds = has.holds ∙ value }
made_of_parts (Add q v) p e is has =
    let path : p.path ≡ q = cc is in
    let kind : p.kind ≡ Elem = cc is in
    let value : p.value ≡ v = cc is in
    record { at = has.at ∙ path; stands = has.stands ∙ kind; holds = has.holds ∙ value }
made_of_parts (Del q v) p e is has = cc is
made_of_parts (Clear q) p e is has = cc is
made_of_parts (Inc k by) p e is has = cc is
made_of_parts (Dec k by) p e is has = cc is

no_number : (c : Command) (p : CommandParts) → command_parts c ≡ Some p → (a : Coordinates) (own : ℕ) (q : Place) → effect_number a own c q ≡ 0
no_number (Set q v) p is a own x = refl
no_number (Add q v) p is a own x = refl
no_number (Del q v) p is a own x = refl
no_number (Clear q) p is a own x = refl
no_number (Inc k by) p is a own x = cc is
no_number (Dec k by) p is a own x = cc is

with_zero : (n m : ℕ) → m ≡ 0 → n ≡ max n m
with_zero n m h = omega (arith, h)

next_is : (a b n m t : ℕ) → t ≡ n → (eqb a b && eqb m (t + 1)) ≡ (eqb b a && eqb (n + 1) m)
next_is a b n m t e = grind (arith, nat_tests)

-- the life of a dot that isn't new
killed_joined : (c : Command) (o : Option Life) (test : Dot → Entry → Bool) (d : Dot) → ((e : Entry) → test d e ≡ covers c e) → killed_by test d o ≡ join_life o (life_killed c o)
killed_joined c None test d same = refl
killed_joined c (Some (Live e)) test d same = ap (λ b. cond b (Some Dead) (Some (Live e))) (same e) ∙ by (covers c e)
  where
    by : (b : Bool) → cond b (Some Dead) (Some (Live e)) ≡ join_life (Some (Live e)) (cond b (Some Dead) None)
    by true = refl
    by false = refl
killed_joined c (Some Dead) test d same = refl

module _ (a b : StateValue) (own : ℕ) (c : Command) (p : CommandParts) (is : command_parts c ≡ Some p) (t : ℕ) (top : own_top (coordinates a) own ≡ t) (e : Entry) (unseen : map.get a.lives (dot_of own (t + 1)) ≡ None)
    (has : HasParts p.path p.kind p.value e) (counts : b.counts ≡ a.counts)
    (lives : (d : Dot) → map.get b.lives d ≡ killed_by (is_chosen c (Some (dot_of own (t + 1)))) d (map.get (map.insert a.lives (dot_of own (t + 1)) (Live e)) d)) where
  abbrev new : Dot
  new = dot_of own (t + 1)

  after : (d : Dot) → map.get b.lives d ≡ killed_by (is_chosen c (Some new)) d (cond (eq_by_cmp dot_cmp d new) (Some (Live e)) (map.get a.lives d))
  after d = lives d ∙ ap (killed_by (is_chosen c (Some new)) d) (map.get-insert dots_total a.lives new (Live e) d)

  is_new : (d : Dot) → is_next (coordinates a) own d ≡ same_dot new d
  is_new d = next_is d.replica own t d.seq (own_top (coordinates a) own) top

  tied : (d : Dot) → eq_by_cmp dot_cmp d new ≡ same_dot new d
  tied d = same_dot-tied d new ∙ turn d.replica own d.seq (t + 1)
    where
      turn : (x y n m : ℕ) → (eqb x y && eqb n m) ≡ (eqb y x && eqb m n)
      turn x y n m = grind (arith, nat_tests)

  life_here : (d : Dot) (x : Bool) → same_dot new d ≡ x → killed_by (is_chosen c (Some new)) d (cond x (Some (Live e)) (map.get a.lives d)) ≡ join_life (map.get a.lives d) (cond x (Some (Live e)) (life_killed c (map.get a.lives d)))
  life_here d true same =
      let d_is : d ≡ new = dot_is d new (tied d ∙ same) in
      ap (λ y. cond (not y && covers c e) (Some Dead) (Some (Live e))) same
      ∙ sym (ap (λ o. join_life o (Some (Live e))) (ap (map.get a.lives) d_is ∙ unseen))
  life_here d false same = killed_joined c (map.get a.lives d) (is_chosen c (Some new)) d (λ f. ap (λ y. not y && covers c f) same)

  pub put_joins : JoinsEffect (coordinates a) own c (coordinates b)
  put_joins = record {
    made = Some e;
    is_made = made_of_parts c p e is has;
    joined = same_coordinates _ _
        (λ d. after d
        ∙ ap (λ x. killed_by (is_chosen c (Some new)) d (cond x (Some (Live e)) (map.get a.lives d))) (tied d)
        ∙ life_here d (same_dot new d) refl
        ∙ ap (λ x. join_life (map.get a.lives d) (cond x (Some (Live e)) (life_killed c (map.get a.lives d)))) (sym (is_new d)))
        (λ q. ap (λ n. number n q) counts ∙ with_zero (number a.counts q) _ (no_number c p is (coordinates a) own q));
  }

-- ---- commands that raise a number

cond_same : {A : Type 0} (b : Bool) (x : A) → x ≡ cond b x x
cond_same true x = refl
cond_same false x = refl

none_killed : (c : Command) → ((e : Entry) → covers c e ≡ false) → (o : Option Life) → life_killed c o ≡ None
none_killed c none None = refl
none_killed c none (Some (Live e)) = ap (λ b. cond b (Some Dead) None) (none e)
none_killed c none (Some Dead) = refl

life_kept : (c : Command) → ((e : Entry) → covers c e ≡ false) → (b : Bool) (o : Option Life) → o ≡ join_life o (cond b (life_made None (life_killed c o)) (life_killed c o))
life_kept c none b o = sym (join_none o) ∙ ap (join_life o) (sym (none_killed c none o) ∙ cond_same b (life_killed c o))

raised_max : (x : Bool) (n by : ℕ) → cond x (n + by) n ≡ max n (cond x (n + by) 0)
raised_max true n by = omega arith
raised_max false n by = omega arith

module _ (a b : StateValue) (own : ℕ) (k : List ℕ) (by : ℕ) (lives : b.lives ≡ a.lives) where
  raise_joins : (c : Command) (at : Place) → IsMade c None → ((e : Entry) → covers c e ≡ false) → ((q : Place) → number_raised (coordinates a) at by q ≡ effect_number (coordinates a) own c q) → AreRaised a.counts at by b.counts → JoinsEffect (coordinates a) own c (coordinates b)
  raise_joins c at made none numbers raised = record {
    made = None;
    is_made = made;
    joined = same_coordinates _ _
        (λ d. ap (λ l. map.get l d) lives ∙ life_kept c none (is_next (coordinates a) own d) (map.get a.lives d))
        (λ q. raised q ∙ raised_max (eq_by_cmp place_cmp q at) (number a.counts q) by ∙ ap (max (number a.counts q)) (numbers q));
  }

  pub inc_joins : AreRaised a.counts (place k own P) by b.counts → JoinsEffect (coordinates a) own (Inc k by) (coordinates b)
  inc_joins = raise_joins (Inc k by) (place k own P) refl (λ e. refl) (λ q. refl)

  pub dec_joins : AreRaised a.counts (place k own N) by b.counts → JoinsEffect (coordinates a) own (Dec k by) (coordinates b)
  dec_joins = raise_joins (Dec k by) (place k own N) refl (λ e. refl) (λ q. refl)

pub if_ok : {T : Type 0} {X Y : T → Type 0} (r : Result T Fault) → ((x : T) → X x → Y x) → IfOk r X → IfOk r Y
if_ok (Ok x) f h = f x h
if_ok (Err e) f h = tt
