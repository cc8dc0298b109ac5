-- What the updates held say of the dots and entries of memories and kept states.
use Rattle.std.proofs.Common.{◌≡◌, ◌↔◌, ℕ, ◌<◌, Bool, true, false, refl, sym, ap, ◌∙◌, subst, inl, inr, ◌⊎◌, Option}
use Rattle.std.proofs.Common.{Some, None}
use Rattle.std.specs.Prelude.{is_some}
use mathlib.Core.Path.{fun_ext}
use Rattle.rds_names.specs.declared.entry.Entry.{Entry}
use Rattle.rds_dots.specs.declared.dot.Dot.{Dot}
use Rattle.rds_life.specs.Life.{Life, Live, Dead, IsNoLater}
use Rattle.rds_state.specs.Coordinates.{Coordinates}
use Rattle.rds_state.specs.Document.{IsShown}
use Rattle.rds_state.specs.Edit.{covers}
use Rattle.rds_world.specs.World.{World}
use Rattle.rds_world.specs.Held.{Update, Holdings, IsPresent}
use Rattle.rds_world.specs.Coherent.{Store, Memory, Kept, state_in}
use Rattle.rds_world.specs.Law.{held_in}
use Rattle.rds_world.specs.Updates.{effect_of, IsJoinOf, Makes, IsCovered, IsExplained}
use Rattle.rds_world.proofs.States.{by_life}
use Rattle.rds_world.proofs.Effects.{next_dot, made_next, effect_live, effect_dead, effect_made, effect_kills}
use Rattle.rds_world.proofs.Joins.{IsGathered, gathered_is_join, gathered_one}
use Rattle.rds_world.proofs.Tables.{same_some}
use Rattle.rds_world.proofs.Invariant.{Lawful, own, one_dot, same_entry, maker, kept_own}

no_later_dead : (l m : Option Life) → IsNoLater l m → l ≡ Some Dead → m ≡ Some Dead
no_later_dead None m h e = cc
no_later_dead (Some (Live f)) m h e = cc
no_later_dead (Some Dead) None h e = absurd h
no_later_dead (Some Dead) (Some (Live f)) h e = absurd h
no_later_dead (Some Dead) (Some Dead) h e = refl

no_later_live : (m : Option Life) (e : Entry) → IsNoLater (Some (Live e)) m → (m ≡ Some Dead) ⊎ (m ≡ Some (Live e))
no_later_live None e h = absurd h
no_later_live (Some (Live f)) e h = inr (ap (λ x. Some (Live x)) (sym h))
no_later_live (Some Dead) e h = inl refl

not_covered : (b : Bool) → (b ≡ true → ⊥) → b ≡ false
not_covered true k = absurd (k refl)
not_covered false k = refl

module _ (T : ℕ → Update) (B : ℕ → Coordinates) (h : Holdings) (w : World) (l : Lawful T B h w) where
  abbrev its : ℕ → Coordinates
  its = effect_of T B

  -- A seen dot of a join is the new dot of a member.
  seen_made : (S : ℕ → Bool) (a : Coordinates) → IsGathered its S a → ((i j : ℕ) → S i ≡ true → (T i).past j ≡ true → S j ≡ true) → ((i : ℕ) → S i ≡ true → i < h.size)
      → (d : Dot) → is_some (a.life d) ≡ true → (i : ℕ) × (S i ≡ true) × (e : Entry) × ((its i).life d ≡ Some (Live e))
  seen_made S a j closed few d p = elim (j.lives d) [
    | inl u ↦ let q : is_some (a.life d) ≡ false = ap is_some u in cc
    | inr x ↦ by_life ((its x.0).life d)
        (λ u. let q : is_some (a.life d) ≡ false = ap is_some (sym x.2 ∙ u) in cc)
        (λ e q. (x.0, x.1, e, q))
        (λ q. let k = effect_dead (B x.0) (T x.0).replica (T x.0).command d q in
        let m = maker T B h w l (T x.0).past (B x.0) (l.recorded x.0 (few x.0 x.1)).base d k.0 k.1 in
        (m.0, closed x.0 m.0 x.1 m.1, k.0, m.2))
  ]

  -- ---- memories and kept states

  pub store_closed : (x : Store) (r i j : ℕ) → held_in h x r i ≡ true → (T i).past j ≡ true → held_in h x r j ≡ true
  store_closed Memory r = l.closed r
  store_closed Kept r = (l.kept_backed r).closed

  pub store_gathered : (x : Store) (r : ℕ) → IsGathered its (held_in h x r) (state_in w x r)
  store_gathered Memory r = l.memory r
  store_gathered Kept r = l.kept r

  pub store_own : (x : Store) (r i : ℕ) → held_in h x r i ≡ true → h.memory (T i).replica i ≡ true
  store_own Memory r = own T B h w l r
  store_own Kept r = kept_own T B h w l (h.kept r) (l.kept_backed r)

  pub store_few : (x : Store) (r i : ℕ) → held_in h x r i ≡ true → i < h.size
  store_few x r i s = l.few (T i).replica i (store_own x r i s)

  pub store_join : (x : Store) (r : ℕ) → IsJoinOf its (held_in h x r) (state_in w x r)
  store_join x r = gathered_is_join its (held_in h x r) (state_in w x r) (store_gathered x r)

  -- what holds the same is the same
  pub same_states : (x y : Store) (r s : ℕ) → ((u : ℕ) → held_in h x r u ≡ held_in h y s u) → state_in w x r ≡ state_in w y s
  same_states x y r s e = gathered_one its (held_in h x r) (state_in w x r) (state_in w y s) (store_gathered x r) (subst (λ S. IsGathered its S (state_in w y s)) (fun_ext (λ u. sym (e u))) (store_gathered y s))

  makes_of : (u : ℕ) (d : Dot) (e : Entry) → (its u).life d ≡ Some (Live e) → Makes T B u d e
  makes_of u d e p =
      let x = effect_live (B u) (T u).replica (T u).command d e p in
      record { dot = made_next (B u) (T u).replica (T u).command e x.1 ∙ ap (λ y. Some y) (sym x.0); entry = x.1 }

  live_of : (u : ℕ) (d : Dot) (e : Entry) → Makes T B u d e → (its u).life d ≡ Some (Live e)
  live_of u d e m =
      let is : next_dot (B u) (T u).replica ≡ d = same_some _ _ (sym (made_next (B u) (T u).replica (T u).command e m.entry) ∙ m.dot) in
      subst (λ y. (its u).life y ≡ Some (Live e)) is (effect_made (B u) (T u).replica (T u).command e m.entry)

  module _ (x : Store) (r : ℕ) (d : Dot) where
    -- dead in the state: killed by a member that held the maker
    killed_by : (u : ℕ) (e : Entry) → held_in h x r u ≡ true → (its u).life d ≡ Some (Live e) → (state_in w x r).life d ≡ Some Dead → IsCovered T (held_in h x r) u e
    killed_by u e m p q = elim ((store_gathered x r).lives d) [
      | inl z ↦ cc
      | inr y ↦
          let k = effect_dead (B y.0) (T y.0).replica (T y.0).command d (y.2 ∙ q) in
          let v = maker T B h w l (T y.0).past (B y.0) (l.recorded y.0 (store_few x r y.0 y.1)).base d k.0 k.1 in
          let o = one_dot T B h w l v.0 u d k.0 e (store_own x r v.0 (store_closed x r y.0 v.0 y.1 v.1)) (store_own x r u m) v.2 p in
          let f : k.0 ≡ e = same_entry T B h w l v.0 u d k.0 e o v.2 p in
          (y.0, y.1, subst (λ i. (T y.0).past i ≡ true) o v.1, subst (λ g. covers (T y.0).command g ≡ true) f k.2)
    ]

    -- the state has the new dot of a member, live or dead
    there_or_dead : (u : ℕ) (e : Entry) → held_in h x r u ≡ true → (its u).life d ≡ Some (Live e) → ((state_in w x r).life d ≡ Some Dead) ⊎ ((state_in w x r).life d ≡ Some (Live e))
    there_or_dead u e m p = no_later_live ((state_in w x r).life d) e (subst (λ y. IsNoLater y ((state_in w x r).life d)) p (((store_gathered x r).above u m).lives d))

    -- what a member that held the maker covers is dead
    covered_dead : (u : ℕ) (e : Entry) → (its u).life d ≡ Some (Live e) → IsCovered T (held_in h x r) u e → (state_in w x r).life d ≡ Some Dead
    covered_dead u e p c =
        let rec = l.recorded c.0 (store_few x r c.0 c.1) in
        let k : IsNoLater (Some (Live e)) ((B c.0).life d) = subst (λ y. IsNoLater y ((B c.0).life d)) p ((rec.base.above u c.2).lives d) in
        elim (no_later_live ((B c.0).life d) e k) [
          | inl q ↦ elim (rec.base.lives d) [
            | inl z ↦ cc
            | inr y ↦ no_later_dead ((its y.0).life d) ((state_in w x r).life d) (((store_gathered x r).above y.0 (store_closed x r c.0 y.0 c.1 y.1)).lives d) (y.2 ∙ q)
          ]
          | inr q ↦ no_later_dead ((its c.0).life d) ((state_in w x r).life d) (((store_gathered x r).above c.0 c.1).lives d) (effect_kills (B c.0) (T c.0).replica (T c.0).command rec.accepted d e q c.3)
        ]

    pub explained : is_some ((state_in w x r).life d) ≡ true → IsExplained T B (held_in h x r) (state_in w x r) d
    explained p =
        let m = seen_made (held_in h x r) (state_in w x r) (store_gathered x r) (store_closed x r) (store_few x r) d p in
        record {
          update = m.0;
          entry = m.2;
          held = m.1;
          makes = makes_of m.0 d m.2 m.3;
          only = λ v e q k. one_dot T B h w l v m.0 d e m.2 (store_own x r v q) (store_own x r m.0 m.1) (live_of v d e k) m.3;
          live = there_or_dead m.0 m.2 m.1 m.3;
          dead = (killed_by m.0 m.2 m.1 m.3, covered_dead m.0 m.2 m.3);
        }

    -- a live entry is present in the document of the updates
    shown_present : (e : Entry) → (state_in w x r).life d ≡ Some (Live e) → IsPresent T (held_in h x r) e
    shown_present e p =
        let m = maker T B h w l (held_in h x r) (state_in w x r) (store_gathered x r) d e p in
        (m.0, m.1, (makes_of m.0 d e m.2).entry, λ v q k. not_covered (covers (T v).command e) (λ c. let z : (state_in w x r).life d ≡ Some Dead = covered_dead m.0 e m.2 (v, q, k, c) in cc))

  present_shown : (x : Store) (r : ℕ) (e : Entry) → IsPresent T (held_in h x r) e → IsShown (state_in w x r) e
  present_shown x r e u =
      let d = next_dot (B u.0) (T u.0).replica in
      let p : (its u.0).life d ≡ Some (Live e) = effect_made (B u.0) (T u.0).replica (T u.0).command e u.2 in
      elim (there_or_dead x r d u.0 e u.1 p) [
        | inl q ↦ let c = killed_by x r d u.0 e u.1 p q in let f : covers (T c.0).command e ≡ false = u.3 c.0 c.1 c.2 in let t : covers (T c.0).command e ≡ true = c.3 in cc
        | inr q ↦ (d, q)
      ]

  -- the entries that a state shows are those of the document of its updates
  pub shows : (x : Store) (r : ℕ) (e : Entry) → IsShown (state_in w x r) e ↔ IsPresent T (held_in h x r) e
  shows x r e = (λ p. shown_present x r p.0 e p.1, present_shown x r e)
