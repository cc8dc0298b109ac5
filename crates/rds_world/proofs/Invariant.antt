-- What holds after each event, for fixed tables of all updates of the run and of the states on which they ran.
use Rattle.std.proofs.Common.{◌≡◌, ℕ, ◌<◌, Bool, true, refl, sym, ◌∙◌, subst, inl, inr, ◌⊎◌, arith, Some, None}
use Rattle.std.specs.List.{AllZip}
use Rattle.rds_names.specs.declared.entry.Entry.{Entry}
use Rattle.rds_dots.specs.declared.dot.Dot.{Dot}
use Rattle.rds_life.specs.Life.{Live, IsNoLater}
use Rattle.rds_state.specs.Coordinates.{Coordinates, AtMost, AreCompatible}
use Rattle.rds_state.specs.Edit.{refusal}
use Rattle.rds_delta.specs.Ranks.{ranks}
use Rattle.rds_delta.specs.Least.{least}
use Rattle.rds_world.specs.World.{World, Question, Reply}
use Rattle.rds_world.specs.Held.{Update, Remembered, Holdings}
use Rattle.rds_world.specs.Updates.{effect_of}
use Rattle.rds_world.proofs.States.{agree_if}
use Rattle.rds_world.proofs.Effects.{next_dot, next_unseen, effect_live}
use Rattle.rds_world.proofs.Joins.{IsGathered}

-- An update ran on the join of what its memory held, which held all that its members held.
pub record IsRecorded (T : ℕ → Update) (B : ℕ → Coordinates) (i : ℕ) : Type 0 where
  pub base : IsGathered (effect_of T B) (T i).past (B i)
  pub accepted : refusal (B i) (T i).replica (T i).command ≡ None
  pub closed : (j k : ℕ) → (T i).past j ≡ true → (T j).past k ≡ true → (T i).past k ≡ true
  pub earlier : (j : ℕ) → (T i).past j ≡ true → j < i
  pub line : (j k : ℕ) → (T i).past j ≡ true → (T i).past k ≡ true → (T j).replica ≡ (T k).replica → j < k → (T k).past j ≡ true

-- a set with all that its members held, each of them kept by its own replica
pub record IsBacked (T : ℕ → Update) (kept : ℕ → ℕ → Bool) (S : ℕ → Bool) : Type 0 where
  pub closed : (i j : ℕ) → S i ≡ true → (T i).past j ≡ true → S j ≡ true
  pub backed : (i : ℕ) → S i ≡ true → kept (T i).replica i ≡ true

-- an ask has a state that its asker kept, and still has
pub record IsAsk (T : ℕ → Update) (B : ℕ → Coordinates) (h : Holdings) (w : World) (q : Question) (a : Remembered) : Type 0 where
  pub same : q.asker ≡ a.asker
  pub below : AtMost q.state (w.kept q.asker)
  pub backed : IsBacked T h.kept a.held
  pub join : IsGathered (effect_of T B) a.held q.state

-- an answer has what its maker had kept beyond what was asked from, which the asker still has
pub record IsAnswer (T : ℕ → Update) (B : ℕ → Coordinates) (h : Holdings) (w : World) (m : Reply) (a : Remembered) : Type 0 where
  pub same : m.asker ≡ a.asker
  pub full : Coordinates
  pub asked : Coordinates
  pub sent : m.state ≡ least full (ranks asked)
  pub below : AtMost asked (w.kept m.asker)
  pub backed : IsBacked T h.kept a.held
  pub join : IsGathered (effect_of T B) a.held full

pub record Lawful (T : ℕ → Update) (B : ℕ → Coordinates) (h : Holdings) (w : World) : Type 0 where
  pub recorded : (i : ℕ) → i < h.size → IsRecorded T B i
  pub placed : (i : ℕ) → i < h.size → (T i).replica < w.replicas
  pub few : (r i : ℕ) → h.memory r i ≡ true → i < h.size
  pub within : (r i : ℕ) → h.kept r i ≡ true → h.memory r i ≡ true
  pub closed : (r i j : ℕ) → h.memory r i ≡ true → (T i).past j ≡ true → h.memory r j ≡ true
  pub backed : (r i : ℕ) → h.memory r i ≡ true → ((T i).replica ≡ r) ⊎ (h.kept (T i).replica i ≡ true)
  pub kept_backed : (r : ℕ) → IsBacked T h.kept (h.kept r)
  -- of two updates of one replica that it still has, the later held the earlier
  pub line : (r i j : ℕ) → h.memory r i ≡ true → h.memory r j ≡ true → (T i).replica ≡ r → (T j).replica ≡ r → i < j → (T j).past i ≡ true
  pub memory : (r : ℕ) → IsGathered (effect_of T B) (h.memory r) (w.memory r)
  pub kept : (r : ℕ) → IsGathered (effect_of T B) (h.kept r) (w.kept r)
  pub asks : AllZip (IsAsk T B h w) w.asks h.asks
  pub answers : AllZip (IsAnswer T B h w) w.answers h.answers

module _ (T : ℕ → Update) (B : ℕ → Coordinates) (h : Holdings) (w : World) (l : Lawful T B h w) where
  -- what a member's own replica has of it
  pub own : (r i : ℕ) → h.memory r i ≡ true → h.memory (T i).replica i ≡ true
  own r i m = elim (l.backed r i m) [
    | inl e ↦ subst (λ s. h.memory s i ≡ true) (sym e) m
    | inr k ↦ l.within (T i).replica i k
  ]

  live_at : (i : ℕ) (d : Dot) (e : Entry) → (effect_of T B i).life d ≡ Some (Live e) → d ≡ next_dot (B i) (T i).replica
  live_at i d e p = (effect_live (B i) (T i).replica (T i).command d e p).0

  -- of two with one dot the later can't have held the earlier
  not_later : (i j : ℕ) (d : Dot) (e f : Entry) → h.memory (T i).replica i ≡ true → h.memory (T j).replica j ≡ true → (effect_of T B i).life d ≡ Some (Live e) → (effect_of T B j).life d ≡ Some (Live f) → i < j → ⊥
  not_later i j d e f mi mj p q lt =
      let made = effect_live (B j) (T j).replica (T j).command d f q in
      let same : (T i).replica ≡ (T j).replica = (λ k. (sym (live_at i d e p) k).replica) ∙ (λ k. (made.0 k).replica) in
      let past : (T j).past i ≡ true = l.line (T j).replica i j (subst (λ s. h.memory s i ≡ true) same mi) mj same refl lt in
      let rec = l.recorded j (l.few (T j).replica j mj) in
      let seen : IsNoLater (Some (Live e)) ((B j).life d) = subst (λ x. IsNoLater x ((B j).life d)) p ((rec.base.above i past).lives d) in
      let un : (B j).life d ≡ None = subst (λ x. (B j).life x ≡ None) (sym made.0) (next_unseen (B j) (T j).replica (T j).command f rec.accepted made.1) in
      subst (λ x. IsNoLater (Some (Live e)) x) un seen

  -- a dot is that of one update, among all that anyone still has
  pub one_dot : (i j : ℕ) (d : Dot) (e f : Entry) → h.memory (T i).replica i ≡ true → h.memory (T j).replica j ≡ true → (effect_of T B i).life d ≡ Some (Live e) → (effect_of T B j).life d ≡ Some (Live f) → i ≡ j
  one_dot i j d e f mi mj p q =
      let a : i < j → ⊥ = not_later i j d e f mi mj p q in
      let b : j < i → ⊥ = not_later j i d f e mj mi q p in
      omega (arith, a, b)

  pub same_entry : (i j : ℕ) (d : Dot) (e f : Entry) → i ≡ j → (effect_of T B i).life d ≡ Some (Live e) → (effect_of T B j).life d ≡ Some (Live f) → e ≡ f
  same_entry i j d e f s p q = let v : (effect_of T B j).life d ≡ Some (Live e) = subst (λ k. (effect_of T B k).life d ≡ Some (Live e)) s p in cc

  -- a live dot of a join is the new dot of a member
  pub maker : (S : ℕ → Bool) (a : Coordinates) → IsGathered (effect_of T B) S a → (d : Dot) (e : Entry) → a.life d ≡ Some (Live e) → (i : ℕ) × (S i ≡ true) × ((effect_of T B i).life d ≡ Some (Live e))
  maker S a j d e p = elim (j.lives d) [ inl u ↦ cc | inr x ↦ (x.0, x.1, x.2 ∙ p) ]

  -- two joins of updates that their own replicas still have
  pub compatible : (S U : ℕ → Bool) (a b : Coordinates) → IsGathered (effect_of T B) S a → IsGathered (effect_of T B) U b → ((i : ℕ) → S i ≡ true → h.memory (T i).replica i ≡ true) → ((i : ℕ) → U i ≡ true → h.memory (T i).replica i ≡ true) → AreCompatible a b
  compatible S U a b j k s u = record {
    each_dot = λ d. agree_if (a.life d) (b.life d) (λ e f p q.
        let x = maker S a j d e p in
        let y = maker U b k d f q in
        same_entry x.0 y.0 d e f (one_dot x.0 y.0 d e f (s x.0 x.1) (u y.0 y.1) x.2 y.2) x.2 y.2);
  }

  pub kept_own : (S : ℕ → Bool) → IsBacked T h.kept S → (i : ℕ) → S i ≡ true → h.memory (T i).replica i ≡ true
  kept_own S b i m = l.within (T i).replica i (b.backed i m)
