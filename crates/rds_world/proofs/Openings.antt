-- Worlds without events.
use Rattle.std.proofs.Common.{◌≡◌, ℕ, ◌<◌, zero, suc, ◌+◌, List, [], ◌∷◌, ◌++◌, length, length-append, take, Some, None}
use Rattle.std.proofs.Common.{refl, sym, ap, ◌∙◌, subst, slice_get, inl, inr, ◌⊎◌, arith}
use Rattle.std.specs.List.{AllZip}
use mathlib.Core.Path.{fun_ext}
use Rattle.std.specs.FinMap as map
use Rattle.std.proofs.lemmas.List.{length-take-le, take_all}
use Rattle.rds_names.specs.Roster.{RosterValue, Begins}
use Rattle.rds_dots.specs.declared.dot.Dot.{Dot}
use Rattle.rds_dots.specs.Dots.{dot_cmp}
use Rattle.rds_counts.specs.Counted.{Above, number, number_from}
use Rattle.rds_counts.specs.Place.{Place, place_cmp}
use Rattle.rds_life.specs.Life.{Life}
use Rattle.rds_state.specs.Fits.{ReplicaValue}
use Rattle.rds_state.specs.Value.{coordinates}
use Rattle.rds_world.specs.World.{empty, initial_world}
use Rattle.rds_world.specs.Stored.{WorldValue}
use Rattle.rds_world.specs.Stands.{HoldsAsk, HoldsAnswer, state_of, AreAtTheirPlaces, HaveNames, Stands, IsNew, AreNew}
use Rattle.rds_world.specs.Stands.{IsWhole, IsWorld}
use Rattle.rds_world.proofs.Coherent.{coherent_start}
use Rattle.rds_world.proofs.Meeting.{begins_itself}
use Rattle.rds_world.proofs.Rosters.{rosters_start}
use Rattle.rds_world.proofs.Tables.{same_some, slice_get_below}

pub new_state : (roster : RosterValue) (r : ℕ) (m : ReplicaValue) → IsNew roster r m → coordinates m.state ≡ empty
new_state roster r m h = λ i. record { life = fun_ext none i; number = fun_ext no_number i }
  where
    none : (d : Dot) → map.get m.state.lives d ≡ None
    none d = ap (λ l. map.get l d) h.lives ∙ map.get-empty {X = Life} dot_cmp d

    no_number : (q : Place) → number m.state.counts q ≡ 0
    no_number q = ap (λ c. number c q) h.counts ∙ ap number_from (map.get-empty {X = Above} place_cmp q)

new_states : (roster : RosterValue) (xs : List ReplicaValue) (n r : ℕ) → AreNew roster xs n → empty ≡ state_of (slice_get xs r)
new_states roster xs n r h = elim (slice_get xs r) as (λ o. slice_get xs r ≡ o → empty ≡ state_of o) [
  | None ↦ λ e. refl
  | Some m ↦ λ e. sym (new_state roster r m (h.each r m e))
] refl

module _ (v : WorldValue) (memory : AreNew v.roster v.memory (length v.memory)) (kept : AreNew v.roster v.kept (length v.memory)) (whole : IsWhole v.roster v.memory) (asks : v.asks ≡ []) (answers : v.answers ≡ []) where
  -- all names of the roster, or none
  abbrev names : List (List ℕ)
  names = take (length v.memory) v.roster.names

  many : length names ≡ length v.memory
  many = length-take-le (length v.memory) v.roster.names (elim whole [ inl none ↦ omega (arith, none) | inr all ↦ omega (arith, all) ])

  new_places : (replicas : List ReplicaValue) → AreNew v.roster replicas (length v.memory) → AreAtTheirPlaces v.roster replicas
  new_places replicas new r m e = let is = new.each r m e in (subst (λ o. Begins o v.roster) (sym is.same_roster) (begins_itself v.roster), is.own)

  new_names : (replicas : List ReplicaValue) → AreNew v.roster replicas (length v.memory) → HaveNames (λ r. length names) replicas
  new_names replicas new r m e =
      let below : r < length replicas = slice_get_below replicas r m e in
      let same : length m.roster.names ≡ length v.roster.names = ap (λ (o : RosterValue). length o.names) (new.each r m e).same_roster in
      let few = new.count in
      elim whole [ inl none ↦ absurd (omega (arith, none, few, below)) | inr all ↦ same ∙ sym all ∙ sym many ]

  pub stands_start : Stands v (initial_world names)
  stands_start = record {
    roster = refl;
    replicas = many;
    same_length = kept.count;
    memory_places = new_places v.memory memory;
    kept_places = new_places v.kept kept;
    memory_names = new_names v.memory memory;
    kept_names = new_names v.kept kept;
    memory = λ r. new_states v.roster v.memory (length v.memory) r memory;
    kept = λ r. new_states v.roster v.kept (length v.memory) r kept;
    asks = subst (λ l. AllZip HoldsAsk [] l) (sym asks) tt;
    answers = subst (λ l. AllZip (HoldsAnswer v.roster []) [] l) (sym answers) tt;
  }

  pub start_world : IsWorld v
  start_world = record {
    memory = new_places v.memory memory;
    kept = new_places v.kept kept;
    same_length = kept.count;
    whole = whole;
    asks = λ k a e. absurd (let none : None ≡ Some a = sym (ap (λ l. slice_get l k) asks) ∙ e in cc);
    answers = λ k a e. absurd (let none : None ≡ Some a = sym (ap (λ l. slice_get l k) answers) ∙ e in cc);
    model = ∣ record { world = initial_world names; stands = stands_start; coherent = coherent_start names; rosters = rosters_start names } ∣₁;
  }

-- where there is a replica for each name, the model's names are all of them
pub all_named : (v : WorldValue) (replicas : ℕ) (roster : RosterValue) → replicas ≡ length roster.names → Stands v (initial_world (take replicas roster.names)) → Stands v (initial_world roster.names)
all_named v replicas roster all s = subst (λ names. Stands v (initial_world names)) (take_all replicas roster.names (omega (arith, all))) s

-- ---- the replicas, one after the other

pub none_new : (roster : RosterValue) (xs : List ReplicaValue) → xs ≡ [] → AreNew roster xs 0
none_new roster xs is = record {
  count = ap length is;
  each = λ r m e. absurd (let none : None ≡ Some m = sym (ap (λ l. slice_get l r) is) ∙ e in cc);
}

pub last_at : (xs : List ReplicaValue) (x m : ReplicaValue) (k : ℕ) → slice_get (xs ++ x ∷ []) k ≡ Some m → (slice_get xs k ≡ Some m) ⊎ ((m ≡ x) × (k ≡ length xs))
last_at [] x m zero e = inr (sym (same_some x m e), refl)
last_at [] x m (suc k) e = absurd (let none : None ≡ Some m = e in cc)
last_at (y ∷ ys) x m zero e = inl e
last_at (y ∷ ys) x m (suc k) e = elim (last_at ys x m k e) [ inl a ↦ inl a | inr b ↦ inr (b.0, ap suc b.1) ]

pub more_new : (roster : RosterValue) (xs ys : List ReplicaValue) (x : ReplicaValue) (n : ℕ) → AreNew roster xs n → IsNew roster n x → ys ≡ xs ++ x ∷ [] → AreNew roster ys (n + 1)
more_new roster xs ys x n h new is = record {
  count = ap length is ∙ length-append xs (x ∷ []) ∙ ap (λ k. k + 1) h.count;
  each = λ r m e. elim (last_at xs x m r (subst (λ l. slice_get l r ≡ Some m) is e)) [
    | inl old ↦ h.each r m old
    | inr last ↦ subst (λ k. IsNew roster k m) (sym (last.1 ∙ h.count)) (subst (IsNew roster n) (sym last.0) new)
  ];
}
