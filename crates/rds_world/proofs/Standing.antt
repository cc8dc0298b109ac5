-- What stands for a world of the model before an event stands for the world after it.
use Rattle.std.proofs.Common.{◌≡◌, ℕ, ◌<◌, suc, zero, Bool, true, false, cond, List, [], ◌∷◌, ◌++◌, length, take}
use Rattle.std.proofs.Common.{Option, Some, None, refl, sym, ap, ◌∙◌, subst, arith, ◌==◌, slice_get}
use mathlib.Core.Logic.{∥∥₁_map}
use Rattle.std.specs.List.{AllZip}
use Rattle.std.proofs.Math.ListN.{set, length-set}
use Rattle.std.proofs.lemmas.Bool.Decides.{nat_tests}
use Rattle.rds_names.specs.Roster.{RosterValue, Begins}
use Rattle.rds_state.specs.Coordinates.{Coordinates}
use Rattle.rds_state.specs.Fits.{ReplicaValue}
use Rattle.rds_state.specs.Value.{coordinates}
use Rattle.rds_world.specs.declared.event.Event.{Event}
use Rattle.rds_world.specs.World.{World, Question, Reply, put, after, refusal_of}
use Rattle.rds_world.specs.Stored.{AskText, AnswerText, WorldValue}
use Rattle.rds_world.specs.Stands.{state_of, HoldsAsk, HoldsAnswer, Stands, HasModel, AreAtTheirPlaces, HaveNames}
use Rattle.rds_world.proofs.Coherent.{event_coherent}
use Rattle.rds_world.proofs.Rosters.{event_rosters}
use Rattle.rds_world.proofs.Tables.{matched_last, matched_weaker, get_front, is_same, isnt_same, put_here, put_there}
use Rattle.rds_world.proofs.Tables.{same_some}

-- ---- a list with another member at one place

at_false : {A : Type 0} (b : Bool) (x y : A) → b ≡ false → y ≡ cond b x y
at_false b x y h = rw h refl

apart : (s : ℕ) → (suc s == 0) ≡ false
apart s = grind (arith, nat_tests)

apart' : (s : ℕ) → (0 == suc s) ≡ false
apart' s = grind (arith, nat_tests)

same_suc : (s r : ℕ) → (s == r) ≡ (suc s == suc r)
same_suc s r = grind (arith, nat_tests)

pub get_set : {A : Type 0} (xs : List A) (r : ℕ) (x : A) (s : ℕ) → r < length xs → slice_get (set xs r x) s ≡ cond (s == r) (Some x) (slice_get xs s)
get_set [] r x s h = absurd (omega (arith, h))
get_set (y ∷ ys) zero x zero h = refl
get_set (y ∷ ys) zero x (suc s) h = at_false (suc s == 0) (Some x) (slice_get ys s) (apart s)
get_set (y ∷ ys) (suc r) x zero h = at_false (0 == suc r) (Some x) (Some y) (apart' r)
get_set (y ∷ ys) (suc r) x (suc s) h = get_set ys r x s (omega (arith, h)) ∙ ap (λ b. cond b (Some x) (slice_get ys s)) (same_suc s r)

state_cond : (b : Bool) (x : ReplicaValue) (y : Option ReplicaValue) → state_of (cond b (Some x) y) ≡ cond b (coordinates x.state) (state_of y)
state_cond true x y = refl
state_cond false x y = refl

pub state_put : (xs : List ReplicaValue) (f : ℕ → Coordinates) (r : ℕ) (x : ReplicaValue) (c : Coordinates) → r < length xs → ((s : ℕ) → f s ≡ state_of (slice_get xs s)) → c ≡ coordinates x.state
    → (s : ℕ) → put f r c s ≡ state_of (slice_get (set xs r x) s)
state_put xs f r x c h same is s =
    ap (λ y. cond (s == r) y (f s)) is ∙ ap (λ y. cond (s == r) (coordinates x.state) y) (same s)
    ∙ sym (state_cond (s == r) x (slice_get xs s)) ∙ sym (ap state_of (get_set xs r x s h))

place_case : (roster : RosterValue) (r s : ℕ) (x m : ReplicaValue) (y : Option ReplicaValue) (b : Bool) → (s == r) ≡ b → cond b (Some x) y ≡ Some m
    → Begins x.roster roster × (x.own ≡ r) → (y ≡ Some m → Begins m.roster roster × (m.own ≡ s)) → Begins m.roster roster × (m.own ≡ s)
place_case roster r s x m y true e is at others =
    let same : x ≡ m = same_some x m is in
    (subst (λ (z : ReplicaValue). Begins z.roster roster) same at.0, ap (λ (z : ReplicaValue). z.own) (sym same) ∙ at.1 ∙ sym (is_same s r e))
place_case roster r s x m y false e is at others = others is

pub places_set : (roster : RosterValue) (xs : List ReplicaValue) (r : ℕ) (x : ReplicaValue) → r < length xs → Begins x.roster roster × (x.own ≡ r) → AreAtTheirPlaces roster xs → AreAtTheirPlaces roster (set xs r x)
places_set roster xs r x h at all s m is = place_case roster r s x m (slice_get xs s) (s == r) refl (sym (get_set xs r x s h) ∙ is) at (all s m)

names_case : (names more : ℕ → ℕ) (r s : ℕ) (x m : ReplicaValue) (y : Option ReplicaValue) (b : Bool) → (s == r) ≡ b → cond b (Some x) y ≡ Some m
    → length x.roster.names ≡ more r → ((t : ℕ) → (t ≡ r → ⊥) → names t ≡ more t) → (y ≡ Some m → length m.roster.names ≡ names s) → length m.roster.names ≡ more s
names_case names more r s x m y true e is at same others = ap (λ (z : ReplicaValue). length z.roster.names) (sym (same_some x m is)) ∙ at ∙ ap more (sym (is_same s r e))
names_case names more r s x m y false e is at same others = others is ∙ same s (isnt_same s r e)

names_set : (names more : ℕ → ℕ) (xs : List ReplicaValue) (r : ℕ) (x : ReplicaValue) → r < length xs → length x.roster.names ≡ more r → ((t : ℕ) → (t ≡ r → ⊥) → names t ≡ more t) → HaveNames names xs → HaveNames more (set xs r x)
names_set names more xs r x h at same all s m is = names_case names more r s x m (slice_get xs s) (s == r) refl (sym (get_set xs r x s h) ∙ is) at same (all s m)

-- one replica has as many names as before
pub names_same : (names : ℕ → ℕ) (xs : List ReplicaValue) (r : ℕ) (x : ReplicaValue) → r < length xs → length x.roster.names ≡ names r → HaveNames names xs → HaveNames names (set xs r x)
names_same names xs r x h at all = names_set names names xs r x h at (λ t n. refl) all

-- one replica has so many names now
pub names_put : (names : ℕ → ℕ) (n : ℕ) (xs : List ReplicaValue) (r : ℕ) (x : ReplicaValue) → r < length xs → length x.roster.names ≡ n → HaveNames names xs → HaveNames (put names r n) (set xs r x)
names_put names n xs r x h at all = names_set names (put names r n) xs r x h (at ∙ sym (put_here names r n)) (λ t k. sym (put_there names r n t k)) all

-- ---- the parts of a world

pub stands_memory : (v : WorldValue) (w : World) (r : ℕ) (x : ReplicaValue) (c : Coordinates) (names : ℕ → ℕ) → r < length v.memory → Begins x.roster v.roster × (x.own ≡ r) → HaveNames names (set v.memory r x) → Stands v w
    → c ≡ coordinates x.state → Stands (record v { memory = set v.memory r x }) (record w { memory = put w.memory r c; memory_names = names })
stands_memory v w r x c names h at have s is = record {
  roster = s.roster ∙ ap (λ n. take n v.roster.names) (sym (length-set v.memory r x));
  replicas = s.replicas ∙ sym (length-set v.memory r x);
  same_length = s.same_length ∙ sym (length-set v.memory r x);
  memory_places = places_set v.roster v.memory r x h at s.memory_places;
  kept_places = s.kept_places;
  memory_names = have;
  kept_names = s.kept_names;
  memory = state_put v.memory w.memory r x c h s.memory is;
  kept = s.kept;
  asks = s.asks;
  answers = s.answers;
}

pub stands_kept : (v : WorldValue) (w : World) (r : ℕ) (x : ReplicaValue) (c : Coordinates) (n : ℕ) → r < length v.kept → Begins x.roster v.roster × (x.own ≡ r) → length x.roster.names ≡ n → Stands v w → c ≡ coordinates x.state
    → Stands (record v { kept = set v.kept r x }) (record w { kept = put w.kept r c; kept_names = put w.kept_names r n })
stands_kept v w r x c n h at names s is = record {
  roster = s.roster;
  replicas = s.replicas;
  same_length = length-set v.kept r x ∙ s.same_length;
  memory_places = s.memory_places;
  kept_places = places_set v.roster v.kept r x h at s.kept_places;
  memory_names = s.memory_names;
  kept_names = names_put w.kept_names n v.kept r x h names s.kept_names;
  memory = s.memory;
  kept = state_put v.kept w.kept r x c h s.kept is;
  asks = s.asks;
  answers = s.answers;
}

-- an answer is one to the same ask, wherever that stands
pub holds_on : (before now : RosterValue) (qs others : List Question) (m : Reply) (t : AnswerText) (h : HoldsAnswer before qs m t) → Begins t.roster now → slice_get others m.question ≡ Some h.asked → HoldsAnswer now others m t
holds_on before now qs others m t h begins there = record {
  question = h.question;
  asker = h.asker;
  begins = begins;
  names = h.names;
  asked = h.asked;
  ask = there;
  value = h.value;
  state = h.state;
  rows = h.rows;
  certificate = h.certificate;
  text = h.text;
  within = h.within;
  again = h.again;
}

stands_texts : (v : WorldValue) (w : World) (asks : List AskText) (answers : List AnswerText) (qs : List Question) (ms : List Reply) → Stands v w → AllZip HoldsAsk qs asks → AllZip (HoldsAnswer v.roster qs) ms answers
    → Stands (record v { asks = asks; answers = answers }) (record w { asks = qs; answers = ms })
stands_texts v w asks answers qs ms s asked answered = record {
  roster = s.roster;
  replicas = s.replicas;
  same_length = s.same_length;
  memory_places = s.memory_places;
  kept_places = s.kept_places;
  memory_names = s.memory_names;
  kept_names = s.kept_names;
  memory = s.memory;
  kept = s.kept;
  asks = asked;
  answers = answered;
}

pub stands_asked : (v : WorldValue) (w : World) (q : Question) (a : AskText) → Stands v w → HoldsAsk q a → Stands (record v { asks = v.asks ++ a ∷ [] }) (record w { asks = w.asks ++ q ∷ [] })
stands_asked v w q a s h =
    let later : (m : Reply) (t : AnswerText) → HoldsAnswer v.roster w.asks m t → HoldsAnswer v.roster (w.asks ++ q ∷ []) m t =
    λ m t y. holds_on v.roster v.roster w.asks (w.asks ++ q ∷ []) m t y y.begins (get_front w.asks (q ∷ []) m.question y.asked y.ask) in
    stands_texts v w (v.asks ++ a ∷ []) v.answers (w.asks ++ q ∷ []) w.answers s (matched_last HoldsAsk w.asks v.asks q a s.asks h)
    (matched_weaker (HoldsAnswer v.roster w.asks) (HoldsAnswer v.roster (w.asks ++ q ∷ [])) w.answers v.answers later s.answers)

pub stands_answered : (v : WorldValue) (w : World) (m : Reply) (a : AnswerText) → Stands v w → HoldsAnswer v.roster w.asks m a → Stands (record v { answers = v.answers ++ a ∷ [] }) (record w { answers = w.answers ++ m ∷ [] })
stands_answered v w m a s h = stands_texts v w v.asks (v.answers ++ a ∷ []) w.asks (w.answers ++ m ∷ []) s s.asks (matched_last (HoldsAnswer v.roster w.asks) w.answers v.answers m a s.answers h)

-- ---- the model after an event

pub model_after : (v u : WorldValue) (e : Event) → ((w : World) → Stands v w → (refusal_of w e ≡ None) × Stands u (after w e)) → ∥ HasModel v ∥₁ → ∥ HasModel u ∥₁
model_after v u e step has = ∥∥₁_map has (λ m. (let s = step m.world m.stands in record { world = after m.world e; stands = s.1; coherent = event_coherent m.world m.coherent e s.0; rosters = event_rosters m.world m.rosters e s.0 }))
