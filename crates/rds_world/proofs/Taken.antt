-- Takes do to the value of a world what they do to the model, and none is refused that the model takes.
use Rattle.std.proofs.Common.{◌≡◌, ℕ, ◌<◌, ◌≤◌, max, inl, inr, Bool, true, false, length, Some, None, Ok, Err, Result}
use Rattle.std.proofs.Common.{refl, sym, ap, ◌∙◌, subst, slice_get, slice_index_or, arith}
use mathlib.Core.Bool.{false≢true}
use mathlib.Core.HLevel.{⊥_prop}
use mathlib.Core.Logic.{∥∥₁_elim}
use Rattle.std.proofs.Math.ListN.{set}
use Rattle.rds_names.specs.Roster.{RosterValue, Begins, OneBegins, longer}
use Rattle.rds_names.specs.declared.fault.Fault.{Fault}
use Rattle.rds_names.specs.declared.fault.Fault.TheVariants.{Memory, NoSuch}
use Rattle.rds_state.specs.Ahead.{TakeGives}
use Rattle.rds_state.specs.Coordinates.{join}
use Rattle.rds_state.specs.Fits.{ReplicaValue}
use Rattle.rds_state.specs.Friends.{MayTake}
use Rattle.rds_state.specs.Value.{coordinates}
use Rattle.rds_state.proofs.FriendLemmas.{may_take_is_taken}
use Rattle.rds_codec.specs.AnswerTexts.{answer_kind}
use Rattle.rds_codec.specs.AnswerValues.{AnswerValue}
use Rattle.rds_codec.specs.Decoding.{Decodes}
use Rattle.rds_world.specs.declared.event.Event.TheVariants.{Take}
use Rattle.rds_world.specs.declared.event.Done.TheVariants.{Plain}
use Rattle.rds_world.specs.World.{World, after, put, refusal_of, after_take}
use Rattle.rds_world.specs.Stored.{AskText, AnswerText, WorldValue}
use Rattle.rds_world.specs.Stands.{state_of, HasModel, HoldsAnswer, Stands, IsWorld}
use Rattle.rds_world.specs.Events.{RefusesEvent, NoMemory, Due}
use Rattle.rds_world.specs.Replies.{TakesReply, IsNotTaken, NoCopy, NoDigest, NoAnswer, Uncertified, Untaken}
use Rattle.rds_world.specs.Steps.{IsStopped}
use Rattle.rds_world.proofs.Answered.{HasPartner, absent_at, less_by, present_at}
use Rattle.rds_world.proofs.Certified as bytes
use Rattle.rds_world.proofs.Friends.{may_take}
use Rattle.rds_world.proofs.Meeting.{longer_begins, longer_length, one_begins}
use Rattle.rds_world.proofs.Performed.{IsDoneTo, set_same, stopped, world_memory}
use Rattle.rds_world.proofs.Standing.{model_after, names_put, stands_memory}
use Rattle.rds_world.proofs.Tables.{read_there}

abbrev is_memory : Fault → Bool
is_memory Memory = true
is_memory f = false

the_memory : (f : Fault) → is_memory f ≡ true → f ≡ Memory
the_memory Memory h = refl
the_memory f h = absurd (false≢true h)

pub take_absent : (v : WorldValue) (k : ℕ) → length v.answers ≤ k → IsStopped v (Take k) NoSuch v
take_absent v k h = stopped v (Take k) NoSuch (λ w s. Due NoSuch (absent_at (HoldsAnswer v.roster w.asks) w.answers v.answers k s.answers h))

-- an answer, whose ask and asker the code names by these numbers
pub record IsRead (v : WorldValue) (k : ℕ) (t : AnswerText) (q r : ℕ) : Type 0 where
  pub there : slice_get v.answers k ≡ Some t
  pub question : q ≡ t.question
  pub asker : r ≡ t.asker

-- an answer, what it answers, and which replica asked
pub record IsSent (v : WorldValue) (k : ℕ) (t : AnswerText) (a : AskText) (m : ReplicaValue) (r : ℕ) : Type 0 where
  pub answer : slice_get v.answers k ≡ Some t
  pub ask : slice_get v.asks t.question ≡ Some a
  pub replica : slice_get v.memory t.asker ≡ Some m
  pub place : r ≡ t.asker
  pub below : t.asker < length v.memory

pub sent_to : (v : WorldValue) → IsWorld v → (k : ℕ) (t : AnswerText) (q s : ℕ) → IsRead v k t q s → (a : AskText) → a ≡ slice_index_or v.asks q a → (m : ReplicaValue) (r : ℕ) → r ≡ s → m ≡ slice_index_or v.memory r m → IsSent v k t a m r
sent_to v i k t q s is a asks m r at memory =
    let below = i.answers k t is.there in
    record {
      answer = is.there;
      ask = read_there v.asks q t.question a is.question below.1.0 asks;
      replica = read_there v.memory r t.asker m (at ∙ is.asker) below.0 memory;
      place = at ∙ is.asker;
      below = below.0;
    }

module _ (v : WorldValue) (i : IsWorld v) (k : ℕ) (t : AnswerText) (a : AskText) (m : ReplicaValue) (r : ℕ) (sent : IsSent v k t a m r) where
  abbrev n : ℕ
  n = max (length m.roster.names) (length t.roster.names)

  le : max (length t.roster.names) a.names ≤ n
  le = less_by (max (length t.roster.names) a.names) n i.model (λ h. let asked = bytes.asked_within v k t a sent.answer sent.ask h m sent.replica in omega (arith, asked))

  pub meet : OneBegins m.roster t.roster
  meet = one_begins m.roster t.roster v.roster (i.memory t.asker m sent.replica).0 (i.answers k t sent.answer).1.1

  in_model : (w : World) → Stands v w → w.memory t.asker ≡ coordinates m.state
  in_model w s = s.memory t.asker ∙ ap state_of sent.replica

  abbrev answer_of : (w : World) (s : Stands v w) → HasPartner (HoldsAnswer v.roster w.asks) w.answers k t
  answer_of w s = bytes.answer_of v k t a sent.answer sent.ask w s

  due : (w : World) → Stands v w → refusal_of w (Take k) ≡ None
  due w s = present_at w.answers k (answer_of w s).it (answer_of w s).there

  -- in the model the answer may be taken
  taken_there : (h : HasModel v) (x : AnswerValue) → Decodes (answer_kind n) t.bytes (Ok x) → MayTake m.own (coordinates m.state) (coordinates x.state)
  taken_there h x dx =
      let w = h.world in
      let s = h.stands in
      let y = answer_of w s in
      let may : MayTake y.it.asker (w.memory y.it.asker) y.it.state = may_take w h.coherent k y.it y.there in
      let one : MayTake t.asker (w.memory t.asker) y.it.state = subst (λ o. MayTake o (w.memory o) y.it.state) (sym y.related.asker) may in
      let two : MayTake m.own (w.memory t.asker) y.it.state = subst (λ o. MayTake o (w.memory t.asker) y.it.state) (sym (i.memory t.asker m sent.replica).1) one in
      let three : MayTake m.own (coordinates m.state) y.it.state = subst (λ b. MayTake m.own b y.it.state) (in_model w s) two in
      subst (λ b. MayTake m.own (coordinates m.state) b) (sym (bytes.state_is v k t a sent.answer sent.ask n le w s x dx)) three

  only_memory : (f : Fault) (x : AnswerValue) → Decodes (answer_kind n) t.bytes (Ok x) → TakeGives {T = Unit {0}} m.state m.own x.state (Err f) → f ≡ Memory
  only_memory f x dx gives = elim (is_memory f) as (λ b. is_memory f ≡ b → f ≡ Memory) [
    | true ↦ λ e. the_memory f e
    | false ↦ λ e. absurd (∥∥₁_elim i.model ⊥_prop (λ h. elim (may_take_is_taken m.own m.state x.state (Err f) (taken_there h x dx) gives) [
      | inl bad ↦ not_ok f bad
      | inr bad ↦ false≢true (sym e ∙ ap is_memory (same_fault f bad))
    ]))
  ] refl
    where
      not_ok : (f : Fault) → (let r : Result (Unit {0}) Fault = Err f in r ≡ Ok tt) → ⊥
      not_ok f e = cc

      same_fault : (f : Fault) → (let r : Result (Unit {0}) Fault = Err f in r ≡ Err Memory) → f ≡ Memory
      same_fault f e = cc

  stopped_by : (f : Fault) → IsNotTaken n a.bytes t.bytes m.own m.state f → (w : World) (s : Stands v w) → RefusesEvent v w (Take k) f
  stopped_by f (NoDigest d) w s =
      let is : f ≡ Memory = bytes.unread v k t a sent.answer sent.ask n le w s f d in
      subst (RefusesEvent v w (Take k)) (sym is) (NoMemory (due w s) tt)
  stopped_by f (NoAnswer d) w s =
      let is : f ≡ Memory = bytes.unread_reply v k t a sent.answer sent.ask n le w s f d in
      subst (RefusesEvent v w (Take k)) (sym is) (NoMemory (due w s) tt)
  stopped_by f (Uncertified g x dg dx is wrong) w s =
      absurd (∥∥₁_elim i.model ⊥_prop (λ h. wrong.wrong (bytes.certified v k t a sent.answer sent.ask n le h g x dg dx)))
  stopped_by f (Untaken x dx gives) w s = subst (RefusesEvent v w (Take k)) (sym (only_memory f x dx gives)) (NoMemory (due w s) tt)
  stopped_by f (NoCopy is) w s = subst (RefusesEvent v w (Take k)) (sym is) (NoMemory (due w s) tt)

  pub take_stopped : (x : ReplicaValue) (f : Fault) → x ≡ m → IsNotTaken n a.bytes t.bytes m.own m.state f → IsStopped v (Take k) f (record v { memory = set v.memory r x })
  take_stopped x f is h =
      let same : set v.memory r x ≡ v.memory = (λ j. set v.memory (sent.place j) (is j)) ∙ set_same v.memory t.asker m sent.replica in
      record { refused = stopped_by f h; same = λ j. record v { memory = same j } }

  pub take_done : (x : ReplicaValue) → (x.roster ≡ longer m.roster t.roster) × (x.own ≡ m.own) → TakesReply n a.bytes t.bytes m.state x.state
      → IsDoneTo v (Take k) Plain (record v { memory = set v.memory r x })
  take_done x same is =
      let lt = sent.below in
      let begins : Begins (longer m.roster t.roster) v.roster = longer_begins m.roster t.roster v.roster (i.memory t.asker m sent.replica).0 (i.answers k t sent.answer).1.1 in
      let at : Begins x.roster v.roster × (x.own ≡ t.asker) = (subst (λ o. Begins o v.roster) (sym same.0) begins, same.1 ∙ (i.memory t.asker m sent.replica).1) in
      let many : length x.roster.names ≡ n = ap (λ (o : RosterValue). length o.names) same.0 ∙ longer_length m.roster t.roster in
      let stands : (w : World) → Stands v w → Stands (record v { memory = set v.memory t.asker x }) (after w (Take k)) =
      λ w s.
      (let y = answer_of w s in
      let mine = in_model w s in
      let brought = bytes.state_is v k t a sent.answer sent.ask n le w s is.answer is.read in
      let joined : join (w.memory t.asker) y.it.state ≡ coordinates x.state = (λ j. join (mine j) y.it.state) ∙ ap (λ b. join (coordinates m.state) b) (sym brought) ∙ sym is.joined in
      let here : length m.roster.names ≡ w.memory_names t.asker = s.memory_names t.asker m sent.replica in
      let made : length t.roster.names ≡ y.it.names = y.related.names in
      let names : length x.roster.names ≡ max (w.memory_names t.asker) y.it.names = many ∙ (λ j. max (here j) (made j)) in
      let have = names_put w.memory_names (max (w.memory_names t.asker) y.it.names) v.memory t.asker x lt names s.memory_names in
      let one = stands_memory v w t.asker x (join (w.memory t.asker) y.it.state) (put w.memory_names t.asker (max (w.memory_names t.asker) y.it.names)) lt at have s joined in
      let two : Stands (record v { memory = set v.memory t.asker x }) (after_take w (Some y.it)) =
      subst (λ o. Stands (record v { memory = set v.memory t.asker x }) (record w { memory = put w.memory o (join (w.memory o) y.it.state); memory_names = put w.memory_names o (max (w.memory_names o) y.it.names) })) y.related.asker one in
      subst (Stands (record v { memory = set v.memory t.asker x })) (sym (ap (after_take w) y.there)) two) in
      subst (λ o. IsDoneTo v (Take k) Plain (record v { memory = set v.memory o x })) (sym sent.place)
      (record {
        world = world_memory v i t.asker x lt at (model_after v (record v { memory = set v.memory t.asker x }) (Take k) (λ w s. (due w s, stands w s)) i.model);
        step = record {
          accepted = λ w s. record {
            due = due w s;
            short = λ z. z;
          };
          stands = stands;
          done = λ w s. tt;
          roster = refl;
        };
      })
