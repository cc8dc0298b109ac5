-- Answers do to the value of a world what they do to the model.
use Rattle.std.proofs.Common.{◌≡◌, ℕ, ◌<◌, ◌≤◌, suc, zero, max, inl, inr, Bool, true, false, List, [], ◌∷◌, ◌++◌}
use Rattle.std.proofs.Common.{length, Option, Some, None, refl, sym, ap, ◌∙◌, subst, arith, slice_get, nat_lt}
use mathlib.Core.Bool.{false≢true}
use mathlib.Core.HLevel.{⊥_prop}
use mathlib.Core.Logic.{∥∥₁_elim}
use Rattle.std.specs.List.{AllZip}
use Rattle.std.proofs.lemmas.Bool.{le-leb, leb-true}
use Rattle.std.specs.Prelude.{is_some, nat_le}
use Rattle.rds_names.specs.Roster.{Begins}
use Rattle.rds_names.specs.declared.fault.Fault.{Fault}
use Rattle.rds_names.specs.declared.fault.Fault.TheVariants.{NoSuch}
use Rattle.rds_state.specs.Fits.{ReplicaValue}
use Rattle.rds_state.specs.Value.{StateValue, coordinates, size}
use Rattle.rds_state.proofs.JoinLaws.{same_value}
use Rattle.rds_delta.specs.Claims.{IsCertificate}
use Rattle.rds_delta.specs.Digested.{DigestValue, ranks_in}
use Rattle.rds_delta.specs.Least.{least}
use Rattle.rds_delta.specs.Ranks.{ranks}
use Rattle.rds_delta.proofs.Grouping.{one_certificate}
use Rattle.rds_codec.specs.AnswerTexts.{IsAnswerOf, answer, answer_text}
use Rattle.rds_codec.specs.declared.limits.TheConstants.{LIMIT}
use Rattle.rds_world.specs.declared.event.Event.TheVariants.{Answer}
use Rattle.rds_world.specs.declared.event.Done.TheVariants.{Answered}
use Rattle.rds_world.specs.World.{World, Question, after_answer, after, refusal_of, reply, unless_there}
use Rattle.rds_world.specs.Stored.{AskText, AnswerText, WorldValue}
use Rattle.rds_world.specs.Stands.{state_of, HoldsAsk, HoldsAnswer, Stands, IsWorld}
use Rattle.rds_world.specs.Events.{MakesLongAnswer, RefusesEvent, NoMemory, Due, Long}
use Rattle.rds_world.specs.Replies.{IsReply, HasNoReply, Lacks, Unread, TooBig}
use Rattle.rds_world.specs.Steps.{IsStopped}
use Rattle.rds_world.proofs.Performed.{IsDoneTo, is_there, not_there, matched_length, no_memory, read_at, stopped}
use Rattle.rds_world.proofs.Readings.{read_ranks, unread_ask}
use Rattle.rds_world.proofs.Standing.{stands_answered, model_after}
use Rattle.rds_world.proofs.Tables.{Together, matched_at, last_get, same_some, slice_get_below}

-- what the model has at the place of a text
pub record HasPartner {A C : Type 0} (P : A → C → Type 0) (xs : List A) (k : ℕ) (y : C) : Type 0 where
  pub it : A
  pub there : slice_get xs k ≡ Some it
  pub related : P it y

partner_of : {A C : Type 0} (P : A → C → Type 0) (x : Option A) (z : Option C) (y : C) → Together P x z → z ≡ Some y → (a : A) × (x ≡ Some a) × P a y
partner_of P None None y t e = cc
partner_of P None (Some n) y t e = absurd t
partner_of P (Some a) None y t e = absurd t
partner_of P (Some a) (Some n) y t e = (a, refl, subst (P a) (same_some n y e) t)

pub partner : {A C : Type 0} (P : A → C → Type 0) (xs : List A) (ys : List C) (k : ℕ) (y : C) → AllZip P xs ys → slice_get ys k ≡ Some y → HasPartner P xs k y
partner P xs ys k y m e = (let p = partner_of P (slice_get xs k) (slice_get ys k) y (matched_at P xs ys k m) e in record { it = p.0; there = p.1; related = p.2 })

none_there : {A C : Type 0} (P : A → C → Type 0) (xs : List A) (ys : List C) (k : ℕ) → AllZip P xs ys → length ys ≤ k → slice_get xs k ≡ None
none_there P [] [] k m h = refl
none_there P [] (y ∷ ys) k m h = absurd m
none_there P (x ∷ xs) [] k m h = absurd m
none_there P (x ∷ xs) (y ∷ ys) zero m h = absurd (omega (arith, h))
none_there P (x ∷ xs) (y ∷ ys) (suc k) m h = none_there P xs ys k m.1 (omega (arith, h))

pub absent_at : {A C : Type 0} (P : A → C → Type 0) (xs : List A) (ys : List C) (k : ℕ) → AllZip P xs ys → length ys ≤ k → unless_there (is_some (slice_get xs k)) None ≡ Some NoSuch
absent_at P xs ys k m h = ap (λ o. unless_there (is_some o) None) (none_there P xs ys k m h)

pub present_at : {A : Type 0} (xs : List A) (k : ℕ) (x : A) → slice_get xs k ≡ Some x → unless_there (is_some (slice_get xs k)) None ≡ None
present_at xs k x e = ap (λ o. unless_there (is_some o) None) e

either : (b : Bool) (due : Option Fault) → due ≡ Some NoSuch → unless_there b due ≡ Some NoSuch
either true due e = e
either false due e = refl

pub answer_absent : (v : WorldValue) (r k : ℕ) → length v.memory ≤ r → IsStopped v (Answer r k) NoSuch v
answer_absent v r k h = stopped v (Answer r k) NoSuch (λ w s. Due NoSuch (not_there r w.replicas (unless_there (is_some (slice_get w.asks k)) None) (subst (λ n. n ≤ r) (sym s.replicas) h)))

pub answer_unasked : (v : WorldValue) (r k : ℕ) → length v.asks ≤ k → IsStopped v (Answer r k) NoSuch v
answer_unasked v r k h = stopped v (Answer r k) NoSuch (λ w s. Due NoSuch (either (nat_lt r w.replicas) (unless_there (is_some (slice_get w.asks k)) None) (absent_at HoldsAsk w.asks v.asks k s.asks h)))

-- which of two numbers is less is a fact, though of the model nothing else is known than that there is one
pub less_by : {A : Type 0} (n m : ℕ) → ∥ A ∥₁ → (A → n ≤ m) → n ≤ m
less_by n m has less = elim (nat_le n m) as (λ b. nat_le n m ≡ b → n ≤ m) [
  | true ↦ λ e. leb-true n m e
  | false ↦ λ e. absurd (∥∥₁_elim has ⊥_prop (λ x. false≢true (sym e ∙ le-leb n m (less x))))
] refl

-- what the replica that answers has kept, and what it is asked
pub record IsAsked (v : WorldValue) (r k : ℕ) (m : ReplicaValue) (a : AskText) : Type 0 where
  pub below : r < length v.memory
  pub there : slice_get v.kept r ≡ Some m
  pub asked : slice_get v.asks k ≡ Some a

module _ (v : WorldValue) (i : IsWorld v) (r k : ℕ) (m : ReplicaValue) (a : AskText) (at : IsAsked v r k m a) where
  abbrev n : ℕ
  n = max a.names (length m.roster.names)

  kept_in_model : (w : World) → Stands v w → w.kept r ≡ coordinates m.state
  kept_in_model w s = s.kept r ∙ ap state_of at.there

  ask_of : (w : World) → Stands v w → HasPartner HoldsAsk w.asks k a
  ask_of w s = partner HoldsAsk w.asks v.asks k a s.asks at.asked

  ask_le : (w : World) (s : Stands v w) → (ask_of w s).it.names ≤ n
  ask_le w s = let names : a.names ≡ (ask_of w s).it.names = (ask_of w s).related.names in omega (arith, names)

  -- the asker is of the roster with which it asked
  pub asker_met : a.asker < n
  asker_met =
      let less : suc a.asker ≤ n = less_by (suc a.asker) n i.model (λ h.
      let q = ask_of h.world h.stands in
      let asker : a.asker ≡ q.it.asker = q.related.asker in
      let names : a.names ≡ q.it.names = q.related.names in
      let below : q.it.asker < q.it.names = h.rosters.askers k q.it q.there in
      omega (arith, asker, names, below)) in
      omega (arith, less)

  pub due : (w : World) → Stands v w → refusal_of w (Answer r k) ≡ None
  due w s =
      is_there r w.replicas (unless_there (is_some (slice_get w.asks k)) None) (subst (λ j. r < j) (sym s.replicas) at.below)
      ∙ present_at w.asks k (ask_of w s).it (ask_of w s).there

  -- the delta against what was asked from
  delta_is : (w : World) (s : Stands v w) (g : DigestValue) (q : Question) → q ≡ (ask_of w s).it → ranks_in g ≡ ranks (ask_of w s).it.state → (x : StateValue) → coordinates x ≡ least (coordinates m.state) (ranks_in g)
      → coordinates x ≡ (reply w r k q).state
  delta_is w s g q is e x h =
      let kept = kept_in_model w s in
      h ∙ sym ((λ j. least (kept j) (ranks (is j).state)) ∙ ap (λ b. least (coordinates m.state) b) (sym e))

  pub answer_stopped : (f : Fault) → HasNoReply n a.bytes a.asker m.state f → IsStopped v (Answer r k) f v
  answer_stopped f (Lacks is) = no_memory v (Answer r k) f is due (λ w. tt)
  answer_stopped f (Unread read) = stopped v (Answer r k) f (λ w s.
      let q = ask_of w s in
      let is = unread_ask n q.it a q.related (ask_le w s) f read in
      subst (RefusesEvent v w (Answer r k)) (sym is) (NoMemory (due w s) tt))
  answer_stopped f (TooBig g read is long) = stopped v (Answer r k) f (λ w s.
      let q = ask_of w s in
      let e = read_ranks n q.it a q.related (ask_le w s) g read in
      subst (RefusesEvent v w (Answer r k)) (sym is) (Long (due w s)
      (record {
        asked = q.it;
        there = q.there;
        value = long.value.state;
        state = delta_is w s g q.it refl e long.value.state long.answers.delta;
        rows = long.value.certificate;
        certificate = subst (λ b. IsCertificate b long.value.state long.value.certificate) e long.answers.certificate;
        long = subst (λ o. LIMIT < length (answer_text (answer o long.value.state long.value.certificate))) (long.answers.asked ∙ q.related.asker) long.long;
      })))

  -- the ask is that of the model
  same_ask : (w : World) (s : Stands v w) (q : Question) → slice_get w.asks k ≡ Some q → q ≡ (ask_of w s).it
  same_ask w s q e = read_at w.asks k (ask_of w s).it q (ask_of w s).there e

  module _ (bytes : List ℕ) (components number : ℕ) (r' : IsReply n a.bytes a.asker m.state bytes components) (is_next : number ≡ length v.answers) where
    abbrev text : AnswerText
    text = record { question = k; asker = a.asker; roster = m.roster; bytes = bytes }

    told : (w : World) (s : Stands v w) → ranks_in r'.digest ≡ ranks (ask_of w s).it.state
    told w s = read_ranks n (ask_of w s).it a (ask_of w s).related (ask_le w s) r'.digest r'.read

    holds : (w : World) (s : Stands v w) → HoldsAnswer v.roster w.asks (reply w r k (ask_of w s).it) text
    holds w s =
        let q = ask_of w s in
        let y = r'.reply in
        let whole : y.value ≡ answer a.asker y.value.state y.value.certificate = λ j. answer (y.answers.asked j) y.value.state y.value.certificate in
        let kept : length m.roster.names ≡ w.kept_names r = s.kept_names r m at.there in
        let names : a.names ≡ q.it.names = q.related.names in
        let longer : n ≡ max (w.kept_names r) q.it.names = omega (arith, kept, names) in
        record {
          question = refl;
          asker = q.related.asker;
          begins = (i.kept r m at.there).0;
          names = kept;
          asked = q.it;
          ask = q.there;
          value = y.value.state;
          state = delta_is w s r'.digest q.it refl (told w s) y.value.state y.answers.delta;
          rows = y.value.certificate;
          certificate = subst (λ b. IsCertificate b y.value.state y.value.certificate) (told w s) y.answers.certificate;
          text = y.text ∙ ap answer_text whole;
          within = y.within;
          again = subst (λ j. IsAnswerOf j (answer a.asker y.value.state y.value.certificate)) longer (subst (IsAnswerOf n) whole (y.again n r'.replica.1 r'.fits));
        }

    answered_so : (w : World) (s : Stands v w) → after w (Answer r k) ≡ record w { answers = w.answers ++ reply w r k (ask_of w s).it ∷ [] }
    answered_so w s = ap (after_answer w r k) (ask_of w s).there

    stands : (w : World) (s : Stands v w) → Stands (record v { answers = v.answers ++ text ∷ [] }) (after w (Answer r k))
    stands w s = subst (Stands (record v { answers = v.answers ++ text ∷ [] })) (sym (answered_so w s)) (stands_answered v w (reply w r k (ask_of w s).it) text s (holds w s))

    not_long : (w : World) (s : Stands v w) → MakesLongAnswer w r k → ⊥
    not_long w s l =
        let q = ask_of w s in
        let y = r'.reply in
        let is = same_ask w s l.asked l.there in
        let state : coordinates l.value ≡ coordinates y.value.state = l.state ∙ ap (λ (z : Question). (reply w r k z).state) is ∙ sym (delta_is w s r'.digest q.it refl (told w s) y.value.state y.answers.delta) in
        let value : l.value ≡ y.value.state = same_value l.value y.value.state state in
        let certificate : IsCertificate (ranks_in r'.digest) y.value.state l.rows =
        subst (λ b. IsCertificate b y.value.state l.rows) (sym (told w s)) (subst (λ (z : Question). IsCertificate (ranks z.state) y.value.state l.rows) is (subst (λ z. IsCertificate (ranks l.asked.state) z l.rows) value l.certificate)) in
        let rows : l.rows ≡ y.value.certificate = one_certificate (ranks_in r'.digest) y.value.state y.value.certificate l.rows y.answers.certificate certificate in
        let asker : l.asked.asker ≡ y.value.asker = ap (λ (z : Question). z.asker) is ∙ sym q.related.asker ∙ sym y.answers.asked in
        let same : answer_text (answer l.asked.asker l.value l.rows) ≡ bytes = (λ j. answer_text (answer (asker j) (value j) (rows j))) ∙ sym y.text in
        let long : LIMIT < length bytes = subst (λ (t : List ℕ). LIMIT < length t) same l.long in
        let short = y.within in
        omega (arith, long, short)

    pub answer_done : (answers : List AnswerText) → answers ≡ v.answers ++ text ∷ [] → IsDoneTo v (Answer r k) (Answered number components) (record v { answers = answers })
    answer_done answers are =
        let stands' : (w : World) → Stands v w → Stands (record v { answers = answers }) (after w (Answer r k)) = λ w s. subst (λ (l : List AnswerText). Stands (record v { answers = l }) (after w (Answer r k))) (sym are) (stands w s) in
        record {
          world = record {
            memory = i.memory;
            kept = i.kept;
            same_length = i.same_length;
            whole = i.whole;
            asks = i.asks;
            answers = λ j b h. elim (last_get v.answers text b j (subst (λ (l : List AnswerText). slice_get l j ≡ Some b) are h)) [
              | inl old ↦ i.answers j b old
              | inr new ↦ subst (λ (z : AnswerText). (z.asker < length v.memory) × ((z.question < length v.asks) × Begins z.roster v.roster)) (sym new) (i.asks k a at.asked, (slice_get_below v.asks k a at.asked, (i.kept r m at.there).0))
            ];
            model = model_after v (record v { answers = answers }) (Answer r k) (λ w s. (due w s, stands' w s)) i.model;
          };
          step = record {
            accepted = λ w s. record {
              due = due w s;
              short = not_long w s;
            };
            stands = stands';
            done = λ w s. record {
              number = is_next ∙ sym (matched_length (HoldsAnswer v.roster w.asks) w.answers v.answers s.answers);
              components = λ q d there' is.
                  (let same = same_ask w s q there' in
                  let e : coordinates d ≡ coordinates r'.reply.value.state = is ∙ ap (λ (z : Question). (reply w r k z).state) same ∙ sym (delta_is w s r'.digest (ask_of w s).it refl (told w s) r'.reply.value.state r'.reply.answers.delta) in
                  r'.reply.sized ∙ ap size (sym (same_value d r'.reply.value.state e)));
            };
            roster = refl;
          };
        }
