-- What the bytes of an ask and its answer bring passes the check.
use Rattle.std.proofs.Common.{◌≡◌, ℕ, ◌≤◌, max, min, length, Some, Ok, Err, sym, ap, ◌∙◌, subst, slice_get, arith}
use Rattle.std.proofs.lemmas.List.{length-take}
use Rattle.rds_names.specs.declared.fault.Fault.{Fault}
use Rattle.rds_names.specs.declared.fault.Fault.TheVariants.{Memory}
use Rattle.rds_state.specs.Fits.{ReplicaValue}
use Rattle.rds_state.specs.Value.{coordinates}
use Rattle.rds_delta.specs.Claims.{IsCertificate}
use Rattle.rds_delta.specs.Digested.{DigestValue, ranks_in}
use Rattle.rds_delta.specs.Least.{IsAbove}
use Rattle.rds_delta.specs.Ranks.{ranks}
use Rattle.rds_codec.specs.AnswerTexts.{answer, answer_kind}
use Rattle.rds_codec.specs.AnswerValues.{AnswerValue}
use Rattle.rds_codec.specs.Decoding.{Decodes}
use Rattle.rds_codec.specs.DigestTexts.{digest_kind}
use Rattle.rds_world.specs.World.{World, Question}
use Rattle.rds_world.specs.Replies.{EachAnswerIsCertified}
use Rattle.rds_world.specs.Stored.{AskText, AnswerText, WorldValue}
use Rattle.rds_world.specs.Stands.{HasModel, HoldsAsk, HoldsAnswer, Stands}
use Rattle.rds_world.proofs.Answered.{HasPartner, partner}
use Rattle.rds_world.proofs.Performed.{read_at}
use Rattle.rds_world.proofs.Readings.{read_answer, read_ranks, unread_answer, unread_ask}
use Rattle.rds_world.proofs.Tables.{matched_at, together_some}

-- a roster that the model's names fit is no longer than the world's
pub within_roster : (v : WorldValue) (h : HasModel v) (n : ℕ) → n ≤ h.world.replicas → n ≤ length v.roster.names
within_roster v h n le =
    let whole : h.world.replicas ≡ length h.world.roster = h.rosters.named in
    let names : length h.world.roster ≡ min (length v.memory) (length v.roster.names) = ap length h.stands.roster ∙ length-take (length v.memory) v.roster.names in
    omega (arith, le, whole, names)

module _ (v : WorldValue) (k : ℕ) (t : AnswerText) (a : AskText) (answer_there : slice_get v.answers k ≡ Some t) (ask_there : slice_get v.asks t.question ≡ Some a) where
  pub answer_of : (w : World) (s : Stands v w) → HasPartner (HoldsAnswer v.roster w.asks) w.answers k t
  answer_of w s = partner (HoldsAnswer v.roster w.asks) w.answers v.answers k t s.answers answer_there

  pub ask_of : (w : World) (s : Stands v w) → HasPartner HoldsAsk w.asks t.question a
  ask_of w s = partner HoldsAsk w.asks v.asks t.question a s.asks ask_there

  -- what was asked from is that of the answer's ask
  pub asked_is : (w : World) (s : Stands v w) → (answer_of w s).related.asked ≡ (ask_of w s).it
  asked_is w s =
      let y = answer_of w s in
      read_at w.asks t.question (ask_of w s).it y.related.asked (ask_of w s).there (subst (λ j. slice_get w.asks j ≡ Some y.related.asked) (sym y.related.question) y.related.ask)

  -- ---- how many names were met

  asker_is : (h : HasModel v) → (ask_of h.world h.stands).it.asker ≡ t.asker
  asker_is h =
      let w = h.world in
      let y = answer_of w h.stands in
      let its = h.coherent.answers_its k y.it y.there in
      let same : its.question ≡ (ask_of w h.stands).it = read_at w.asks t.question (ask_of w h.stands).it its.question (ask_of w h.stands).there (subst (λ j. slice_get w.asks j ≡ Some its.question) (sym y.related.question) its.asked) in
      ap (λ (z : Question). z.asker) (sym same) ∙ sym its.asker ∙ sym y.related.asker

  -- who asked still knows all that it had kept when it asked
  pub asked_within : (h : HasModel v) (m : ReplicaValue) → slice_get v.memory t.asker ≡ Some m → a.names ≤ length m.roster.names
  asked_within h m there =
      let w = h.world in
      let q = ask_of w h.stands in
      let names : a.names ≡ q.it.names = q.related.names in
      let kept : q.it.names ≤ w.kept_names q.it.asker = (h.rosters.asks t.question q.it q.there).1 in
      let memory : w.kept_names q.it.asker ≤ w.memory_names q.it.asker = h.rosters.kept_within q.it.asker in
      let here : length m.roster.names ≡ w.memory_names q.it.asker = h.stands.memory_names t.asker m there ∙ ap w.memory_names (sym (asker_is h)) in
      omega (arith, names, kept, memory, here)

  pub both_within : (h : HasModel v) → max (length t.roster.names) a.names ≤ length v.roster.names
  both_within h =
      let w = h.world in
      let y = answer_of w h.stands in
      let q = ask_of w h.stands in
      let asked : a.names ≡ q.it.names = q.related.names in
      let made : length t.roster.names ≡ y.it.names = y.related.names in
      let one : q.it.names ≤ w.kept_names q.it.asker = (h.rosters.asks t.question q.it q.there).1 in
      let two : w.kept_names q.it.asker ≤ w.memory_names q.it.asker = h.rosters.kept_within q.it.asker in
      let three : w.memory_names q.it.asker ≤ w.replicas = h.rosters.memory_within q.it.asker in
      let four : y.it.names ≤ w.kept_names y.it.maker = (h.rosters.answers k y.it y.there).1 in
      let five : w.kept_names y.it.maker ≤ w.memory_names y.it.maker = h.rosters.kept_within y.it.maker in
      let six : w.memory_names y.it.maker ≤ w.replicas = h.rosters.memory_within y.it.maker in
      within_roster v h (max (length t.roster.names) a.names) (omega (arith, asked, made, one, two, three, four, five, six))

  -- ---- what is read with a number that is great enough

  module _ (n : ℕ) (le : max (length t.roster.names) a.names ≤ n) where
    answer_le : (w : World) (s : Stands v w) → max (answer_of w s).it.names (answer_of w s).related.asked.names ≤ n
    answer_le w s =
        let made : length t.roster.names ≡ (answer_of w s).it.names = (answer_of w s).related.names in
        let asked : a.names ≡ (answer_of w s).related.asked.names = (ask_of w s).related.names ∙ ap (λ (z : Question). z.names) (sym (asked_is w s)) in
        omega (arith, le, made, asked)

    ask_le : (w : World) (s : Stands v w) → (ask_of w s).it.names ≤ n
    ask_le w s = let asked : a.names ≡ (ask_of w s).it.names = (ask_of w s).related.names in omega (arith, le, asked)

    answer_is : (w : World) (s : Stands v w) (x : AnswerValue) → Decodes (answer_kind n) t.bytes (Ok x) → x ≡ answer t.asker (answer_of w s).related.value (answer_of w s).related.rows
    answer_is w s x d = read_answer n v.roster w.asks (answer_of w s).it t (answer_of w s).related (answer_le w s) x d

    -- what was read is the answer's state
    pub state_is : (w : World) (s : Stands v w) (x : AnswerValue) → Decodes (answer_kind n) t.bytes (Ok x) → coordinates x.state ≡ (answer_of w s).it.state
    state_is w s x d = ap (λ (z : AnswerValue). coordinates z.state) (answer_is w s x d) ∙ (answer_of w s).related.state

    pub certified : (m : HasModel v) (g : DigestValue) (x : AnswerValue) → Decodes (digest_kind n) a.bytes (Ok g) → Decodes (answer_kind n) t.bytes (Ok x)
        → IsAbove (coordinates x.state) (ranks_in g) × IsCertificate (ranks_in g) x.state x.certificate
    certified m g x dg dx =
        let w = m.world in
        let s = m.stands in
        let y = answer_of w s in
        let q = ask_of w s in
        let told : ranks_in g ≡ ranks q.it.state = read_ranks n q.it a q.related (ask_le w s) g dg in
        let is = answer_is w s x dx in
        let its = m.coherent.answers_its k y.it y.there in
        let same : its.question ≡ q.it = read_at w.asks t.question q.it its.question q.there (subst (λ j. slice_get w.asks j ≡ Some its.question) (sym y.related.question) its.asked) in
        let above : IsAbove (coordinates x.state) (ranks_in g) =
        subst (λ b. IsAbove (coordinates x.state) b) (sym told)
        (subst (λ (z : Question). IsAbove (coordinates x.state) (ranks z.state)) same (subst (λ b. IsAbove b (ranks its.question.state)) (sym (state_is w s x dx)) its.above)) in
        let certificate : IsCertificate (ranks_in g) x.state x.certificate =
        subst (λ b. IsCertificate b x.state x.certificate) (sym told)
        (subst (λ (z : Question). IsCertificate (ranks z.state) x.state x.certificate) (asked_is w s)
        (subst (λ (z : AnswerValue). IsCertificate (ranks y.related.asked.state) z.state z.certificate) (sym is) y.related.certificate)) in
        (above, certificate)

    pub unread : (w : World) (s : Stands v w) (f : Fault) → Decodes (digest_kind n) a.bytes (Err f) → f ≡ Memory
    unread w s f d = unread_ask n (ask_of w s).it a (ask_of w s).related (ask_le w s) f d

    pub unread_reply : (w : World) (s : Stands v w) (f : Fault) → Decodes (answer_kind n) t.bytes (Err f) → f ≡ Memory
    unread_reply w s f d = unread_answer n v.roster w.asks (answer_of w s).it t (answer_of w s).related (answer_le w s) f d

-- the ask of an answer is there
its_ask : (v : WorldValue) (h : HasModel v) (k : ℕ) (t : AnswerText) → slice_get v.answers k ≡ Some t → (a : AskText) × (slice_get v.asks t.question ≡ Some a)
its_ask v h k t e =
    let w = h.world in
    let y = partner (HoldsAnswer v.roster w.asks) w.answers v.answers k t h.stands.answers e in
    let x = together_some HoldsAsk (slice_get w.asks y.it.question) (slice_get v.asks y.it.question) y.related.asked (matched_at HoldsAsk w.asks v.asks y.it.question h.stands.asks) y.related.ask in
    (x.0, subst (λ j. slice_get v.asks j ≡ Some x.0) (sym y.related.question) x.1)

pub each_certified : (v : WorldValue) → HasModel v → EachAnswerIsCertified v
each_certified v h k t e =
    let a = its_ask v h k t e in
    let n = length v.roster.names in
    let le = both_within v k t a.0 e a.1 h in
    record {
      ask = a.0;
      there = a.1;
      asked = unread v k t a.0 e a.1 n le h.world h.stands;
      read = unread_reply v k t a.0 e a.1 n le h.world h.stands;
      certified = certified v k t a.0 e a.1 n le h;
    }
