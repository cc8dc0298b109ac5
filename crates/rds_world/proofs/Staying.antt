-- What a replica has kept stays until it saves, and what was asked and answered stays.
use Rattle.std.proofs.Common.{◌≡◌, ◌≢◌, ◌∙◌, ℕ, Option, Some, None, sym, ap, arith, slice_get, suc}
use Rattle.rds_state.specs.Fits.{ReplicaValue}
use Rattle.rds_world.specs.World.{World, Of, AnswerLent, Question, Reply, after, after_lent, after_reply, after_take, lend}
use Rattle.rds_world.specs.declared.event.Event.{Event}
use Rattle.rds_world.specs.declared.event.Event.TheVariants.{Answer, Ask, Crash, Edit, Grow, Save, Take}
use Rattle.rds_world.proofs.Answering.{asks_run, stands_run}
use Rattle.rds_world.proofs.Tables.{put_there}
use Rattle.rds_world.specs.Replicas.{AnswersStay, AsksStay, IsKeptIn, KeptStays}

module _ (w : World) (v : ReplicaValue) (kept : IsKeptIn w v) where
  reply_stays : (lent : Question) (k : ℕ) (asked : Option Question) → IsKeptIn (after_reply w lent k asked) v
  reply_stays lent k None = kept
  reply_stays lent k (Some q) = record { there = kept.there; names = kept.names; state = kept.state }

  lent_stays : (lent : Option Question) (k : ℕ) → IsKeptIn (after_lent w lent k) v
  lent_stays None k = kept
  lent_stays (Some lent) k = reply_stays lent k (slice_get w.asks k)

  take_stays : (answer : Option Reply) → IsKeptIn (after_take w answer) v
  take_stays None = kept
  take_stays (Some m) = record { there = kept.there; names = kept.names; state = kept.state }

  event_stays : (e : Event) → Of e ≢ Of (Save v.own) → IsKeptIn (after w e) v
  event_stays (Edit r c) other = record { there = kept.there; names = kept.names; state = kept.state }
  event_stays (Save r) other =
      let not : v.own ≡ r → ⊥ = λ same. other (ap (λ (n : ℕ). Of (Save n)) (sym same)) in
      record {
        there = kept.there;
        names = put_there w.kept_names r (w.memory_names r) v.own not ∙ kept.names;
        state = put_there w.kept r (w.memory r) v.own not ∙ kept.state;
      }
  event_stays (Crash r) other = record { there = kept.there; names = kept.names; state = kept.state }
  event_stays (Ask r) other = record { there = kept.there; names = kept.names; state = kept.state }
  event_stays (Answer s k) other = reply_stays (lend w s) k (slice_get w.asks k)
  event_stays (Take k) other = take_stays (slice_get w.answers k)
  event_stays (Grow r name) other = record {
    there = omega (arith, kept.there);
    names = put_there w.kept_names w.replicas (suc w.replicas) v.own (λ same. omega (arith, same, kept.there)) ∙ kept.names;
    state = kept.state;
  }

pub kept_stays : KeptStays
kept_stays w v (Of e) kept other = event_stays w v kept e other
kept_stays w v (AnswerLent j k) kept other = lent_stays w v kept (slice_get w.asks j) k

pub asks_stay : AsksStay
asks_stay w events number asked is = record {
  question = is.question;
  ask = asks_run events w number is.question is.ask;
  asker = is.asker;
  names = is.names;
  state = is.state;
}

pub answers_stay : AnswersStay
answers_stay w events number asked peer is = record {
  reply = is.reply;
  answer = stands_run events w number is.reply is.answer;
  reply_asker = is.reply_asker;
  reply_names = is.reply_names;
  reply_state = is.reply_state;
  question = is.question;
  ask = asks_run events w is.reply.question is.question is.ask;
  asker = is.asker;
  names = is.names;
}
