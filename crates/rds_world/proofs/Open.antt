-- A replica that is open in a world: it is read, edited, asked, answers, takes, and is saved.
use Rattle.std.proofs.Common.{◌≡◌, ◌≢◌, ◌<◌, ◌≤◌, ◌∙◌, ◌∷◌, ◌++◌, [], ℕ, List, true, max, length, ltb, Some, refl, sym, ap, ap₂, subst, arith}
use Rattle.std.proofs.lemmas.Bool.{lt-ltb}
use Rattle.rds_state.specs.Coordinates.{Coordinates, join}
use Rattle.rds_state.specs.Fits.{ReplicaValue}
use Rattle.rds_state.specs.Value.{coordinates}
use Rattle.rds_state.specs.declared.command.Command.{Command}
use Rattle.rds_delta.specs.Least.{least}
use Rattle.rds_delta.specs.Ranks.{ranks}
use Rattle.rds_world.specs.Coherent.{HasRosters}
use Rattle.rds_world.specs.Replicas.{IsAnsweredIn, IsAskedIn, IsInMemory, IsKeptIn, IsMadeBy, IsOpenIn, LeadsTo, MakeInMemory, MakeOpen, edits}
use Rattle.rds_world.specs.World.{World, Happening, Of, AnswerLent, Accepted, Question, Reply, after_lent, after_reply, after_take, lend, reply_from, run}
use Rattle.rds_world.specs.declared.event.Event.TheVariants.{Answer, Ask, Crash, Save, Take}
use Rattle.rds_world.proofs.Changes.{edits_in_memory, read_again}
use Rattle.rds_world.proofs.Staying.{asks_stay}
use Rattle.rds_world.proofs.Runs.{accepted_on, run_on}
use Rattle.rds_world.proofs.Tables.{get_last, put_here, put_there}

-- the same replica in two worlds that differ in what was asked and answered alone
same_open : (w u : World) (v kept : ReplicaValue) → IsOpenIn w v kept → u.replicas ≡ w.replicas → u.memory_names ≡ w.memory_names → u.memory ≡ w.memory → u.kept_names ≡ w.kept_names → u.kept ≡ w.kept → IsOpenIn u v kept
same_open w u v kept is_open replicas memory_names memory kept_names kept_is = record {
  memory = record {
    there = subst (λ (n : ℕ). v.own < n) (sym replicas) is_open.memory.there;
    names = ap (λ (f : ℕ → ℕ). f v.own) memory_names ∙ is_open.memory.names;
    state = ap (λ (f : ℕ → Coordinates). f v.own) memory ∙ is_open.memory.state;
  };
  kept = record {
    there = subst (λ (n : ℕ). kept.own < n) (sym replicas) is_open.kept.there;
    names = ap (λ (f : ℕ → ℕ). f kept.own) kept_names ∙ is_open.kept.names;
    state = ap (λ (f : ℕ → Coordinates). f kept.own) kept_is ∙ is_open.kept.state;
  };
  own = is_open.own;
}

-- ---- one event, or edits

pub opened : (w : World) (v : ReplicaValue) → IsKeptIn w v → MakeOpen w (Of (Crash v.own) ∷ []) v v
opened w v keeps =
    let test : ltb v.own w.replicas ≡ true = lt-ltb _ _ keeps.there in
    record {
      accepted = (rw test refl, tt);
      is_open = record {
        memory = read_again w v keeps;
        kept = record { there = keeps.there; names = keeps.names; state = keeps.state };
        own = refl;
      };
      others = λ r other. refl;
    }

pub saved_open : (w : World) (v kept : ReplicaValue) → IsOpenIn w v kept → MakeOpen w (Of (Save v.own) ∷ []) v v
saved_open w v kept is_open =
    let test : ltb v.own w.replicas ≡ true = lt-ltb _ _ is_open.memory.there in
    record {
      accepted = (rw test refl, tt);
      is_open = record {
        memory = record { there = is_open.memory.there; names = is_open.memory.names; state = is_open.memory.state };
        kept = record {
          there = is_open.memory.there;
          names = put_here w.kept_names v.own (w.memory_names v.own) ∙ is_open.memory.names;
          state = put_here w.kept v.own (w.memory v.own) ∙ is_open.memory.state;
        };
        own = refl;
      };
      others = λ r other. put_there w.kept v.own (w.memory v.own) r other;
    }

made_open : (w : World) (events : List Happening) (before after kept : ReplicaValue) → IsOpenIn w before kept → after.own ≡ before.own → MakeInMemory w events after → MakeOpen w events after kept
made_open w events before after kept is_open own made = record {
  accepted = made.accepted;
  is_open = record {
    memory = record {
      there = subst (λ (n : ℕ). after.own < n) (sym made.replicas) (subst (λ (a : ℕ). a < w.replicas) (sym own) is_open.memory.there);
      names = made.names;
      state = made.state;
    };
    kept = record {
      there = subst (λ (n : ℕ). kept.own < n) (sym made.replicas) is_open.kept.there;
      names = ap (λ (f : ℕ → ℕ). f kept.own) made.kept_names ∙ is_open.kept.names;
      state = ap (λ (f : ℕ → Coordinates). f kept.own) made.kept ∙ is_open.kept.state;
    };
    own = own ∙ is_open.own;
  };
  others = λ r other. ap (λ (f : ℕ → Coordinates). f r) made.kept;
}

pub edited_open : (w : World) (commands : List Command) (before after kept : ReplicaValue) → IsOpenIn w before kept → IsMadeBy before commands after → MakeOpen w (edits before.own commands) after kept
edited_open w commands before after kept is_open made = made_open w (edits before.own commands) before after kept is_open made.own (edits_in_memory w before commands after is_open.memory made)

pub asks_now : (w : World) (v : ReplicaValue) → IsKeptIn w v → Accepted (Of (Ask v.own) ∷ []) w × IsAskedIn (run (Of (Ask v.own) ∷ []) w) (length w.asks) v
asks_now w v keeps =
    let there : ltb v.own w.replicas ≡ true = lt-ltb _ _ keeps.there in (
      (rw there refl, tt),
      record { question = lend w v.own; ask = get_last w.asks (lend w v.own); asker = refl; names = keeps.names; state = keeps.state },
    )

pub asked_open : (w : World) (v : ReplicaValue) → IsOpenIn w v v → MakeOpen w (Of (Ask v.own) ∷ []) v v
asked_open w v is_open = record { accepted = (asks_now w v is_open.kept).0; is_open = same_open w (run (Of (Ask v.own) ∷ []) w) v v is_open refl refl refl refl refl; others = λ r other. refl }

-- what was lent answers a question
module _ (w : World) (lent number : ℕ) (asked peer : ReplicaValue) (asks : IsAskedIn w number asked) (lends : IsAskedIn w lent peer) where
  abbrev lent_reply : Reply
  lent_reply = reply_from lends.question number asks.question

  abbrev lent_world : World
  lent_world = record w { answers = w.answers ++ lent_reply ∷ [] }

  lent_is : run (AnswerLent lent number ∷ []) w ≡ lent_world
  lent_is = ap (λ o. after_lent w o number) lends.ask ∙ ap (after_reply w lends.question number) asks.ask

  lent_answers : IsAnsweredIn lent_world (length w.answers) asked peer
  lent_answers = record {
    reply = lent_reply;
    answer = get_last w.answers lent_reply;
    reply_asker = asks.asker;
    reply_names = lends.names;
    reply_state = ap₂ (λ (a b : Coordinates). least a (ranks b)) lends.state asks.state;
    question = asks.question;
    ask = asks.ask;
    asker = asks.asker;
    names = asks.names;
  }

  pub lent_now : Accepted (AnswerLent lent number ∷ []) w × IsAnsweredIn (run (AnswerLent lent number ∷ []) w) (length w.answers) asked peer
  lent_now = ((rw (lends.ask, asks.ask) refl, tt), subst (λ (u : World). IsAnsweredIn u (length w.answers) asked peer) (sym lent_is) lent_answers)

  pub lent_open : (v kept : ReplicaValue) → IsOpenIn w v kept → MakeOpen w (AnswerLent lent number ∷ []) v kept
  lent_open v kept is_open = record {
    accepted = lent_now.0;
    is_open = subst (λ (u : World). IsOpenIn u v kept) (sym lent_is) (same_open w lent_world v kept is_open refl refl refl refl refl);
    others = λ r other. ap (λ (u : World). u.kept r) lent_is;
  }

-- so does what is kept by now
module _ (w : World) (number : ℕ) (asked peer : ReplicaValue) (asks : IsAskedIn w number asked) (keeps : IsKeptIn w peer) where
  abbrev reply_now : Reply
  reply_now = reply_from (lend w peer.own) number asks.question

  abbrev answering : World
  answering = record w { answers = w.answers ++ reply_now ∷ [] }

  answering_is : run (Of (Answer peer.own number) ∷ []) w ≡ answering
  answering_is = ap (after_reply w (lend w peer.own) number) asks.ask

  is_answered : IsAnsweredIn answering (length w.answers) asked peer
  is_answered = record {
    reply = reply_now;
    answer = get_last w.answers reply_now;
    reply_asker = asks.asker;
    reply_names = keeps.names;
    reply_state = ap₂ (λ (a b : Coordinates). least a (ranks b)) keeps.state asks.state;
    question = asks.question;
    ask = asks.ask;
    asker = asks.asker;
    names = asks.names;
  }

  pub answers_now : Accepted (Of (Answer peer.own number) ∷ []) w × IsAnsweredIn (run (Of (Answer peer.own number) ∷ []) w) (length w.answers) asked peer
  answers_now =
      let there : ltb peer.own w.replicas ≡ true = lt-ltb _ _ keeps.there in
      ((rw (there, asks.ask) refl, tt), subst (λ (u : World). IsAnsweredIn u (length w.answers) asked peer) (sym answering_is) is_answered)

  pub answered_open : (v kept : ReplicaValue) → IsOpenIn w v kept → MakeOpen w (Of (Answer peer.own number) ∷ []) v kept
  answered_open v kept is_open = record {
    accepted = answers_now.0;
    is_open = subst (λ (u : World). IsOpenIn u v kept) (sym answering_is) (same_open w answering v kept is_open refl refl refl refl refl);
    others = λ r other. ap (λ (u : World). u.kept r) answering_is;
  }

-- ---- a take

-- what the one that asked then takes: the join with the least delta, and the longer of the rosters
pub record TakesAnswer (asked peer before after : ReplicaValue) : Type 0 where
  pub asker : before.own ≡ asked.own
  pub own : after.own ≡ before.own
  pub joined : coordinates after.state ≡ join (coordinates before.state) (least (coordinates peer.state) (ranks (coordinates asked.state)))
  pub names : length after.roster.names ≡ max (length before.roster.names) (length peer.roster.names)

module _ (w : World) (number : ℕ) (asked peer before after kept : ReplicaValue) (answered : IsAnsweredIn w number asked peer) (is_open : IsOpenIn w before kept) (takes : TakesAnswer asked peer before after) where
  abbrev m : Reply
  m = answered.reply

  abbrev took : World
  took = after_take w (Some m)

  took_is : run (Of (Take number) ∷ []) w ≡ took
  took_is = ap (after_take w) answered.answer

  before_own : before.own ≡ m.asker
  before_own = takes.asker ∙ sym answered.reply_asker

  after_own : after.own ≡ m.asker
  after_own = takes.own ∙ before_own

  state : took.memory after.own ≡ coordinates after.state
  state = ap took.memory after_own
      ∙ put_here w.memory m.asker (join (w.memory m.asker) m.state)
      ∙ ap₂ join (ap w.memory (sym before_own) ∙ is_open.memory.state) answered.reply_state
      ∙ sym takes.joined

  names : took.memory_names after.own ≡ length after.roster.names
  names = ap took.memory_names after_own
      ∙ put_here w.memory_names m.asker (max (w.memory_names m.asker) m.names)
      ∙ ap₂ max (ap w.memory_names (sym before_own) ∙ is_open.memory.names) answered.reply_names
      ∙ sym takes.names

  pub taken_open : MakeOpen w (Of (Take number) ∷ []) after kept
  taken_open = record {
    accepted = (rw answered.answer refl, tt);
    is_open = subst (λ (u : World). IsOpenIn u after kept) (sym took_is) (record {
      memory = record { there = subst (λ (a : ℕ). a < w.replicas) (sym takes.own) is_open.memory.there; names = names; state = state };
      kept = record { there = is_open.kept.there; names = is_open.kept.names; state = is_open.kept.state };
      own = takes.own ∙ is_open.own;
    });
    others = λ r other. ap (λ (u : World). u.kept r) took_is;
  }

-- the roster of the one that asked never gets shorter
pub asked_within : (w : World) (number : ℕ) (asked peer before : ReplicaValue) → HasRosters w → IsAnsweredIn w number asked peer → IsInMemory w before → before.own ≡ asked.own → length asked.roster.names ≤ length before.roster.names
asked_within w number asked peer before rosters answered held asker =
    let asks : answered.question.names ≤ w.kept_names answered.question.asker = (rosters.asks answered.reply.question answered.question answered.ask).1 in
    let within : w.kept_names answered.question.asker ≤ w.memory_names answered.question.asker = rosters.kept_within answered.question.asker in
    let here : w.memory_names answered.question.asker ≡ length before.roster.names = ap w.memory_names (answered.asker ∙ sym asker) ∙ held.names in
    omega (arith, asks, within, here, answered.names)

pub asked_within_kept : (w : World) (number : ℕ) (asked peer before : ReplicaValue) → HasRosters w → IsAnsweredIn w number asked peer → IsKeptIn w before → before.own ≡ asked.own → length asked.roster.names ≤ length before.roster.names
asked_within_kept w number asked peer before rosters answered keeps asker =
    let asks : answered.question.names ≤ w.kept_names answered.question.asker = (rosters.asks answered.reply.question answered.question answered.ask).1 in
    let here : w.kept_names answered.question.asker ≡ length before.roster.names = ap w.kept_names (answered.asker ∙ sym asker) ∙ keeps.names in
    omega (arith, asks, here, answered.names)

-- ---- events one after the other

pub then_open : (w : World) (es fs : List Happening) (u v kept last : ReplicaValue) → v.own ≡ u.own → MakeOpen w es u kept → MakeOpen (run es w) fs v last → MakeOpen w (es ++ fs) v last
then_open w es fs u v kept last own first later = record {
  accepted = (accepted_on es fs w).1 (first.accepted, later.accepted);
  is_open = subst (λ (x : World). IsOpenIn x v last) (sym (run_on es fs w)) later.is_open;
  others = λ r other. ap (λ (x : World). x.kept r) (run_on es fs w) ∙ later.others r other ∙ first.others r (λ same. other (same ∙ sym own));
}

-- what is saved last is what is kept
pub leads_to : (w : World) (events : List Happening) (v : ReplicaValue) → MakeOpen w events v v → LeadsTo w events v
leads_to w events v made = record { accepted = made.accepted; kept = made.is_open.kept; others = made.others }

-- a replica asks, is answered with what another lent, and takes that
pub merged_open : (w : World) (lent : ℕ) (source before after : ReplicaValue) → IsAskedIn w lent source → IsOpenIn w before before → TakesAnswer before source before after
    → MakeOpen w (Of (Ask before.own) ∷ AnswerLent lent (length w.asks) ∷ Of (Take (length w.answers)) ∷ []) after before
merged_open w lent source before after lends is_open takes =
    let ask = asked_open w before is_open in
    let w1 : World = run (Of (Ask before.own) ∷ []) w in
    let asks = (asks_now w before is_open.kept).1 in
    let lends1 = asks_stay w (Of (Ask before.own) ∷ []) lent source lends in
    let number : ℕ = length w.asks in
    let answer = lent_open w1 lent number before source asks lends1 before before ask.is_open in
    let w2 : World = run (AnswerLent lent number ∷ []) w1 in
    let answered = (lent_now w1 lent number before source asks lends1).1 in
    let take = taken_open w2 (length w.answers) before source before after before answered answer.is_open takes in
    then_open w (Of (Ask before.own) ∷ []) (AnswerLent lent number ∷ Of (Take (length w.answers)) ∷ []) before after before before takes.own ask
    (then_open w1 (AnswerLent lent number ∷ []) (Of (Take (length w.answers)) ∷ []) before after before before takes.own answer take)
