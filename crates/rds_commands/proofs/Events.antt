-- A session whose delta is settled in a file, as events of the model.
use Rattle.std.proofs.Common.{◌≡◌, ◌<◌, ◌≤◌, ◌∙◌, ◌∷◌, [], ℕ, List, true, false, max, length, ltb, Some, refl, sym, ap, subst, arith, inl, inr}
use Rattle.std.proofs.lemmas.Bool.{cases_lt, lt-ltb, le-ltb}
use Rattle.rds_names.specs.Roster.{RosterValue}
use Rattle.rds_state.specs.Coordinates.{Coordinates, join}
use Rattle.rds_state.specs.Fits.{ReplicaValue}
use Rattle.rds_state.specs.Value.{coordinates}
use Rattle.rds_session.specs.Judging.{longer_than, roster_among}
use Rattle.rds_session.specs.Meeting.{IsItsLeast}
use Rattle.rds_session.specs.Received.{Delivery}
use Rattle.rds_world.specs.Coherent.{HasRosters}
use Rattle.rds_world.specs.Replicas.{IsAnsweredIn, IsKeptIn}
use Rattle.rds_world.specs.World.{World, Of, run}
use Rattle.rds_world.specs.declared.event.Event.TheVariants.{Crash, Save, Take}
use Rattle.rds_world.proofs.Meeting.{longer_length}
use Rattle.rds_world.proofs.Open.{TakesAnswer, asked_within_kept, asks_now, leads_to, lent_now, opened, saved_open, taken_open, then_open}
use Rattle.rds_world.proofs.Staying.{answers_stay}
use Rattle.rds_files.specs.Files.{ReplacedValue}
use Rattle.rds_meetings.specs.Settling.{Settles, JoinsWith}
use Rattle.rds_meetings.specs.declared.settling.Settled.TheVariants.{Taken}
use Rattle.rds_commands.specs.Sessions.{LeavesFile, ReadingsAreAsks, SessionsAreAnswered}
use Rattle.rds_commands.specs.Sessions.{SettlingsAreTakes, settling_events}

-- ---- a reading, and an answer from it

pub readings_asked : ReadingsAreAsks
readings_asked = asks_now

pub sessions_answered : SessionsAreAnswered
sessions_answered w number lent asked peer asks answers = lent_now w lent number asked peer asks answers

-- ---- a file that takes an answer

-- it is read, takes what is due, and is saved
pub file_takes : (w : World) (number : ℕ) (asked peer : ReplicaValue) (file : ReplacedValue) → IsAnsweredIn w number asked peer → IsKeptIn w file.before → TakesAnswer asked peer file.before file.kept → LeavesFile w (settling_events asked number) file
file_takes w number asked peer file answered keeps takes =
    let before = file.before in
    let v = file.kept in
    let read = opened w before keeps in
    let w1 : World = run (Of (Crash before.own) ∷ []) w in
    let take = taken_open w1 number asked peer before v before (answers_stay w (Of (Crash before.own) ∷ []) number asked peer answered) read.is_open takes in
    let w2 : World = run (Of (Take number) ∷ []) w1 in
    let save = saved_open w2 v before take.is_open in
    let all = then_open w (Of (Crash before.own) ∷ []) (Of (Take number) ∷ Of (Save v.own) ∷ []) before v before v takes.own read (then_open w1 (Of (Take number) ∷ []) (Of (Save v.own) ∷ []) v v before v refl take save) in
    let own : v.own ≡ asked.own = takes.own ∙ takes.asker in
    subst (λ (a : ℕ). LeavesFile w (Of (Crash a) ∷ Of (Take number) ∷ Of (Save asked.own) ∷ []) file) takes.asker
    (subst (λ (a : ℕ). LeavesFile w (Of (Crash before.own) ∷ Of (Take number) ∷ Of (Save a) ∷ []) file) own (leads_to w _ v all))

-- how many names the longer of two rosters has
among_length : (own other : RosterValue) → length (roster_among own (longer_than own other)).names ≡ max (length own.names) (length other.names)
among_length own other = elim (cases_lt (length own.names) (length other.names)) [
  | inl less ↦ let test : ltb (length own.names) (length other.names) ≡ true = lt-ltb _ _ less in rw test (omega (arith, less))
  | inr most ↦ let test : ltb (length own.names) (length other.names) ≡ false = le-ltb _ _ most in rw test (omega (arith, most))
]

module _ (w : World) (number : ℕ) (asked peer : ReplicaValue) (path : List ℕ) (delivery : Delivery) (components : ℕ) (file : ReplacedValue) (rosters : HasRosters w)
    (answered : IsAnsweredIn w number asked peer) (its : IsItsLeast peer asked (Some delivery)) (before : IsKeptIn w file.before) (settles : Settles path asked (Some delivery) (Taken components) (Some file)) where
  abbrev joined : JoinsWith file.before (roster_among asked.roster delivery.1) delivery.0 file.kept
  joined = settles.0.joined

  own : file.before.own ≡ asked.own
  own = settles.0.same.own

  came : delivery ≡ (its.delta, longer_than asked.roster peer.roster)
  came = some_same _ _ its.is_received
    where
      some_same : (a b : Delivery) → Some a ≡ Some b → a ≡ b
      some_same a b e = cc

  names_are : length file.kept.roster.names ≡ max (length file.before.roster.names) (length peer.roster.names)
  names_are =
      let enough : length asked.roster.names ≤ length file.before.roster.names = asked_within_kept w number asked peer file.before rosters answered before own in
      let among : length (roster_among asked.roster delivery.1).names ≡ max (length asked.roster.names) (length peer.roster.names) = ap (λ (d : Delivery). length (roster_among asked.roster d.1).names) came ∙ among_length asked.roster peer.roster in
      let both : length file.kept.roster.names ≡ max (length file.before.roster.names) (length (roster_among asked.roster delivery.1).names) = ap (λ (s : RosterValue). length s.names) joined.roster ∙ longer_length file.before.roster (roster_among asked.roster delivery.1) in
      omega (arith, enough, among, both)

  takes_answer : TakesAnswer asked peer file.before file.kept
  takes_answer = record {
    asker = own;
    own = joined.own;
    joined = joined.joined ∙ ap (λ (c : Coordinates). join (coordinates file.before.state) c) (ap (λ (d : Delivery). coordinates d.0) came ∙ its.is_least);
    names = names_are;
  }

pub settlings_taken : SettlingsAreTakes
settlings_taken w number asked peer path delivery components file rosters answered its before settles =
    file_takes w number asked peer file answered before (takes_answer w number asked peer path delivery components file rosters answered its before settles)
