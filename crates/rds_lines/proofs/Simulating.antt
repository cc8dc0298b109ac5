-- Lines that are met one after the other.
use Rattle.std.proofs.Common.{◌≡◌, ◌∙◌, ◌≤◌, ◌⊎◌, ◌++◌, ◌∷◌, [], ◌||◌, ℕ, suc, Bool, List, length, length-append, Option, Some, None, Result, Ok, Err, refl, sym, ap, subst, inl, inr, slice_get, arith}
use Rattle.std.specs.Prelude.{IfOk, IfErr, IfSome}
use Rattle.std.proofs.lemmas.Option.{slice_get_cases}
use Rattle.rds_names.specs.declared.fault.Fault.{Fault}
use Rattle.rds_names.specs.declared.fault.Fault.TheVariants.{Device, Memory, NoSuch}
use Rattle.rds_names.specs.Roster.{RosterValue}
use Rattle.rds_state.specs.Fits.{ReplicaValue}
use Rattle.rds_json.specs.declared.line.Line.{Line}
use Rattle.rds_json.specs.declared.line.Line.TheVariants as lines
use Rattle.rds_world.specs.Events.{IsAccepted, IsDone, RefusesEvent, roster_after_event}
use Rattle.rds_world.specs.Stands.{Stands, state_of}
use Rattle.rds_world.specs.Stored.{WorldValue}
use Rattle.rds_world.specs.World.{World, Question, Reply as ModelReply, after, after_answer, after_take, initial_world}
use Rattle.rds_world.specs.declared.event.Event.{Event}
use Rattle.rds_world.specs.declared.event.Event.TheVariants.{Edit, Save, Crash, Ask, Answer as Answering, Take, Grow}
use Rattle.rds_world.specs.declared.event.Done.{Done as Outcome}
use Rattle.rds_output.specs.Reply.{is_refusal, reply_line}
use Rattle.rds_lines.specs.Answering.{AnswersLines, WritesAnswers, WritesCut, WritesFront}
use Rattle.rds_lines.specs.Views.{ShowsView}
use Rattle.rds_lines.specs.declared.views.Layout.TheVariants.{Compact}
use Rattle.rds_lines.specs.Lines.{lines_in}
use Rattle.rds_output.specs.Output.{fault_line}
use Rattle.rds_lines.specs.Sim.{Group, IsSimOutput, MayBeSimulated, MeetsBytes, MeetsFirst, MeetsLines, MeetsRequest, done_reply, group_after, opening_group, request_of}
use Rattle.rds_lines.specs.Streams.{NoneFailed, Stream, Emits}
use Rattle.rds_lines.specs.Simulated.{IsGroup, LeadsGroupTo, LineLeadsTo, StandsForGroup, reply_of}
use Rattle.rds_output.specs.declared.reply.Reply.{Reply}
use Rattle.rds_output.specs.declared.reply.Reply.TheVariants.{Done, Refused}
use Rattle.rds_lines.specs.declared.sim.Request.{Request}
use Rattle.rds_lines.specs.declared.sim.Request.TheVariants as requests

answered_replicas : (w : World) (s k : ℕ) (q : Option Question) → (after_answer w s k q).replicas ≡ w.replicas
answered_replicas w s k None = refl
answered_replicas w s k (Some q) = refl

taken_replicas : (w : World) (m : Option ModelReply) → (after_take w m).replicas ≡ w.replicas
taken_replicas w None = refl
taken_replicas w (Some m) = refl

one_more : (names : List (List ℕ)) (name : List ℕ) (n : ℕ) → n ≡ length names → suc n ≡ length (names ++ name ∷ [])
one_more names name n e = (let one = length-append names (name ∷ []) in omega (arith, e, one))

-- the roster names as many replicas as there are
stays_whole : (w : World) (roster : RosterValue) (e : Event) → w.replicas ≡ length roster.names → (after w e).replicas ≡ length (roster_after_event roster e).names
stays_whole w roster (Edit r c) all = all
stays_whole w roster (Save r) all = all
stays_whole w roster (Crash r) all = all
stays_whole w roster (Ask r) all = all
stays_whole w roster (Answering s k) all = answered_replicas w s k (slice_get w.asks k) ∙ all
stays_whole w roster (Take k) all = taken_replicas w (slice_get w.answers k) ∙ all
stays_whole w roster (Grow r name) all = one_more roster.names name w.replicas all

pub happened : (v new : WorldValue) (e : Event) (done : Outcome) (answer : Reply) → ((w : World) → Stands v w → IsAccepted v w e) → ((w : World) → Stands v w → Stands new (after w e))
    → ((w : World) → Stands v w → IsDone v w e done) → new.roster ≡ roster_after_event v.roster e → answer ≡ done_reply new.roster done → (now : Group) → LeadsGroupTo v now e (Ok answer) new
happened v new e done answer accepted stands is_done same told now h =
    let roster : new.roster ≡ roster_after_event now.roster e = same ∙ ap (λ (r : RosterValue). roster_after_event r e) h.roster in (
      group_after now e,
      record { stands = stands now.world h.stands; roster = roster; whole = stays_whole now.world now.roster e h.whole },
      record {
        value = v;
        stands = h.stands;
        roster = h.roster;
        met = inl (record {
          accepted = accepted now.world h.stands;
          outcome = done;
          done = is_done now.world h.stands;
          told = told ∙ ap (λ (r : RosterValue). done_reply r done) roster;
          next_is = refl;
        });
      },
    )

pub stopped : (v new : WorldValue) (e : Event) (fault : Fault) → ((w : World) → Stands v w → RefusesEvent v w e fault) → new ≡ v → (now : Group) → LeadsGroupTo v now e (Err fault) new
stopped v new e fault refused same now h = (
  now,
  subst (λ (x : WorldValue). StandsForGroup x now) (sym same) h,
  record { value = v; stands = h.stands; roster = h.roster; met = inr (record { fault = fault; refused = refused now.world h.stands; told = (refl, refl) }) },
)

-- ---- a line of replicas that are there

asked_here : (v : WorldValue) (line : Line) (due : Result Request Fault) → request_of v.roster line ≡ due → (now : Group) → StandsForGroup v now → due ≡ request_of now.roster line
asked_here v line due is now h = sym is ∙ ap (λ (r : RosterValue). request_of r line) h.roster

pub line_refused : (v : WorldValue) (line : Line) (fault : Fault) → request_of v.roster line ≡ Err fault → (now : Group) → LineLeadsTo (Some v) (Some now) line (Err fault) (Some v)
line_refused v line fault is now h = (Some now, h, inr (subst (λ (r : Result Request Fault). MeetsRequest now r (Refused fault) (Some now)) (asked_here v line (Err fault) is now h) (refl, refl)))

pub line_happens : (v new : WorldValue) (line : Line) (e : Event) (result : Result Reply Fault) → request_of v.roster line ≡ Ok (requests.Event e) → ((now : Group) → LeadsGroupTo v now e result new)
    → (now : Group) → LineLeadsTo (Some v) (Some now) line result (Some new)
line_happens v new line e result is leads now h =
    let m = leads now h in
    (Some m.0, m.1, inr (subst (λ (r : Result Request Fault). MeetsRequest now r (reply_of result) (Some m.0)) (asked_here v line (Ok (requests.Event e)) is now h) m.2))

nothing_there : (xs : List ReplicaValue) (i : ℕ) → slice_get xs i ≡ None → length xs ≤ i
nothing_there xs i none = elim (slice_get_cases xs i).1 [
  | inl there ↦ absurd (some_isnt_none there.0 (sym there.2 ∙ none))
  | inr past ↦ past.0
]
  where
    some_isnt_none : (m : ReplicaValue) → Some m ≡ None → ⊥
    some_isnt_none m e = absurd cc

pub line_shows : (v : WorldValue) (line : Line) (number : ℕ) (path : List (List ℕ)) (result : Result Reply Fault) → request_of v.roster line ≡ Ok (requests.Show number path)
    → IfOk result (λ answer. (replica : ReplicaValue) × (slice_get v.memory number ≡ Some replica) × ShowsView Compact replica.state path answer)
    → IfErr result (λ fault. (fault ≡ Memory) ⊎ ((fault ≡ NoSuch) × (slice_get v.memory number ≡ None)))
    → (now : Group) → LineLeadsTo (Some v) (Some now) line result (Some v)
line_shows v line number path (Ok answer) is ok err now h =
    let meets = λ (r : Result Request Fault). MeetsRequest now r answer (Some now) in
    let memory = sym (h.stands.memory number ∙ ap state_of ok.1) in
    (Some now, h, inr (subst meets (asked_here v line (Ok (requests.Show number path)) is now h) (inr (record { state = ok.0.state; memory = memory; shown = ok.2; next_is = refl }))))
line_shows v line number path (Err fault) is ok err now h =
    let meets = λ (r : Result Request Fault). MeetsRequest now r (Refused fault) (Some now) in
    elim err [
      | inl memory ↦ (Some now, h, inl (ap Refused memory, refl))
      | inr absent ↦ (
        Some now,
        h,
        inr (subst meets (asked_here v line (Ok (requests.Show number path)) is now h)
            (inl (omega (arith, nothing_there v.memory number absent.1, h.stands.replicas), (ap Refused absent.0, refl)))),
      )
    ]

-- ---- a line, whether there is a group or none

world_opens : (roster : RosterValue) (world : WorldValue) → (world.roster ≡ roster) × Stands world (initial_world roster.names) → LineLeadsTo None None (lines.Roster roster) (Ok Done) (Some world)
world_opens roster world h none = (Some (opening_group roster), record { stands = h.1; roster = h.0; whole = refl }, inr (refl, refl))

pub worlds_open : (roster : RosterValue) (opened : Result WorldValue Fault) → IfOk opened (λ world. Stands world (initial_world roster.names)) → IfOk opened (λ world. world.roster ≡ roster)
    → IfOk opened (λ world. LineLeadsTo None None (lines.Roster roster) (Ok Done) (Some world))
worlds_open roster (Ok world) stands same = world_opens roster world (same, stands)
worlds_open roster (Err fault) stands same = tt

-- a line's answer, and what is written for those after it
pub first_met : (bytes : List ℕ) (lines : List (List ℕ)) (out : List ℕ) (refused : Bool) (result : Result Reply Fault) (new : Option WorldValue) (now : Option Group)
    → (next : Option Group) × IsGroup new next × MeetsBytes now bytes (reply_of result) next → ((next : Option Group) → IsGroup new next → MeetsLines lines next out refused)
    → MeetsFirst now bytes (MeetsLines lines) (reply_line (reply_of result) ++ out) (is_refusal (reply_of result) || refused)
first_met bytes lines out refused result new now m later = record {
  answer = reply_of result;
  next = m.0;
  met = m.2;
  rest = out;
  more = refused;
  later = later m.0 m.1;
  out_is = refl;
  refused_is = refl;
}

-- ---- a whole run

-- from a world on that no line has named, what lines may be answered is what `sim` may answer
pub all_simulated : (reading writing : Stream) (world : Option WorldValue) (status : ℕ) → world ≡ None → AnswersLines (λ lines out refused. (now : Option Group) → IsGroup world now → MeetsLines lines now out refused) reading writing status
    → AnswersLines MayBeSimulated reading writing status
all_simulated reading writing world status none h = record {
  answered = sim_written reading.before h.answered;
  unread = λ read wrote. (sim_cut (h.unread read wrote).0, (h.unread read wrote).1);
  part = λ wrote. sim_front (h.part wrote);
  bound = h.bound;
}
  where
    begun : IsGroup world None
    begun = subst (λ (w : Option WorldValue). IsGroup w None) (sym none) tt

    sim_written : (o : Option (List ℕ)) → IfSome o (λ input. NoneFailed reading → Emits (WritesAnswers (λ out refused. (now : Option Group) → IsGroup world now → MeetsLines (lines_in input) now out refused)) writing status)
        → IfSome o (λ input. NoneFailed reading → Emits (WritesAnswers (IsSimOutput input)) writing status)
    sim_written None h = tt
    sim_written (Some input) h = λ steady written.
        let p = h steady written in
        (p.0, p.1, p.2 None begun, p.3, p.4)

    sim_cut : WritesCut (λ lines out refused. (now : Option Group) → IsGroup world now → MeetsLines lines now out refused) (fault_line Device) reading.before reading.after writing.before writing.after
        → WritesCut MayBeSimulated (fault_line Device) reading.before reading.after writing.before writing.after
    sim_cut h = record {
      given = h.given;
      is_given = h.is_given;
      lines = h.lines;
      are_lines = h.are_lines;
      out = h.out;
      refused = h.refused;
      answered = h.answered None begun;
      is_written = h.is_written;
    }

    sim_front : WritesFront (λ lines out refused. (now : Option Group) → IsGroup world now → MeetsLines lines now out refused) (fault_line Device) reading.MayHaveFailed reading.before reading.after writing.before writing.after
        → WritesFront MayBeSimulated (fault_line Device) reading.MayHaveFailed reading.before reading.after writing.before writing.after
    sim_front h = record {
      given = h.given;
      is_given = h.is_given;
      lines = h.lines;
      later = h.later;
      are_lines = h.are_lines;
      out = h.out;
      refused = h.refused;
      answered = h.answered None begun;
      is_written = h.is_written;
    }
