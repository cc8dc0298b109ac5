-- What an end of a pair hears and says.
use Rattle.std.proofs.Common.{◌≡◌, ◌∙◌, ◌⊎◌, ◌≤◌, ◌+◌, ◌-◌, ◌++◌, ℕ, List, [], length, take, drop, min, Option, Some, None, inl, inr, refl, sym, ap, subst, append_assoc, arith, length-append}
use Rattle.std.proofs.Math.Nat.{min-le_left}
use Rattle.std.proofs.lemmas.List.{append-nil, length-take, take-append-drop, take-append-le}
use Rattle.std.specs.Io.KnownBytes.{Appends, Consumes, IsAtEnd, Keeps}
use Rattle.rds_names.specs.declared.fault.Fault.TheVariants.{Device, Memory}
use Rattle.rds_state.specs.Fits.{ReplicaValue}
use Rattle.rds_session.specs.declared.step.Ended.{Ended}
use Rattle.rds_session.specs.declared.step.Ended.TheVariants.{Going, Done, Failed}
use Rattle.rds_session.specs.declared.talk.Side.{Side}
use Rattle.rds_session.specs.Leaving.{HasSent}
use Rattle.rds_session.specs.Session.{Heard, Nothing, So_far, All_of, Standing, course, heard_more}
use Rattle.rds_session.specs.Steps.{Continues, HasStanding, IsOver}
use Rattle.rds_session.proofs.Course.{all_over}
use Rattle.rds_session.proofs.Spoken.{sent_on, still_going}
use Rattle.rds_session.proofs.Turns.{Came, consumes_kept, consumes_none, consumes_then, heard_on}
use Rattle.rds_meetings.specs.Ends.{EndValue, HasHeardAll, Hears, HearsOn, HeardTheEnd, TakesInput}

over_or_going : (e : Ended) → (e ≡ Going) ⊎ IsOver e
over_or_going Going = inl refl
over_or_going Done = inr tt
over_or_going (Failed fault) = inr tt

-- an end that goes on has lost nothing, and its session goes on
none_lost : (e s : Ended) (lost : List ℕ) → e ≡ Going → ((e ≡ s) × (lost ≡ [])) ⊎ ((e ≡ Failed Device) ⊎ (e ≡ Failed Memory)) → (s ≡ Going) × (lost ≡ [])
none_lost e s lost going (inl same) = (sym same.0 ∙ going, same.1)
none_lost e s lost going (inr (inl device)) = absurd (let bad : Going ≡ Failed Device = sym going ∙ device in cc)
none_lost e s lost going (inr (inr memory)) = absurd (let bad : Going ≡ Failed Memory = sym going ∙ memory in cc)

-- what came after nothing came
came_on : (held now later : Option (List ℕ)) (input : Option (List ℕ)) → Consumes held now [] → Came now later input → Came held later input
came_on held now later None none came = (consumes_then held now later [] [] none came.0, came.1)
came_on held now later (Some piece) none came = consumes_then held now later [] piece none came

came_bytes : (now later : Option (List ℕ)) (input : Option (List ℕ)) → Came now later input → (piece : List ℕ) × Consumes now later piece
came_bytes now later None came = ([], came.0)
came_bytes now later (Some piece) came = (piece, came)

-- an end that is over drops what comes
pub drops : (side : Side) (kept : ReplicaValue) (first now later : Option (List ℕ)) (said : List ℕ) {T : Type 0} (e : EndValue T) (stream : T) (piece : List ℕ) → IsOver e.ended → Consumes now later piece
    → Hears side kept first now said e → Hears side kept first later said (record e { stream = stream })
drops side kept first now later said e stream piece over came h = record {
  heard = h.heard;
  held = h.held;
  dropped = h.dropped ++ piece;
  lost = h.lost;
  is_heard = h.is_heard;
  is_dropped = consumes_then h.held now later h.dropped piece h.is_dropped came;
  is_sent = h.is_sent;
  going = λ going. absurd (subst IsOver going over);
  stands = h.stands;
}

-- a read failed
pub hears_kept : (side : Side) (kept : ReplicaValue) (first now later : Option (List ℕ)) (said : List ℕ) {T : Type 0} (e : EndValue T) (stream : T) → Keeps now later
    → Hears side kept first now said e → Hears side kept first later said (record e { stream = stream })
hears_kept side kept first now later said e stream same h = record {
  heard = h.heard;
  held = h.held;
  dropped = h.dropped;
  lost = h.lost;
  is_heard = h.is_heard;
  is_dropped = consumes_kept h.held now later h.dropped h.is_dropped same;
  is_sent = h.is_sent;
  going = h.going;
  stands = h.stands;
}

-- the bytes that are to be said after a step, or that there was no memory for
lost_on : (said pending lost more : List ℕ) → lost ≡ [] → (said ++ pending ++ lost) ++ more ≡ said ++ pending ++ more
lost_on said pending lost more none = ap (λ (t : List ℕ). (said ++ pending ++ t) ++ more) none ∙ ap (λ (t : List ℕ). t ++ more) (append-nil (said ++ pending))

said_on : (said pending lost more : List ℕ) → lost ≡ [] → (said ++ pending ++ lost) ++ more ≡ said ++ (pending ++ more) ++ []
said_on said pending lost more none = lost_on said pending lost more none ∙ append_assoc said pending more ∙ sym (append-nil (said ++ (pending ++ more)))

-- an end that goes on takes a step
steps_on : (side : Side) (kept : ReplicaValue) (first now later : Option (List ℕ)) (said : List ℕ) (input : Option (List ℕ)) {T : Type 0} (old new : EndValue T) (stream : T) → old.ended ≡ Going
    → TakesInput input (record old { stream = stream }) new → Came now later input → Hears side kept first now said old → Hears side kept first later said new
steps_on side kept first now later said input old new stream going takes came h =
    let none = none_lost old.ended old.session.ended h.lost going h.stands in
    let is = still_going side kept h.heard old.session (said ++ old.pending ++ h.lost) none.0 h.is_sent in
    let goes : (course side kept h.heard).0.ended ≡ Going = ap (λ (x : Standing). x.ended) (sym is.0) ∙ none.0 in
    let taken = takes.going going side kept h.heard is.0 in
    let sent = sent_on side kept h.heard input new.session (said ++ old.pending ++ h.lost) taken.sent is.1 taken.continues in
    let reached = came_on h.held now later input (subst (Consumes h.held now) (h.going going) h.is_dropped) came in
    let heard = heard_on first h.held later side kept h.heard input goes h.is_heard reached in
    elim taken.told [
      | inl told ↦ record {
        heard = heard_more h.heard input;
        held = later;
        dropped = [];
        lost = [];
        is_heard = heard;
        is_dropped = consumes_none later;
        is_sent = subst (HasSent side kept (heard_more h.heard input) new.session) (said_on said old.pending h.lost taken.sent none.1 ∙ ap (λ (t : List ℕ). said ++ t ++ []) (sym told.1)) sent;
        going = λ _. refl;
        stands = inl (told.0, refl);
      }
      | inr told ↦ record {
        heard = heard_more h.heard input;
        held = later;
        dropped = [];
        lost = taken.sent;
        is_heard = heard;
        is_dropped = consumes_none later;
        is_sent = subst (HasSent side kept (heard_more h.heard input) new.session) (lost_on said old.pending h.lost taken.sent none.1 ∙ ap (λ (t : List ℕ). said ++ t ++ taken.sent) (sym told.1)) sent;
        going = λ _. refl;
        stands = inr (inr told.0);
      }
    ]

-- bytes, or the end, came from the stream, and were taken
pub hears_on : {T : Type 0} (remaining : T → Option (List ℕ)) (input : Option (List ℕ)) (old mid new : EndValue T) (stream : T) → mid ≡ record old { stream = stream } → TakesInput input mid new
    → Came (remaining old.stream) (remaining stream) input → HearsOn (remaining old.stream) (remaining new.stream) old new
hears_on {T} remaining input old mid new stream is taken came side kept first said h =
    let takes = subst (λ (e : EndValue T). TakesInput input e new) is taken in
    let at : stream ≡ new.stream = sym (ap (λ (e : EndValue T). e.stream) takes.same) in
    elim (over_or_going old.ended) [
      | inl going ↦ subst (λ (s : T). Hears side kept first (remaining s) said new) at (steps_on side kept first (remaining old.stream) (remaining stream) said input old new stream going takes came h)
      | inr over ↦
          let bytes = came_bytes (remaining old.stream) (remaining stream) input came in
          subst (λ (e : EndValue T). Hears side kept first (remaining e.stream) said e) (sym (takes.over over)) (drops side kept first (remaining old.stream) (remaining stream) said old stream bytes.0 over bytes.1 h)
    ]

ended_then : (side : Side) (kept : ReplicaValue) (heard : Heard) → IsOver (course side kept (heard_more heard None)).0.ended
ended_then side kept Nothing = all_over side kept []
ended_then side kept (So_far x) = all_over side kept x
ended_then side kept (All_of x) = all_over side kept x

-- a session is over after the end of its stream
over_then : (side : Side) (kept : ReplicaValue) (heard : Heard) (new : Standing) (sent : List ℕ) → Continues side kept heard None new sent → IsOver new.ended
over_then side kept heard new sent (inl on) = subst (λ (s : Standing). IsOver s.ended) (sym on.standing) (ended_then side kept heard)
over_then side kept heard new sent (inr out) = subst IsOver (sym out.ended) tt

ends_then : (side : Side) (kept : ReplicaValue) (first now : Option (List ℕ)) (said : List ℕ) {T : Type 0} (old new : EndValue T) (stream : T) → old.ended ≡ Going
    → TakesInput None (record old { stream = stream }) new → Hears side kept first now said old → IsOver new.ended
ends_then side kept first now said old new stream going takes h =
    let none = none_lost old.ended old.session.ended h.lost going h.stands in
    let is = still_going side kept h.heard old.session (said ++ old.pending ++ h.lost) none.0 h.is_sent in
    let taken = takes.going going side kept h.heard is.0 in
    elim taken.told [
      | inl told ↦ subst IsOver (sym told.0) (over_then side kept h.heard new.session taken.sent taken.continues)
      | inr told ↦ subst IsOver (sym told.0) tt
    ]

-- the stream has ended, and that was taken
pub heard_the_end : {T : Type 0} (remaining : T → Option (List ℕ)) (old mid new : EndValue T) (stream : T) → mid ≡ record old { stream = stream } → TakesInput None mid new → IsAtEnd (remaining stream)
    → HeardTheEnd (remaining old.stream) (remaining new.stream) old new
heard_the_end {T} remaining old mid new stream is taken at_end =
    let takes = subst (λ (e : EndValue T). TakesInput None e new) is taken in
    let at : stream ≡ new.stream = sym (ap (λ (e : EndValue T). e.stream) takes.same) in (
      subst (λ (s : T). IsAtEnd (remaining s)) at at_end,
      λ side kept first said h. elim (over_or_going old.ended) [
        | inl going ↦ ends_then side kept first (remaining old.stream) said old new stream going takes h
        | inr over ↦ subst IsOver (ap (λ (e : EndValue T). e.ended) (sym (takes.over over))) over
      ],
    )

-- an end that has begun: its session took a step with no bytes
pub begins : (side : Side) (kept : ReplicaValue) (first : Option (List ℕ)) (at : Standing) (input : Option (List ℕ)) {T : Type 0} (e : EndValue T) → input ≡ Some [] → HasStanding side kept Nothing at
    → ((side : Side) (kept : ReplicaValue) (heard : Heard) → HasStanding side kept heard at → Continues side kept heard input e.session e.pending) → e.ended ≡ e.session.ended → Hears side kept first first [] e
unfolding course
begins side kept first at input e none is steps same =
    let went : Continues side kept Nothing (Some []) e.session e.pending = subst (λ (i : Option (List ℕ)). Continues side kept Nothing i e.session e.pending) none (steps side kept Nothing is) in
    record {
      heard = So_far [];
      held = first;
      dropped = [];
      lost = [];
      is_heard = consumes_none first;
      is_dropped = consumes_none first;
      is_sent = subst (HasSent side kept (So_far []) e.session) (sym (append-nil e.pending)) (sent_on side kept Nothing (Some []) e.session [] e.pending refl went);
      going = λ _. refl;
      stands = inl (same, refl);
    }

-- what was written of the front of what is to be said is the front of it
pub front_said : (before after : Option (List ℕ)) (count most : ℕ) (pending front : List ℕ) → front ≡ take most pending → count ≤ length front → Appends before after (take count front) → Appends before after (take count pending)
front_said before after count most pending front is within said =
    let whole : take count front ≡ take count pending =
    sym (take-append-le count front (drop most pending) within) ∙ ap (λ (f : List ℕ). take count (f ++ drop most pending)) is ∙ ap (take count) (take-append-drop most pending) in
    subst (Appends before after) whole said

-- what was written of the front is no longer than the front
pub front_most : (count most : ℕ) (pending front : List ℕ) → front ≡ take most pending → count ≤ length front → count ≤ most
front_most count most pending front is within =
    let size : length front ≡ min most (length pending) = ap length is ∙ length-take most pending in
    let most_is = min-le_left most (length pending) in
    omega (arith, size, within, most_is)

-- so many bytes came of those that are wanted, and so many are left
abbrev pub HasCome : ℕ → ℕ → Option (List ℕ) → Option (List ℕ) → Type 0
HasCome count left now later = (bytes : List ℕ) × Consumes now later bytes × (length bytes + left ≡ count)

pub none_came : (count : ℕ) (now : Option (List ℕ)) → HasCome count count now now
none_came count now = ([], consumes_none now, omega arith)

pub more_came : (count left heard : ℕ) (now mid later : Option (List ℕ)) → HasCome count left now mid → (piece : List ℕ) → Consumes mid later piece → length piece ≡ heard → heard ≤ left → HasCome count (left - heard) now later
more_came count left heard now mid later (bytes, came, all) piece then is within = (bytes ++ piece, consumes_then now mid later bytes piece came then, omega (arith, length-append bytes piece, all, is, within))

pub all_came : {T : Type 0} (count left : ℕ) (now later : Option (List ℕ)) (old new : EndValue T) → HasCome count left now later → left ≡ 0 → HasHeardAll count now later old new
all_came count left now later old new (bytes, came, all) none = record { bytes = bytes; came = came; all = inl (omega (arith, all, none)) }

-- the stream has ended before all came
pub end_came : {T : Type 0} (count left : ℕ) (now mid later : Option (List ℕ)) (old between new : EndValue T) → HasCome count left now mid → HearsOn now mid old between → (piece : List ℕ) → Consumes mid later piece
    → HeardTheEnd mid later between new → HasHeardAll count now later old new
end_came count left now mid later old between new (bytes, came, all) on piece then ends =
    record { bytes = bytes ++ piece; came = consumes_then now mid later bytes piece came then; all = inr (ends.0, λ side kept first said h. ends.1 side kept first said (on side kept first said h)) }
