-- A session's course, step by step.
use Rattle.std.proofs.Common.{◌≡◌, ◌≢◌, ℕ, Bool, true, false, cond, List, [], ◌∷◌, ◌++◌, Option, Some, None, Result, Ok, Err, refl, sym, ap, ◌∙◌, append_assoc, subst, ◌⊎◌, inl, inr}
use Rattle.std.proofs.lemmas.List.{append-nil}
use Rattle.rds_names.specs.declared.fault.Fault.{Fault}
use Rattle.rds_names.specs.declared.fault.Fault.TheVariants.{Memory, TooLong, PeerEnded}
use Rattle.rds_state.specs.Fits.{ReplicaValue}
use Rattle.rds_session.specs.declared.talk.Side.{Side}
use Rattle.rds_session.specs.declared.talk.Side.TheVariants.{Server}
use Rattle.rds_session.specs.declared.talk.Stop.{Stop}
use Rattle.rds_session.specs.declared.talk.Stop.TheVariants.{Refused, Left}
use Rattle.rds_session.specs.declared.step.Ended.{Ended}
use Rattle.rds_session.specs.declared.step.Ended.TheVariants.{Going, Done, Failed}
use Rattle.rds_session.specs.Chunks.{start_of_chunks, Scan, More, Whole, Long, byte_scanned}
use Rattle.rds_session.specs.Judging.{Awaited, ForHello, ForDigest, ForWhole, ForDelta, ForBye, Said, Greets, Learns, Shares, Misses, Receives, Finishes, Forks, verdict, replies_of}
use Rattle.rds_state.specs.declared.mark.Mark.{Mark}
use Rattle.rds_session.specs.Received.{Delivery}
use Rattle.rds_session.specs.Sending.{sending}
use Rattle.rds_session.specs.Session.{Standing, Sent, fresh, failure, then_more, when_going, after_sending, after_said, after_verdict, message_comes, after_scan, stay, byte_comes, run_bytes, opening, after_opening, cut_off, Heard, Nothing, So_far, All_of, heard_more, course, after_input, after_step}
use Rattle.rds_session.specs.Steps as steps
use Rattle.rds_session.specs.Steps.{piece_of, ReceivedOnTheWay, TakesNoMemory, StepTakesMemory, RunsOut, Steps, Continues, IsOver}
use Rattle.rds_session.proofs.Accepting.{IsActFor, IsFor, accepted_suits}
use Rattle.rds_session.proofs.Runs.{going_goes, over_stays, run_over, run-append, then_same}

-- ---- what stays

-- what was received is received before the last message alone
abbrev pub IsOrderly : Standing → Type 0
IsOrderly s = (s.received ≡ None) ⊎ ((mark : Option Mark) × (s.turn ≡ ForBye mark))

abbrev pub KeepsReceived : Standing → Standing → Type 0
KeepsReceived s t = (s.received ≡ None) ⊎ (t.received ≡ s.received)

-- one standing comes after another
pub record Follows (s t : Standing) : Type 0 where
  pub begun : t.begun ≡ s.begun
  pub side : t.side ≡ s.side
  pub kept : t.kept ≡ s.kept
  pub orderly : IsOrderly s → IsOrderly t
  pub received : IsOrderly s → KeepsReceived s t

pub follows_same : (s t : Standing) → t.begun ≡ s.begun → t.side ≡ s.side → t.kept ≡ s.kept → t.turn ≡ s.turn → t.received ≡ s.received → Follows s t
follows_same s t b d k u r = record {
  begun = b;
  side = d;
  kept = k;
  orderly = λ o. elim o [ inl none ↦ inl (r ∙ none) | inr bye ↦ inr (bye.0, u ∙ bye.1) ];
  received = λ o. inr r;
}

pub follows_then : (a b c : Standing) → Follows a b → Follows b c → Follows a c
follows_then a b c p q = record {
  begun = q.begun ∙ p.begun;
  side = q.side ∙ p.side;
  kept = q.kept ∙ p.kept;
  orderly = λ o. q.orderly (p.orderly o);
  received = λ o. elim (p.received o) [
    | inl none ↦ inl none
    | inr same ↦ elim (q.received (p.orderly o)) [ inl none ↦ inl (sym same ∙ none) | inr again ↦ inr (again ∙ same) ]
  ];
}

not_yet : (s : Standing) → ((mark : Option Mark) → s.turn ≡ ForBye mark → ⊥) → IsOrderly s → s.received ≡ None
not_yet s h o = elim o [ inl none ↦ none | inr bye ↦ absurd (h bye.0 bye.1) ]

-- a message before the delta takes nothing: nothing was received
goes_before : (s t : Standing) → ((mark : Option Mark) → s.turn ≡ ForBye mark → ⊥) → t.begun ≡ s.begun → t.side ≡ s.side → t.kept ≡ s.kept → t.received ≡ s.received → Follows s t
goes_before s t early b d k r = record { begun = b; side = d; kept = k; orderly = λ o. inl (r ∙ not_yet s early o); received = λ o. inr r }

performed_by : (s : Standing) (turn : Awaited) (said : Said) → s.turn ≡ turn → IsActFor turn said → Follows s (after_said s said)
performed_by s (ForHello side) (Greets p) is h = goes_before s (after_said s (Greets p)) (λ m e. let bad : ForHello side ≡ ForBye m = sym is ∙ e in cc) refl refl refl refl
performed_by s (ForHello side) (Learns p f) is h = absurd h
performed_by s (ForHello side) (Shares p f) is h = absurd h
performed_by s (ForHello side) (Misses p) is h = absurd h
performed_by s (ForHello side) (Receives d r told) is h = absurd h
performed_by s (ForHello side) Finishes is h = absurd h
performed_by s (ForHello side) Forks is h = absurd h
performed_by s (ForDigest q) (Greets p) is h = absurd h
performed_by s (ForDigest q) (Learns p f) is h = goes_before s (after_said s (Learns p f)) (λ m e. let bad : ForDigest q ≡ ForBye m = sym is ∙ e in cc) refl refl refl refl
performed_by s (ForDigest q) (Shares p f) is h = goes_before s (after_said s (Shares p f)) (λ m e. let bad : ForDigest q ≡ ForBye m = sym is ∙ e in cc) refl refl refl refl
performed_by s (ForDigest q) (Misses p) is h = goes_before s (after_said s (Misses p)) (λ m e. let bad : ForDigest q ≡ ForBye m = sym is ∙ e in cc) refl refl refl refl
performed_by s (ForDigest q) (Receives d r told) is h = absurd h
performed_by s (ForDigest q) Finishes is h = absurd h
performed_by s (ForDigest q) Forks is h = absurd h
performed_by s (ForWhole q) (Greets p) is h = absurd h
performed_by s (ForWhole q) (Learns p f) is h = goes_before s (after_said s (Learns p f)) (λ m e. let bad : ForWhole q ≡ ForBye m = sym is ∙ e in cc) refl refl refl refl
performed_by s (ForWhole q) (Shares p f) is h = absurd h
performed_by s (ForWhole q) (Misses p) is h = absurd h
performed_by s (ForWhole q) (Receives d r told) is h = absurd h
performed_by s (ForWhole q) Finishes is h = absurd h
performed_by s (ForWhole q) Forks is h = absurd h
performed_by s (ForDelta q g) (Greets p) is h = absurd h
performed_by s (ForDelta q g) (Learns p f) is h = absurd h
performed_by s (ForDelta q g) (Shares p f) is h = absurd h
performed_by s (ForDelta q g) (Misses p) is h = absurd h
performed_by s (ForDelta q g) (Receives d r told) is h = record {
  begun = refl;
  side = refl;
  kept = refl;
  orderly = λ o. inr (told, refl);
  received = λ o. inl (not_yet s (λ m e. let bad : ForDelta q g ≡ ForBye m = sym is ∙ e in cc) o);
}
performed_by s (ForDelta q g) Finishes is h = absurd h
performed_by s (ForDelta q g) Forks is h = absurd h
performed_by s (ForBye mark) (Greets p) is h = absurd h
performed_by s (ForBye mark) (Learns p f) is h = absurd h
performed_by s (ForBye mark) (Shares p f) is h = absurd h
performed_by s (ForBye mark) (Misses p) is h = absurd h
performed_by s (ForBye mark) (Receives d r told) is h = absurd h
performed_by s (ForBye mark) Finishes is h = follows_same s (after_said s Finishes) refl refl refl refl refl
performed_by s (ForBye mark) Forks is h = follows_same s (after_said s Forks) refl refl refl refl refl

failed_follows : (s : Standing) (f : Fault) → Follows s (failure s f)
failed_follows s f = follows_same s (failure s f) refl refl refl refl refl

pub sending_follows : (s : Standing) (p : List ℕ × Bool) (all : Bool) → p.1 ≡ all → Follows s (after_sending s p).0
sending_follows s p true e = rw e (follows_same s s refl refl refl refl refl)
sending_follows s p false e = rw e (failed_follows s TooLong)

answered_follows : (s : Standing) (r : Result Said Stop) → IsFor s.turn r → Follows s (after_verdict s r).0
answered_follows s (Ok said) h =
    let p = sending (replies_of s.side s.kept s.turn said) in
    follows_then s (after_said s said) (after_sending (after_said s said) p).0 (performed_by s s.turn said refl h) (sending_follows (after_said s said) p p.1 refl)
answered_follows s (Err (Refused f)) h = failed_follows s f
answered_follows s (Err (Left f)) h = failed_follows s f

message_follows : (s : Standing) (m : List ℕ) → Follows s (message_comes s m).0
unfolding message_comes
message_follows s m = answered_follows s (verdict s.kept s.turn m) (accepted_suits s.kept s.turn m).fits

scanned_follows : (s : Standing) (sc : Scan) → Follows s (after_scan s sc stay).0
scanned_follows s (More u) = follows_same s (record s { under = u }) refl refl refl refl refl
scanned_follows s (Whole m rest) =
    let t = record s { under = start_of_chunks } in
    follows_then s t (message_comes t m).0 (follows_same s t refl refl refl refl refl) (message_follows t m)
scanned_follows s Long = failed_follows s TooLong

run_by : (e : Ended) (s : Standing) (p : Sent) (bs : List ℕ) → Follows s p.0 → Follows p.0 (run_bytes bs p.0).0 → Follows s (when_going {A = Sent} e (then_more p (run_bytes bs)) (s, [])).0
run_by Going s p bs f g = follows_then s p.0 (run_bytes bs p.0).0 f g
run_by Done s p bs f g = follows_same s s refl refl refl refl refl
run_by (Failed x) s p bs f g = follows_same s s refl refl refl refl refl

pub run_follows : (bs : List ℕ) (s : Standing) → Follows s (run_bytes bs s).0
unfolding run_bytes
run_follows [] s = follows_same s s refl refl refl refl refl
run_follows (b ∷ bs) s = run_by s.ended s (byte_comes s b) bs (scanned_follows s (byte_scanned s.under.place s.under.held b)) (run_follows bs (byte_comes s b).0)

cut_by : (e : Ended) (s : Standing) → Follows s (when_going {A = Sent} e (failure s PeerEnded, []) (s, [])).0
cut_by Going s = failed_follows s PeerEnded
cut_by Done s = follows_same s s refl refl refl refl refl
cut_by (Failed x) s = follows_same s s refl refl refl refl refl

pub cut_follows : (s : Standing) → Follows s (cut_off s).0
cut_follows s = cut_by s.ended s

-- ---- the opening

opened_fresh : (side : Side) (kept : ReplicaValue) → Follows (record (fresh side kept) { begun = true }) (after_opening (fresh side kept)).0
unfolding after_opening
opened_fresh side kept = let p = sending (opening side kept) in sending_follows (record (fresh side kept) { begun = true }) p p.1 refl

pub opened_again : (s : Standing) → s.begun ≡ true → after_opening s ≡ (s, [])
unfolding after_opening
opened_again s e = rw e refl

pub started : Side → ReplicaValue → Standing
started side kept = record (fresh side kept) { begun = true }

-- each standing but the first follows the one that has begun
pub course_follows : (side : Side) (kept : ReplicaValue) (h : Heard) → (h ≡ Nothing) ⊎ Follows (started side kept) (course side kept h).0
unfolding course started
course_follows side kept Nothing = inl refl
course_follows side kept (So_far x) =
    let o = after_opening (fresh side kept) in
    inr (follows_then (started side kept) o.0 (run_bytes x o.0).0 (opened_fresh side kept) (run_follows x o.0))
course_follows side kept (All_of x) =
    let o = after_opening (fresh side kept) in
    let r = run_bytes x o.0 in
    inr (follows_then (started side kept) r.0 (cut_off r.0).0 (follows_then (started side kept) o.0 r.0 (opened_fresh side kept) (run_follows x o.0)) (cut_follows r.0))

-- ---- one step more

over_cut : (e : Ended) (s : Standing) → s.ended ≡ e → IsOver (when_going {A = Sent} e (failure s PeerEnded, []) (s, [])).0.ended
over_cut Going s is = tt
over_cut Done s is = subst IsOver (sym is) tt
over_cut (Failed f) s is = subst IsOver (sym is) tt

pub stepped_over : (s : Standing) (i : Option (List ℕ)) → IsOver s.ended → after_step s i ≡ (s, [])
unfolding after_step
stepped_over s i h = over_stays s.ended (then_more (after_opening s) (after_input i)) (s, []) h

taken_over : (e : Ended) (s : Standing) (i : Option (List ℕ)) → s.ended ≡ e → IsOver e → after_input i s ≡ (s, [])
taken_over e s (Some piece) is h = run_over piece s (subst IsOver (sym is) h)
taken_over Going s None is h = absurd h
taken_over Done s None is h = rw is refl
taken_over (Failed f) s None is h = rw is refl

stepped_by : (e : Ended) (s : Standing) (i : Option (List ℕ)) → s.ended ≡ e → after_opening s ≡ (s, []) → when_going e (then_more (after_opening s) (after_input i)) (s, []) ≡ after_input i s
stepped_by Going s i is o = ap (λ (p : Sent). then_more p (after_input i)) o
stepped_by Done s i is o = sym (taken_over Done s i is tt)
stepped_by (Failed f) s i is o = sym (taken_over (Failed f) s i is tt)

-- a session that has begun takes the input as it is
pub stepped_begun : (s : Standing) (i : Option (List ℕ)) → s.begun ≡ true → after_step s i ≡ after_input i s
unfolding after_step
stepped_begun s i h = stepped_by s.ended s i refl (opened_again s h)

pub course_begun : (side : Side) (kept : ReplicaValue) (x : List ℕ) → (course side kept (So_far x)).0.begun ≡ true
unfolding course
course_begun side kept x =
    let o = after_opening (fresh side kept) in
    (run_follows x o.0).begun ∙ (opened_fresh side kept).begun

pub nothing_more : (p : Sent) → then_more p (λ s. (s, [])) ≡ p
nothing_more p = ap (λ (x : List ℕ). (p.0, x)) (append-nil p.1)

abbrev pub step_on : Option (List ℕ) → Standing → Sent
step_on i s = after_step s i

-- the course of the stream goes on by a step
pub course_steps : (side : Side) (kept : ReplicaValue) (h : Heard) (i : Option (List ℕ)) → course side kept (heard_more h i) ≡ then_more (course side kept h) (step_on i)
unfolding course
course_steps side kept Nothing (Some piece) = (unfold after_step in refl)
course_steps side kept Nothing None =
    let o = after_opening (fresh side kept) in
    (unfold after_step run_bytes in ap (λ (p : Sent). then_more p cut_off) (nothing_more o))
course_steps side kept (So_far x) (Some piece) =
    let o = after_opening (fresh side kept) in
    let p = then_more o (run_bytes x) in
    let one : then_more o (run_bytes (x ++ piece)) ≡ then_more p (run_bytes piece) = then_same o (run_bytes (x ++ piece)) (λ s. then_more (run_bytes x s) (run_bytes piece)) (run-append x piece o.0) ∙ ap (λ (t : List ℕ). ((run_bytes piece (run_bytes x o.0).0).0, t)) (sym (append_assoc o.1 (run_bytes x o.0).1 (run_bytes piece (run_bytes x o.0).0).1)) in
    one ∙ sym (then_same p (step_on (Some piece)) (run_bytes piece) (stepped_begun p.0 (Some piece) (course_begun side kept x)))
course_steps side kept (So_far x) None =
    let p = then_more (after_opening (fresh side kept)) (run_bytes x) in
    sym (then_same p (step_on None) cut_off (stepped_begun p.0 None (course_begun side kept x)))
course_steps side kept (All_of x) i =
    let r = then_more (after_opening (fresh side kept)) (run_bytes x) in
    let p = then_more r cut_off in
    sym (then_same p (step_on i) (λ s. (s, [])) (stepped_over p.0 i (over_cut r.0.ended r.0 refl)) ∙ nothing_more p)

started_orderly : (side : Side) (kept : ReplicaValue) → IsOrderly (started side kept)
unfolding started
started_orderly side kept = inl refl

course_orderly_by : (side : Side) (kept : ReplicaValue) (h : Heard) (s : Standing) → s ≡ (course side kept h).0 → (h ≡ Nothing) ⊎ Follows (started side kept) (course side kept h).0 → IsOrderly s
unfolding course
course_orderly_by side kept h s is f = elim f [
  | inl none ↦ inl (ap (λ (t : Standing). t.received) is ∙ ap (λ (g : Heard). (course side kept g).0.received) none)
  | inr follows ↦ subst IsOrderly (sym is) (follows.orderly (started_orderly side kept))
]

pub course_orderly : (side : Side) (kept : ReplicaValue) (h : Heard) → IsOrderly (course side kept h).0
course_orderly side kept h = course_orderly_by side kept h (course side kept h).0 refl (course_follows side kept h)

sending_keeps_by : (s : Standing) (p : List ℕ × Bool) (all : Bool) → p.1 ≡ all → ((after_sending s p).0.received ≡ s.received) × ((after_sending s p).0.turn ≡ s.turn)
sending_keeps_by s p true e = rw e (refl, refl)
sending_keeps_by s p false e = rw e (refl, refl)

sending_keeps : (s : Standing) (p : List ℕ × Bool) → ((after_sending s p).0.received ≡ s.received) × ((after_sending s p).0.turn ≡ s.turn)
sending_keeps s p = sending_keeps_by s p p.1 refl

-- the opening receives nothing and loses nothing
opening_keeps : (s : Standing) → ((after_opening s).0.received ≡ s.received) × ((after_opening s).0.turn ≡ s.turn)
unfolding after_opening
opening_keeps s = elim s.begun as (λ b. ((cond b (s, []) (after_sending (record s { begun = true }) (sending (opening s.side s.kept)))).0.received ≡ s.received) × ((cond b (s, []) (after_sending (record s { begun = true }) (sending (opening s.side s.kept)))).0.turn ≡ s.turn)) [
  | true ↦ (refl, refl)
  | false ↦ sending_keeps (record s { begun = true }) (sending (opening s.side s.kept))
]

-- what was received on the way is received in the end, or nothing was
on_the_way : (o : Standing) (piece : List ℕ) (received : Option Delivery) → IsOrderly o → ReceivedOnTheWay o piece received → (received ≡ None) ⊎ (received ≡ (run_bytes piece o).0.received)
on_the_way o piece received orderly w =
    let front = w.0 in
    let rest = w.1 in
    let mid = (run_bytes front o).0 in
    let whole : run_bytes piece o ≡ then_more (run_bytes front o) (run_bytes rest) = ap (λ (x : List ℕ). run_bytes x o) w.2 ∙ run-append front rest o in
    elim ((run_follows rest mid).received ((run_follows front o).orderly orderly)) [
      | inl none ↦ inl (w.3 ∙ none)
      | inr same ↦ inr (w.3 ∙ sym same ∙ ap (λ (p : Sent). p.0.received) (sym whole))
    ]

cut_keeps_by : (e : Ended) (s : Standing) → (when_going {A = Sent} e (failure s PeerEnded, []) (s, [])).0.received ≡ s.received
cut_keeps_by Going s = refl
cut_keeps_by Done s = refl
cut_keeps_by (Failed f) s = refl

pub cut_keeps : (s : Standing) → (cut_off s).0.received ≡ s.received
cut_keeps s = cut_keeps_by s.ended s

by_input : (o : Standing) (i : Option (List ℕ)) (received : Option Delivery) → IsOrderly o → ReceivedOnTheWay o (piece_of i) received → (received ≡ None) ⊎ (received ≡ (after_input i o).0.received)
unfolding run_bytes
by_input o (Some piece) received orderly w = on_the_way o piece received orderly w
by_input o None received orderly w = elim (on_the_way o [] received orderly w) [
  | inl none ↦ inl none
  | inr same ↦ inr (same ∙ sym (cut_keeps o))
]

-- what a step's contract says of a session that has the standing of a stream
pub continues : (side : Side) (kept : ReplicaValue) (h : Heard) (i : Option (List ℕ)) (old new : Standing) (sent : List ℕ) → Steps old i new sent → old ≡ (course side kept h).0 → Continues side kept h i new sent
unfolding after_step
continues side kept h i old new sent steps is =
    let c = course side kept h in
    let more : course side kept (heard_more h i) ≡ then_more c (step_on i) = course_steps side kept h i in
    elim steps [
      | inl done ↦ inl (record {
        standing = done.0 ∙ ap (λ (s : Standing). (after_step s i).0) is ∙ ap (λ (p : Sent). p.0) (sym more);
        beyond = ap (λ (p : Sent). p.1) more ∙ ap (λ (s : Standing). c.1 ++ (after_step s i).1) (sym is) ∙ ap (λ (x : List ℕ). c.1 ++ x) (sym done.1);
      })
      | inr out ↦
          let orderly : IsOrderly old = subst IsOrderly (sym is) (course_orderly side kept h) in
          let o = (after_opening old).0 in
          let keeps = opening_keeps old in
          let orderly-now : IsOrderly o = elim orderly [ inl none ↦ inl (keeps.0 ∙ none) | inr bye ↦ inr (bye.0, keeps.1 ∙ bye.1) ] in
          let end : (after_step old i).0 ≡ (after_input i o).0 = ap (λ (p : Sent). p.0) (going_goes old.ended (then_more (after_opening old) (after_input i)) (old, []) out.0) in
          let end-course : (after_input i o).0.received ≡ (course side kept (heard_more h i)).0.received =
          ap (λ (s : Standing). s.received) (sym end) ∙ ap (λ (s : Standing). (after_step s i).0.received) is ∙ ap (λ (p : Sent). p.0.received) (sym more) in
          inr (record {
            ended = out.1;
            received = elim (by_input o i new.received orderly-now out.2) [ inl none ↦ inl none | inr same ↦ inr (same ∙ end-course) ];
            stays = elim ((run_follows out.2.0 o).received orderly-now) [
              | inl none ↦ inl (ap (λ (s : Standing). s.received) (sym is) ∙ sym keeps.0 ∙ none)
              | inr same ↦ inr (out.2.3 ∙ same ∙ keeps.0 ∙ ap (λ (s : Standing). s.received) is)
            ];
            last_word = out.3;
          })
    ]

-- ---- in the words of the code

-- a step was taken whole
pub took : (old new : Standing) (i : Option (List ℕ)) (before sent : List ℕ) → old.ended ≡ Going → before ≡ []
    → (new ≡ (then_more (after_opening old) (after_input i)).0) × (sent ≡ before ++ (then_more (after_opening old) (after_input i)).1) → Steps old i new sent
unfolding after_step
took old new i before sent going none done =
    let go = going_goes old.ended (then_more (after_opening old) (after_input i)) (old, []) going in
    inl (done.0 ∙ ap (λ (p : Sent). p.0) (sym go), done.1 ∙ ap (λ (x : List ℕ). x ++ (then_more (after_opening old) (after_input i)).1) none ∙ ap (λ (p : Sent). p.1) (sym go))

-- memory ran out in it
pub gave_up : (old mid new : Standing) (i : Option (List ℕ)) (sent : List ℕ) → old.ended ≡ Going → ReceivedOnTheWay (after_opening old).0 (piece_of i) mid.received
    → new ≡ failure mid Memory → steps.IsLastWord sent → StepTakesMemory old i → Steps old i new sent
gave_up old mid new i sent going way is word takes =
    inr (going, ap (λ (s : Standing). s.ended) is, (way.0, way.1, way.2, ap (λ (s : Standing). s.received) is ∙ way.3), word, takes)

-- nothing is done after the end
pub rests : (s : Standing) (i : Option (List ℕ)) (sent : List ℕ) → IsOver s.ended → sent ≡ [] → Steps s i s sent
rests s i sent over none = let e = stepped_over s i over in inl (ap (λ (p : Sent). p.0) (sym e), none ∙ ap (λ (p : Sent). p.1) (sym e))

cut_by_silent : (e : Ended) (s : Standing) → (when_going {A = Sent} e (failure s PeerEnded, []) (s, [])).1 ≡ []
cut_by_silent Going s = refl
cut_by_silent Done s = refl
cut_by_silent (Failed f) s = refl

-- nothing comes, and the step takes no memory
pub takes_none : (old new : Standing) (i : Option (List ℕ)) (sent : List ℕ) → Steps old i new sent → TakesNoMemory old i → (new ≡ (after_step old i).0) × (sent ≡ (after_step old i).1)
takes_none old new i sent steps nothing = elim steps [ inl done ↦ done | inr out ↦ absurd (out.4 nothing) ]

-- the end comes to a session that has begun
pub ends : (old new : Standing) (i : Option (List ℕ)) (sent : List ℕ) → Steps old i new sent → old.begun ≡ true → i ≡ None → (new ≡ (cut_off old).0) × (sent ≡ [])
ends old new i sent steps begun none =
    let done = takes_none old new i sent steps (ap piece_of none, inl begun) in
    let e : after_step old i ≡ cut_off old = stepped_begun old i begun ∙ ap (λ (j : Option (List ℕ)). after_input j old) none in
    (done.0 ∙ ap (λ (p : Sent). p.0) e, done.1 ∙ ap (λ (p : Sent). p.1) e ∙ cut_by_silent old.ended old)

-- nothing was taken yet, so what was received stayed
pub at_first : (old : Standing) (i : Option (List ℕ)) (received : Option Delivery) → received ≡ old.received → ReceivedOnTheWay (after_opening old).0 (piece_of i) received
unfolding run_bytes
at_first old i received e = ([], piece_of i, refl, e ∙ sym (opening_keeps old).0)

-- a client begins, which takes memory
pub client_begins : (s : Standing) (i : Option (List ℕ)) → (s.begun ≡ false) × (s.side ≢ Server) → StepTakesMemory s i
client_begins s i first = λ nothing. elim nothing.1 [
  | inl begun ↦ absurd (let bad : false ≡ true = sym first.0 ∙ begun in cc)
  | inr server ↦ absurd (first.1 server)
]

-- ---- after the end

-- once a session has ended, more of the stream changes nothing
pub over_more : (side : Side) (kept : ReplicaValue) (h : Heard) (i : Option (List ℕ)) → IsOver (course side kept h).0.ended → course side kept (heard_more h i) ≡ course side kept h
over_more side kept h i over =
    let c = course side kept h in
    course_steps side kept h i ∙ then_same c (step_on i) (λ s. (s, [])) (stepped_over c.0 i over) ∙ nothing_more c

pub over_all : (side : Side) (kept : ReplicaValue) (x y : List ℕ) → IsOver (course side kept (So_far x)).0.ended → course side kept (All_of (x ++ y)) ≡ course side kept (So_far x)
over_all side kept x y over =
    let more : course side kept (So_far (x ++ y)) ≡ course side kept (So_far x) = over_more side kept (So_far x) (Some y) over in
    over_more side kept (So_far (x ++ y)) None (subst (λ (p : Sent). IsOver p.0.ended) (sym more) over) ∙ more

-- what was received stays
pub received_stays : (side : Side) (kept : ReplicaValue) (h : Heard) (i : Option (List ℕ)) → ((course side kept h).0.received ≡ None) ⊎ ((course side kept (heard_more h i)).0.received ≡ (course side kept h).0.received)
unfolding course
received_stays side kept Nothing i = inl refl
received_stays side kept (So_far x) (Some y) =
    let o = after_opening (fresh side kept) in
    let mid = (run_bytes x o.0).0 in
    let e : run_bytes (x ++ y) o.0 ≡ then_more (run_bytes x o.0) (run_bytes y) = run-append x y o.0 in
    elim ((run_follows y mid).received (course_orderly side kept (So_far x))) [
      | inl none ↦ inl none
      | inr same ↦ inr (ap (λ (p : Sent). p.0.received) e ∙ same)
    ]
received_stays side kept (So_far x) None = inr (cut_keeps (course side kept (So_far x)).0)
received_stays side kept (All_of x) i = inr refl

pub all_over : (side : Side) (kept : ReplicaValue) (x : List ℕ) → IsOver (course side kept (All_of x)).0.ended
unfolding course
all_over side kept x = let s = (course side kept (So_far x)).0 in over_cut s.ended s refl
