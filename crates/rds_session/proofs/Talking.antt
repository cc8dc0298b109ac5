-- The course of a stream, message by message.
use Rattle.std.proofs.Common.{◌≡◌, ℕ, ◌+◌, ◌-◌, ◌*◌, ◌≤◌, Bool, true, false, cond, eqb, ltb, List, [], ◌∷◌, ◌++◌, length, refl, sym, ap, ◌∙◌, append_assoc, subst, inl, inr, arith, map, Result, Ok, Err}
use Rattle.std.specs.List.{flat_map, AllByRecursion}
use Rattle.std.proofs.lemmas.Bool.{cases_lt, lt-ltb, le-ltb, ne_eqb}
use Rattle.std.proofs.lemmas.List.{append-nil}
use Rattle.std.proofs.lemmas.List.Concat.{flat_map-cons}
use Rattle.rds_names.specs.declared.fault.Fault.TheVariants.{TooLong}
use Rattle.rds_state.specs.Fits.{ReplicaValue}
use Rattle.rds_session.specs.declared.chunks.TheConstants.{MESSAGE_LIMIT}
use Rattle.rds_session.specs.declared.chunks.Place.TheVariants.{First, Second, Within}
use Rattle.rds_session.specs.declared.talk.Side.{Side}
use Rattle.rds_session.specs.declared.talk.Stop.{Stop}
use Rattle.rds_session.specs.declared.talk.Stop.TheVariants.{Refused, Left}
use Rattle.rds_session.specs.declared.step.Ended.{Ended}
use Rattle.rds_session.specs.declared.step.Ended.TheVariants.{Going, Done, Failed}
use Rattle.rds_session.specs.Chunks.{Under, start_of_chunks, Scan, More, Whole, Long, scan, chunk_text, message_text}
use Rattle.rds_session.specs.Stream.{AreChunks, contents_of, IsPart, IsChunkFront}
use Rattle.rds_session.specs.Judging.{Said, verdict, replies_of}
use Rattle.rds_session.specs.Sending.{sending}
use Rattle.rds_session.specs.Steps.{IsOver}
use Rattle.rds_session.specs.Session.{Standing, Sent, fresh, failure, then_more, when_going, refuses, after_sending, after_said, after_verdict, message_comes, after_scan, run_bytes, after_opening, opening, course}
use Rattle.rds_session.specs.ByMessages.{content_of, after_message, talk, IsByMessages, IsQuiet}
use Rattle.rds_session.proofs.Messages.{scan_message, scan_message_long, scan_chunks}
use Rattle.rds_session.proofs.Scans.{at, at-place, scan_run}
use Rattle.rds_session.proofs.Runs.{run_over, run-scan, with_under}

-- between messages nothing is held
sending_under : (s : Standing) (p : List ℕ × Bool) (all : Bool) → p.1 ≡ all → s.under ≡ start_of_chunks → (after_sending s p).0.under ≡ start_of_chunks
sending_under s p true e h = rw e h
sending_under s p false e h = rw e refl

answered_under : (s : Standing) (r : Result Said Stop) → s.under ≡ start_of_chunks → (after_verdict s r).0.under ≡ start_of_chunks
answered_under s (Ok said) h = let p = sending (replies_of s.side s.kept s.turn said) in sending_under (after_said s said) p p.1 refl h
answered_under s (Err (Refused f)) h = refl
answered_under s (Err (Left f)) h = refl

message_under : (s : Standing) (m : List ℕ) → s.under ≡ start_of_chunks → (message_comes s m).0.under ≡ start_of_chunks
unfolding message_comes
message_under s m h = answered_under s (verdict s.kept s.turn m) h

judged_by : (s : Standing) (m : List ℕ) (b : Bool) → s.under ≡ start_of_chunks → (cond b (refuses s TooLong) (message_comes s m)).0.under ≡ start_of_chunks
judged_by s m true h = refl
judged_by s m false h = message_under s m h

judged_under : (s : Standing) (m : List ℕ) → s.under ≡ start_of_chunks → (after_message s m).0.under ≡ start_of_chunks
judged_under s m h = judged_by s m (ltb MESSAGE_LIMIT (length m)) h

-- a whole message comes
one_comes : (s : Standing) (cs : List (List ℕ)) (more : List ℕ) → s.ended ≡ Going → s.under ≡ start_of_chunks → AreChunks cs → run_bytes (message_text cs ++ more) s ≡ then_more (after_message s (contents_of cs)) (run_bytes more)
one_comes s cs more going at chunks =
    let m = contents_of cs in
    let here : with_under s start_of_chunks ≡ s = ap (with_under s) (sym at) in
    elim (cases_lt MESSAGE_LIMIT (length m)) [
      | inl long ↦
          let test : ltb MESSAGE_LIMIT (length m) ≡ true = lt-ltb _ _ long in
          let sc : scan (message_text cs ++ more) s.under ≡ Long =
          ap (scan (message_text cs ++ more)) at ∙ ap (λ (t : List ℕ). scan t start_of_chunks) (append_assoc (flat_map chunk_text cs) (0 ∷ 0 ∷ []) more) ∙ scan_message_long cs (0 ∷ 0 ∷ more) [] chunks (omega arith) (omega arith) in
          let t = failure s TooLong in
          let last : then_more (refuses s TooLong) (run_bytes more) ≡ refuses s TooLong = ap (λ (q : Sent). (q.0, (refuses s TooLong).1 ++ q.1)) (run_over more t tt) ∙ ap (λ (x : List ℕ). (t, x)) (append-nil (refuses s TooLong).1) in
          run-scan (message_text cs ++ more) s going ∙ ap (λ (x : Scan). after_scan s x run_bytes) sc ∙ sym last ∙ rw test refl
      | inr room ↦
          let test : ltb MESSAGE_LIMIT (length m) ≡ false = le-ltb _ _ room in
          let sc : scan (message_text cs ++ more) s.under ≡ Whole m more = ap (scan (message_text cs ++ more)) at ∙ scan_message cs more chunks room in
          run-scan (message_text cs ++ more) s going ∙ ap (λ (x : Scan). after_scan s x run_bytes) sc ∙ ap (λ (t : Standing). then_more (message_comes t m) (run_bytes more)) here ∙ rw test refl
    ]

talk_by : (e : Ended) (s : Standing) (cs : List (List ℕ)) (ms : List (List ℕ)) (more rest : List ℕ) → s.ended ≡ e → s.under ≡ start_of_chunks → AreChunks cs
    → ((t : Standing) → t.under ≡ start_of_chunks → run_bytes more t ≡ then_more (talk ms t) (run_bytes rest))
    → run_bytes (message_text cs ++ more) s ≡ then_more (when_going e (then_more (after_message s (contents_of cs)) (talk ms)) (s, [])) (run_bytes rest)
talk_by Going s cs ms more rest is at chunks rec =
    let p = after_message s (contents_of cs) in
    one_comes s cs more is at chunks ∙ ap (λ (q : Sent). (q.0, p.1 ++ q.1)) (rec p.0 (judged_under s (contents_of cs) at))
    ∙ ap (λ (x : List ℕ). ((run_bytes rest (talk ms p.0).0).0, x)) (sym (append_assoc p.1 (talk ms p.0).1 (run_bytes rest (talk ms p.0).0).1))
talk_by Done s cs ms more rest is at chunks rec = run_over (message_text cs ++ more) s (subst IsOver (sym is) tt) ∙ sym (run_over rest s (subst IsOver (sym is) tt))
talk_by (Failed f) s cs ms more rest is at chunks rec = run_over (message_text cs ++ more) s (subst IsOver (sym is) tt) ∙ sym (run_over rest s (subst IsOver (sym is) tt))

pub run_talk : (cuts : List (List (List ℕ))) (rest : List ℕ) (s : Standing) → AllByRecursion AreChunks cuts → s.under ≡ start_of_chunks
    → run_bytes (flat_map message_text cuts ++ rest) s ≡ then_more (talk (map contents_of cuts) s) (run_bytes rest)
run_talk [] rest s h at = refl
run_talk (cs ∷ cuts) rest s h at =
    let one : flat_map message_text (cs ∷ cuts) ++ rest ≡ message_text cs ++ (flat_map message_text cuts ++ rest) =
    ap (λ (t : List ℕ). t ++ rest) (flat_map-cons message_text cs cuts) ∙ append_assoc (message_text cs) (flat_map message_text cuts) rest in
    ap (λ (t : List ℕ). run_bytes t s) one
    ∙ talk_by s.ended s cs (map contents_of cuts) (flat_map message_text cuts ++ rest) rest refl at h.0 (λ t e. run_talk cuts rest t h.1 e)

opened_under : (side : Side) (kept : ReplicaValue) → (after_opening (fresh side kept)).0.under ≡ start_of_chunks
unfolding after_opening
opened_under side kept = let p = sending (opening side kept) in sending_under (record (fresh side kept) { begun = true }) p p.1 refl refl

pub by_messages : IsByMessages
unfolding course
by_messages side kept x ms rest r =
    let o = after_opening (fresh side kept) in
    let e : run_bytes x o.0 ≡ then_more (talk ms o.0) (run_bytes rest) =
    ap (λ (t : List ℕ). run_bytes t o.0) r.split ∙ run_talk r.cuts rest o.0 r.are_cuts (opened_under side kept) ∙ ap (λ (t : List (List ℕ)). then_more (talk t o.0) (run_bytes rest)) r.joined_are in
    ap (λ (q : Sent). (q.0, o.1 ++ q.1)) e ∙ ap (λ (t : List ℕ). ((run_bytes rest (talk ms o.0).0).0, t)) (sym (append_assoc o.1 (talk ms o.0).1 (run_bytes rest (talk ms o.0).0).1))

-- less than a message is not answered
front_more : (front held : List ℕ) → IsChunkFront front → length held + (length front - 2) ≤ MESSAGE_LIMIT → (u : Under) × (scan front (at-place First held) ≡ More u)
unfolding scan
front_more [] held h room = (at-place First held, refl)
front_more (high ∷ []) held h room = (record { place = Second high; held = held }, refl)
front_more (high ∷ low ∷ c) held h room =
    let n = high * 256 + low in
    let some : eqb n 0 ≡ false = ne_eqb n 0 (omega arith) in
    let run-all : scan (c ++ []) (at n held) ≡ scan [] (at (n - length c) (held ++ c)) = scan_run c [] n held (omega arith) (omega arith) in
    let w : at n held ≡ at-place (Within n) held = rw some refl in
    (at (n - length c) (held ++ c), rw some (ap (scan c) (sym w) ∙ ap (λ (t : List ℕ). scan t (at n held)) (sym (append-nil c)) ∙ run-all))

part_more : (rest : List ℕ) (p : IsPart rest) → content_of p ≤ MESSAGE_LIMIT → (u : Under) × (scan rest start_of_chunks ≡ More u)
part_more rest p room =
    let f = front_more p.front (contents_of p.chunks) p.is_front room in
    (f.0, ap (λ (t : List ℕ). scan t start_of_chunks) p.split ∙ scan_chunks p.chunks p.front [] p.are_chunks (omega (arith, room)) ∙ f.1)

quiet_by : (e : Ended) (s : Standing) (rest : List ℕ) → s.ended ≡ e → s.under ≡ start_of_chunks → (p : IsPart rest) → content_of p ≤ MESSAGE_LIMIT → ((run_bytes rest s).1 ≡ []) × ((run_bytes rest s).0.ended ≡ s.ended)
quiet_by Going s rest is at p room =
    let f = part_more rest p room in
    let r : run_bytes rest s ≡ (with_under s f.0, []) = run-scan rest s is ∙ ap (λ (u : Under). after_scan s (scan rest u) run_bytes) at ∙ ap (λ (x : Scan). after_scan s x run_bytes) f.1 in
    (ap (λ (q : Sent). q.1) r, ap (λ (q : Sent). q.0.ended) r)
quiet_by Done s rest is at p room = let r = run_over rest s (subst IsOver (sym is) tt) in (ap (λ (q : Sent). q.1) r, ap (λ (q : Sent). q.0.ended) r)
quiet_by (Failed x) s rest is at p room = let r = run_over rest s (subst IsOver (sym is) tt) in (ap (λ (q : Sent). q.1) r, ap (λ (q : Sent). q.0.ended) r)

pub is_quiet : IsQuiet
is_quiet s rest at p room = quiet_by s.ended s rest refl at p room
