-- Bytes that come one after the other, in any pieces.
use Rattle.std.proofs.Common.{◌≡◌, ℕ, ◌<◌, List, [], ◌∷◌, ◌++◌, length, refl, sym, ap, ◌∙◌, append_assoc, subst, arith, length-append, ◌⊎◌, inl, inr}
use Rattle.std.proofs.lemmas.List.{append-nil}
use Rattle.rds_names.specs.declared.fault.Fault.{Fault}
use Rattle.rds_names.specs.declared.fault.Fault.TheVariants.{TooLong}
use Rattle.rds_session.specs.declared.step.Ended.{Ended}
use Rattle.rds_session.specs.declared.step.Ended.TheVariants.{Going, Done, Failed}
use Rattle.rds_session.specs.Chunks.{Under, start_of_chunks, message_in_chunks, Scan, More, Whole, Long, byte_scanned, scan_on, scan}
use Rattle.rds_session.specs.Messages.{bye_message, code_of}
use Rattle.rds_session.specs.Session.{Standing, Sent, then_more, when_going, failure, refuses, message_comes, after_scan, stay, byte_comes, run_bytes}
use Rattle.rds_session.specs.Steps.{Ran, IsOver}

pub over_stays : {A : Type 0} (e : Ended) (x y : A) → IsOver e → when_going e x y ≡ y
over_stays Going x y h = absurd h
over_stays Done x y h = refl
over_stays (Failed f) x y h = refl

-- after the end nothing changes
pub run_over : (bs : List ℕ) (s : Standing) → IsOver s.ended → run_bytes bs s ≡ (s, [])
unfolding run_bytes
run_over [] s h = refl
run_over (b ∷ bs) s h = over_stays s.ended (then_more (byte_comes s b) (run_bytes bs)) (s, []) h

pub then_same : (p : Sent) (go to : Standing → Sent) → go p.0 ≡ to p.0 → then_more p go ≡ then_more p to
then_same p go to e = ap (λ (q : Sent). (q.0, p.1 ++ q.1)) e

then_assoc : (p : Sent) (go to : Standing → Sent) → then_more (then_more p go) to ≡ then_more p (λ s. then_more (go s) to)
then_assoc p go to = ap (λ (x : List ℕ). ((to (go p.0).0).0, x)) (append_assoc p.1 (go p.0).1 (to (go p.0).0).1)

append_by : (e : Ended) (p : Sent) (bs y : List ℕ) (s : Standing) → s.ended ≡ e → run_bytes (bs ++ y) p.0 ≡ then_more (run_bytes bs p.0) (run_bytes y)
    → when_going e (then_more p (run_bytes (bs ++ y))) (s, []) ≡ then_more (when_going e (then_more p (run_bytes bs)) (s, [])) (run_bytes y)
append_by Going p bs y s is so_far = then_same p (run_bytes (bs ++ y)) (λ t. then_more (run_bytes bs t) (run_bytes y)) so_far ∙ sym (then_assoc p (run_bytes bs) (run_bytes y))
append_by Done p bs y s is so_far = sym (run_over y s (subst IsOver (sym is) tt))
append_by (Failed f) p bs y s is so_far = sym (run_over y s (subst IsOver (sym is) tt))

-- pieces may be cut anywhere
pub run-append : (x y : List ℕ) (s : Standing) → run_bytes (x ++ y) s ≡ then_more (run_bytes x s) (run_bytes y)
unfolding run_bytes
run-append [] y s = refl
run-append (b ∷ x) y s = append_by s.ended (byte_comes s b) x y s refl (run-append x y (byte_comes s b).0)

pub going_goes : {A : Type 0} (e : Ended) (x y : A) → e ≡ Going → when_going e x y ≡ x
going_goes Going x y h = refl
going_goes Done x y h = absurd cc
going_goes (Failed f) x y h = absurd cc

abbrev pub with_under : Standing → Under → Standing
with_under s u = record s { under = u }

scanned_under : (s : Standing) (u : Under) (sc : Scan) → after_scan (with_under s u) sc run_bytes ≡ after_scan s sc run_bytes
scanned_under s u (More v) = refl
scanned_under s u (Whole m rest) = refl
scanned_under s u Long = refl

by_scan : (s : Standing) (b : ℕ) (bs : List ℕ) (sc : Scan) → s.ended ≡ Going → ((t : Standing) → t.ended ≡ Going → run_bytes bs t ≡ after_scan t (scan bs t.under) run_bytes)
    → then_more (after_scan s sc stay) (run_bytes bs) ≡ after_scan s (scan_on sc bs (scan bs)) run_bytes
by_scan s b bs (More u) going rec = rec (with_under s u) going ∙ scanned_under s u (scan bs u)
by_scan s b bs (Whole m r) going rec =
    let p = message_comes (with_under s start_of_chunks) m in
    ap (λ (x : List ℕ). ((run_bytes bs p.0).0, x ++ (run_bytes bs p.0).1)) (append-nil p.1)
by_scan s b bs Long going rec =
    let t = failure s TooLong in
    let bye = message_in_chunks (bye_message (code_of TooLong)) in
    let over : run_bytes bs t ≡ (t, []) = run_over bs t tt in
    ap (λ (q : Sent). (q.0, bye ++ q.1)) over ∙ ap (λ (x : List ℕ). (t, x)) (append-nil bye)

-- bytes are scanned up to the end of a message
pub run-scan : (bs : List ℕ) (s : Standing) → s.ended ≡ Going → run_bytes bs s ≡ after_scan s (scan bs s.under) run_bytes
unfolding run_bytes scan
run-scan [] s going = refl
run-scan (b ∷ bs) s going =
    going_goes s.ended (then_more (byte_comes s b) (run_bytes bs)) (s, []) going ∙ by_scan s b bs (byte_scanned s.under.place s.under.held b) going (run-scan bs)

-- where a message ends
pub record EndsAt (piece rest : List ℕ) (u : Under) (m : List ℕ) : Type 0 where
  pub front : List ℕ
  pub split : piece ≡ front ++ rest
  pub some : 0 < length front
  pub whole : scan front u ≡ Whole m []

ends_by : (b : ℕ) (bs rest : List ℕ) (u : Under) (m : List ℕ) (sc : Scan) → byte_scanned u.place u.held b ≡ sc → scan_on sc bs (scan bs) ≡ Whole m rest
    → ((v : Under) → scan bs v ≡ Whole m rest → EndsAt bs rest v m) → EndsAt (b ∷ bs) rest u m
unfolding scan
ends_by b bs rest u m (More v) is e rec =
    let r = rec v e in
    record { front = b ∷ r.front; split = ap (λ (x : List ℕ). b ∷ x) r.split; some = omega arith; whole = rw is r.whole }
ends_by b bs rest u m (Whole n more) is e rec =
    let same-rest : bs ≡ rest = cc in
    let same : n ≡ m = cc in
    record { front = b ∷ []; split = ap (λ (x : List ℕ). b ∷ x) same-rest; some = omega arith; whole = rw (is, same) refl }
ends_by b bs rest u m Long is e rec = absurd (let bad : Long ≡ Whole m rest = e in cc)

pub scan_ends : (bs rest : List ℕ) (u : Under) (m : List ℕ) → scan bs u ≡ Whole m rest → EndsAt bs rest u m
unfolding scan
scan_ends [] rest u m e = absurd (let bad : More u ≡ Whole m rest = e in cc)
scan_ends (b ∷ bs) rest u m e = ends_by b bs rest u m (byte_scanned u.place u.held b) refl e (λ v h. scan_ends bs rest v m h)

-- ---- what one message of a piece makes

pub ran_over : (s : Standing) (sent piece : List ℕ) → IsOver s.ended → Ran s sent piece s sent []
ran_over s sent piece over =
    let e = run_over piece s over in
    record { front = piece; split = sym (append-nil piece); now = ap (λ (q : Sent). q.0) (sym e); said = sym (append-nil sent) ∙ ap (λ (q : Sent). sent ++ q.1) (sym e) }

pub ran_more : (s : Standing) (sent piece : List ℕ) (u : Under) → s.ended ≡ Going → scan piece s.under ≡ More u → Ran s sent piece (with_under s u) sent []
ran_more s sent piece u going e =
    let r : run_bytes piece s ≡ (with_under s u, []) = run-scan piece s going ∙ ap (λ (sc : Scan). after_scan s sc run_bytes) e in
    record { front = piece; split = sym (append-nil piece); now = ap (λ (q : Sent). q.0) (sym r); said = sym (append-nil sent) ∙ ap (λ (q : Sent). sent ++ q.1) (sym r) }

pub ran_long : (s new : Standing) (sent more piece : List ℕ) → s.ended ≡ Going → scan piece s.under ≡ Long → new ≡ (refuses s TooLong).0 → more ≡ sent ++ (refuses s TooLong).1 → Ran s sent piece new more []
ran_long s new sent more piece going e now said =
    let r : run_bytes piece s ≡ refuses s TooLong = run-scan piece s going ∙ ap (λ (sc : Scan). after_scan s sc run_bytes) e in
    record { front = piece; split = sym (append-nil piece); now = now ∙ ap (λ (q : Sent). q.0) (sym r); said = said ∙ ap (λ (q : Sent). sent ++ q.1) (sym r) }

pub ran_message : (s new : Standing) (sent more piece rest m : List ℕ) → s.ended ≡ Going → scan piece s.under ≡ Whole m rest
    → new ≡ (message_comes (with_under s start_of_chunks) m).0 → more ≡ sent ++ (message_comes (with_under s start_of_chunks) m).1 → Ran s sent piece new more rest
unfolding run_bytes
ran_message s new sent more piece rest m going e now said =
    let at = scan_ends piece rest s.under m e in
    let p = message_comes (with_under s start_of_chunks) m in
    let r : run_bytes at.front s ≡ p = run-scan at.front s going ∙ ap (λ (sc : Scan). after_scan s sc run_bytes) at.whole ∙ ap (λ (x : List ℕ). (p.0, x)) (append-nil p.1) in
    record { front = at.front; split = at.split; now = now ∙ ap (λ (q : Sent). q.0) (sym r); said = said ∙ ap (λ (q : Sent). sent ++ q.1) (sym r) }

pub rest_less : (s : Standing) (piece rest m : List ℕ) → scan piece s.under ≡ Whole m rest → length rest < length piece
rest_less s piece rest m e =
    let at = scan_ends piece rest s.under m e in
    omega (arith, at.some, ap length at.split, length-append at.front rest)

-- ---- one after the other

pub ran_then : (a b c : Standing) (x y z p q r : List ℕ) → Ran a x p b y q → Ran b y q c z r → Ran a x p c z r
ran_then a b c x y z p q r first second =
    let both : run_bytes (first.front ++ second.front) a ≡ then_more (run_bytes first.front a) (run_bytes second.front) = run-append first.front second.front a in
    record {
      front = first.front ++ second.front;
      split = first.split ∙ ap (λ (t : List ℕ). first.front ++ t) second.split ∙ sym (append_assoc first.front second.front r);
      now = second.now ∙ ap (λ (t : Standing). (run_bytes second.front t).0) first.now ∙ ap (λ (t : Sent). t.0) (sym both);
      said = second.said ∙ ap (λ (t : List ℕ). t ++ (run_bytes second.front b).1) first.said ∙ append_assoc x (run_bytes first.front a).1 (run_bytes second.front b).1
          ∙ ap (λ (t : Standing). x ++ ((run_bytes first.front a).1 ++ (run_bytes second.front t).1)) first.now ∙ ap (λ (t : Sent). x ++ t.1) (sym both);
    }

pub ran_none : (s : Standing) (sent piece : List ℕ) → Ran s sent piece s sent piece
unfolding run_bytes
ran_none s sent piece = record { front = []; split = refl; now = refl; said = sym (append-nil sent) }

pub ran_all : (s new : Standing) (sent more piece rest : List ℕ) → length rest ≡ 0 → Ran s sent piece new more rest → (new ≡ (run_bytes piece s).0) × (more ≡ sent ++ (run_bytes piece s).1)
ran_all s new sent more piece [] none r =
    let whole : r.front ≡ piece = sym (r.split ∙ append-nil r.front) in
    (r.now ∙ ap (λ (x : List ℕ). (run_bytes x s).0) whole, r.said ∙ ap (λ (x : List ℕ). sent ++ (run_bytes x s).1) whole)
ran_all s new sent more piece (b ∷ rest) none r = absurd (omega arith)

-- ---- in the words of the code

pub over_is : (e : Ended) → (e ≡ Done) ⊎ ((f : Fault) × (e ≡ Failed f)) → IsOver e
over_is e h = elim h [ inl d ↦ subst IsOver (sym d) tt | inr f ↦ subst IsOver (sym f.1) tt ]

pub ran_whole : (s mid new : Standing) (sent more piece rest m n : List ℕ) → s.ended ≡ Going → scan piece s.under ≡ Whole m rest → mid ≡ with_under s start_of_chunks → n ≡ m
    → (new ≡ (message_comes mid n).0) × (more ≡ sent ++ (message_comes mid n).1) → Ran s sent piece new more rest
ran_whole s mid new sent more piece rest m n going e mid-is same done =
    let at : message_comes mid n ≡ message_comes (with_under s start_of_chunks) m = ap (λ (v : Standing). message_comes v n) mid-is ∙ ap (λ (x : List ℕ). message_comes (with_under s start_of_chunks) x) same in
    ran_message s new sent more piece rest m going e (done.0 ∙ ap (λ (q : Sent). q.0) at) (done.1 ∙ ap (λ (q : Sent). sent ++ q.1) at)

pub ran_too_long : (s mid new : Standing) (sent more piece : List ℕ) → s.ended ≡ Going → scan piece s.under ≡ Long → mid ≡ with_under s start_of_chunks
    → (new ≡ (refuses mid TooLong).0) × (more ≡ sent ++ (refuses mid TooLong).1) → Ran s sent piece new more []
ran_too_long s mid new sent more piece going e mid-is done =
    let at : refuses mid TooLong ≡ refuses s TooLong = ap (λ (v : Standing). refuses v TooLong) mid-is in
    ran_long s new sent more piece going e (done.0 ∙ ap (λ (q : Sent). q.0) at) (done.1 ∙ ap (λ (q : Sent). sent ++ q.1) at)

pub ran_on : (s new : Standing) (sent piece : List ℕ) (u : Under) → s.ended ≡ Going → scan piece s.under ≡ More u → new ≡ with_under s u → Ran s sent piece new sent []
ran_on s new sent piece u going e is = subst (λ (t : Standing). Ran s sent piece t sent []) (sym is) (ran_more s sent piece u going e)
