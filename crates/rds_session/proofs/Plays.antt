-- Two sides that speak by turns: what each says in all, and each prefix of it.
use Rattle.std.proofs.Common.{◌≡◌, ℕ, ◌≤◌, Bool, true, false, cond, ltb, List, [], ◌∷◌, ◌++◌, length, Ok, refl, sym, ap, ◌∙◌, append_assoc, subst, ◌⊎◌, inl, inr}
use Rattle.std.specs.List.{flat_map, AllByRecursion}
use Rattle.std.proofs.lemmas.Bool.{le-ltb}
use Rattle.std.proofs.lemmas.List.{append-nil}
use Rattle.rds_names.specs.declared.fault.Fault.TheVariants.{TooLong}
use Rattle.rds_session.specs.declared.chunks.TheConstants.{MESSAGE_LIMIT}
use Rattle.rds_session.specs.declared.step.Ended.{Ended}
use Rattle.rds_session.specs.declared.step.Ended.TheVariants.{Going}
use Rattle.rds_session.specs.Chunks.{Under, start_of_chunks, Scan, Whole, scan, message_in_chunks}
use Rattle.rds_session.specs.Judging.{Said, verdict, replies_of}
use Rattle.rds_session.specs.ByMessages.{after_message, talk}
use Rattle.rds_session.specs.Meeting.{IsBeginningOf}
use Rattle.rds_session.specs.Sending.{sending, then_sent}
use Rattle.rds_session.specs.Session.{Standing, Sent, then_more, when_going, refuses, after_sending, after_said, after_verdict, message_comes, after_scan, run_bytes, opening, after_opening}
use Rattle.rds_session.specs.Steps.{IsOver}
use Rattle.rds_session.proofs.Messages.{scan_spelled}
use Rattle.rds_session.proofs.Runs.{run-append, run-scan, run_over}

-- ---- sending

abbrev pub texts : List (List ℕ) → List ℕ
texts [] = []
texts (m ∷ ms) = message_in_chunks m ++ texts ms

abbrev pub Fits : List ℕ → Type 0
Fits m = length m ≤ MESSAGE_LIMIT

all_sent : (ms : List (List ℕ)) → AllByRecursion Fits ms → sending ms ≡ (texts ms, true)
unfolding sending
all_sent [] h = refl
all_sent (m ∷ ms) h = let fits : ltb MESSAGE_LIMIT (length m) ≡ false = le-ltb _ _ h.0 in rw fits (ap (then_sent (message_in_chunks m)) (all_sent ms h.1))

pub opened_by : (s : Standing) (ms : List (List ℕ)) → s.begun ≡ false → opening s.side s.kept ≡ ms → AllByRecursion Fits ms → after_opening s ≡ (record s { begun = true }, texts ms)
unfolding after_opening
opened_by s ms new is fit = rw new (ap (after_sending (record s { begun = true })) (ap sending is ∙ all_sent ms fit))

texts-append : (ms ns : List (List ℕ)) → texts (ms ++ ns) ≡ texts ms ++ texts ns
texts-append [] ns = refl
texts-append (m ∷ ms) ns = ap (λ (t : List ℕ). message_in_chunks m ++ t) (texts-append ms ns) ∙ sym (append_assoc (message_in_chunks m) (texts ms) (texts ns))

pub texts_are : (ms : List (List ℕ)) → texts ms ≡ flat_map message_in_chunks ms
texts_are [] = refl
texts_are (m ∷ ms) = ap (λ (t : List ℕ). message_in_chunks m ++ t) (texts_are ms)

-- ---- hearing

-- a message that is accepted, all of whose answers can be sent
comes : (s : Standing) (m : List ℕ) (act : Said) (ms : List (List ℕ)) → verdict s.kept s.turn m ≡ Ok act → replies_of s.side s.kept s.turn act ≡ ms → AllByRecursion Fits ms
    → message_comes s m ≡ (after_said s act, texts ms)
unfolding message_comes
comes s m act ms ok replies fit =
    let sent : sending (replies_of s.side s.kept s.turn act) ≡ (texts ms, true) = ap sending replies ∙ all_sent ms fit in
    ap (after_verdict s) ok ∙ ap (after_sending (after_said s act)) sent

hears : (s : Standing) (m more : List ℕ) (act : Said) (ms : List (List ℕ)) → s.ended ≡ Going → s.under ≡ start_of_chunks → Fits m → verdict s.kept s.turn m ≡ Ok act
    → replies_of s.side s.kept s.turn act ≡ ms → AllByRecursion Fits ms → run_bytes (message_in_chunks m ++ more) s ≡ then_more (after_said s act, texts ms) (run_bytes more)
hears s m more act ms going at room ok replies fit =
    let sc : scan (message_in_chunks m ++ more) s.under ≡ Whole m more = ap (scan (message_in_chunks m ++ more)) at ∙ scan_spelled m more room in
    let here : record s { under = start_of_chunks } ≡ s = ap (λ (u : Under). record s { under = u }) (sym at) in
    run-scan (message_in_chunks m ++ more) s going ∙ ap (λ (x : Scan). after_scan s x run_bytes) sc ∙ ap (λ (t : Standing). then_more (message_comes t m) (run_bytes more)) here ∙ ap (λ (p : Sent). then_more p (run_bytes more)) (comes s m act ms ok replies fit)

-- the same of messages, however they are cut
talked : (s : Standing) (m : List ℕ) (more : List (List ℕ)) (act : Said) (ms : List (List ℕ)) → s.ended ≡ Going → Fits m → verdict s.kept s.turn m ≡ Ok act
    → replies_of s.side s.kept s.turn act ≡ ms → AllByRecursion Fits ms → talk (m ∷ more) s ≡ then_more (after_said s act, texts ms) (talk more)
talked s m more act ms going room ok replies fit =
    let short : ltb MESSAGE_LIMIT (length m) ≡ false = le-ltb _ _ room in
    ap (λ (e : Ended). when_going {A = Sent} e (then_more (after_message s m) (talk more)) (s, [])) going
    ∙ ap (λ (long : Bool). then_more (cond long (refuses s TooLong) (message_comes s m)) (talk more)) short
    ∙ ap (λ (p : Sent). then_more p (talk more)) (comes s m act ms ok replies fit)

-- ---- one message after another

-- who hears these messages comes to a standing, and says these
pub record Talks (s : Standing) (ms : List (List ℕ)) (t : Standing) (out : List (List ℕ)) : Type 0 where
  pub runs : (more : List ℕ) → run_bytes (texts ms ++ more) s ≡ then_more (t, texts out) (run_bytes more)
  pub talks : (more : List (List ℕ)) → talk (ms ++ more) s ≡ then_more (t, texts out) (talk more)

pub one_talks : (s : Standing) (m : List ℕ) (act : Said) (out : List (List ℕ)) → s.ended ≡ Going → s.under ≡ start_of_chunks → Fits m → verdict s.kept s.turn m ≡ Ok act
    → replies_of s.side s.kept s.turn act ≡ out → AllByRecursion Fits out → Talks s (m ∷ []) (after_said s act) out
one_talks s m act out going at room ok replies fit = record {
  runs = λ more. ap (λ (t : List ℕ). run_bytes (t ++ more) s) (append-nil (message_in_chunks m)) ∙ hears s m more act out going at room ok replies fit;
  talks = λ more. talked s m more act out going room ok replies fit;
}

-- what is said on the way is said in all
said_then : (out put : List (List ℕ)) (t : Standing) (said : List ℕ) → ◌≡◌ {A = Sent} (t, texts out ++ (texts put ++ said)) (t, texts (out ++ put) ++ said)
said_then out put t said =
    ap (λ (x : List ℕ). (t, x)) (sym (append_assoc (texts out) (texts put) said) ∙ ap (λ (x : List ℕ). x ++ said) (sym (texts-append out put)))

pub talks_then : (s t u : Standing) (ms ns out put : List (List ℕ)) → Talks s ms t out → Talks t ns u put → Talks s (ms ++ ns) u (out ++ put)
talks_then s t u ms ns out put p q = record {
  runs = λ more.
      ap (λ (x : List ℕ). run_bytes (x ++ more) s) (texts-append ms ns) ∙ ap (λ (x : List ℕ). run_bytes x s) (append_assoc (texts ms) (texts ns) more) ∙ p.runs (texts ns ++ more)
      ∙ ap (λ (r : Sent). (r.0, texts out ++ r.1)) (q.runs more)
      ∙ said_then out put (run_bytes more u).0 (run_bytes more u).1;
  talks = λ more.
      ap (λ (x : List (List ℕ)). talk x s) (append_assoc ms ns more) ∙ p.talks (ns ++ more)
      ∙ ap (λ (r : Sent). (r.0, texts out ++ r.1)) (q.talks more)
      ∙ said_then out put (talk more u).0 (talk more u).1;
}

-- ---- beginnings

-- what a standing answers to bytes
unfoldable pub says : Standing → List ℕ → List ℕ
says s x = (run_bytes x s).1

cases_begin : (x u v : List ℕ) → IsBeginningOf x (u ++ v) → IsBeginningOf x u ⊎ ((more : List ℕ) × (x ≡ u ++ more) × IsBeginningOf more v)
cases_begin x [] v h = inr (x, refl, h)
cases_begin [] (b ∷ u) v h = inl (b ∷ u, refl)
cases_begin (c ∷ x) (b ∷ u) v h =
    let head : b ≡ c = cc (h.1) in
    let tail : u ++ v ≡ x ++ h.0 = cc (h.1) in
    elim (cases_begin x u v (h.0, tail)) [
      | inl p ↦ inl (p.0, ap (λ (t : ℕ). t ∷ u) head ∙ ap (λ (t : List ℕ). c ∷ t) p.1)
      | inr q ↦ inr (q.0, ap (λ (t : ℕ). t ∷ x) (sym head) ∙ ap (λ (t : List ℕ). b ∷ t) q.1, q.2)
    ]

begin_trans : (x y z : List ℕ) → IsBeginningOf x y → IsBeginningOf y z → IsBeginningOf x z
begin_trans x y z p q = (p.0 ++ q.0, q.1 ∙ ap (λ (t : List ℕ). t ++ q.0) p.1 ∙ append_assoc x p.0 q.0)

-- who hears a prefix says a prefix
says_begin : (s : Standing) (x y : List ℕ) → IsBeginningOf x y → IsBeginningOf (says s x) (says s y)
unfolding says
says_begin s x y h = (says (run_bytes x s).0 h.0, ap (λ (t : List ℕ). (run_bytes t s).1) h.1 ∙ ap (λ (p : Sent). p.1) (run-append x h.0 s))

begin_more : (u x y : List ℕ) → IsBeginningOf x y → IsBeginningOf (u ++ x) (u ++ y)
begin_more u x y h = (h.0, ap (λ (t : List ℕ). u ++ t) h.1 ∙ sym (append_assoc u x h.0))

begin_front : (x u v : List ℕ) → IsBeginningOf x u → IsBeginningOf x (u ++ v)
begin_front x u v h = begin_trans x u (u ++ v) h (v, refl)

begins_nothing : (x : List ℕ) → IsBeginningOf x [] → x ≡ []
begins_nothing [] h = refl
begins_nothing (b ∷ x) h = absurd (let bad : [] ≡ b ∷ (x ++ h.0) = h.1 in cc)

-- who has ended says nothing
says_over : (s : Standing) (x : List ℕ) → IsOver s.ended → says s x ≡ []
unfolding says
says_over s x over = ap (λ (p : Sent). p.1) (run_over x s over)

says_none : (s : Standing) → says s [] ≡ []
unfolding says run_bytes
says_none s = refl

says_after : (s t : Standing) (ms out : List (List ℕ)) (more : List ℕ) → Talks s ms t out → says s (texts ms ++ more) ≡ texts out ++ says t more
unfolding says
says_after s t ms out more h = ap (λ (p : Sent). p.1) (h.runs more)

says_only : (s t : Standing) (ms out : List (List ℕ)) → Talks s ms t out → says s (texts ms) ≡ texts out
says_only s t ms out h =
    ap (says s) (sym (append-nil (texts ms))) ∙ says_after s t ms out [] h ∙ ap (λ (x : List ℕ). texts out ++ x) (says_none t) ∙ append-nil (texts out)

says_early : (s t : Standing) (ms out : List (List ℕ)) (x : List ℕ) → Talks s ms t out → IsBeginningOf x (texts ms) → IsBeginningOf (says s x) (texts out)
says_early s t ms out x h p = subst (IsBeginningOf (says s x)) (says_only s t ms out h) (says_begin s x (texts ms) p)

-- ---- by turns

-- a turn of each: what the server comes to by the client's words, its answer, what the client comes to by that, and the
-- client's next words
pub record Turn : Type 0 where
  pub server : Standing
  pub answer : List (List ℕ)
  pub client : Standing
  pub words : List (List ℕ)

-- a client that has said these words and a server that hasn't heard them take these turns, and the client has ended
abbrev pub IsPlay : Standing → Standing → List (List ℕ) → List Turn → Type 0
IsPlay c s said [] = (said ≡ []) × IsOver c.ended
IsPlay c s said (t ∷ ts) = Talks s said t.server t.answer × (Talks c t.answer t.client t.words × IsPlay t.client t.server t.words ts)

-- all that each says
abbrev pub answers : List Turn → List (List ℕ)
answers [] = []
answers (t ∷ ts) = t.answer ++ answers ts

abbrev pub words : List (List ℕ) → List Turn → List (List ℕ)
words said [] = said
words said (t ∷ ts) = said ++ words t.words ts

-- what each comes to
abbrev pub client_at : Standing → List Turn → Standing
client_at c [] = c
client_at c (t ∷ ts) = client_at t.client ts

abbrev pub server_at : Standing → List Turn → Standing
server_at s [] = s
server_at s (t ∷ ts) = server_at t.server ts

-- each that hears a prefix of what the other says hears a prefix of all
pub beginnings : (ts : List Turn) (c s : Standing) (said : List (List ℕ)) (x y : List ℕ) → IsPlay c s said ts → IsBeginningOf x (says s y) → IsBeginningOf y (texts said ++ says c x)
    → IsBeginningOf x (texts (answers ts)) × IsBeginningOf y (texts (words said ts))
beginnings [] c s said x y play p q =
    let last : texts said ++ says c x ≡ [] = ap (λ (ms : List (List ℕ)). texts ms ++ says c x) play.0 ∙ says_over c x play.1 in
    let none : y ≡ [] = begins_nothing y (subst (IsBeginningOf y) last q) in (
      subst (IsBeginningOf x) (ap (says s) none ∙ says_none s) p,
      subst (λ (t : List ℕ). IsBeginningOf t (texts said)) (sym none) (texts said, refl),
    )
beginnings (t ∷ ts) c s said x y play p q = elim (cases_begin y (texts said) (says c x) q) [
  | inl early ↦
      let heard = begin_trans x (says s y) (texts t.answer) p (says_early s t.server said t.answer y play.0 early) in (
        subst (IsBeginningOf x) (sym (texts-append t.answer (answers ts))) (begin_front x (texts t.answer) (texts (answers ts)) heard),
        subst (IsBeginningOf y) (sym (texts-append said (words t.words ts))) (begin_front y (texts said) (texts (words t.words ts)) early),
      )
  | inr late ↦
      let heard : IsBeginningOf x (texts t.answer ++ says t.server late.0) = subst (IsBeginningOf x) (ap (says s) late.1 ∙ says_after s t.server said t.answer late.0 play.0) p in
      let whole : IsBeginningOf late.0 (texts (words t.words ts)) → IsBeginningOf y (texts (said ++ words t.words ts)) =
      λ more. subst (λ (z : List ℕ). IsBeginningOf z (texts (said ++ words t.words ts))) (sym late.1)
      (subst (IsBeginningOf (texts said ++ late.0)) (sym (texts-append said (words t.words ts))) (begin_more (texts said) late.0 (texts (words t.words ts)) more)) in
      elim (cases_begin x (texts t.answer) (says t.server late.0) heard) [
        | inl before ↦
            let next = begin_trans late.0 (says c x) (texts t.words) late.2 (says_early c t.client t.answer t.words x play.1.0 before) in (
              subst (IsBeginningOf x) (sym (texts-append t.answer (answers ts))) (begin_front x (texts t.answer) (texts (answers ts)) before),
              whole (words_front late.0 t.words ts next),
            )
        | inr after ↦
            let said_next : IsBeginningOf late.0 (texts t.words ++ says t.client after.0) =
            subst (IsBeginningOf late.0) (ap (says c) after.1 ∙ says_after c t.client t.answer t.words after.0 play.1.0) late.2 in
            let rest = beginnings ts t.client t.server t.words after.0 late.0 play.1.1 after.2 said_next in (
              subst (λ (z : List ℕ). IsBeginningOf z (texts (t.answer ++ answers ts))) (sym after.1)
                  (subst (IsBeginningOf (texts t.answer ++ after.0)) (sym (texts-append t.answer (answers ts))) (begin_more (texts t.answer) after.0 (texts (answers ts)) rest.0)),
              whole rest.1,
            )
      ]
]
  where
    words_front : (y : List ℕ) (said : List (List ℕ)) (ts : List Turn) → IsBeginningOf y (texts said) → IsBeginningOf y (texts (words said ts))
    words_front y said [] h = h
    words_front y said (t ∷ ts) h = subst (IsBeginningOf y) (sym (texts-append said (words t.words ts))) (begin_front y (texts said) (texts (words t.words ts)) h)

-- where each hears all that the other says, that is all
pub whole : (ts : List Turn) (c s : Standing) (said : List (List ℕ)) (x y : List ℕ) → IsPlay c s said ts → x ≡ says s y → y ≡ texts said ++ says c x
    → (x ≡ texts (answers ts)) × (y ≡ texts (words said ts))
whole [] c s said x y play p q =
    let all : y ≡ texts said = q ∙ ap (λ (t : List ℕ). texts said ++ t) (says_over c x play.1) ∙ append-nil (texts said) in
    (p ∙ ap (says s) (all ∙ ap texts play.0) ∙ says_none s, all)
whole (t ∷ ts) c s said x y play p q =
    let y1 = says c x in
    let x1 = says t.server y1 in
    let x-is : x ≡ texts t.answer ++ x1 = p ∙ ap (says s) q ∙ says_after s t.server said t.answer y1 play.0 in
    let y1-is : y1 ≡ texts t.words ++ says t.client x1 = ap (says c) x-is ∙ says_after c t.client t.answer t.words x1 play.1.0 in
    let rest = whole ts t.client t.server t.words x1 y1 play.1.1 refl y1-is in (
      x-is ∙ ap (λ (z : List ℕ). texts t.answer ++ z) rest.0 ∙ sym (texts-append t.answer (answers ts)),
      q ∙ ap (λ (z : List ℕ). texts said ++ z) rest.1 ∙ sym (texts-append said (words t.words ts)),
    )

runs_to : (s t u : Standing) (ms more out : List (List ℕ)) → Talks s ms t out → (run_bytes (texts more) t).0 ≡ u → (run_bytes (texts (ms ++ more)) s).0 ≡ u
runs_to s t u ms more out h is = ap (λ (x : List ℕ). (run_bytes x s).0) (texts-append ms more) ∙ ap (λ (p : Sent). p.0) (h.runs (texts more)) ∙ is

-- who hears all comes to its last standing
pub client_comes : (ts : List Turn) (c s : Standing) (said : List (List ℕ)) → IsPlay c s said ts → (run_bytes (texts (answers ts)) c).0 ≡ client_at c ts
unfolding run_bytes
client_comes [] c s said play = refl
client_comes (t ∷ ts) c s said play = runs_to c t.client (client_at t.client ts) t.answer (answers ts) t.words play.1.0 (client_comes ts t.client t.server t.words play.1.1)

pub server_comes : (ts : List Turn) (c s : Standing) (said : List (List ℕ)) → IsPlay c s said ts → (run_bytes (texts (words said ts)) s).0 ≡ server_at s ts
unfolding run_bytes
server_comes [] c s said play = ap (λ (ms : List (List ℕ)). (run_bytes (texts ms) s).0) play.0
server_comes (t ∷ ts) c s said play = runs_to s t.server (server_at t.server ts) said (words t.words ts) t.answer play.0 (server_comes ts t.client t.server t.words play.1.1)

-- however it was cut
pub server_talks : (ts : List Turn) (c s : Standing) (said : List (List ℕ)) → IsPlay c s said ts → talk (words said ts) s ≡ (server_at s ts, texts (answers ts))
server_talks [] c s said play = ap (λ (ms : List (List ℕ)). talk ms s) play.0
server_talks (t ∷ ts) c s said play =
    play.0.talks (words t.words ts)
    ∙ ap (λ (p : Sent). (p.0, texts t.answer ++ p.1)) (server_talks ts t.client t.server t.words play.1.1)
    ∙ ap (λ (z : List ℕ). (server_at t.server ts, z)) (sym (texts-append t.answer (answers ts)))
