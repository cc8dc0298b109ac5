-- What was heard and said, turn by turn.
use Rattle.std.proofs.Common.{◌≡◌, ℕ, ◌<◌, ◌⊎◌, List, [], ◌++◌, length, Option, Some, None, refl, sym, ap, ◌∙◌, append_assoc, subst, inl, inr, take}
use Rattle.std.specs.Prelude.{IfSome, OnOk, Result, Ok, Err}
use Rattle.std.specs.Io.KnownBytes.{Consumes, Appends, Keeps, IsAtEnd}
use Rattle.std.proofs.lemmas.List.{append-nil}
use Rattle.rds_names.specs.declared.fault.Fault.{Fault}
use Rattle.rds_state.specs.Fits.{ReplicaValue}
use Rattle.rds_session.specs.declared.talk.Side.{Side}
use Rattle.rds_session.specs.declared.step.Ended.{Ended}
use Rattle.rds_session.specs.declared.step.Ended.TheVariants.{Going}
use Rattle.rds_session.specs.Received.{Delivery}
use Rattle.rds_session.specs.Session.{Standing, Sent, Heard, Nothing, So_far, All_of, heard_more, course}
use Rattle.rds_session.specs.Steps.{HasStanding, IsOver}
use Rattle.rds_session.proofs.Course.{over_all, received_stays, all_over}
use Rattle.rds_session.specs.Exchange.{IsHeard, Exchanges, HasRunOut}
use Rattle.rds_session.specs.Leaving.{HasSent, Speaks}

pub appends_then : (a b c : Option (List ℕ)) (x y z : List ℕ) → Appends a b x → Appends b c y → z ≡ x ++ y → Appends a c z
appends_then None b c x y z p q e = tt
appends_then (Some u) None c x y z p q e = absurd p
appends_then (Some u) (Some v) None x y z p q e = absurd q
appends_then (Some u) (Some v) (Some w) x y z p q e = q ∙ ap (λ (t : List ℕ). t ++ y) p ∙ append_assoc u x y ∙ ap (λ (t : List ℕ). u ++ t) (sym e)

pub appends_none : (a : Option (List ℕ)) → Appends a a []
appends_none None = tt
appends_none (Some u) = sym (append-nil u)

pub consumes_then : (a b c : Option (List ℕ)) (x y : List ℕ) → Consumes a b x → Consumes b c y → Consumes a c (x ++ y)
consumes_then None b c x y p q = tt
consumes_then (Some u) None c x y p q = absurd p
consumes_then (Some u) (Some v) None x y p q = absurd q
consumes_then (Some u) (Some v) (Some w) x y p q = p ∙ ap (λ (t : List ℕ). x ++ t) q ∙ sym (append_assoc x y w)

pub consumes_none : (a : Option (List ℕ)) → Consumes a a []
consumes_none None = tt
consumes_none (Some u) = refl

pub consumes_kept : (a b c : Option (List ℕ)) (x : List ℕ) → Consumes a b x → Keeps b c → Consumes a c x
consumes_kept None b c x p q = tt
consumes_kept (Some u) None c x p q = absurd p
consumes_kept (Some u) (Some v) None x p q = absurd q
consumes_kept (Some u) (Some v) (Some w) x p q = p ∙ ap (λ (t : List ℕ). x ++ t) (sym q)

-- a step's bytes, or the end, came from the reader
abbrev pub Came : Option (List ℕ) → Option (List ℕ) → Option (List ℕ) → Type 0
Came now later None = Consumes now later [] × IsAtEnd later
Came now later (Some piece) = Consumes now later piece

pub heard_on : (first now later : Option (List ℕ)) (side : Side) (kept : ReplicaValue) (heard : Heard) (i : Option (List ℕ)) → (course side kept heard).0.ended ≡ Going
    → IsHeard first now heard → Came now later i → IsHeard first later (heard_more heard i)
heard_on first now later side kept Nothing None going h c = (consumes_then first now later [] [] h c.0, c.1)
heard_on first now later side kept Nothing (Some piece) going h c = consumes_then first now later [] piece h c
heard_on first now later side kept (So_far x) None going h c = (subst (Consumes first later) (append-nil x) (consumes_then first now later x [] h c.0), c.1)
heard_on first now later side kept (So_far x) (Some piece) going h c = consumes_then first now later x piece h c
heard_on first now later side kept (All_of x) i going h c = absurd (subst IsOver going (all_over side kept x))

pub heard_kept : (first now later : Option (List ℕ)) (side : Side) (kept : ReplicaValue) (heard : Heard) → (course side kept heard).0.ended ≡ Going
    → IsHeard first now heard → Keeps now later → IsHeard first later heard
heard_kept first now later side kept Nothing going h same = consumes_kept first now later [] h same
heard_kept first now later side kept (So_far x) going h same = consumes_kept first now later x h same
heard_kept first now later side kept (All_of x) going h same = absurd (subst IsOver going (all_over side kept x))

-- a session has the standing of what was heard, and all that is sent for it was written; or memory ran out
abbrev pub HasCourse : Side → ReplicaValue → Heard → Standing → Option (List ℕ) → Option (List ℕ) → Type 0
HasCourse side kept heard s first now = (HasStanding side kept heard s × Appends first now (course side kept heard).1) ⊎ HasRunOut side kept heard s.received s.ended

course_of : (side : Side) (kept : ReplicaValue) (heard : Heard) (s : Standing) (sent : List ℕ) (before after : Option (List ℕ)) → HasSent side kept heard s sent → Appends before after sent → HasCourse side kept heard s before after
course_of side kept heard s sent before after (inl is) written = inl (is.0, subst (Appends before after) is.1 written)
course_of side kept heard s sent before after (inr out) written = inr out.ran_out

abbrev pub Ends : Side → ReplicaValue → Heard → List ℕ → Option (List ℕ) → Option (List ℕ) → Standing → Type 0
Ends side kept heard input before after s = IsOver s.ended → HasCourse side kept heard s before after → Exchanges side kept input before after s.received s.ended

ends_all : (side : Side) (kept : ReplicaValue) (input x y : List ℕ) (before after : Option (List ℕ)) (s : Standing) → input ≡ x ++ y → Ends side kept (So_far x) input before after s
ends_all side kept input x y before after s split over has =
    let whole = course side kept (All_of input) in
    let at : whole ≡ course side kept (All_of (x ++ y)) = ap (λ (t : List ℕ). course side kept (All_of t)) split in
    elim has [
      | inl done ↦
          let same : whole ≡ course side kept (So_far x) = at ∙ over_all side kept x y (subst (λ (t : Standing). IsOver t.ended) done.0 over) in
          inl (record {
            is_received = ap (λ (t : Standing). t.received) done.0 ∙ ap (λ (p : Sent). p.0.received) (sym same);
            is_ended = ap (λ (t : Standing). t.ended) done.0 ∙ ap (λ (p : Sent). p.0.ended) (sym same);
            written = subst (Appends before after) (ap (λ (p : Sent). p.1) (sym same)) done.1;
          })
      | inr out ↦ inr (record {
        memory = out.memory;
        at_most = elim out.at_most [
          | inl none ↦ inl none
          | inr got ↦ elim (received_stays side kept (So_far x) (Some y)) [
            | inl none ↦ inl (got ∙ none)
            | inr stays ↦ elim (received_stays side kept (So_far (x ++ y)) None) [
              | inl none ↦ inl (got ∙ sym stays ∙ none)
              | inr again ↦ inr (got ∙ sym stays ∙ sym again ∙ ap (λ (p : Sent). p.0.received) (sym at))
            ]
          ]
        ];
      })
    ]

ends_with : (side : Side) (kept : ReplicaValue) (input x : List ℕ) (before after : Option (List ℕ)) (s : Standing) → input ≡ x → Ends side kept (All_of x) input before after s
ends_with side kept input x before after s is over has =
    let at : course side kept (All_of x) ≡ course side kept (All_of input) = ap (λ (t : List ℕ). course side kept (All_of t)) (sym is) in
    elim has [
      | inl done ↦ inl (record {
        is_received = ap (λ (t : Standing). t.received) done.0 ∙ ap (λ (p : Sent). p.0.received) at;
        is_ended = ap (λ (t : Standing). t.ended) done.0 ∙ ap (λ (p : Sent). p.0.ended) at;
        written = subst (Appends before after) (ap (λ (p : Sent). p.1) at) done.1;
      })
      | inr out ↦ inr (record { memory = out.memory; at_most = elim out.at_most [ inl none ↦ inl none | inr got ↦ inr (got ∙ ap (λ (p : Sent). p.0.received) at) ] })
    ]

ends_unheard : (side : Side) (kept : ReplicaValue) (input : List ℕ) (before after : Option (List ℕ)) (s : Standing) → Ends side kept Nothing input before after s
unfolding course
ends_unheard side kept input before after s over has = elim has [
  | inl done ↦ absurd (subst (λ (t : Standing). IsOver t.ended) done.0 over)
  | inr out ↦ inr (record { memory = out.memory; at_most = elim out.at_most [ inl none ↦ inl none | inr got ↦ inl got ] })
]

-- the talk has ended
pub talk_ends : (side : Side) (kept : ReplicaValue) (first now : Option (List ℕ)) (s : Standing) (before after : Option (List ℕ)) (heard : Heard) → IsOver s.ended → IsHeard first now heard → HasCourse side kept heard s before after
    → IfSome first (λ input. Exchanges side kept input before after s.received s.ended)
talk_ends side kept None now s before after heard over h has = tt
talk_ends side kept (Some input) now s before after Nothing over h has = ends_unheard side kept input before after s over has
talk_ends side kept (Some input) None s before after (So_far x) over h has = absurd h
talk_ends side kept (Some input) (Some y) s before after (So_far x) over h has = ends_all side kept input x y before after s h over has
talk_ends side kept (Some input) None s before after (All_of x) over h has = absurd h.0
talk_ends side kept (Some input) (Some y) s before after (All_of x) over h has =
    ends_with side kept input x before after s (h.0 ∙ ap (λ (t : List ℕ). x ++ t) h.1 ∙ append-nil x) over has

-- ---- in the words of the code

pub came_end : (now later : Option (List ℕ)) (n : ℕ) (buf : List ℕ) → Consumes now later (take n buf) × (n ≡ 0 → 0 < length buf → IsAtEnd later) → n ≡ 0 → 0 < length buf → Came now later None
came_end now later n buf h none room = (subst (λ (k : ℕ). Consumes now later (take k buf)) none h.0, h.1 none room)

pub came_piece : (now later : Option (List ℕ)) (n : ℕ) (buf piece : List ℕ) → Consumes now later (take n buf) × (n ≡ 0 → 0 < length buf → IsAtEnd later) → piece ≡ take n buf → Came now later (Some piece)
came_piece now later n buf piece h is = subst (Consumes now later) (sym is) h.0

pub exchanged : (side : Side) (kept : ReplicaValue) (first now : Option (List ℕ)) (s : Standing) (before after : Option (List ℕ)) (received : Option Delivery) (ended : Ended)
    → Speaks side kept first now s (Appends before after) → (ended ≡ s.ended) × IsOver ended → received ≡ s.received → IfSome first (λ input. Exchanges side kept input before after received ended)
exchanged side kept first now s before after received ended spoken over got =
    let over-now : IsOver s.ended = subst IsOver over.0 over.1 in
    let done = talk_ends side kept first now s before after spoken.0 over-now spoken.1 (course_of side kept spoken.0 s spoken.2 before after spoken.3 spoken.4) in
    subst (λ (e : Ended). IfSome first (λ input. Exchanges side kept input before after received e)) (sym over.0)
    (subst (λ (r : Option Delivery). IfSome first (λ input. Exchanges side kept input before after r s.ended)) (sym got) done)

pub on_ok : {T : Type 0} (r : Result T Fault) (A B : Type 0) → OnOk r A → (A → B) → OnOk r B
on_ok (Ok x) A B h f = f h
on_ok (Err e) A B h f = h
