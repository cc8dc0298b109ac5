use Rattle.std.proofs.Common.{ℕ, List, sym, ap, ◌∙◌, inl, inr, Ok, Err, subst}
use Rattle.rds_briefs.specs.ReadBriefs.{brief_at}
use Rattle.rds_codec.specs.Decoding.{ReadsAll}
use Rattle.std.proofs.lemmas.Result.{err_from_is_err_and}
use Rattle.rds_session.proofs.Began.{greeting_said, parting_said, bye_said, mark_said, hash_said, brief_said, fails_so, refused_said, hello_said, digest_said, delta_said}
use Rattle.rds_answers.specs.Hashes.{hash_in}
use Rattle.rds_session.specs.Marked.{mark_read}
use Rattle.rds_session.proofs.message.Body.end.Goals as goal

pub returns-in-Greeting : goal.returns-in-Greeting
returns-in-Greeting g c = λ expected came holds within. elim c.in-Greeting.is [
  | inl is ↦ (let h = rw is.1 at holds in greeting_said expected _ came h.0 h.1)
  | inr is ↦ (let h = rw is.1 at holds in parting_said expected came h.1)
]

pub returns-in-Bye : goal.returns-in-Bye
returns-in-Bye g c = λ expected came holds within. (let h = rw c.in-Bye.is at holds in bye_said expected came c.in-Bye.code h.0 h.1 h.2 h.3)

pub returns-in-Refused : goal.returns-in-Refused
returns-in-Refused g c = λ expected came holds within. refused_said expected came c.in-Refused.fault (rw c.in-Refused.is at holds)

pub returns-in_ok-end-in-Hello : goal.returns-in_ok-end-in-Hello
returns-in_ok-end-in-Hello g c = λ expected came holds within.
    (let h = rw c.in-Hello.is at holds in hello_said expected came within c.in-Hello.text (Ok c.in_ok-end-in-Hello.field-0) h.0 c.in-Hello.version h.2 h.3 h.1 h.4 h.5 h.6 c.in_ok-end-in-Hello.ensures.read)

pub returns-in_ok-end-in-Digest : goal.returns-in_ok-end-in-Digest
returns-in_ok-end-in-Digest g c = λ expected came holds within.
    (let h = rw c.in-Digest.is at holds in digest_said expected came within c.in-Digest.text (Ok c.in_ok-end-in-Digest.field-0) h.0 h.1 h.2 h.3 h.4 c.in_ok-end-in-Digest.ensures.read)

pub returns-in_ok-end-in-Delta : goal.returns-in_ok-end-in-Delta
returns-in_ok-end-in-Delta g c = λ expected came holds within.
    (let h = rw c.in-Delta.is at holds in delta_said expected came within c.in-Delta.text (Ok c.in_ok-end-in-Delta.field-0) h.0 h.1 c.in_ok-end-in-Delta.ensures.read)

pub returns-in_err-end-in-Hello : goal.returns-in_err-end-in-Hello
returns-in_err-end-in-Hello g c =
    let p = err_from_is_err_and c.from_residual.result c.from_residual.ensures.1 in
    rw (p.1, p.2) (λ expected came holds within.
    (let h = rw c.in-Hello.is at holds in hello_said expected came within c.in-Hello.text (Err c.in_err-end-in-Hello.field-0.0) h.0 c.in-Hello.version h.2 h.3 h.1 h.4 h.5 h.6 c.in_err-end-in-Hello.ensures.read))

pub returns-in_err-end-in-Digest : goal.returns-in_err-end-in-Digest
returns-in_err-end-in-Digest g c =
    let p = err_from_is_err_and c.from_residual-in_err-end-in-Digest.result c.from_residual-in_err-end-in-Digest.ensures.1 in
    rw (p.1, p.2) (λ expected came holds within.
    (let h = rw c.in-Digest.is at holds in digest_said expected came within c.in-Digest.text (Err c.in_err-end-in-Digest.field-0.0) h.0 h.1 h.2 h.3 h.4 c.in_err-end-in-Digest.ensures.read))

pub returns-in_err-end-in-Delta : goal.returns-in_err-end-in-Delta
returns-in_err-end-in-Delta g c =
    let p = err_from_is_err_and c.from_residual-in_err-end-in-Delta.result c.from_residual-in_err-end-in-Delta.ensures.1 in
    rw (p.1, p.2) (λ expected came holds within.
    (let h = rw c.in-Delta.is at holds in delta_said expected came within c.in-Delta.text (Err c.in_err-end-in-Delta.field-0.0) h.0 h.1 c.in_err-end-in-Delta.ensures.read))

pub returns-in_ok-read_mark-in-Mark : goal.returns-in_ok-read_mark-in-Mark
returns-in_ok-read_mark-in-Mark g c = λ expected came holds within.
    (let h = rw c.in-Mark.is at holds in
    let read = ap mark_read (sym c.deref-in-Mark.ensures.value) ∙ c.in_ok-read_mark-in-Mark.ensures in
    mark_said expected came c.in-Mark.bytes.items h.0 (Ok c.in_ok-read_mark-in-Mark.field-0) h.1 h.2 h.3 read)

pub returns-in_err-read_mark-in-Mark : goal.returns-in_err-read_mark-in-Mark
returns-in_err-read_mark-in-Mark g c =
    let p = err_from_is_err_and c.from_residual-in_err-read_mark-in-Mark.result c.from_residual-in_err-read_mark-in-Mark.ensures.1 in
    let e = c.in_err-read_mark-in-Mark.field-0.0 in
    rw (p.1, p.2) (λ expected came holds within.
    (let h = rw c.in-Mark.is at holds in
    let read = ap mark_read (sym c.deref-in-Mark.ensures.value) ∙ c.in_err-read_mark-in-Mark.ensures in
    mark_said expected came c.in-Mark.bytes.items h.0 (Err e) h.1 h.2 h.3 (fails_so e (mark_read c.in-Mark.bytes.items) read)))

pub returns-in_ok-read_hash-in-Hash : goal.returns-in_ok-read_hash-in-Hash
returns-in_ok-read_hash-in-Hash g c = λ expected came holds within.
    (let h = rw c.in-Hash.is at holds in
    let read = ap hash_in (sym c.deref-in-Hash.ensures.value) ∙ c.in_ok-read_hash-in-Hash.ensures in
    hash_said expected came c.in-Hash.bytes.items (Ok c.in_ok-read_hash-in-Hash.field-0) h.0 h.1 read)

pub returns-in_err-read_hash-in-Hash : goal.returns-in_err-read_hash-in-Hash
returns-in_err-read_hash-in-Hash g c =
    let p = err_from_is_err_and c.from_residual-in_err-read_hash-in-Hash.result c.from_residual-in_err-read_hash-in-Hash.ensures.1 in
    let e = c.in_err-read_hash-in-Hash.field-0.0 in
    rw (p.1, p.2) (λ expected came holds within.
    (let h = rw c.in-Hash.is at holds in
    let read = ap hash_in (sym c.deref-in-Hash.ensures.value) ∙ c.in_err-read_hash-in-Hash.ensures in
    hash_said expected came c.in-Hash.bytes.items (Err e) h.0 h.1 (fails_so e (hash_in c.in-Hash.bytes.items) read)))

pub returns-in_ok-read_brief-in-Brief : goal.returns-in_ok-read_brief-in-Brief
returns-in_ok-read_brief-in-Brief g c = λ expected came holds within.
    (let h = rw c.in-Brief.is at holds in
    let read = subst (λ (x : List ℕ). ReadsAll (brief_at c.in-Brief.replicas) x (Ok c.in_ok-read_brief-in-Brief.field-0)) c.deref.ensures.value c.in_ok-read_brief-in-Brief.ensures in
    brief_said expected came c.in-Brief.bytes.items (Ok c.in_ok-read_brief-in-Brief.field-0) h.0 c.in-Brief.replicas h.1 within h.2 h.3 h.4 read)

pub returns-in_err-read_brief-in-Brief : goal.returns-in_err-read_brief-in-Brief
returns-in_err-read_brief-in-Brief g c =
    let p = err_from_is_err_and c.from_residual-in_err-read_brief-in-Brief.result c.from_residual-in_err-read_brief-in-Brief.ensures.1 in
    let e = c.in_err-read_brief-in-Brief.field-0.0 in
    rw (p.1, p.2) (λ expected came holds within.
    (let h = rw c.in-Brief.is at holds in
    let read = subst (λ (x : List ℕ). ReadsAll (brief_at c.in-Brief.replicas) x (Err e)) c.deref.ensures.value c.in_err-read_brief-in-Brief.ensures in
    brief_said expected came c.in-Brief.bytes.items (Err e) h.0 c.in-Brief.replicas h.1 within h.2 h.3 h.4 read))
