-- What has come of a message, with the next bytes and at its end.
use Rattle.std.proofs.Common.{◌≡◌, ℕ, ◌≤◌, ◌<◌, ◌&&◌, Bool, true, false, cond, ltb, List, [], ◌∷◌, ◌++◌, ◌-◌, length, take, drop, get_or, Option, Some, None, Result, Ok, Err, refl, sym, ap, ◌∙◌, subst, append_assoc, length-append, arith}
use Rattle.std.proofs.lemmas.Bool.{lt-ltb, le-ltb}
use Rattle.std.proofs.lemmas.List.{append-nil, take_rest}
use Rattle.std.specs.Prelude.{IfOk}
use Rattle.rds_names.specs.declared.fault.Fault.{Fault}
use Rattle.rds_names.specs.declared.fault.Fault.TheVariants.{Memory, Cut, Bad, Extra, WrongVersion, OutOfTurn}
use Rattle.rds_delta.specs.Digested.{DigestValue}
use Rattle.rds_bytes.specs.Reading.{Fails, Reads}
use Rattle.rds_codec.specs.AnswerValues.{AnswerValue}
use Rattle.rds_briefs.specs.ReadBriefs.{brief_at}
use Rattle.rds_codec.specs.Decoding.{ReadsAll, all_of}
use Rattle.rds_codec.specs.DigestTexts.{digest_at}
use Rattle.rds_codec.specs.FormatTexts.{answer_at_in}
use Rattle.rds_codec.specs.HelloTexts.{hello_at}
use Rattle.rds_codec.specs.declared.formats.Format.{Format}
use Rattle.rds_codec.specs.declared.hellos.Hello.{Hello}
use Rattle.rds_codec.specs.declared.limits.TheConstants.{LIMIT}
use Rattle.rds_session.specs.Bodies.{hello_in, digest_in, answer_in}
use Rattle.rds_session.specs.Coming.{ComingValue}
use Rattle.rds_session.specs.Contents.{ContentValue, OfHello, OfDigest, OfHash, OfDelta, OfBye, OfMark, body_read, code_read, expects_hash, expects_mark, hash_read, kind_read, message_read, read_as, version_read}
use Rattle.rds_answers.specs.Hashes.{hash_in}
use Rattle.rds_session.specs.Judging.{is_done, version_with}
use Rattle.rds_session.specs.Marked.{mark_read}
use Rattle.rds_session.specs.Messages.{bye_of, kind_of, type_byte}
use Rattle.rds_session.specs.Versions.{as_hello, says_briefs}
use Rattle.rds_session.specs.declared.content.Expected.{Expected}
use Rattle.rds_session.specs.declared.content.Expected.TheVariants as expecteds
use Rattle.rds_session.specs.declared.talk.Side.{Side}
use Rattle.rds_session.specs.declared.kinds.ByeCode.{ByeCode}
use Rattle.rds_session.specs.declared.kinds.ByeCode.TheVariants as byes
use Rattle.rds_session.specs.declared.version.Version.{Version}
use Rattle.rds_state.specs.declared.mark.Mark.{Mark}
use Rattle.rds_session.specs.declared.kinds.MessageKind.{MessageKind}
use Rattle.rds_session.specs.declared.kinds.MessageKind.TheVariants as kinds

-- the bytes are refused so, however they go on
abbrev pub IsRefusedSo : Expected → List ℕ → Fault → Type 0
IsRefusedSo expected came e = (more : List ℕ) → message_read expected (came ++ more) ≡ Err e

-- ---- the first byte

pub of_no_kind : (expected : Expected) (n : ℕ) → kind_of n ≡ None → IsRefusedSo expected (n ∷ []) Bad
unfolding message_read
of_no_kind expected n is more = ap (λ (k : Option MessageKind). kind_read expected k more) is

out_of_turn : (expected : Expected) (n : ℕ) (kind : MessageKind) → kind_of n ≡ Some kind → ((body : List ℕ) → body_read expected kind body ≡ Err OutOfTurn) → IsRefusedSo expected (n ∷ []) OutOfTurn
unfolding message_read
out_of_turn expected n kind is refused more = ap (λ (k : Option MessageKind). kind_read expected k more) is ∙ refused more

no_hello : (expected : Expected) → ((side : Side) → expected ≡ expecteds.Hello side → ⊥) → (body : List ℕ) → body_read expected kinds.Hello body ≡ Err OutOfTurn
no_hello (expecteds.Hello side) other body = absurd (other side refl)
no_hello (expecteds.Digest version n hashed) other body = refl
no_hello (expecteds.Delta format n) other body = refl
no_hello (expecteds.Bye marked) other body = refl

no_digest : (expected : Expected) → ((version : Version) (n : ℕ) (hashed : Bool) → expected ≡ expecteds.Digest version n hashed → ⊥) → (body : List ℕ) → body_read expected kinds.Digest body ≡ Err OutOfTurn
no_digest (expecteds.Hello side) other body = refl
no_digest (expecteds.Digest version n hashed) other body = absurd (other version n hashed refl)
no_digest (expecteds.Delta format n) other body = refl
no_digest (expecteds.Bye marked) other body = refl

no_delta : (expected : Expected) → ((format : Format) (n : ℕ) → expected ≡ expecteds.Delta format n → ⊥) → (body : List ℕ) → body_read expected kinds.Delta body ≡ Err OutOfTurn
no_delta (expecteds.Hello side) other body = refl
no_delta (expecteds.Digest version n hashed) other body = refl
no_delta (expecteds.Delta format n) other body = absurd (other format n refl)
no_delta (expecteds.Bye marked) other body = refl

pub hello_out_of_turn : (expected : Expected) (n : ℕ) → kind_of n ≡ Some kinds.Hello → ((side : Side) → expected ≡ expecteds.Hello side → ⊥) → IsRefusedSo expected (n ∷ []) OutOfTurn
hello_out_of_turn expected n is other = out_of_turn expected n kinds.Hello is (no_hello expected other)

pub digest_out_of_turn : (expected : Expected) (n : ℕ) → kind_of n ≡ Some kinds.Digest → ((version : Version) (k : ℕ) (hashed : Bool) → expected ≡ expecteds.Digest version k hashed → ⊥) → IsRefusedSo expected (n ∷ []) OutOfTurn
digest_out_of_turn expected n is other = out_of_turn expected n kinds.Digest is (no_digest expected other)

pub delta_out_of_turn : (expected : Expected) (n : ℕ) → kind_of n ≡ Some kinds.Delta → ((format : Format) (k : ℕ) → expected ≡ expecteds.Delta format k → ⊥) → IsRefusedSo expected (n ∷ []) OutOfTurn
delta_out_of_turn expected n is other = out_of_turn expected n kinds.Delta is (no_delta expected other)

pub hash_of_no_kind : (expected : Expected) (n : ℕ) → kind_of n ≡ Some kinds.Hash → expects_hash expected ≡ false → IsRefusedSo expected (n ∷ []) Bad
unfolding message_read
hash_of_no_kind expected n is none more =
    ap (λ (k : Option MessageKind). kind_read expected k more) is ∙ ap (λ (hashed : Bool). hash_read hashed more) none

-- ---- the next bytes

pub other_version_refused : (side : Side) (run : List ℕ) → 1 ≤ length run → version_with side (get_or run 0 0) ≡ None → IsRefusedSo (expecteds.Hello side) (type_byte kinds.Hello ∷ run) WrongVersion
unfolding message_read
other_version_refused side [] some other more = absurd (omega arith)
other_version_refused side (byte ∷ rest) some other more = ap (λ (v : Option Version). version_read v (rest ++ more)) other

pub no_code_refused : (expected : Expected) (run : List ℕ) → 1 ≤ length run → bye_of (get_or run 0 0) ≡ None → IsRefusedSo expected (type_byte kinds.Bye ∷ run) Bad
unfolding message_read
no_code_refused expected [] some is more = absurd (omega arith)
no_code_refused expected (b ∷ rest) some is more = ap (λ (code : Option ByeCode). code_read (expects_mark expected) code (rest ++ more)) is

pub extra_refused : (expected : Expected) (code : ByeCode) (b : ℕ) (run : List ℕ) → bye_of b ≡ Some code → expects_mark expected && is_done code ≡ false → 1 ≤ length run
    → IsRefusedSo expected (type_byte kinds.Bye ∷ b ∷ run) Extra
unfolding message_read
extra_refused expected code b [] is plain some more = absurd (omega arith)
extra_refused expected code b (x ∷ rest) is plain some more =
    ap (λ (c : Option ByeCode). code_read (expects_mark expected) c (x ∷ (rest ++ more))) is
    ∙ ap (λ (marked : Bool). cond marked (read_as OfMark (mark_read (x ∷ (rest ++ more)))) (Err Extra)) plain

-- more than a mark is behind the code
too_long : (bytes : List ℕ) → 16 < length bytes → mark_read bytes ≡ Err Extra
too_long bytes more =
    let not_short : ltb (length bytes) 16 ≡ false = le-ltb _ _ (omega (arith, more)) in
    let long : ltb 16 (length bytes) ≡ true = lt-ltb _ _ more in
    rw (not_short, long) refl

pub mark_longer : (expected : Expected) (b : ℕ) (bytes : List ℕ) → bye_of b ≡ Some byes.Done → expects_mark expected ≡ true → 16 < length bytes
    → IsRefusedSo expected (type_byte kinds.Bye ∷ b ∷ bytes) Extra
unfolding message_read
mark_longer expected b bytes is marked long more =
    ap (λ (c : Option ByeCode). code_read (expects_mark expected) c (bytes ++ more)) is
    ∙ ap (λ (m : Bool). code_read m (Some byes.Done) (bytes ++ more)) marked
    ∙ ap (read_as OfMark) (too_long (bytes ++ more) (omega (arith, long, length-append bytes more)))

-- more than a hash came
too_long_hash : (bytes : List ℕ) → 32 < length bytes → hash_in bytes ≡ Err Extra
too_long_hash bytes more =
    let not_short : ltb (length bytes) 32 ≡ false = le-ltb _ _ (omega (arith, more)) in
    let long : ltb 32 (length bytes) ≡ true = lt-ltb _ _ more in
    rw (not_short, long) refl

pub hash_longer : (expected : Expected) (bytes : List ℕ) → expects_hash expected ≡ true → 32 < length bytes → IsRefusedSo expected (type_byte kinds.Hash ∷ bytes) Extra
unfolding message_read
hash_longer expected bytes hashed long more =
    ap (λ (h : Bool). hash_read h (bytes ++ more)) hashed
    ∙ ap (read_as OfHash) (too_long_hash (bytes ++ more) (omega (arith, long, length-append bytes more)))

-- a code and what follows it
pub code_and_rest : (run : List ℕ) → 1 ≤ length run → run ≡ get_or run 0 0 ∷ take (length run - 1) (drop 1 run)
code_and_rest [] some = absurd (omega arith)
code_and_rest (b ∷ rest) some = ap (λ (t : List ℕ). b ∷ t) (sym (take_rest (b ∷ rest) 1))

pub if_ok_so : {A : Type 0} (r : Result A Fault) (P Q : A → Type 0) → IfOk r P → ((x : A) → P x → Q x) → IfOk r Q
if_ok_so (Ok x) P Q is so = so x is
if_ok_so (Err e) P Q is so = tt

pub refused_still : (expected : Expected) (came run : List ℕ) (e : Fault) → IsRefusedSo expected came e → IsRefusedSo expected (came ++ run) e
refused_still expected came run e was more = ap (message_read expected) (append_assoc came run more) ∙ was (run ++ more)

-- ---- the end

pub fails_so : {A : Type 0} (e : Fault) (read : Result A Fault) → read ≡ Err e → Fails e read
fails_so Memory read is = tt
fails_so e read is = is

failed_as : {A : Type 0} (f : A → ContentValue) (e : Fault) (read : Result A Fault) → Fails e read → Fails e (read_as f read)
failed_as f Memory read fails = tt
failed_as f e read fails = ap (read_as f) fails

said_as : {A : Type 0} (f : A → ContentValue) (r read : Result A Fault) → Reads (λ v. v) r read → Reads f r (read_as f read)
said_as f (Ok x) read is = ap (read_as f) is
said_as f (Err e) read is = failed_as f e read is

pub greeting_said : (expected : Expected) (side : Side) (came : List ℕ) → expected ≡ expecteds.Hello side → came ≡ type_byte kinds.Hello ∷ [] → message_read expected came ≡ Err Cut
unfolding message_read
greeting_said expected side came turn is = rw (turn, is) refl

pub parting_said : (expected : Expected) (came : List ℕ) → came ≡ type_byte kinds.Bye ∷ [] → message_read expected came ≡ Err Cut
unfolding message_read
parting_said expected came is = rw is refl

pub bye_said : (expected : Expected) (came : List ℕ) (code : ByeCode) (b : ℕ) → came ≡ type_byte kinds.Bye ∷ b ∷ [] → bye_of b ≡ Some code → expects_mark expected && is_done code ≡ false
    → message_read expected came ≡ Ok (OfBye code)
unfolding message_read
bye_said expected came code b is says plain =
    rw is (ap (λ (c : Option ByeCode). code_read (expects_mark expected) c []) says ∙ ap (λ (marked : Bool). cond marked (read_as OfMark (mark_read [])) (Ok (OfBye code))) plain)

pub mark_said : (expected : Expected) (came bytes : List ℕ) (b : ℕ) (r : Result Mark Fault) → came ≡ type_byte kinds.Bye ∷ b ∷ bytes → bye_of b ≡ Some byes.Done → expects_mark expected ≡ true
    → Reads (λ v. v) r (mark_read bytes) → Reads OfMark r (message_read expected came)
unfolding message_read
mark_said expected came bytes b r is says marked reads =
    let read : message_read expected came ≡ read_as OfMark (mark_read bytes) =
    rw is (ap (λ (c : Option ByeCode). code_read (expects_mark expected) c bytes) says ∙ ap (λ (m : Bool). code_read m (Some byes.Done) bytes) marked) in
    subst (Reads OfMark r) (sym read) (said_as OfMark r (mark_read bytes) reads)

pub hash_said : (expected : Expected) (came bytes : List ℕ) (r : Result (List ℕ) Fault) → expects_hash expected ≡ true → came ≡ type_byte kinds.Hash ∷ bytes
    → Reads (λ v. v) r (hash_in bytes) → Reads OfHash r (message_read expected came)
unfolding message_read
hash_said expected came bytes r hashed is reads =
    let read : message_read expected came ≡ read_as OfHash (hash_in bytes) = rw is (ap (λ (h : Bool). hash_read h bytes) hashed) in
    subst (Reads OfHash r) (sym read) (said_as OfHash r (hash_in bytes) reads)

pub refused_said : (expected : Expected) (came : List ℕ) (e : Fault) → IsRefusedSo expected came e → Fails e (message_read expected came)
refused_said expected came e refused = fails_so e (message_read expected came) (ap (message_read expected) (sym (append-nil came)) ∙ refused [])

pub brief_said : (expected : Expected) (came bytes : List ℕ) (r : Result DigestValue Fault) (version : Version) (n : ℕ) (hashed : Bool) → length came ≤ LIMIT
    → expected ≡ expecteds.Digest version n hashed → says_briefs version ≡ true → came ≡ type_byte kinds.Digest ∷ bytes
    → ReadsAll (brief_at n) bytes r → Reads OfDigest r (message_read expected came)
unfolding message_read digest_in
brief_said expected came bytes r version n hashed within turn briefs is reads =
    let said = said_as OfDigest r (all_of (brief_at n) bytes) (reads (omega (arith, within, ap length is))) in
    rw (turn, is, briefs) said

module _ (expected : Expected) (came : List ℕ) (within : length came ≤ LIMIT) (text : ComingValue) where
  pub hello_said : (r : Result Hello Fault) (side : Side) (version : Version) (byte : ℕ) (rest : List ℕ) → expected ≡ expecteds.Hello side → came ≡ type_byte kinds.Hello ∷ byte ∷ rest
      → version_with side byte ≡ Some version → text.came ≡ as_hello version rest
      → (length text.came ≤ LIMIT → Reads (λ v. v) r (all_of hello_at text.came)) → Reads (OfHello version) r (message_read expected came)
  unfolding message_read hello_in
  hello_said r side version byte rest turn is spoken text-is reads =
      let said = said_as (OfHello version) r (all_of hello_at text.came) (reads (omega (arith, within, ap length is, ap length text-is))) in
      let read : message_read expected came ≡ read_as (OfHello version) (all_of hello_at text.came) =
      rw (turn, is) (ap (λ (v : Option Version). version_read v rest) spoken ∙ ap (λ (t : List ℕ). read_as (OfHello version) (all_of hello_at t)) (sym text-is)) in
      subst (Reads (OfHello version) r) (sym read) said

  pub digest_said : (r : Result DigestValue Fault) (version : Version) (hashed : Bool) → expected ≡ expecteds.Digest version text.replicas hashed → says_briefs version ≡ false
      → came ≡ type_byte kinds.Digest ∷ text.came
      → (length text.came ≤ LIMIT → Reads (λ v. v) r (all_of (digest_at text.replicas) text.came)) → Reads OfDigest r (message_read expected came)
  unfolding message_read digest_in
  digest_said r version hashed turn text-said is reads =
      let said = said_as OfDigest r (all_of (digest_at text.replicas) text.came) (reads (omega (arith, within, ap length is))) in
      rw (turn, is, text-said) said

  pub delta_said : (r : Result AnswerValue Fault) → expected ≡ expecteds.Delta text.format text.replicas → came ≡ type_byte kinds.Delta ∷ text.came
      → (length text.came ≤ LIMIT → Reads (λ v. v) r (all_of (answer_at_in text.format text.replicas) text.came)) → Reads OfDelta r (message_read expected came)
  unfolding message_read answer_in
  delta_said r turn is reads =
      let said = said_as OfDelta r (all_of (answer_at_in text.format text.replicas) text.came) (reads (omega (arith, within, ap length is))) in
      rw (turn, is) said
