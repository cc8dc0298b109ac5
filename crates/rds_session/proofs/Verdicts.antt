-- A verdict is what the message says, judged; and what is known of what it says.
use Rattle.std.proofs.Common.{◌≡◌, ℕ, zero, suc, ◌≤◌, ◌<◌, ◌&&◌, Bool, true, false, cond, ltb, List, [], ◌∷◌, length, Option, Some, None, Result, Ok, Err, refl, sym, ap, ◌∙◌, subst, arith}
use Rattle.std.specs.Prelude.{IfErr}
use Rattle.rds_names.specs.declared.fault.Fault.{Fault}
use Rattle.rds_names.specs.declared.fault.Fault.TheVariants.{Memory, Cut, Bad, Extra, TooLong, OutOfTurn, WrongVersion}
use Rattle.rds_state.specs.Fits.{ReplicaValue}
use Rattle.rds_bytes.specs.Reading.{Reader, Fails}
use Rattle.rds_briefs.specs.Briefs.{brief_kind}
use Rattle.rds_briefs.specs.ReadBriefs.{brief_at}
use Rattle.rds_briefs.proofs.AsRead.{brief_reader}
use Rattle.rds_codec.specs.AnswerTexts.{IsAnswerOf}
use Rattle.rds_codec.specs.AnswerValues.{AnswerValue}
use Rattle.rds_codec.specs.Decoding.{all_of}
use Rattle.rds_codec.specs.DigestTexts.{digest_at, digest_kind}
use Rattle.rds_codec.specs.FormatTexts.{answer_at_in, answer_kind_in}
use Rattle.rds_codec.specs.HelloTexts.{hello_at, hello_kind}
use Rattle.rds_codec.specs.Kinds.{Kind}
use Rattle.rds_codec.specs.declared.formats.Format.{Format}
use Rattle.rds_codec.specs.declared.hellos.Hello.{Hello}
use Rattle.rds_codec.specs.declared.limits.TheConstants.{LIMIT}
use Rattle.rds_codec.proofs.DigestFormats.{digest_reader}
use Rattle.rds_codec.proofs.HelloFormats.{hello_reader}
use Rattle.rds_codec.proofs.InFormats.{answer_in_reader}
use Rattle.rds_codec.proofs.Whole.{IsReaderOf}
use Rattle.rds_keep.specs.FedTexts.{decodes_texts}
use Rattle.rds_keep.specs.Feeding.{EachIsByte}
use Rattle.rds_session.specs.Bodies.{hello_in, digest_in, answer_in}
use Rattle.rds_session.specs.Contents.{ContentValue, OfHello, OfDigest, OfHash, OfDelta, OfBye, OfMark, IsRead, IsReadFor, body_read, bye_read, code_read, content_judged, expected_of, expects_hash, expects_mark, hash_read, hello_read, kind_read, message_read, plain_read, read_as, version_read}
use Rattle.rds_session.specs.Judging.{Awaited, ForHello, ForDigest, ForWhole, ForDelta, ForBye, Said, Judges, StopsAs, StopsByNoDevice, body_came, bye_came, code_came, hash_came, hash_judged, hello_came, is_done, kind_came, plain_came, read_then, replicas_of, verdict, version_came, version_with, waits_for_hash, waits_for_mark}
use Rattle.rds_answers.specs.Hashes.{hash_in}
use Rattle.rds_session.specs.Marked.{mark_read}
use Rattle.rds_session.specs.Messages.{bye_of, kind_of}
use Rattle.rds_session.specs.Versions.{as_hello, delta_format, says_briefs}
use Rattle.rds_session.specs.declared.version.Version.{Version}
use Rattle.rds_session.specs.declared.version.Version.TheVariants.{One, Two, Three, Four, Five}
use Rattle.rds_state.specs.declared.mark.Mark.{Mark}
use Rattle.rds_session.specs.declared.content.Expected.{Expected}
use Rattle.rds_session.specs.declared.content.Expected.TheVariants as expecteds
use Rattle.rds_session.specs.declared.kinds.ByeCode.{ByeCode}
use Rattle.rds_session.specs.declared.kinds.MessageKind.{MessageKind}
use Rattle.rds_session.specs.declared.kinds.MessageKind.TheVariants as kinds
use Rattle.rds_session.specs.declared.talk.Act.{Act}
use Rattle.rds_session.specs.declared.talk.Side.{Side}
use Rattle.rds_session.specs.declared.talk.Stop.{Stop}
use Rattle.rds_session.specs.declared.talk.Stop.TheVariants.{Refused}
use Rattle.rds_session.proofs.Knowing.{known_fault}

-- ---- the verdict

as_is : {A : Type 0} (f : A → ContentValue) (r : Result A Fault) (g : ContentValue → Result Said Stop) → read_then r (λ x. g (f x)) ≡ read_then (read_as f r) g
as_is f (Ok x) g = refl
as_is f (Err e) g = refl

version_is : (kept : ReplicaValue) (side : Side) (version : Option Version) (rest : List ℕ) → version_came kept version rest ≡ read_then (version_read version rest) (content_judged kept (ForHello side))
version_is kept side None rest = refl
version_is kept side (Some version) rest = as_is (OfHello version) (hello_in (as_hello version rest)) (content_judged kept (ForHello side))

hello_is : (kept : ReplicaValue) (side : Side) (body : List ℕ) → hello_came side kept body ≡ read_then (hello_read side body) (content_judged kept (ForHello side))
hello_is kept side [] = refl
hello_is kept side (byte ∷ rest) = version_is kept side (version_with side byte) rest

plain_is : (kept : ReplicaValue) (turn : Awaited) (code : ByeCode) (rest : List ℕ) → plain_came turn code rest ≡ read_then (plain_read code rest) (content_judged kept turn)
plain_is kept turn code [] = refl
plain_is kept turn code (b ∷ rest) = refl

marked_is : (kept : ReplicaValue) (turn : Awaited) (code : ByeCode) (rest : List ℕ) (marked : Bool)
    → cond marked (read_then (mark_read rest) (λ m. content_judged kept turn (OfMark m))) (plain_came turn code rest)
    ≡ read_then (cond marked (read_as OfMark (mark_read rest)) (plain_read code rest)) (content_judged kept turn)
marked_is kept turn code rest true = as_is OfMark (mark_read rest) (content_judged kept turn)
marked_is kept turn code rest false = plain_is kept turn code rest

waits_is : (kept : ReplicaValue) (turn : Awaited) → waits_for_mark turn ≡ expects_mark (expected_of kept turn)
waits_is kept (ForHello side) = refl
waits_is kept (ForDigest peer) = refl
waits_is kept (ForWhole peer) = refl
waits_is kept (ForDelta peer digest) = refl
waits_is kept (ForBye mark) = refl

code_is : (kept : ReplicaValue) (turn : Awaited) (code : Option ByeCode) (rest : List ℕ) → code_came turn code rest ≡ read_then (code_read (waits_for_mark turn) code rest) (content_judged kept turn)
code_is kept turn None rest = refl
code_is kept turn (Some code) rest = marked_is kept turn code rest (waits_for_mark turn && is_done code)

bye_is : (kept : ReplicaValue) (turn : Awaited) (body : List ℕ) → bye_came turn body ≡ read_then (bye_read (expects_mark (expected_of kept turn)) body) (content_judged kept turn)
bye_is kept turn [] = refl
bye_is kept turn (b ∷ rest) =
    code_is kept turn (bye_of b) rest ∙ ap (λ (marked : Bool). read_then (code_read marked (bye_of b) rest) (content_judged kept turn)) (waits_is kept turn)

waits_for_hash_is : (kept : ReplicaValue) (turn : Awaited) → waits_for_hash turn ≡ expects_hash (expected_of kept turn)
waits_for_hash_is kept (ForHello side) = refl
waits_for_hash_is kept (ForDigest peer) = refl
waits_for_hash_is kept (ForWhole peer) = refl
waits_for_hash_is kept (ForDelta peer digest) = refl
waits_for_hash_is kept (ForBye mark) = refl

hashed_is : (kept : ReplicaValue) (turn : Awaited) (hashed : Bool) (body : List ℕ)
    → cond hashed (read_then (hash_in body) (hash_judged kept turn)) (Err (Refused Bad)) ≡ read_then (hash_read hashed body) (content_judged kept turn)
hashed_is kept turn true body = as_is OfHash (hash_in body) (content_judged kept turn)
hashed_is kept turn false body = refl

hash_is : (kept : ReplicaValue) (turn : Awaited) (body : List ℕ) → hash_came kept turn body ≡ read_then (hash_read (expects_hash (expected_of kept turn)) body) (content_judged kept turn)
hash_is kept turn body =
    hashed_is kept turn (waits_for_hash turn) body ∙ ap (λ (hashed : Bool). read_then (hash_read hashed body) (content_judged kept turn)) (waits_for_hash_is kept turn)

body_is : (kept : ReplicaValue) (kind : MessageKind) (turn : Awaited) (body : List ℕ) → body_came kept kind turn body ≡ read_then (body_read (expected_of kept turn) kind body) (content_judged kept turn)
body_is kept kinds.Bye turn body = bye_is kept turn body
body_is kept kinds.Hash turn body = hash_is kept turn body
body_is kept kinds.Hello (ForHello side) body = hello_is kept side body
body_is kept kinds.Hello (ForDigest peer) body = refl
body_is kept kinds.Hello (ForWhole peer) body = refl
body_is kept kinds.Hello (ForDelta peer digest) body = refl
body_is kept kinds.Hello (ForBye mark) body = refl
body_is kept kinds.Digest (ForHello side) body = refl
body_is kept kinds.Digest (ForDigest peer) body = as_is OfDigest (digest_in peer.version (replicas_of kept peer.roster) body) (content_judged kept (ForDigest peer))
body_is kept kinds.Digest (ForWhole peer) body = as_is OfDigest (digest_in peer.version (replicas_of kept peer.roster) body) (content_judged kept (ForWhole peer))
body_is kept kinds.Digest (ForDelta peer digest) body = refl
body_is kept kinds.Digest (ForBye mark) body = refl
body_is kept kinds.Delta (ForHello side) body = refl
body_is kept kinds.Delta (ForDigest peer) body = refl
body_is kept kinds.Delta (ForWhole peer) body = refl
body_is kept kinds.Delta (ForDelta peer digest) body = as_is OfDelta (answer_in (delta_format peer.version) (replicas_of kept peer.roster) body) (content_judged kept (ForDelta peer digest))
body_is kept kinds.Delta (ForBye mark) body = refl

kind_is : (kept : ReplicaValue) (turn : Awaited) (kind : Option MessageKind) (body : List ℕ) → kind_came kept turn kind body ≡ read_then (kind_read (expected_of kept turn) kind body) (content_judged kept turn)
kind_is kept turn None body = refl
kind_is kept turn (Some kind) body = body_is kept kind turn body

-- what a message is taken as is what it says, judged
pub verdict_is : (kept : ReplicaValue) (turn : Awaited) (m : List ℕ) → verdict kept turn m ≡ read_then (message_read (expected_of kept turn) m) (content_judged kept turn)
unfolding verdict message_read
verdict_is kept turn [] = refl
verdict_is kept turn (n ∷ body) = kind_is kept turn (kind_of n) body

pub judged_as : {S : Type 0} (kept : ReplicaValue) (turn : Awaited) (m : List ℕ) (expected : Expected) (r : Result (Act S) Stop) (content : ContentValue) → expected ≡ expected_of kept turn
    → message_read expected m ≡ Ok content → Judges r (content_judged kept turn content) → Judges r (verdict kept turn m)
judged_as kept turn m expected r content same read judges =
    let read_so : message_read (expected_of kept turn) m ≡ Ok content = ap (λ (x : Expected). message_read x m) (sym same) ∙ read in
    subst (Judges r) (sym (verdict_is kept turn m ∙ ap (λ (x : Result ContentValue Fault). read_then x (content_judged kept turn)) read_so)) judges

stopped : (kept : ReplicaValue) (turn : Awaited) (m : List ℕ) (e : Fault) → Fails e (message_read (expected_of kept turn) m) → StopsAs (Refused e) (verdict kept turn m)
stopped kept turn m Memory fails = tt
stopped kept turn m e fails = verdict_is kept turn m ∙ ap (λ (x : Result ContentValue Fault). read_then x (content_judged kept turn)) fails

pub refused_as : (kept : ReplicaValue) (turn : Awaited) (m : List ℕ) (expected : Expected) (e : Fault) → expected ≡ expected_of kept turn → Fails e (message_read expected m)
    → StopsAs (Refused e) (verdict kept turn m)
refused_as kept turn m expected e same fails = stopped kept turn m e (subst (λ (x : Expected). Fails e (message_read x m)) same fails)

-- ---- its faults

abbrev IsKnown : {A : Type 0} → Result A Fault → Type 0
IsKnown r = IfErr r (λ e. StopsByNoDevice (Refused e))

fails_so : {A : Type 0} (e : Fault) (r : Result A Fault) → r ≡ Err e → Fails e r
fails_so Memory r is = tt
fails_so e r is = is

text_known : {V : Type 0} (kind : Kind V) (reader : Reader V) → IsReaderOf kind reader → (bytes : List ℕ) → EachIsByte bytes → length bytes ≤ LIMIT → (r : Result V Fault) → all_of reader bytes ≡ r → IsKnown r
text_known kind reader laws bytes are within (Ok v) is = tt
text_known kind reader laws bytes are within (Err e) is = known_fault e ((decodes_texts kind reader laws).decodes bytes (Err e) are within (fails_so e (all_of reader bytes) is)).other

as_known : {A : Type 0} (f : A → ContentValue) (r : Result A Fault) → IsKnown r → IsKnown (read_as f r)
as_known f (Ok x) known = tt
as_known f (Err e) known = known

if_known : (b : Bool) (r s : Result ContentValue Fault) → IsKnown r → IsKnown s → IsKnown (cond b r s)
if_known true r s p q = p
if_known false r s p q = q

plain_known : (code : ByeCode) (rest : List ℕ) → IsKnown (plain_read code rest)
plain_known code [] = tt
plain_known code (b ∷ rest) = tt

mark_known : (short long : Bool) (mark : Mark) → IsKnown (cond short (Err Cut) (cond long (Err Extra) (Ok mark)))
mark_known true long mark = tt
mark_known false true mark = tt
mark_known false false mark = tt

code_known : (marked : Bool) (code : Option ByeCode) (rest : List ℕ) → IsKnown (code_read marked code rest)
code_known marked None rest = tt
code_known marked (Some code) rest =
    if_known (marked && is_done code) (read_as OfMark (mark_read rest)) (plain_read code rest)
    (as_known OfMark (mark_read rest) (mark_known (ltb (length rest) 16) (ltb 16 (length rest)) _))
    (plain_known code rest)

bye_known : (marked : Bool) (body : List ℕ) → IsKnown (bye_read marked body)
bye_known marked [] = tt
bye_known marked (b ∷ rest) = code_known marked (bye_of b) rest

hash_in_known : (short long : Bool) (bytes : List ℕ) → IsKnown (cond short (Err Cut) (cond long (Err Extra) (Ok bytes)))
hash_in_known true long bytes = tt
hash_in_known false true bytes = tt
hash_in_known false false bytes = tt

hash_known : (hashed : Bool) (body : List ℕ) → IsKnown (hash_read hashed body)
hash_known true body = as_known OfHash (hash_in body) (hash_in_known (ltb (length body) 32) (ltb 32 (length body)) body)
hash_known false body = tt

-- the version's own byte is one too
hello_bytes : (version : Version) (byte : ℕ) (rest : List ℕ) → EachIsByte (byte ∷ rest) → EachIsByte (as_hello version rest)
hello_bytes One byte rest are zero = omega arith
hello_bytes Two byte rest are zero = omega arith
hello_bytes Three byte rest are zero = omega arith
hello_bytes Four byte rest are zero = omega arith
hello_bytes Five byte rest are zero = omega arith
hello_bytes version byte rest are (suc i) = are (suc i)

version_known : (version : Option Version) (rest : List ℕ) → ((v : Version) → EachIsByte (as_hello v rest)) → length rest < LIMIT → IsKnown (version_read version rest)
unfolding hello_in
version_known None rest are within = tt
version_known (Some version) rest are within =
    as_known (OfHello version) (hello_in (as_hello version rest))
    (text_known hello_kind hello_at hello_reader (as_hello version rest) (are version) (omega (arith, within)) (hello_in (as_hello version rest)) refl)

hello_known : (side : Side) (body : List ℕ) → EachIsByte body → length body ≤ LIMIT → IsKnown (hello_read side body)
hello_known side [] are within = tt
hello_known side (byte ∷ rest) are within = version_known (version_with side byte) rest (λ v. hello_bytes v byte rest are) (omega (arith, within))

module _ (body : List ℕ) (are : EachIsByte body) (within : length body ≤ LIMIT) where
  whole_known : (n : ℕ) (briefs : Bool) → IsKnown (cond briefs (all_of (brief_at n) body) (all_of (digest_at n) body))
  whole_known n true = text_known (brief_kind n) (brief_at n) (brief_reader n) body are within (all_of (brief_at n) body) refl
  whole_known n false = text_known (digest_kind n) (digest_at n) (digest_reader n) body are within (all_of (digest_at n) body) refl

  digest_known : (version : Version) (n : ℕ) → IsKnown (read_as OfDigest (digest_in version n body))
  unfolding digest_in
  digest_known version n = as_known OfDigest (digest_in version n body) (whole_known n (says_briefs version))

  delta_known : (format : Format) (n : ℕ) → IsKnown (read_as OfDelta (answer_in format n body))
  unfolding answer_in
  delta_known format n = as_known OfDelta (answer_in format n body)
      (text_known (answer_kind_in format n) (answer_at_in format n) (answer_in_reader format n) body are within (answer_in format n body) refl)

  body_known : (expected : Expected) (kind : MessageKind) → IsKnown (body_read expected kind body)
  body_known expected kinds.Bye = bye_known (expects_mark expected) body
  body_known expected kinds.Hash = hash_known (expects_hash expected) body
  body_known (expecteds.Hello side) kinds.Hello = hello_known side body are within
  body_known (expecteds.Digest version n hashed) kinds.Hello = tt
  body_known (expecteds.Delta format n) kinds.Hello = tt
  body_known (expecteds.Bye marked) kinds.Hello = tt
  body_known (expecteds.Hello side) kinds.Digest = tt
  body_known (expecteds.Digest version n hashed) kinds.Digest = digest_known version n
  body_known (expecteds.Delta format n) kinds.Digest = tt
  body_known (expecteds.Bye marked) kinds.Digest = tt
  body_known (expecteds.Hello side) kinds.Delta = tt
  body_known (expecteds.Digest version n hashed) kinds.Delta = tt
  body_known (expecteds.Delta format n) kinds.Delta = delta_known format n
  body_known (expecteds.Bye marked) kinds.Delta = tt

  kind_known : (expected : Expected) (kind : Option MessageKind) → IsKnown (kind_read expected kind body)
  kind_known expected None = tt
  kind_known expected (Some kind) = body_known expected kind

message_known : (expected : Expected) (m : List ℕ) → EachIsByte m → length m ≤ LIMIT → IsKnown (message_read expected m)
unfolding message_read
message_known expected [] are within = tt
message_known expected (n ∷ body) are within = kind_known body (λ i. are (suc i)) (omega arith) expected (kind_of n)

known_so : (e : Fault) (r : Result ContentValue Fault) → Fails e r → IsKnown r → StopsByNoDevice (Refused e)
known_so Memory r fails known = tt
known_so e r fails known = rw fails at known

-- none of them is that of a device
pub known_end : (expected : Expected) (m : List ℕ) (e : Fault) → EachIsByte m → length m ≤ LIMIT → Fails e (message_read expected m) → StopsByNoDevice (Refused e)
known_end expected m e are within fails = known_so e (message_read expected m) fails (message_known expected m are within)

-- ---- the answer

read_delta : (r : Result AnswerValue Fault) (a : AnswerValue) → read_as OfDelta r ≡ Ok (OfDelta a) → r ≡ Ok a
read_delta (Ok x) a is = cc
read_delta (Err e) a is = absurd cc

mark_no_delta : (r : Result Mark Fault) (a : AnswerValue) → read_as OfMark r ≡ Ok (OfDelta a) → ⊥
mark_no_delta (Ok m) a is = cc
mark_no_delta (Err e) a is = cc

plain_no_delta : (code : ByeCode) (rest : List ℕ) (a : AnswerValue) → plain_read code rest ≡ Ok (OfDelta a) → ⊥
plain_no_delta code [] a is = cc
plain_no_delta code (x ∷ xs) a is = cc

if_no_delta : (marked : Bool) (code : ByeCode) (rest : List ℕ) (a : AnswerValue) → cond marked (read_as OfMark (mark_read rest)) (plain_read code rest) ≡ Ok (OfDelta a) → ⊥
if_no_delta true code rest a is = mark_no_delta (mark_read rest) a is
if_no_delta false code rest a is = plain_no_delta code rest a is

code_no_delta : (marked : Bool) (code : Option ByeCode) (rest : List ℕ) (a : AnswerValue) → code_read marked code rest ≡ Ok (OfDelta a) → ⊥
code_no_delta marked None rest a is = cc
code_no_delta marked (Some code) rest a is = if_no_delta (marked && is_done code) code rest a is

bye_no_delta : (marked : Bool) (body : List ℕ) (a : AnswerValue) → bye_read marked body ≡ Ok (OfDelta a) → ⊥
bye_no_delta marked [] a is = cc
bye_no_delta marked (b ∷ rest) a is = code_no_delta marked (bye_of b) rest a is

kind_of_delta : (format : Format) (n : ℕ) (kind : Option MessageKind) (body : List ℕ) (a : AnswerValue) → kind_read (expecteds.Delta format n) kind body ≡ Ok (OfDelta a) → answer_in format n body ≡ Ok a
kind_of_delta format n None body a is = absurd cc
kind_of_delta format n (Some kinds.Bye) body a is = absurd (bye_no_delta false body a is)
kind_of_delta format n (Some kinds.Hash) body a is = absurd cc
kind_of_delta format n (Some kinds.Hello) body a is = absurd cc
kind_of_delta format n (Some kinds.Digest) body a is = absurd cc
kind_of_delta format n (Some kinds.Delta) body a is = read_delta (answer_in format n body) a is

answer_of : (format : Format) (n : ℕ) (body : List ℕ) (a : AnswerValue) → EachIsByte body → length body ≤ LIMIT → answer_in format n body ≡ Ok a → IsAnswerOf n a
unfolding answer_in
answer_of format n body a are within is =
    ((decodes_texts (answer_kind_in format n) (answer_at_in format n) (answer_in_reader format n)).decodes body (Ok a) are within is).value.1.is_value

delta_read : (format : Format) (n : ℕ) (m : List ℕ) (a : AnswerValue) → EachIsByte m → length m ≤ LIMIT → message_read (expecteds.Delta format n) m ≡ Ok (OfDelta a) → IsRead format n a
unfolding message_read
delta_read format n [] a are within is = absurd cc
delta_read format n (b ∷ body) a are within is =
    let read = kind_of_delta format n (kind_of b) body a is in
    record { body = body; read = read; value = answer_of format n body a (λ i. are (suc i)) (omega arith) read }

read_so : (kept : ReplicaValue) (turn : Awaited) (m : List ℕ) (content : ContentValue) → EachIsByte m → length m ≤ LIMIT → message_read (expected_of kept turn) m ≡ Ok content → IsReadFor kept turn content
read_so kept (ForDelta peer digest) m (OfDelta a) are within is = delta_read (delta_format peer.version) (replicas_of kept peer.roster) m a are within is
read_so kept (ForDelta peer digest) m (OfHello version h) are within is = tt
read_so kept (ForDelta peer digest) m (OfMark mark) are within is = tt
read_so kept (ForDelta peer digest) m (OfDigest d) are within is = tt
read_so kept (ForDelta peer digest) m (OfHash hash) are within is = tt
read_so kept (ForDelta peer digest) m (OfBye code) are within is = tt
read_so kept (ForHello side) m content are within is = tt
read_so kept (ForDigest peer) m content are within is = tt
read_so kept (ForWhole peer) m content are within is = tt
read_so kept (ForBye mark) m content are within is = tt

pub read_for : (kept : ReplicaValue) (turn : Awaited) (m : List ℕ) (expected : Expected) (content : ContentValue) → expected ≡ expected_of kept turn → EachIsByte m → length m ≤ LIMIT
    → message_read expected m ≡ Ok content → IsReadFor kept turn content
read_for kept turn m expected content same are within read = read_so kept turn m content are within (ap (λ (x : Expected). message_read x m) (sym same) ∙ read)
