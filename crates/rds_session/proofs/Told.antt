-- What one replica tells another is accepted, message by message.
use Rattle.std.proofs.Common.{◌≡◌, ℕ, ◌≤◌, Bool, true, false, cond, eqb, ltb, List, [], ◌∷◌, length, Option, Some, None, Result, Ok, Err, refl, sym, ap, ◌∙◌, subst, arith}
use Rattle.std.proofs.lemmas.Bool.{ne_eqb, eq-eqb, le-ltb, ltb-false}
use Rattle.std.proofs.lemmas.List.{append-nil}
use Rattle.std.specs.Str.{bytes_eq}
use Rattle.sha2.specs.Sha256.{sha256}
use Rattle.sha2.proofs.Facts256.{length-sha256}
use Rattle.rds_names.specs.declared.fault.Fault.{Fault}
use Rattle.rds_names.specs.declared.fault.Fault.TheVariants.{Bad, Extra}
use Rattle.rds_delta.specs.Least.{least}
use Rattle.rds_codec.specs.CertificateTexts.{IsReplicaOf}
use Rattle.rds_state.specs.Fits.{ReplicaValue}
use Rattle.rds_names.specs.Roster.{OneBegins}
use Rattle.rds_state.specs.Value.{StateValue, coordinates}
use Rattle.rds_delta.specs.Digested.{DigestValue, IsInside, digest_of}
use Rattle.rds_briefs.specs.Briefs.{brief_kind, brief_text}
use Rattle.rds_briefs.specs.ReadBriefs.{brief_at}
use Rattle.rds_briefs.proofs.AsRead.{brief_reader}
use Rattle.rds_codec.specs.AnswerTexts.{answer}
use Rattle.rds_codec.specs.AnswerValues.{AnswerValue}
use Rattle.rds_codec.specs.DigestTexts.{digest_at, digest_text, digest_kind}
use Rattle.rds_codec.specs.FormatTexts.{answer_at_in, answer_text_in, answer_kind_in}
use Rattle.rds_codec.specs.HelloTexts.{hello_at, hello_text, hello_kind, is_version, version_of}
use Rattle.rds_state.specs.declared.mark.Mark.{Mark}
use Rattle.rds_codec.specs.Kinds.{Kind}
use Rattle.rds_bytes.specs.Reading.{◌>>=◌, Reader}
use Rattle.rds_bytes.specs.Spelling.{member_text}
use Rattle.rds_codec.specs.Decoding.{all_of}
use Rattle.rds_codec.specs.StateTexts.{IsSnapshot, IsStateOf}
use Rattle.rds_codec.specs.declared.hellos.Hello.{Hello}
use Rattle.rds_codec.specs.declared.limits.TheConstants.{LIMIT}
use Rattle.rds_bytes.proofs.PartFormats.{few_of_names}
use Rattle.rds_delta.proofs.Digests.{ranks_of_digest}
use Rattle.rds_codec.proofs.DigestFormats.{digest_reader}
use Rattle.rds_codec.proofs.HelloFormats.{hello_reader}
use Rattle.rds_codec.proofs.InFormats.{answer_in_reader}
use Rattle.rds_codec.proofs.Longer.{state_longer}
use Rattle.rds_codec.proofs.Whole.{IsReaderOf}
use Rattle.rds_session.specs.Bodies.{hello_in, digest_in, answer_in}
use Rattle.rds_answers.specs.Checked.{certificate_of, least_state}
use Rattle.rds_session.specs.declared.version.Version.{Version}
use Rattle.rds_session.specs.declared.version.Version.TheVariants.{One, Two, Three, Four, Five}
use Rattle.rds_session.specs.Judging.{ForHello, ForDigest, ForWhole, ForDelta, ForBye, Said, Greets, Learns, Shares, Misses, Receives, Finishes, Forks, verdict, hash_judged, read_then, version_with, version_came, member_judged, delta_judged, mark_judged, longer_than}
use Rattle.rds_session.specs.declared.chunks.TheConstants.{MESSAGE_LIMIT}
use Rattle.rds_session.specs.declared.kinds.MessageKind.TheVariants as kinds
use Rattle.rds_session.specs.declared.talk.Stop.TheVariants.{Refused}
use Rattle.rds_answers.specs.Hashes.{digest_hash, hash_in}
use Rattle.rds_session.specs.Marked.{same_mark}
use Rattle.rds_session.specs.Wants.{heard_behind, said_behind, wanted_by, wants_of}
use Rattle.rds_codec.specs.declared.formats.Format.{Format}
use Rattle.rds_session.specs.Versions.{as_hello, delta_format, says_briefs, says_hashes, version_byte}
use Rattle.rds_answers.proofs.MarkHalves.{IsMark}
use Rattle.rds_session.proofs.MarkTexts.{mark_again}
use Rattle.rds_session.specs.Meeting.{FitsMessages, IsItsLeast, last_mark}
use Rattle.rds_session.specs.Messages.{hello_message, behind_message, digest_body, digest_message, digest_said, hash_message, delta_message, done_message, type_byte}
use Rattle.rds_session.specs.Received.{Delivery}
use Rattle.rds_session.specs.declared.talk.Peer.{Peer}
use Rattle.rds_session.specs.declared.talk.Side.{Side}
use Rattle.rds_session.specs.declared.talk.Side.TheVariants.{Client, Server}
use Rattle.rds_answers.proofs.Checks.{least_coordinates, least_passes}
use Rattle.rds_session.proofs.Rosters.{among, both_within, group_is, one_begins_is}
use Rattle.rds_answers.proofs.Tellings.{digest_is, answer_is}
use Rattle.rds_session.proofs.Wanting.{answer_same, wants_is}

-- one hears what the other tells in a version
pub record IsTold (version : Version) (k from : ReplicaValue) : Type 0 where
  pub roster : OneBegins k.roster from.roster
  pub others : from.own ≡ k.own → ⊥
  pub text : IsSnapshot from
  pub own_text : IsSnapshot k
  pub room : FitsMessages version from k

-- a text is read whole
read_whole : {V : Type 0} (kind : Kind V) (read : Reader V) → IsReaderOf kind read → (v : V) → kind.is_value v → length (kind.text v) ≤ LIMIT → all_of read (kind.text v) ≡ Ok v
read_whole {V} kind read is v h le =
    let e : read (kind.text v) ≡ Ok (v, []) = ap read (sym (append-nil (kind.text v))) ∙ is.again v [] h le in
    ap (λ (r : Result (V × List ℕ) Fault). r >>= λ x. cond (eqb (length x.1) 0) (Ok x.0) (Err Extra)) e

-- ---- HELLO

-- a hello of the format of the version, as that version's is read
hello_of : ReplicaValue → Version → Hello
hello_of from version = record { version = version_of (delta_format version); roster = from.roster; own = from.own }

version_is : (version : Version) → is_version (version_of (delta_format version)) ≡ true
version_is One = refl
version_is Two = refl
version_is Three = refl
version_is Four = refl
version_is Five = refl

hello_again : (from : ReplicaValue) (version : Version) → IsSnapshot from → length (hello_text (hello_of from version)) ≤ LIMIT → hello_in (hello_text (hello_of from version)) ≡ Ok (hello_of from version)
unfolding hello_in hello_of
hello_again from version h le = read_whole hello_kind hello_at hello_reader (hello_of from version) (record { version = version_is version; member = h.member }) le

-- who speaks, as it is known to the one that hears it
abbrev pub speaker : Version → ReplicaValue → ReplicaValue → Peer
speaker version k from = record { number = from.own; roster = longer_than k.roster from.roster; version = version }

-- a side that speaks the version takes it
pub hello_accepted : (side : Side) (version : Version) (k from : ReplicaValue) → version_with side (version_byte version) ≡ Some version → IsTold version k from
    → verdict k (ForHello side) (hello_message from version) ≡ Ok (Greets (speaker version k from))
unfolding verdict hello_of hello_text
hello_accepted side version k from speaks t =
    let o : eqb from.own k.own ≡ false = ne_eqb _ _ t.others in
    let body = member_text from.roster from.own in
    let read : hello_in (as_hello version body) ≡ Ok (hello_of from version) = hello_again from version t.text (omega (arith, t.room.hello)) in
    ap (λ (v : Option Version). version_came k v body) speaks
    ∙ ap (λ (r : Result Hello Fault). read_then r (member_judged k version)) read
    ∙ rw (group_is k.roster from.roster t.roster, one_begins_is k.roster from.roster t.roster, o) refl

-- a server speaks each version, and a client its own
pub server_speaks : (version : Version) → version_with Server (version_byte version) ≡ Some version
server_speaks One = refl
server_speaks Two = refl
server_speaks Three = refl
server_speaks Four = refl
server_speaks Five = refl

pub client_speaks : (version : Version) → version_with (Client version) (version_byte version) ≡ Some version
client_speaks One = refl
client_speaks Two = refl
client_speaks Three = refl
client_speaks Four = refl
client_speaks Five = refl

-- ---- the longer roster

-- what it tells has a text among so many replicas
told_state : (version : Version) (k from : ReplicaValue) → IsTold version k from → IsStateOf (among k from) from.state
told_state version k from t = state_longer (length from.roster.names) (among k from) (both_within k from).0 from.state t.text.state

own_state : (version : Version) (k from : ReplicaValue) → IsTold version k from → IsStateOf (among k from) k.state
own_state version k from t = state_longer (length k.roster.names) (among k from) (both_within k from).1 k.state t.own_text.state

-- the own number is a byte, below the roster's length
own_is : (k from : ReplicaValue) → IsSnapshot k → IsReplicaOf (among k from) k.own
own_is k from h =
    let few = few_of_names k.roster.names h.member.names in
    let within = (both_within k from).1 in
    (omega (arith, few, h.member.own_number), omega (arith, within, h.member.own_number))

-- ---- DIGEST

text_again : (n : ℕ) (v : StateValue) → IsStateOf n v → length (digest_text (digest_of v)) ≤ LIMIT → all_of (digest_at n) (digest_text (digest_of v)) ≡ Ok (digest_of v)
text_again n v is within = read_whole (digest_kind n) (digest_at n) (digest_reader n) (digest_of v) (digest_is n v is) within

brief_again : (n : ℕ) (v : StateValue) → IsStateOf n v → length (brief_text (digest_of v)) ≤ LIMIT → all_of (brief_at n) (brief_text (digest_of v)) ≡ Ok (digest_of v)
brief_again n v is within = read_whole (brief_kind n) (brief_at n) (brief_reader n) (digest_of v) (digest_is n v is) within

abbrev said_so : Bool → DigestValue → List ℕ
said_so briefs g = cond briefs (brief_text g) (digest_text g)

said_again : (briefs : Bool) (n : ℕ) (v : StateValue) → IsStateOf n v → length (said_so briefs (digest_of v)) ≤ LIMIT
    → cond briefs (all_of (brief_at n) (said_so briefs (digest_of v))) (all_of (digest_at n) (said_so briefs (digest_of v))) ≡ Ok (digest_of v)
said_again true n v is within = brief_again n v is within
said_again false n v is within = text_again n v is within

digest_again : (version : Version) (n : ℕ) (v : StateValue) → IsStateOf n v → length (digest_body version (digest_of v)) ≤ LIMIT
    → digest_in version n (digest_body version (digest_of v)) ≡ Ok (digest_of v)
unfolding digest_in
digest_again version n v is within = said_again (says_briefs version) n v is within

digest_read : (version : Version) (k from : ReplicaValue) → IsTold version k from
    → read_then (digest_in version (among k from) (digest_body version (digest_of from.state))) (λ digest. Ok (Learns (speaker version k from) digest))
    ≡ Ok (Learns (speaker version k from) (digest_of from.state))
digest_read version k from t =
    ap (λ (r : Result DigestValue Fault). read_then r (λ digest. Ok (Learns (speaker version k from) digest)))
    (digest_again version (among k from) from.state (told_state version k from t) (omega (arith, t.room.digest)))

pub digest_accepted : (version : Version) (k from : ReplicaValue) → IsTold version k from
    → verdict k (ForDigest (speaker version k from)) (digest_message version from) ≡ Ok (Learns (speaker version k from) (digest_of from.state))
unfolding verdict
digest_accepted version k from t = digest_read version k from t

-- the same behind a hash that wasn't the own one: what is heard is taken for this
abbrev pub heard_so : Version → StateValue → DigestValue → DigestValue
heard_so version v g = heard_behind version (digest_of v) (said_behind version g (digest_of v))

behind_again_by : (briefs : Bool) (n : ℕ) (v w : StateValue) → IsStateOf n v → IsStateOf n w
    → (let said = cond briefs (wants_of (digest_of w) (digest_of v)) (digest_of w) in
    length (said_so briefs said) ≤ LIMIT → cond briefs (all_of (brief_at n) (said_so briefs said)) (all_of (digest_at n) (said_so briefs said)) ≡ Ok said)
behind_again_by true n v w is-v is-w within =
    read_whole (brief_kind n) (brief_at n) (brief_reader n) (wants_of (digest_of w) (digest_of v)) (wants_is v (digest_of w) n (digest_is n w is-w) (digest_is n v is-v).dots) within
behind_again_by false n v w is-v is-w within = text_again n w is-w within

behind_again : (version : Version) (n : ℕ) (v w : StateValue) → IsStateOf n v → IsStateOf n w → length (digest_body version (said_behind version (digest_of w) (digest_of v))) ≤ LIMIT
    → digest_in version n (digest_body version (said_behind version (digest_of w) (digest_of v))) ≡ Ok (said_behind version (digest_of w) (digest_of v))
unfolding digest_in
behind_again version n v w is-v is-w within = behind_again_by (says_briefs version) n v w is-v is-w within

pub whole_accepted : (version : Version) (k from : ReplicaValue) → IsTold version k from
    → verdict k (ForWhole (speaker version k from)) (behind_message version from (digest_of k.state)) ≡ Ok (Learns (speaker version k from) (heard_so version k.state (digest_of from.state)))
unfolding verdict
whole_accepted version k from t =
    ap (λ (r : Result DigestValue Fault). read_then r (λ digest. Ok (Learns (speaker version k from) (heard_behind version (digest_of k.state) digest))))
    (behind_again version (among k from) k.state from.state (own_state version k from t) (told_state version k from t) (omega (arith, t.room.behind)))

-- and answered as if all of it had been said
behind_answer_by : (briefs : Bool) (v : StateValue) (g : DigestValue) → IsInside g.live g.seen → (format : Format) (asker : ℕ)
    → (let heard = cond briefs (wanted_by (digest_of v) (cond briefs (wants_of g (digest_of v)) g)) (cond briefs (wants_of g (digest_of v)) g) in
    answer asker (least_state v heard) (certificate_of heard (least_state v heard)) ≡ answer asker (least_state v g) (certificate_of g (least_state v g)))
behind_answer_by true v g inside format asker = answer_same v g inside asker
behind_answer_by false v g inside format asker = refl

pub behind_answer : (version : Version) (k : ReplicaValue) (g : DigestValue) → IsInside g.live g.seen → (format : Format) (asker : ℕ)
    → delta_message k format asker (heard_so version k.state g) ≡ delta_message k format asker g
behind_answer version k g inside format asker =
    ap (λ (a : AnswerValue). type_byte kinds.Delta ∷ answer_text_in format a) (behind_answer_by (says_briefs version) k.state g inside format asker)

ok_same : {A : Type 0} (r : Result A Fault) (x y : A) → r ≡ Ok x → r ≡ Ok y → x ≡ y
ok_same r x y first second = let same = sym first ∙ second in cc

-- of two digests with one text one is the other
pub same_digest : (version : Version) (k from : ReplicaValue) → IsTold version k from → length (digest_text (digest_of k.state)) ≤ LIMIT
    → digest_text (digest_of from.state) ≡ digest_text (digest_of k.state) → digest_of from.state ≡ digest_of k.state
same_digest version k from t within same =
    let n = among k from in
    let first = text_again n from.state (told_state version k from t) (subst (λ (x : List ℕ). length x ≤ LIMIT) (sym same) within) in
    let second = text_again n k.state (own_state version k from t) within in
    ok_same (all_of (digest_at n) (digest_text (digest_of from.state))) (digest_of from.state) (digest_of k.state) first (ap (all_of (digest_at n)) same ∙ second)

-- ---- HASH

-- where hashes are said, what is said first is one
pub hash_first : (version : Version) (k from : ReplicaValue) → FitsMessages version from k → says_hashes version ≡ true → length (hash_message from) ≤ MESSAGE_LIMIT
hash_first version k from room says = subst (λ (hashed : Bool). length (digest_said hashed version from) ≤ MESSAGE_LIMIT) says room.first

-- what is within the limit then is a hash, of a text that is
text_room : (text hash : List ℕ) (long : Bool) → ltb LIMIT (length text) ≡ long → length (cond long (type_byte kinds.Digest ∷ text) (type_byte kinds.Hash ∷ hash)) ≤ MESSAGE_LIMIT
    → length text ≤ LIMIT
text_room text hash true is room = omega (arith, room)
text_room text hash false is room = ltb-false _ _ is

pub hash_room : (k : ReplicaValue) → length (hash_message k) ≤ MESSAGE_LIMIT → length (digest_text (digest_of k.state)) ≤ LIMIT
hash_room k room =
    let text = digest_text (digest_of k.state) in
    text_room text (digest_hash (digest_of k.state)) (ltb LIMIT (length text)) refl room

hash_is : (k : ReplicaValue) → length (hash_message k) ≤ MESSAGE_LIMIT → hash_message k ≡ type_byte kinds.Hash ∷ digest_hash (digest_of k.state)
hash_is k room = let short : ltb LIMIT (length (digest_text (digest_of k.state))) ≡ false = le-ltb _ _ (hash_room k room) in rw short refl

hash_again : (m : List ℕ) → hash_in (sha256 m) ≡ Ok (sha256 m)
hash_again m =
    let n = length-sha256 m in
    let not_short : ltb (length (sha256 m)) 32 ≡ false = le-ltb _ _ (omega (arith, n)) in
    let not_long : ltb 32 (length (sha256 m)) ≡ false = le-ltb _ _ (omega (arith, n)) in
    rw (not_short, not_long) refl

-- it is compared with that of the own digest
pub hash_accepted : (version : Version) (k from : ReplicaValue) (same : Bool) → says_hashes version ≡ true → length (hash_message k) ≤ MESSAGE_LIMIT → IsTold version k from
    → bytes_eq (digest_hash (digest_of from.state)) (digest_hash (digest_of k.state)) ≡ same
    → verdict k (ForDigest (speaker version k from)) (hash_message from) ≡ Ok (cond same (Shares (speaker version k from) (digest_of k.state)) (Misses (speaker version k from)))
unfolding verdict
hash_accepted version k from same says room t is =
    let peer = speaker version k from in
    let hash = digest_hash (digest_of from.state) in
    let short : ltb LIMIT (length (digest_text (digest_of k.state))) ≡ false = le-ltb _ _ (hash_room k room) in
    ap (verdict k (ForDigest peer)) (hash_is from (hash_first version k from t.room says))
    ∙ ap (λ (hashed : Bool). cond hashed (read_then (hash_in hash) (hash_judged k (ForDigest peer))) (Err (Refused Bad))) says
    ∙ ap (λ (r : Result (List ℕ) Fault). read_then r (hash_judged k (ForDigest peer))) (hash_again (digest_text (digest_of from.state)))
    ∙ rw (short, is) refl

-- ---- DELTA and BYE

pub delta_accepted : (version : Version) (k from : ReplicaValue) (digest : DigestValue) → IsTold version k from
    → verdict k (ForDelta (speaker version k from) digest) (delta_message from (delta_format version) k.own (digest_of k.state))
    ≡ Ok (Receives (least_state from.state (digest_of k.state)) (longer_than k.roster from.roster) (last_mark version k from))
unfolding verdict answer_in
delta_accepted version k from digest t =
    let n = among k from in
    let g = digest_of k.state in
    let format = delta_format version in
    let delta = least_state from.state g in
    let sent = answer k.own delta (certificate_of g delta) in
    let read : answer_in format n (answer_text_in format sent) ≡ Ok sent =
    read_whole (answer_kind_in format n) (answer_at_in format n) (answer_in_reader format n) sent
    (answer_is n k.own from.state g (own_is k from t.own_text) (told_state version k from t) (digest_is n k.state (own_state version k from t))) (omega (arith, t.room.delta)) in
    let own : eqb k.own k.own ≡ true = eq-eqb _ _ refl in
    ap (λ (r : Result AnswerValue Fault). read_then r (delta_judged k (speaker version k from))) read ∙ rw (own, least_passes from.state g) refl

-- what the peer's last word says, by the own mark and the one that it tells
abbrev pub ending : Option Mark → Option Mark → Said
ending (Some own) (Some mark) = cond (same_mark own mark) Finishes Forks
ending own mark = Finishes

-- each tells a mark, or neither does
abbrev pub AreAlike : Option Mark → Option Mark → Type 0
AreAlike (Some own) (Some mark) = IsMark mark
AreAlike None None = Unit {0}
AreAlike own mark = ⊥

pub done_accepted : (k : ReplicaValue) (own mark : Option Mark) → AreAlike own mark → verdict k (ForBye own) (done_message mark) ≡ Ok (ending own mark)
unfolding verdict
done_accepted k None None is = refl
done_accepted k (Some own) (Some mark) is = ap (λ (r : Result Mark Fault). read_then r (mark_judged (ForBye (Some own)))) (mark_again mark is)
done_accepted k None (Some mark) is = absurd is
done_accepted k (Some own) None is = absurd is

-- ---- what is received

pub its_least : (peer own : ReplicaValue) (received : Option Delivery)
    → received ≡ Some (least_state peer.state (digest_of own.state), longer_than own.roster peer.roster) → IsItsLeast peer own received
its_least peer own received is = record {
  delta = least_state peer.state (digest_of own.state);
  is_received = is;
  is_least = least_coordinates peer.state (digest_of own.state) ∙ ap (least (coordinates peer.state)) (ranks_of_digest own.state);
}
