-- Which message is accepted when.
use Rattle.std.proofs.Common.{ℕ, Bool, true, false, ◌&&◌, cond, eqb, ltb, List, [], ◌∷◌, length, Option, Some, None, Result, Ok, Err}
use Rattle.std.specs.Str.{bytes_eq}
use Rattle.rds_names.specs.declared.fault.Fault.{Fault}
use Rattle.rds_names.specs.declared.fault.Fault.TheVariants.{WrongAsker, Cut, Bad, TooLong, BadCertificate, WrongGroup, WrongRoster, SameReplica}
use Rattle.rds_state.specs.Fits.{ReplicaValue}
use Rattle.rds_delta.specs.Digested.{DigestValue, digest_of}
use Rattle.rds_session.specs.declared.talk.Peer.{Peer}
use Rattle.rds_session.specs.declared.talk.Side.{Side}
use Rattle.rds_session.specs.declared.talk.Stop.{Stop}
use Rattle.rds_session.specs.declared.talk.Stop.TheVariants.{Refused}
use Rattle.rds_codec.specs.AnswerValues.{AnswerValue}
use Rattle.rds_codec.specs.DigestTexts.{digest_text}
use Rattle.rds_codec.specs.declared.limits.TheConstants.{LIMIT}
use Rattle.rds_state.specs.declared.mark.Mark.{Mark}
use Rattle.rds_session.specs.declared.version.Version.{Version}
use Rattle.rds_codec.specs.declared.hellos.Hello.{Hello}
use Rattle.rds_session.specs.Bodies.{hello_in, digest_in, answer_in}
use Rattle.rds_answers.specs.Checked.{passes}
use Rattle.rds_session.specs.declared.kinds.ByeCode.{ByeCode}
use Rattle.rds_session.specs.declared.kinds.ByeCode.TheVariants as byes
use Rattle.rds_session.specs.declared.kinds.MessageKind.{MessageKind}
use Rattle.rds_session.specs.declared.kinds.MessageKind.TheVariants as kinds
use Rattle.rds_answers.specs.Hashes.{digest_hash, hash_in}
use Rattle.rds_session.specs.Marked.{mark_read, same_mark, told_mark}
use Rattle.rds_session.specs.Messages.{kind_of, bye_of}
use Rattle.rds_session.specs.Wants.{heard_behind}
use Rattle.rds_session.specs.Versions.{as_hello, delta_format}
use Rattle.rds_session.specs.Judging.{Awaited, ForHello, ForDigest, ForWhole, ForDelta, ForBye, Said, Greets, Learns, Shares, Misses, Receives, Finishes, Forks, verdict, bye_came, bye_judged, code_came, plain_came, body_came, hash_came, hash_judged, hash_said, hello_came, kind_came, is_done, mark_judged, version_came, version_with, waits_for_hash, waits_for_mark, member_judged, delta_judged, read_then, one_begins, peer_of, replicas_of}

abbrev pub IsActFor : Awaited → Said → Type 0
IsActFor (ForHello side) (Greets p) = Unit {0}
IsActFor (ForDigest q) (Learns p g) = Unit {0}
IsActFor (ForDigest q) (Shares p g) = Unit {0}
IsActFor (ForDigest q) (Misses p) = Unit {0}
IsActFor (ForWhole q) (Learns p g) = Unit {0}
IsActFor (ForDelta q g) (Receives d r mark) = Unit {0}
IsActFor (ForBye mark) Finishes = Unit {0}
IsActFor (ForBye mark) Forks = Unit {0}
IsActFor _ _ = ⊥

abbrev pub IsFor : Awaited → Result Said Stop → Type 0
IsFor turn (Ok said) = IsActFor turn said
IsFor turn (Err e) = Unit {0}

pub record Suits (turn : Awaited) (r : Result Said Stop) : Type 0 where
  pub fits : IsFor turn r

refusal_suits : (turn : Awaited) (e : Stop) → Suits turn (Err e)
refusal_suits turn e = record { fits = tt }

if_suits : (turn : Awaited) (b : Bool) (x y : Result Said Stop) → Suits turn x → Suits turn y → Suits turn (cond b x y)
if_suits turn true x y p q = p
if_suits turn false x y p q = q

read_suits : {A : Type 0} (turn : Awaited) (r : Result A Fault) (f : A → Result Said Stop) → ((x : A) → Suits turn (f x)) → Suits turn (read_then r f)
read_suits turn (Ok x) f h = h x
read_suits turn (Err e) f h = refusal_suits turn (Refused e)

done_suits : (turn : Awaited) → Suits turn (bye_judged byes.Done turn)
done_suits (ForBye None) = record { fits = tt }
done_suits (ForBye (Some own)) = record { fits = tt }
done_suits (ForHello side) = record { fits = tt }
done_suits (ForDigest q) = record { fits = tt }
done_suits (ForWhole q) = record { fits = tt }
done_suits (ForDelta q g) = record { fits = tt }

bye_judged_suits : (code : ByeCode) (turn : Awaited) → Suits turn (bye_judged code turn)
bye_judged_suits byes.Done turn = done_suits turn
bye_judged_suits byes.WrongVersion turn = record { fits = tt }
bye_judged_suits byes.WrongGroup turn = record { fits = tt }
bye_judged_suits byes.WrongRoster turn = record { fits = tt }
bye_judged_suits byes.SameReplica turn = record { fits = tt }
bye_judged_suits byes.Refused turn = record { fits = tt }
bye_judged_suits byes.OwnFault turn = record { fits = tt }

mark_suits : (turn : Awaited) (mark : Mark) → Suits turn (mark_judged turn mark)
mark_suits (ForBye (Some own)) mark = either_suits (same_mark own mark)
  where
    either_suits : (same : Bool) → Suits (ForBye (Some own)) (Ok (cond same Finishes Forks))
    either_suits true = record { fits = tt }
    either_suits false = record { fits = tt }
mark_suits (ForBye None) mark = record { fits = tt }
mark_suits (ForHello side) mark = record { fits = tt }
mark_suits (ForDigest q) mark = record { fits = tt }
mark_suits (ForWhole q) mark = record { fits = tt }
mark_suits (ForDelta q g) mark = record { fits = tt }

hash_judged_suits : (kept : ReplicaValue) (turn : Awaited) (hash : List ℕ) → Suits turn (hash_judged kept turn hash)
hash_judged_suits kept (ForDigest q) hash =
    if_suits (ForDigest q) (ltb LIMIT (length (digest_text (digest_of kept.state)))) (Err (Refused TooLong)) (Ok (hash_said kept q hash))
    (record { fits = tt })
    (either_suits (bytes_eq hash (digest_hash (digest_of kept.state))))
  where
    either_suits : (same : Bool) → Suits (ForDigest q) (Ok (cond same (Shares q (digest_of kept.state)) (Misses q)))
    either_suits true = record { fits = tt }
    either_suits false = record { fits = tt }
hash_judged_suits kept (ForHello side) hash = record { fits = tt }
hash_judged_suits kept (ForWhole q) hash = record { fits = tt }
hash_judged_suits kept (ForDelta q g) hash = record { fits = tt }
hash_judged_suits kept (ForBye mark) hash = record { fits = tt }

hash_suits : (kept : ReplicaValue) (turn : Awaited) (body : List ℕ) → Suits turn (hash_came kept turn body)
hash_suits kept turn body =
    if_suits turn (waits_for_hash turn) (read_then (hash_in body) (hash_judged kept turn)) (Err (Refused Bad))
    (read_suits turn (hash_in body) (hash_judged kept turn) (hash_judged_suits kept turn))
    (refusal_suits turn (Refused Bad))

plain_suits : (turn : Awaited) (code : ByeCode) (rest : List ℕ) → Suits turn (plain_came turn code rest)
plain_suits turn code [] = bye_judged_suits code turn
plain_suits turn code (b ∷ rest) = record { fits = tt }

code_suits : (turn : Awaited) (code : Option ByeCode) (rest : List ℕ) → Suits turn (code_came turn code rest)
code_suits turn None rest = record { fits = tt }
code_suits turn (Some code) rest =
    if_suits turn (waits_for_mark turn && is_done code) (read_then (mark_read rest) (mark_judged turn)) (plain_came turn code rest)
    (read_suits turn (mark_read rest) (mark_judged turn) (mark_suits turn))
    (plain_suits turn code rest)

bye_suits : (turn : Awaited) (body : List ℕ) → Suits turn (bye_came turn body)
bye_suits turn [] = refusal_suits turn (Refused Cut)
bye_suits turn (b ∷ rest) = code_suits turn (bye_of b) rest

abbrev same_own : ReplicaValue → Version → Hello → Result Said Stop
same_own kept version h = cond (eqb h.own kept.own) (Err (Refused SameReplica)) (Ok (Greets (peer_of kept version h)))

abbrev other_names : ReplicaValue → Version → Hello → Result Said Stop
other_names kept version h = cond (one_begins h.roster.names kept.roster.names) (same_own kept version h) (Err (Refused WrongRoster))

member_suits : (side : Side) (kept : ReplicaValue) (version : Version) (h : Hello) → Suits (ForHello side) (member_judged kept version h)
member_suits side kept version h =
    if_suits (ForHello side) (bytes_eq h.roster.group kept.roster.group) (other_names kept version h) (Err (Refused WrongGroup))
    (if_suits (ForHello side) (one_begins h.roster.names kept.roster.names) (same_own kept version h) (Err (Refused WrongRoster))
    (if_suits (ForHello side) (eqb h.own kept.own) (Err (Refused SameReplica)) (Ok (Greets (peer_of kept version h))) (record { fits = tt }) (record { fits = tt }))
    (record { fits = tt }))
    (record { fits = tt })

version_suits : (side : Side) (kept : ReplicaValue) (version : Option Version) (rest : List ℕ) → Suits (ForHello side) (version_came kept version rest)
version_suits side kept None rest = record { fits = tt }
version_suits side kept (Some version) rest = read_suits (ForHello side) (hello_in (as_hello version rest)) (member_judged kept version) (member_suits side kept version)

hello_suits : (side : Side) (kept : ReplicaValue) (body : List ℕ) → Suits (ForHello side) (hello_came side kept body)
hello_suits side kept [] = record { fits = tt }
hello_suits side kept (byte ∷ rest) = version_suits side kept (version_with side byte) rest

abbrev passing : ReplicaValue → Peer → AnswerValue → Result Said Stop
passing kept peer a = cond (passes (digest_of kept.state) a.state a.certificate) (Ok (Receives a.state peer.roster (told_mark peer.version kept.state a.state))) (Err (Refused BadCertificate))

delta_suits : (q : Peer) (g : DigestValue) (kept : ReplicaValue) (a : AnswerValue) → Suits (ForDelta q g) (delta_judged kept q a)
delta_suits q g kept a =
    if_suits (ForDelta q g) (eqb a.asker kept.own) (passing kept q a) (Err (Refused WrongAsker))
    (if_suits (ForDelta q g) (passes (digest_of kept.state) a.state a.certificate) (Ok (Receives a.state q.roster (told_mark q.version kept.state a.state))) (Err (Refused BadCertificate)) (record { fits = tt }) (record { fits = tt }))
    (record { fits = tt })

body_suits : (kept : ReplicaValue) (kind : MessageKind) (turn : Awaited) (body : List ℕ) → Suits turn (body_came kept kind turn body)
body_suits kept kinds.Bye turn body = bye_suits turn body
body_suits kept kinds.Hash turn body = hash_suits kept turn body
body_suits kept kinds.Hello (ForHello side) body = hello_suits side kept body
body_suits kept kinds.Hello (ForWhole q) body = record { fits = tt }
body_suits kept kinds.Hello (ForDigest q) body = record { fits = tt }
body_suits kept kinds.Hello (ForDelta q g) body = record { fits = tt }
body_suits kept kinds.Hello (ForBye mark) body = record { fits = tt }
body_suits kept kinds.Digest (ForHello side) body = record { fits = tt }
body_suits kept kinds.Digest (ForDigest q) body = read_suits (ForDigest q) (digest_in q.version (replicas_of kept q.roster) body) (λ g. Ok (Learns q g)) (λ g. record { fits = tt })
body_suits kept kinds.Digest (ForWhole q) body =
    read_suits (ForWhole q) (digest_in q.version (replicas_of kept q.roster) body) (λ g. Ok (Learns q (heard_behind q.version (digest_of kept.state) g))) (λ g. record { fits = tt })
body_suits kept kinds.Digest (ForDelta q g) body = record { fits = tt }
body_suits kept kinds.Digest (ForBye mark) body = record { fits = tt }
body_suits kept kinds.Delta (ForHello side) body = record { fits = tt }
body_suits kept kinds.Delta (ForDigest q) body = record { fits = tt }
body_suits kept kinds.Delta (ForWhole q) body = record { fits = tt }
body_suits kept kinds.Delta (ForDelta q g) body = read_suits (ForDelta q g) (answer_in (delta_format q.version) (replicas_of kept q.roster) body) (delta_judged kept q) (delta_suits q g kept)
body_suits kept kinds.Delta (ForBye mark) body = record { fits = tt }

kind_suits : (kept : ReplicaValue) (turn : Awaited) (kind : Option MessageKind) (body : List ℕ) → Suits turn (kind_came kept turn kind body)
kind_suits kept turn None body = record { fits = tt }
kind_suits kept turn (Some kind) body = body_suits kept kind turn body

-- an accepted message is the one that is waited for
pub accepted_suits : (kept : ReplicaValue) (turn : Awaited) (m : List ℕ) → Suits turn (verdict kept turn m)
unfolding verdict
accepted_suits kept turn [] = refusal_suits turn (Refused Cut)
accepted_suits kept turn (n ∷ body) = kind_suits kept turn (kind_of n) body
