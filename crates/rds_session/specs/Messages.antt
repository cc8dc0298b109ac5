-- The messages of a session: a type byte and a body.
use Rattle.std.specs.Prelude.{ℕ, Bool, nat_lt, List, [], ◌∷◌, ◌==◌, length, Option, Some, None, if◌then◌else◌}
use Rattle.rds_names.specs.declared.fault.Fault.{Fault}
use Rattle.rds_names.specs.declared.fault.Fault.TheVariants.{Memory, WrongVersion, WrongGroup, WrongRoster, SameReplica, PeerEnded}
use Rattle.rds_state.specs.Fits.{ReplicaValue}
use Rattle.rds_state.specs.declared.mark.Mark.{Mark}
use Rattle.rds_delta.specs.Digested.{DigestValue, digest_of}
use Rattle.rds_briefs.specs.Briefs.{brief_text}
use Rattle.rds_codec.specs.AnswerTexts.{answer}
use Rattle.rds_codec.specs.DigestTexts.{digest_text}
use Rattle.rds_codec.specs.FormatTexts.{answer_text_in}
use Rattle.rds_codec.specs.HelloTexts.{hello_text}
use Rattle.rds_codec.specs.declared.formats.Format.{Format}
use Rattle.rds_codec.specs.declared.limits.TheConstants.{LIMIT}
use Rattle.rds_session.specs.declared.kinds.ByeCode.{ByeCode}
use Rattle.rds_session.specs.declared.kinds.ByeCode.TheVariants as byes
use Rattle.rds_session.specs.declared.kinds.MessageKind.{MessageKind}
use Rattle.rds_session.specs.declared.kinds.MessageKind.TheVariants as kinds
use Rattle.rds_session.specs.declared.version.Version.{Version}
use Rattle.rds_answers.specs.Checked.{least_state, certificate_of}
use Rattle.rds_answers.specs.Hashes.{digest_hash}
use Rattle.rds_session.specs.Marked.{mark_bytes}
use Rattle.rds_session.specs.Versions.{says_briefs, version_byte}
use Rattle.rds_session.specs.Wants.{said_behind}

-- the byte that messages of a type begin with
abbrev pub type_byte : MessageKind → ℕ
type_byte kinds.Hello = 1
type_byte kinds.Digest = 2
type_byte kinds.Delta = 3
type_byte kinds.Bye = 4
type_byte kinds.Hash = 5

-- the type that a byte says
abbrev pub kind_of : ℕ → Option MessageKind
kind_of n =
    if n == 1 then Some kinds.Hello
    else (if n == 2 then Some kinds.Digest
    else (if n == 3 then Some kinds.Delta
    else (if n == 4 then Some kinds.Bye
    else (if n == 5 then Some kinds.Hash
    else None))))

-- HELLO: who speaks, and in which version
abbrev pub hello_message : ReplicaValue → Version → List ℕ
hello_message kept version =
    type_byte kinds.Hello ∷ hello_text (record { version = version_byte version; roster = kept.roster; own = kept.own })

-- a digest whole, as a version says it: its brief or its text
abbrev pub digest_body : Version → DigestValue → List ℕ
digest_body version digest = if says_briefs version then brief_text digest else digest_text digest

-- DIGEST: what is kept here
abbrev pub digest_message : Version → ReplicaValue → List ℕ
digest_message version kept = type_byte kinds.Digest ∷ digest_body version (digest_of kept.state)

-- the same, to a peer whose digest is known
abbrev pub behind_message : Version → ReplicaValue → DigestValue → List ℕ
behind_message version kept peer = type_byte kinds.Digest ∷ digest_body version (said_behind version (digest_of kept.state) peer)

-- HASH: the same, by the hash of the digest's text. Where that is over the limit there is none, and it can't be said
abbrev pub hash_message : ReplicaValue → List ℕ
hash_message kept =
    let digest = digest_of kept.state in
    if nat_lt LIMIT (length (digest_text digest)) then type_byte kinds.Digest ∷ digest_text digest else type_byte kinds.Hash ∷ digest_hash digest

-- what is kept here, by a hash or whole
abbrev pub digest_said : Bool → Version → ReplicaValue → List ℕ
digest_said hashed version kept = if hashed then hash_message kept else digest_message version kept

-- DELTA: what is kept here and the digest lacks, with its certificate, in a format, for the replica that asked
abbrev pub delta_message : ReplicaValue → Format → ℕ → DigestValue → List ℕ
delta_message kept format asker digest =
    let delta = least_state kept.state digest in
    type_byte kinds.Delta ∷ answer_text_in format (answer asker delta (certificate_of digest delta))

-- the byte of a BYE
abbrev pub byte_of : ByeCode → ℕ
byte_of byes.Done = 0
byte_of byes.WrongVersion = 1
byte_of byes.WrongGroup = 2
byte_of byes.WrongRoster = 3
byte_of byes.SameReplica = 4
byte_of byes.Refused = 5
byte_of byes.OwnFault = 6

-- what a byte of a BYE says
abbrev pub bye_of : ℕ → Option ByeCode
bye_of b =
    if b == 0 then Some byes.Done
    else (if b == 1 then Some byes.WrongVersion
    else (if b == 2 then Some byes.WrongGroup
    else (if b == 3 then Some byes.WrongRoster
    else (if b == 4 then Some byes.SameReplica
    else (if b == 5 then Some byes.Refused
    else (if b == 6 then Some byes.OwnFault
    else None))))))

-- BYE: the end, and why
abbrev pub bye_message : ByeCode → List ℕ
bye_message code = type_byte kinds.Bye ∷ byte_of code ∷ []

-- the last BYE of a session that is done, with the mark of what is held then, where one is reported
abbrev pub done_message : Option Mark → List ℕ
done_message None = bye_message byes.Done
done_message (Some mark) = type_byte kinds.Bye ∷ byte_of byes.Done ∷ mark_bytes mark

-- the code of the BYE that a refusal sends
abbrev pub code_of : Fault → ByeCode
code_of WrongVersion = byes.WrongVersion
code_of WrongGroup = byes.WrongGroup
code_of WrongRoster = byes.WrongRoster
code_of SameReplica = byes.SameReplica
code_of Memory = byes.OwnFault
code_of _ = byes.Refused

-- what a BYE that isn't the last message ends the session with
abbrev pub bye_fault : ByeCode → Fault
bye_fault byes.WrongVersion = WrongVersion
bye_fault byes.WrongGroup = WrongGroup
bye_fault byes.WrongRoster = WrongRoster
bye_fault byes.SameReplica = SameReplica
bye_fault _ = PeerEnded
