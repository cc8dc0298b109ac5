-- A question: who asks, and what it has. Its text, how it is read, and which questions have one.
use Rattle.std.specs.Prelude.{ℕ, List, ◌++◌, length, codes, refl}
use Rattle.std.specs.Coded.{Coded, code_by, coded×, coded_ℕ}
use Rattle.std.specs.Str.{bytes_eq}
use Rattle.rds_names.specs.Roster.{RosterValue}
use Rattle.rds_state.specs.Fits.{ReplicaValue, coded_roster}
use Rattle.rds_delta.specs.Digested.{DigestValue, coded_digest, digest_of}
use Rattle.rds_bytes.specs.Reading.{Reader, pair_at, made_at, when_at, bytes_at}
use Rattle.rds_briefs.specs.Briefs.{brief_text}
use Rattle.rds_codec.specs.DigestTexts.{IsDigestOf}
use Rattle.rds_codec.specs.HelloTexts.{IsHello, hello_at, hello_text}
use Rattle.rds_codec.specs.Kinds.{Kind}
use Rattle.rds_codec.specs.declared.hellos.Hello.{Hello}
use Rattle.rds_codec.specs.declared.hellos.TheConstants.{VERSION}

-- who asks, by the version in whose format the answer is to come, and the digest of what it has
pub record QuestionValue : Type 0 where
  pub hello : Hello
  pub digest : DigestValue

abbrev pub coded_hello : Coded Hello
coded_hello =
    code_by (ℕ × (RosterValue × ℕ)) (coded× coded_ℕ (coded× coded_roster coded_ℕ)) (λ h. (h.version, (h.roster, h.own)))
    (λ p. record { version = p.0; roster = p.1.0; own = p.1.1 }) (λ _. refl)

abbrev pub coded_question : Coded QuestionValue
coded_question =
    code_by (Hello × DigestValue) (coded× coded_hello coded_digest) (λ q. (q.hello, q.digest))
    (λ p. record { hello = p.0; digest = p.1 }) (λ _. refl)

-- what a replica asks, in the version that a session begins with
abbrev pub question_of : ReplicaValue → QuestionValue
question_of v =
    record { hello = record { version = VERSION; roster = v.roster; own = v.own }; digest = digest_of v.state }

-- how many replicas its roster has
abbrev pub askers_of : QuestionValue → ℕ
askers_of q = length q.hello.roster.names

-- ---- its text

-- the four bytes in front
abbrev pub question_front : List ℕ
question_front = codes "RDSB"

-- they, who asks, and the brief of the digest
unfoldable pub question_text : QuestionValue → List ℕ
question_text q = question_front ++ (hello_text q.hello ++ brief_text q.digest)

-- these very bytes
abbrev pub front_at : List ℕ → Reader (List ℕ)
front_at front = when_at (bytes_eq front) (bytes_at 4)

-- who asks, behind the four bytes
abbrev pub asker_by : List ℕ × Hello → Hello
asker_by p = p.1

unfoldable pub asker_at : Reader Hello
asker_at = made_at asker_by (pair_at (front_at question_front) hello_at)

-- the hello is one, and the digest is of the replicas of its roster
pub record IsQuestion (q : QuestionValue) : Type 0 where
  pub hello : IsHello q.hello
  pub digest : IsDigestOf (askers_of q) q.digest

abbrev pub question_kind : Kind QuestionValue
question_kind = record { is_value = IsQuestion; text = question_text }
