-- The text of a certificate, how it is read, and which certificates have one.
use Rattle.std.specs.Prelude.{◌≡◌, ◌≤◌, ◌<◌, ℕ, true, ◌==◌, if◌then◌else◌, List, ◌∷◌, ◌++◌, length, Err}
use Rattle.std.specs.List.{AllByRecursion, flat_map}
use Rattle.std.specs.Int.{w32, w64, to_be_bytes}
use Rattle.rds_names.specs.declared.fault.Fault.TheVariants.{Bad}
use Rattle.rds_dots.specs.declared.dot.Dot.{Dot}
use Rattle.rds_dots.specs.declared.dot.Run.{Run}
use Rattle.rds_dots.specs.declared.dot.TheConstants.{MAX_SEQ}
use Rattle.rds_dots.specs.Dots.{is_dot, IsRun}
use Rattle.rds_counts.specs.declared.row.Which.{Which}
use Rattle.rds_counts.specs.declared.row.Which.TheVariants.{P, N}
use Rattle.rds_counts.specs.declared.row.TheConstants.{MAX_COUNT}
use Rattle.rds_delta.specs.declared.row.Row.{Row}
use Rattle.rds_delta.specs.declared.row.Row.TheVariants.{Live, Dead, Count}
use Rattle.rds_codec.specs.Kinds.{Kind}
use Rattle.rds_bytes.specs.Reading.{◌>>=◌, Reader, then_at, pair_at, made_at, when_at, list_at, byte_at, number_at, is_between, is_count, key_at, replica_at, dot_by}
use Rattle.rds_bytes.specs.Spelling.{byte_text, dot_text, place_text}
use Rattle.rds_bytes.specs.Values.{is_key_text}

-- ---- spelling

abbrev pub run_text : Run → List ℕ
run_text r = byte_text r.replica ++ (to_be_bytes w64 r.lo ++ to_be_bytes w64 r.hi)

abbrev pub which_byte : Which → ℕ
which_byte P = 1
which_byte N = 2

abbrev pub claim_text : Which → ℕ → ℕ → List ℕ
claim_text which sent peer = byte_text (which_byte which) ++ (to_be_bytes w64 sent ++ to_be_bytes w64 peer)

-- a tag, and what it asks for
abbrev pub row_text : Row → List ℕ
row_text (Live d) = 1 ∷ dot_text d
row_text (Dead r peer) = 2 ∷ (run_text r ++ byte_text peer)
row_text (Count key replica which sent peer) = 3 ∷ (place_text key replica ++ claim_text which sent peer)

unfoldable pub certificate_text : List Row → List ℕ
certificate_text rows = to_be_bytes w32 (length rows) ++ flat_map row_text rows

-- ---- reading

unfoldable pub claimed_dot_at : ℕ → Reader Dot
claimed_dot_at replicas =
    made_at dot_by (pair_at (replica_at replicas) (when_at (is_between 1 MAX_SEQ) (number_at w64)))

unfoldable pub ends_at : Reader (ℕ × ℕ)
ends_at =
    then_at (when_at (is_between 1 MAX_SEQ) (number_at w64)) (λ lo. when_at (is_between lo MAX_SEQ) (number_at w64))

abbrev pub run_by : ℕ × (ℕ × ℕ) → Run
run_by p = record { replica = p.0; lo = p.1.0; hi = p.1.1 }

unfoldable pub run_at : ℕ → Reader Run
run_at replicas = made_at run_by (pair_at (replica_at replicas) ends_at)

-- a run, and the rank of its dots at the peer: 0 or 1
unfoldable pub dead_at : ℕ → Reader (Run × ℕ)
dead_at replicas = pair_at (run_at replicas) (when_at (is_between 0 1) byte_at)

abbrev pub which_by : ℕ → Which
which_by b = if b == 1 then P else N

unfoldable pub which_at : Reader Which
which_at = made_at which_by (when_at (is_between 1 2) byte_at)

unfoldable pub amount_at : Reader ℕ
amount_at = when_at is_count (number_at w64)

-- which number, what was sent of it, and what the peer has
unfoldable pub amounts_at : Reader (Which × (ℕ × ℕ))
amounts_at = pair_at which_at (pair_at amount_at amount_at)

abbrev pub CountParts : Type 0
CountParts = (List ℕ × ℕ) × (Which × (ℕ × ℕ))

-- the place of a counter, as a row of a certificate has it
unfoldable pub counter_at : ℕ → Reader (List ℕ × ℕ)
counter_at replicas = pair_at key_at (replica_at replicas)

unfoldable pub number_claim_at : ℕ → Reader CountParts
number_claim_at replicas = pair_at (counter_at replicas) amounts_at

abbrev pub live_by : Dot → Row
live_by d = Live d

abbrev pub dead_by : Run × ℕ → Row
dead_by p = Dead p.0 p.1

abbrev pub count_by : CountParts → Row
count_by p = Count p.0.0 p.0.1 p.1.0 p.1.1.0 p.1.1.1

-- what follows a tag
abbrev pub tagged_row_at : ℕ → ℕ → Reader Row
tagged_row_at replicas tag rest =
    if tag == 1 then made_at live_by (claimed_dot_at replicas) rest
    else (if tag == 2 then made_at dead_by (dead_at replicas) rest
    else (if tag == 3 then made_at count_by (number_claim_at replicas) rest
    else Err Bad))

unfoldable pub certificate_row_at : ℕ → Reader Row
certificate_row_at replicas bytes = byte_at bytes >>= λ tag. tagged_row_at replicas tag.0 tag.1

-- rows in any order, whatever they claim
unfoldable pub certificate_at : ℕ → Reader (List Row)
certificate_at replicas = list_at (number_at w32) (λ _. certificate_row_at replicas)

-- ---- the certificates that have a text

-- a byte, below so many
abbrev pub IsReplicaOf : ℕ → ℕ → Type 0
IsReplicaOf replicas n = (n < 256) × (n < replicas)

-- what code holds as a row: a replica's number is a byte, and a key is text
abbrev pub IsHeldRow : Row → Type 0
IsHeldRow (Live d) = Unit {0}
IsHeldRow (Dead r peer) = r.replica < 256
IsHeldRow (Count key replica which sent peer) = (is_key_text key ≡ true) × (replica < 256)

-- it lies in the ranges of the format, with one of so many replicas
abbrev pub RowFits : ℕ → Row → Type 0
RowFits replicas (Live d) = (is_dot d ≡ true) × (d.replica < replicas)
RowFits replicas (Dead r peer) = IsRun r × ((r.replica < replicas) × (peer ≤ 1))
RowFits replicas (Count key replica which sent peer) = (replica < replicas) × ((sent ≤ MAX_COUNT) × (peer ≤ MAX_COUNT))

abbrev pub IsRowOf : ℕ → Row → Type 0
IsRowOf replicas row = IsHeldRow row × RowFits replicas row

abbrev pub IsCertificateOf : ℕ → List Row → Type 0
IsCertificateOf replicas rows = AllByRecursion (IsRowOf replicas) rows

-- a certificate of so many replicas
abbrev pub certificate_kind : ℕ → Kind (List Row)
certificate_kind replicas = record { is_value = IsCertificateOf replicas; text = certificate_text }
