-- Records as bytes, the whole ones at the front of a journal, and what may stand behind them.
use Rattle.std.specs.Prelude.{◌≡◌, ◌<◌, ◌≤◌, ◌+◌, ◌&&◌, ℕ, Bool, nat_le, if◌then◌else◌, List, [], ◌∷◌, ◌++◌, length, take, drop, flat_map}
use Rattle.std.specs.List.{All}
use Rattle.std.specs.Str.{bytes_eq}
use Rattle.std.specs.Int.{w32, to_be_bytes, from_be_bytes}
use Rattle.sha2.specs.Sha256.{sha256}
use Rattle.rds_bytes.specs.Reading.{Reader, then_at, pair_at, made_at, when_at, number_at, bytes_at}
use Rattle.rds_journal.specs.declared.records.TheConstants.{MOST, HEAD}
use Rattle.rds_journal.specs.declared.torn.TheConstants.{SCAN}

-- a record's text: the length of its payload in four bytes, the SHA-256 of the payload, and the payload
abbrev pub record_text : List ℕ → List ℕ
record_text payload = to_be_bytes w32 (length payload) ++ (sha256 payload ++ payload)

abbrev pub journal_text : List (List ℕ) → List ℕ
journal_text payloads = flat_map record_text payloads

abbrev pub IsPayload : List ℕ → Type 0
IsPayload payload = length payload ≤ MOST

-- ---- reading

abbrev pub is_length : ℕ → Bool
is_length n = nat_le n MOST

abbrev pub parts_at : Reader (ℕ × (List ℕ × List ℕ))
parts_at = then_at (when_at is_length (number_at w32)) (λ n. pair_at (bytes_at 32) (bytes_at n))

abbrev pub is_summed : ℕ × (List ℕ × List ℕ) → Bool
is_summed p = bytes_eq p.1.0 (sha256 p.1.1)

abbrev pub record_at : Reader (List ℕ)
record_at = made_at (λ p. p.1.1) (when_at is_summed parts_at)

-- ---- what a journal's bytes hold

-- a whole record begins there
abbrev pub IsBegun : List ℕ → Type 0
IsBegun bytes = (payload : List ℕ) × (behind : List ℕ) × IsPayload payload × (bytes ≡ record_text payload ++ behind)

-- a record that the bytes begin with, and what stands behind it
pub record IsFirst (bytes payload behind : List ℕ) : Type 0 where
  pub parts : bytes ≡ record_text payload ++ behind
  pub short : IsPayload payload
  pub less : length behind < length bytes

-- the bytes are the texts of records, and then a rest in which none begins at once
pub record IsJournal (bytes : List ℕ) (payloads : List (List ℕ)) (rest : List ℕ) : Type 0 where
  pub parts : bytes ≡ journal_text payloads ++ rest
  pub short : All IsPayload payloads
  pub end : IsBegun rest → ⊥

-- ---- a torn end

-- how long a record of a payload of n bytes is, where it is one and so many bytes hold it
abbrev pub claim : ℕ → ℕ → ℕ
claim n room = if is_length n && nat_le (n + HEAD) room then n + HEAD else 0

-- how many bytes a record has that the bytes seem to begin with, by the length that stands there
abbrev pub claimed : List ℕ → ℕ
claimed bytes = claim (from_be_bytes w32 (take 4 bytes)) (length bytes)

-- the same of each place, added up: what is to be read to tell that no record begins at any
abbrev pub claimed_in_all : List ℕ → ℕ
claimed_in_all [] = 0
claimed_in_all (b ∷ rest) = claimed (b ∷ rest) + claimed_in_all rest

-- no whole record begins at any place
abbrev pub HasNoRecord : List ℕ → Type 0
HasNoRecord bytes = (k : ℕ) → IsBegun (drop k bytes) → ⊥

-- What a record that wasn't written whole may leave: no more bytes than a record has, in which none begins. Bytes in
-- which very much would have to be read to tell that aren't taken for one.
pub record IsTorn (rest : List ℕ) : Type 0 where
  pub short : length rest ≤ MOST + HEAD
  pub few : claimed_in_all rest ≤ SCAN
  pub none : HasNoRecord rest
