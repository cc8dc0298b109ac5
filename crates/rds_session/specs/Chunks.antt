-- Messages on a stream: chunks of a length and that many bytes, up to a chunk of length 0.
use Rattle.std.specs.Prelude.{ℕ, zero, suc, ◌+◌, ◌-◌, ◌*◌, ◌==◌, nat_lt, List, [], ◌∷◌, ◌++◌, length, take, drop, if◌then◌else◌}
use Rattle.std.specs.List.{flat_map}
use Rattle.std.specs.Int.{w16, to_be_bytes}
use Rattle.rds_session.specs.declared.chunks.TheConstants.{MESSAGE_LIMIT}
use Rattle.rds_session.specs.declared.chunks.Place.{Place}
use Rattle.rds_session.specs.declared.chunks.Place.TheVariants.{First, Second, Within}

-- ---- reading

-- what has come of a message: the place in its chunk, and its bytes
pub record Under : Type 0 where
  pub place : Place
  pub held : List ℕ

abbrev pub start_of_chunks : Under
start_of_chunks = record { place = First; held = [] }

-- what the next bytes make of a message that has begun
pub data Scan : Type 0 where
  More : (under : Under) → Scan
  Whole : (message rest : List ℕ) → Scan
  Long : Scan

-- the place where so many bytes of a chunk are still to come
abbrev pub place_left : ℕ → Place
place_left left = if left == 0 then First else Within left

-- one byte comes, with nothing behind it
abbrev pub byte_scanned : Place → List ℕ → ℕ → Scan
byte_scanned First held b = More (record { place = Second b; held = held })
byte_scanned (Second high) held b =
    if high * 256 + b == 0 then Whole held [] else More (record { place = Within (high * 256 + b); held = held })
byte_scanned (Within left) held b =
    if nat_lt (length held) MESSAGE_LIMIT then More (record { place = place_left (left - 1); held = held ++ b ∷ [] }) else Long

abbrev pub scan_on : Scan → List ℕ → (Under → Scan) → Scan
scan_on (More u) bs go = go u
scan_on (Whole m rest) bs go = Whole m bs
scan_on Long bs go = Long

-- bytes come, up to the end of a message
unfoldable pub scan : List ℕ → Under → Scan
scan [] u = More u
scan (b ∷ bs) u = scan_on (byte_scanned u.place u.held b) bs (scan bs)

-- ---- writing

abbrev pub chunk_most : ℕ
chunk_most = 16384

abbrev pub chunk_text : List ℕ → List ℕ
chunk_text c = to_be_bytes w16 (length c) ++ c

-- a message in these chunks
abbrev pub message_text : List (List ℕ) → List ℕ
message_text cs = flat_map chunk_text cs ++ 0 ∷ 0 ∷ []

-- cut into chunks of the greatest length but the last
abbrev pub cut_in_chunks : ℕ → List ℕ → List (List ℕ)
cut_in_chunks zero m = []
cut_in_chunks (suc n) [] = []
cut_in_chunks (suc n) (b ∷ m) = take chunk_most (b ∷ m) ∷ cut_in_chunks n (drop chunk_most (b ∷ m))

-- how a message is sent
unfoldable pub message_in_chunks : List ℕ → List ℕ
message_in_chunks m = message_text (cut_in_chunks (length m) m)
