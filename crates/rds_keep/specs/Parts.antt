-- What a writer has got of bytes that were to be written, and what a reader has lost.
use Rattle.std.specs.Prelude.{ℕ, ◌<◌, ◌≤◌, List, flat_map, length, take, Option}
use Rattle.std.specs.Borrow.{Bor}
use Rattle.std.specs.Io.KnownBytes.{Appends, Consumes}

-- known bytes grow by a prefix of these, which may be all of them
abbrev pub AppendsFront : Option (List ℕ) → Option (List ℕ) → List ℕ → Type 0
AppendsFront old new bytes = (n : ℕ) × (n ≤ length bytes) × Appends old new (take n bytes)

-- known bytes grow by a prefix of these, and never by all of them
abbrev pub AppendsPart : Option (List ℕ) → Option (List ℕ) → List ℕ → Type 0
AppendsPart old new bytes = (n : ℕ) × (n < length bytes) × Appends old new (take n bytes)

-- known bytes are still there, with more behind them or none
abbrev pub BytesGrow : Option (List ℕ) → Option (List ℕ) → Type 0
BytesGrow old new = (bytes : List ℕ) × Appends old new bytes

-- pieces as one text
abbrev pub pieces_text : List (Bor (List ℕ)) → List ℕ
pieces_text pieces = flat_map (λ piece. piece.now) pieces

-- known bytes lose a prefix, of so many bytes at most
abbrev pub ConsumesAtMost : Option (List ℕ) → Option (List ℕ) → ℕ → Type 0
ConsumesAtMost old new most = (bytes : List ℕ) × (length bytes ≤ most) × Consumes old new bytes
