-- A stream as its messages, however each was cut into chunks.
use Rattle.std.specs.Prelude.{◌≡◌, ℕ, ◌+◌, ◌*◌, ◌<◌, List, [], ◌∷◌, ◌++◌, length, map}
use Rattle.std.specs.List.{flat_map, AllByRecursion}
use Rattle.rds_session.specs.Chunks.{chunk_text, message_text}

abbrev pub IsChunk : List ℕ → Type 0
IsChunk c = (0 < length c) × (length c < 65536)

-- the contents of chunks
abbrev pub contents_of : List (List ℕ) → List ℕ
contents_of [] = []
contents_of (c ∷ cs) = c ++ contents_of cs

abbrev pub AreChunks : List (List ℕ) → Type 0
AreChunks cs = AllByRecursion IsChunk cs

-- less than a chunk
abbrev pub IsChunkFront : List ℕ → Type 0
IsChunkFront [] = Unit {0}
IsChunkFront (high ∷ []) = Unit {0}
IsChunkFront (high ∷ low ∷ c) = length c < high * 256 + low

-- less than a message: whole chunks, and less than one
pub record IsPart (rest : List ℕ) : Type 0 where
  pub chunks : List (List ℕ)
  pub front : List ℕ
  pub split : rest ≡ flat_map chunk_text chunks ++ front
  pub are_chunks : AreChunks chunks
  pub is_front : IsChunkFront front

-- the stream is these messages, each in some chunks, and then less than a message
pub record Splits (x : List ℕ) (messages : List (List ℕ)) (rest : List ℕ) : Type 0 where
  pub cuts : List (List (List ℕ))
  pub split : x ≡ flat_map message_text cuts ++ rest
  pub are_cuts : AllByRecursion AreChunks cuts
  pub joined_are : map contents_of cuts ≡ messages
  pub part : IsPart rest

abbrev pub IsByte : ℕ → Type 0
IsByte b = b < 256

-- a stream of bytes is messages and a rest
abbrev pub AreSplit : Type 0
AreSplit = (x : List ℕ) → AllByRecursion IsByte x → (messages : List (List ℕ)) × (rest : List ℕ) × Splits x messages rest

-- a stream is split in one way at most
abbrev pub AreSplitOnce : Type 0
AreSplitOnce = (x : List ℕ) (ms ns : List (List ℕ)) (rest other : List ℕ) → Splits x ms rest → Splits x ns other → (ms ≡ ns) × (rest ≡ other)
