-- What a feed stands for.
use Rattle.std.specs.Prelude.{◌≡◌, ℕ, ◌+◌, ◌<◌, ◌≤◌, ◌⊎◌, nat_lt, if◌then◌else◌, List, ◌++◌, length, slice_index}
use Rattle.std.specs.Prelude.{Option, Result, Ok, Err, IsOk}
use Rattle.std.specs.Io.KnownBytes.{Consumes}
use Rattle.rds_names.specs.declared.fault.Fault.{Fault}
use Rattle.rds_names.specs.declared.fault.Fault.TheVariants.{Memory, TooLong, Device}
use Rattle.rds_feeds.specs.declared.unfinished.Progress.{Progress}
use Rattle.rds_feeds.specs.declared.unfinished.Progress.TheVariants.{More, Whole}
use Rattle.rds_codec.specs.declared.limits.TheConstants.{LIMIT}
use Rattle.rds_bytes.specs.Reading.{Reader, Reads}
use Rattle.rds_codec.specs.Decoding.{Decodes, ReadsAll, all_of}
use Rattle.rds_codec.specs.Kinds.{Kind}

-- how far reading has come, or the fault that is kept; the bytes behind what was read; how many may still come
pub record FeedValue (U V : Type 0) : Type 0 where
  pub progress : Result (Progress U V) Fault
  pub rest : List ℕ
  pub left : ℕ

-- TooLong where there are more bytes than so many, else what reading all of them gives
abbrev pub all_within : {V : Type 0} → ℕ → Reader V → List ℕ → Result V Fault
all_within most reader bytes = if nat_lt most (length bytes) then Err TooLong else all_of reader bytes

-- what decoding gives
abbrev pub decoding : {V : Type 0} → Reader V → List ℕ → Result V Fault
decoding reader bytes = all_within LIMIT reader bytes

-- what reading on gives
abbrev pub read_on : {U V : Type 0} → (U → Reader V) → Progress U V → Reader V
read_on finish (More u) bytes = finish u bytes
read_on finish (Whole v) bytes = Ok (v, bytes)

abbrev pub read_behind : {U V : Type 0} → (U → Reader V) → Result (Progress U V) Fault → List ℕ → Reader V
read_behind finish (Ok progress) rest more = read_on finish progress (rest ++ more)
read_behind finish (Err e) rest more = Err e

-- what the feed ends as, once these bytes have come
abbrev pub ending : {U V : Type 0} → (U → Reader V) → FeedValue U V → List ℕ → Result V Fault
ending finish feed more = all_within feed.left (read_behind finish feed.progress feed.rest) more

-- each is a byte
abbrev pub EachIsByte : List ℕ → Type 0
EachIsByte bytes = (i : ℕ) → slice_index bytes i < 256

-- A feed without a fault stands for the bytes that came: however they go on, it ends as decoding them does.
pub record StandsFor {U V : Type 0} (finish : U → Reader V) (reader : Reader V) (feed : FeedValue U V)
    (came : List ℕ) : Type 0 where
  pub going : IsOk feed.progress
  pub bytes : EachIsByte came
  pub room : length came + feed.left ≡ LIMIT
  pub same : (more : List ℕ) → decoding reader (came ++ more) ≡ ending finish feed more

-- the bytes are refused so, and however they go on within the limit
pub record IsHopeless {V : Type 0} (reader : Reader V) (bytes : List ℕ) (e : Fault) : Type 0 where
  pub now : decoding reader bytes ≡ Err e
  pub ever : (more : List ℕ) → length (bytes ++ more) ≤ LIMIT → decoding reader (bytes ++ more) ≡ Err e

-- it stands for what it stood for, with a piece
abbrev pub AddsPiece : {U V : Type 0} → (U → Reader V) → FeedValue U V → FeedValue U V → List ℕ → Type 0
AddsPiece {U} {V} finish old new piece =
    (reader : Reader V) (came : List ℕ) → StandsFor finish reader old came → StandsFor finish reader new (came ++ piece)

-- memory ran out; or what it stood for is refused so with the piece, however that goes on
abbrev pub RefusesPiece : {U V : Type 0} → (U → Reader V) → FeedValue U V → List ℕ → Fault → Type 0
RefusesPiece {U} {V} finish old piece e =
    (e ≡ Memory) ⊎ ((reader : Reader V) (came : List ℕ) → StandsFor finish reader old came
    → IsHopeless reader (came ++ piece) e)

-- what is read goes on as before, once these bytes have come
abbrev pub GoesOn : {U V : Type 0} → (U → Reader V) → Progress U V → List ℕ → List ℕ → Progress U V → List ℕ → Type 0
GoesOn finish old held bytes new rest =
    (more : List ℕ) → read_on finish old (held ++ (bytes ++ more)) ≡ read_on finish new (rest ++ more)

-- memory ran out; or all is refused so, however it goes on
abbrev pub Ends : {U V : Type 0} → (U → Reader V) → Progress U V → List ℕ → List ℕ → Fault → Type 0
Ends finish old held bytes e =
    (e ≡ Memory) ⊎ ((more : List ℕ) → all_of (read_on finish old) (held ++ (bytes ++ more)) ≡ Err e)

-- what is read of all the bytes, within the limit, is what decoding texts of the kind gives
pub record DecodesTexts {V : Type 0} (kind : Kind V) (reader : Reader V) : Type 0 where
  pub decodes : (bytes : List ℕ) (result : Result V Fault) → EachIsByte bytes → length bytes ≤ LIMIT
      → Reads (λ v. v) result (all_of reader bytes) → Decodes kind bytes result

-- these bytes are refused so, however they go on within the limit
abbrev pub IsRefused : {V : Type 0} → Reader V → List ℕ → Fault → Type 0
IsRefused reader bytes e = (more : List ℕ) → length (bytes ++ more) ≤ LIMIT → decoding reader (bytes ++ more) ≡ Err e

-- a feed has a fault, by which the bytes that came are refused
pub record FailsFor {U V : Type 0} (reader : Reader V) (feed : FeedValue U V) (came : List ℕ) : Type 0 where
  pub fault : Fault
  pub kept : feed.progress ≡ Err fault
  pub bytes : EachIsByte came
  pub refused : IsRefused reader came fault

-- it stands for the bytes that came, or fails for them
abbrev pub StandsOrFails : {U V : Type 0} → (U → Reader V) → Reader V → FeedValue U V → List ℕ → Type 0
StandsOrFails finish reader feed came = StandsFor finish reader feed came ⊎ FailsFor reader feed came

-- whatever it stood or failed for, it does so with these bytes
abbrev pub Takes : {U V : Type 0} → (U → Reader V) → FeedValue U V → FeedValue U V → List ℕ → Type 0
Takes {U} {V} finish old new piece =
    (reader : Reader V) (came : List ℕ) → StandsOrFails finish reader old came
    → StandsOrFails finish reader new (came ++ piece)

-- known bytes lose a prefix of so many, which the feed takes
pub record Feeds {U V : Type 0} (finish : U → Reader V) (old new : FeedValue U V)
    (before after : Option (List ℕ)) (count : ℕ) : Type 0 where
  pub given : List ℕ
  pub counted : length given ≡ count
  pub consumed : Consumes before after given
  pub takes : Takes finish old new given

-- what decoding all of the bytes gives
abbrev pub IsDecoded : {V : Type 0} → Kind V → Reader V → List ℕ → Result V Fault → Type 0
IsDecoded kind reader bytes result = Decodes kind bytes result × ReadsAll reader bytes result

-- not all was read: memory ran out, or a call failed
abbrev pub IsUnread : {V : Type 0} → Result V Fault → Type 0
IsUnread result = (result ≡ Err Memory) ⊎ (result ≡ Err Device)

-- what decoding all of the bytes gives, unless not all was read
abbrev pub IsReadAs : {V : Type 0} → Kind V → Reader V → List ℕ → Result V Fault → Type 0
IsReadAs kind reader bytes result = IsDecoded kind reader bytes result ⊎ IsUnread result
