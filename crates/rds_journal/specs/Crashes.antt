-- What a crash leaves of a journal, and what is read there.
use Rattle.std.specs.Prelude.{◌≡◌, ◌+◌, ◌≤◌, ℕ, List, [], ◌∷◌, ◌++◌, length, drop}
use Rattle.std.specs.List.{All}
use Rattle.rds_journal.specs.Appending.{appended, KeepsFront}
use Rattle.rds_journal.specs.Records.{journal_text, record_text, IsPayload, IsJournal}

-- the list begins with the other
abbrev pub IsBeginning : List (List ℕ) → List (List ℕ) → Type 0
IsBeginning first all = (more : List (List ℕ)) × (all ≡ first ++ more)

-- What was synced is there. Behind it there may be anything.
abbrev pub HasSynced : List (List ℕ) → List ℕ → Type 0
HasSynced synced bytes = (tail : List ℕ) × (bytes ≡ journal_text synced ++ tail)

-- What is there is a prefix of what was written.
abbrev pub IsPartOf : List (List ℕ) → List ℕ → Type 0
IsPartOf written bytes = (lost : List ℕ) × (journal_text written ≡ bytes ++ lost)

-- what is read where a crash left these bytes: all that was synced, whatever stands behind it
abbrev pub ReadsSynced : List (List ℕ) → List ℕ → Type 0
ReadsSynced synced bytes =
    (payloads : List (List ℕ)) (rest : List ℕ) → All IsPayload synced → HasSynced synced bytes → IsJournal bytes payloads rest → IsBeginning synced payloads

-- and nothing that wasn't written, where the bytes are a prefix of that
abbrev pub ReadsWritten : List (List ℕ) → List ℕ → Type 0
ReadsWritten written bytes =
    (payloads : List (List ℕ)) (rest : List ℕ) → All IsPayload written → IsPartOf written bytes → IsJournal bytes payloads rest → IsBeginning payloads written

-- ---- a file in which records stand behind so many other bytes

-- these are its whole records, and they end there
pub record HasWhole (start : ℕ) (file : List ℕ) (payloads : List (List ℕ)) (end : ℕ) : Type 0 where
  pub rest : List ℕ
  pub within : start ≤ length file
  pub journal : IsJournal (drop start file) payloads rest
  pub is_end : end ≡ start + length (journal_text payloads)

-- what is read behind an append
abbrev pub ReadsAppended : ℕ → List ℕ → List (List ℕ) → ℕ → List ℕ → Type 0
ReadsAppended start file payloads end payload =
    HasWhole start file payloads end → IsPayload payload
    → HasWhole start (appended file end (record_text payload)) (payloads ++ payload ∷ []) (end + length (record_text payload))

-- an append at the end of the whole records of the one file left the other, and a crash may have broken it off
pub record IsLeftBy (start : ℕ) (old new : List ℕ) : Type 0 where
  pub payloads : List (List ℕ)
  pub end : ℕ
  pub most : ℕ
  pub whole : HasWhole start old payloads end
  pub keeps : KeepsFront end most old new

-- each file is what an append left of the one before
abbrev pub AreLeft : ℕ → List ℕ → List (List ℕ) → Type 0
AreLeft start first [] = Unit {0}
AreLeft start first (next ∷ files) = IsLeftBy start first next × AreLeft start next files

abbrev pub last_file : List ℕ → List (List ℕ) → List ℕ
last_file first [] = first
last_file first (next ∷ files) = last_file next files

-- what is read after however many more appends
abbrev pub OutlastsAppends : ℕ → List ℕ → List (List ℕ) → Type 0
OutlastsAppends start first files =
    (payloads found : List (List ℕ)) (end last : ℕ) → HasWhole start first payloads end → AreLeft start first files → HasWhole start (last_file first files) found last → IsBeginning payloads found
