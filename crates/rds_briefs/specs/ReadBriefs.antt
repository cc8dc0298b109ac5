-- Reading a brief: of all digests of so many replicas it is the one whose brief the bytes begin with. To say so, each
-- is tried. A program finds it otherwise.
use Rattle.std.specs.Prelude.{◌≡◌, ℕ, zero, suc, min, List, [], ◌∷◌, ◌++◌, length, Result, Ok, Err}
use Rattle.std.specs.Str.{bytes_eq}
use Rattle.std.specs.FinSet as set
use Rattle.rds_names.specs.declared.fault.Fault.{Fault}
use Rattle.rds_names.specs.declared.fault.Fault.TheVariants.{Cut, Bad}
use Rattle.rds_dots.specs.declared.dot.Dot.{Dot}
use Rattle.rds_dots.specs.declared.dot.TheConstants.{MAX_SEQ}
use Rattle.rds_dots.specs.Dots.{Dots}
use Rattle.rds_dots.specs.Listed.{dots_from}
use Rattle.rds_dots.specs.Runs.{runs_of}
use Rattle.rds_delta.specs.Digested.{DigestValue}
use Rattle.rds_bytes.specs.OneText.{AreBytes}
use Rattle.rds_bytes.specs.Reading.{Reader, made_at, pair_at, when_at, bytes_at, counters_at}
use Rattle.rds_codec.specs.DigestTexts.{digest_by}
use Rattle.rds_codec.specs.Kinds.{Kind}
use Rattle.rds_codec.specs.Laws.{HasText}
use Rattle.rds_briefs.specs.BriefTexts.{runs_text}

-- this text, and no other
abbrev pub exactly_at : List ℕ → Reader (List ℕ)
exactly_at text = when_at (bytes_eq text) (bytes_at (length text))

-- the first of two that is no fault
abbrev pub or_else : {A : Type 0} → Result A Fault → Result A Fault → Result A Fault
or_else (Ok x) other = Ok x
or_else (Err e) other = other

-- as it is read with a set that has the dots of one and some of a list: with the first for which there is no fault
unfoldable pub with_some : {A : Type 0} → (Dots → Reader A) → List Dot → Dots → Reader A
with_some read [] s bytes = or_else (read s bytes) (Err Bad)
with_some read (d ∷ ds) s bytes = or_else (with_some read ds s bytes) (with_some read ds (set.insert s d) bytes)

-- the dots of so many replicas, each replica's up to a number
unfoldable pub dots_up_to : ℕ → ℕ → List Dot
dots_up_to zero most = []
dots_up_to (suc replicas) most = dots_from replicas 1 most ++ dots_up_to replicas most

-- the brief of a digest with these seen dots and these live ones
unfoldable pub brief_with_at : ℕ → Dots → Dots → Reader DigestValue
brief_with_at replicas seen live =
    made_at (λ p. digest_by (seen, (live, p.1)))
    (pair_at (exactly_at (runs_text live (runs_of seen))) (counters_at replicas))

-- with some dots of so many replicas seen, whose numbers are bytes, and with some of these live
unfoldable pub brief_at : ℕ → Reader DigestValue
brief_at replicas =
    with_some (λ seen. with_some (brief_with_at replicas seen) (set.items seen) set.empty)
    (dots_up_to (min replicas 256) MAX_SEQ) set.empty

-- what is read was the text of a value of the kind, each text within the limit is read, whatever follows it, and all
-- else is bad
pub record ReadsTexts {V : Type 0} (kind : Kind V) (read : Reader V) : Type 0 where
  pub spelled : (bytes : List ℕ) (v : V) (rest : List ℕ) → AreBytes bytes → read bytes ≡ Ok (v, rest)
      → kind.is_value v × (bytes ≡ kind.text v ++ rest)
  pub taken : (v : V) (rest : List ℕ) → HasText kind v → read (kind.text v ++ rest) ≡ Ok (v, rest)
  pub refused : (bytes : List ℕ) (e : Fault) → read bytes ≡ Err e → e ≡ Bad

-- an answer that doesn't tell bytes that end inside a part from other bad ones
abbrev pub cut_as_bad : {V : Type 0} → Result V Fault → Result V Fault
cut_as_bad (Err Cut) = Err Bad
cut_as_bad r = r
