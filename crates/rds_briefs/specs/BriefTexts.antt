-- The text of runs of seen dots: for each where it lies, and which of its dots are live, in the shorter of two forms.
use Rattle.std.specs.Prelude.{ℕ, ◌+◌, ◌-◌, ◌/◌, nat_le, if◌then◌else◌, List, [], ◌∷◌, ◌++◌, length}
use Rattle.std.specs.List.{flat_map}
use Rattle.rds_dots.specs.declared.dot.Run.{Run}
use Rattle.rds_dots.specs.Dots.{Dots}
use Rattle.rds_bytes.specs.Packed.{packed_text}
use Rattle.rds_briefs.specs.Lives.{Lives, lives_in, lengths, bytes_from}

-- the lengths of the stretches of k numbers from p on, packed
abbrev pub lengths_text : Lives → ℕ → ℕ → List ℕ
lengths_text f p k = flat_map packed_text (lengths f p k)

-- k numbers from p on as bits, in as few bytes as hold them
abbrev pub bits_text : Lives → ℕ → ℕ → List ℕ
bits_text f p k = bytes_from f p ((k + 7) / 8) k

-- the shorter form, and where both are as long that by lengths
unfoldable pub lives_text : Lives → ℕ → ℕ → List ℕ
lives_text f p k =
    if nat_le (length (lengths_text f p k)) (length (bits_text f p k)) then 0 ∷ lengths_text f p k else 1 ∷ bits_text f p k

-- where a run of seen dots begins, whose it is, how far it goes on, and which of its dots are live
unfoldable pub brief_run_text : Dots → Run → List ℕ
brief_run_text live r =
    packed_text r.lo ++ (r.replica ∷ (packed_text (r.hi - r.lo) ++ lives_text (lives_in live r.replica) r.lo (r.hi + 1 - r.lo)))

-- a 0, which no run begins with, ends them
unfoldable pub runs_text : Dots → List Run → List ℕ
runs_text live rs = flat_map (brief_run_text live) rs ++ 0 ∷ []
