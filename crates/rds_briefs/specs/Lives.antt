-- The lives of dots in a row, as the lengths of their stretches and as bits.
use Rattle.std.specs.Prelude.{ℕ, zero, suc, ◌+◌, ◌-◌, ◌*◌, Bool, true, not, nat_lt, if◌then◌else◌, List, [], ◌∷◌}
use Rattle.std.specs.FinSet as set
use Rattle.rds_dots.specs.Dots.{Dots}
use Rattle.rds_dots.specs.Lacking.{dot_of}

-- which numbers are live
abbrev pub Lives : Type 0
Lives = ℕ → Bool

-- those of a replica's dots
abbrev pub lives_in : Dots → ℕ → Lives
lives_in live replica n = set.contains live (dot_of replica n)

-- whether two are alike
abbrev pub alike : Bool → Bool → Bool
alike b c = if b then c else not c

-- how many of k numbers from p on are like b before the first that isn't
unfoldable pub stretch_at : Lives → Bool → ℕ → ℕ → ℕ
stretch_at f b p zero = 0
stretch_at f b p (suc k) = if alike b (f p) then suc (stretch_at f b (p + 1) k) else 0

-- the lengths of the stretches of k numbers from p on, of live ones and dead ones by turns, behind n numbers like b
unfoldable pub lengths_after : Lives → Bool → ℕ → ℕ → ℕ → List ℕ
lengths_after f b n p zero = n ∷ []
lengths_after f b n p (suc k) =
    if alike b (f p) then lengths_after f b (suc n) (p + 1) k else n ∷ lengths_after f (not b) 1 (p + 1) k

-- live ones first
abbrev pub lengths : Lives → ℕ → ℕ → List ℕ
lengths f p k = lengths_after f true 0 p k

abbrev pub bit : Bool → ℕ
bit b = if b then 1 else 0

-- k numbers from p on as bits, the first one lowest
unfoldable pub byte_from : Lives → ℕ → ℕ → ℕ
byte_from f p zero = 0
byte_from f p (suc k) = bit (f p) + 2 * byte_from f (p + 1) k

-- the numbers that a byte has room for
abbrev pub up_to_eight : ℕ → ℕ
up_to_eight k = if nat_lt k 8 then k else 8

-- k numbers from p on in so many bytes
unfoldable pub bytes_from : Lives → ℕ → ℕ → ℕ → List ℕ
bytes_from f p zero k = []
bytes_from f p (suc m) k = byte_from f p (up_to_eight k) ∷ bytes_from f (p + 8) m (k - 8)
