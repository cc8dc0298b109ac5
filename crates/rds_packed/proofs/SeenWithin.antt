-- A gap that was read, and what a row begins with, are within their limits.
use Rattle.std.proofs.Common.{◌≡◌, ℕ, ◌<◌, ◌≤◌, true, leb, ltb, List, Option, Some, None, Ok, ap, subst, ◌∙◌, arith}
use Rattle.std.specs.Prelude.{nat_le}
use Rattle.std.proofs.lemmas.Bool.{leb-true, ltb-true}
use Rattle.rds_names.specs.Conditions.{and_left, and_right}
use Rattle.rds_dots.specs.declared.dot.TheConstants.{MAX_SEQ}
use Rattle.rds_bytes.specs.declared.dots.Gap.{Gap}
use Rattle.rds_bytes.specs.declared.dot_rows.RowHead.{RowHead}
use Rattle.rds_bytes.specs.Packed.{packed_at}
use Rattle.rds_bytes.specs.Reading.{Reader, then_at, pair_at, when_at, byte_at, is_between, is_end, is_next_replica, least_lo, gap_by, row_head_by}
use Rattle.rds_bytes.specs.RowDots.{first_after_gap}
use Rattle.rds_feeds.specs.WasRead.{then_read, made_read, when_read}
use Rattle.rds_packed.specs.PackedReading.{packed_u32_at}
use Rattle.rds_packed.specs.SeenReading.{further_at, packed_gap_at, packed_top_at, packed_head_at}
use Rattle.rds_packed.specs.SeenTexts.{gap_end}

abbrev low_at : Option Gap → Reader ℕ
low_at before = when_at (nat_le (least_lo before)) (further_at (gap_end before))

abbrev high_at : ℕ → ℕ → Reader ℕ
high_at top lo = when_at (is_end top lo) (further_at lo)

end_is : (top lo hi : ℕ) → is_end top lo hi ≡ true → (lo ≤ hi) × (hi < top)
end_is top lo hi e = (leb-true lo hi (and_left (leb lo hi) (ltb hi top) e), ltb-true hi top (and_right (leb lo hi) (ltb hi top) e))

pub gap_within : (top : ℕ) (before : Option Gap) (bytes : List ℕ) (g : Gap) (rest : List ℕ) → packed_gap_at top before bytes ≡ Ok (g, rest) → (g.lo ≤ g.hi) × (g.hi < top)
unfolding packed_gap_at
gap_within top before bytes g rest e =
    let made = made_read gap_by (then_at (low_at before) (high_at top)) bytes g rest e in
    let both = then_read (low_at before) (high_at top) bytes made.0 rest made.1 in
    let end = when_read (is_end top both.first) (further_at both.first) both.middle both.second rest both.second_is in
    let is = end_is top both.first both.second end.1 in
    let same : gap_by (both.first, both.second) ≡ g = ap gap_by both.are ∙ made.2 in
    subst (λ (x : Gap). (x.lo ≤ x.hi) × (x.hi < top)) same is

abbrev number_at : ℕ → ℕ → Reader ℕ
number_at replicas least = when_at (is_next_replica replicas least) byte_at

abbrev top_gaps_at : Reader (ℕ × ℕ)
top_gaps_at = pair_at packed_top_at packed_u32_at

between_is : (least most n : ℕ) → is_between least most n ≡ true → (least ≤ n) × (n ≤ most)
between_is least most n e = (leb-true least n (and_left (leb least n) (leb n most) e), leb-true n most (and_right (leb least n) (leb n most) e))

pub head_within : (replicas least : ℕ) (bytes : List ℕ) (h : RowHead) (rest : List ℕ) → packed_head_at replicas least bytes ≡ Ok (h, rest) → (1 ≤ h.top) × (h.top ≤ MAX_SEQ)
unfolding packed_head_at
head_within replicas least bytes h rest e =
    let made = made_read row_head_by (pair_at (number_at replicas least) top_gaps_at) bytes h rest e in
    let later = then_read (number_at replicas least) (λ _. top_gaps_at) bytes made.0 rest made.1 in
    let both = then_read packed_top_at (λ _. packed_u32_at) later.middle later.second rest later.second_is in
    let between = when_read (is_between 1 MAX_SEQ) packed_at later.middle both.first both.middle both.first_is in
    let is = between_is 1 MAX_SEQ both.first between.1 in
    let same : row_head_by (later.first, (both.first, both.second)) ≡ h = ap (λ (p : ℕ × ℕ). row_head_by (later.first, p)) both.are ∙ ap row_head_by later.are ∙ made.2 in
    subst (λ (x : RowHead). (1 ≤ x.top) × (x.top ≤ MAX_SEQ)) same is

-- where the last gap ends is before the dots after it
pub end_first : (before : Option Gap) → gap_end before ≤ first_after_gap before
end_first None = omega arith
end_first (Some g) = omega arith
