-- A replica whose text is read again can be kept.
use Rattle.std.proofs.Common.{◌≡◌, ℕ, ◌≤◌, List, length, Ok, sym, subst}
use Rattle.rds_state.specs.Fits.{ReplicaValue}
use Rattle.rds_bytes.proofs.Format.{IsBytes}
use Rattle.rds_codec.specs.Decoding.{all_of}
use Rattle.rds_codec.specs.FormatTexts.{snapshot_in_at, snapshot_kind_in}
use Rattle.rds_codec.specs.StateTexts.{IsSnapshot, snapshot_text}
use Rattle.rds_codec.specs.declared.formats.Format.TheVariants.{Two}
use Rattle.rds_codec.specs.declared.limits.TheConstants.{LIMIT}
use Rattle.rds_codec.proofs.BothSnapshots.{snapshot_in_reader}
use Rattle.rds_codec.proofs.Whole.{decodes}
use Rattle.rds_keep.specs.Kept.{IsKept, IsStored, new_layout}
use Rattle.rds_keep.specs.Sums.{file_text}
use Rattle.rds_keep.proofs.Files.{new_file, snapshot_kept}

-- what is read again as a snapshot is one
snapshot_again : (v : ReplicaValue) (bytes : List ℕ) → IsBytes bytes → bytes ≡ snapshot_text v → length (snapshot_text v) ≤ LIMIT → all_of snapshot_in_at bytes ≡ Ok (Two, v) → IsSnapshot v
snapshot_again v bytes fits text within again =
    let short = subst (λ (t : List ℕ). length t ≤ LIMIT) (sym text) within in
    let decoded = decodes snapshot_kind_in snapshot_in_at snapshot_in_reader bytes fits short (Ok (Two, v)) again in
    decoded.value.1.is_value

pub is_kept : (v : ReplicaValue) (bytes : List ℕ) → IsBytes bytes → bytes ≡ snapshot_text v → length (snapshot_text v) ≤ LIMIT → all_of snapshot_in_at bytes ≡ Ok (Two, v) → IsKept v
is_kept v bytes fits text within again = snapshot_kept Two v (snapshot_again v bytes fits text within again) within

-- with the record of its checksum it is a new file
pub is_new_file : (v : ReplicaValue) (bytes file : List ℕ) → IsBytes bytes → bytes ≡ snapshot_text v → length (snapshot_text v) ≤ LIMIT → all_of snapshot_in_at bytes ≡ Ok (Two, v) → file ≡ file_text v → IsStored file v (new_layout (length file))
is_new_file v bytes file fits text within again same =
    subst (λ (t : List ℕ). IsStored t v (new_layout (length t))) (sym same) (new_file v (snapshot_again v bytes fits text within again) within)
