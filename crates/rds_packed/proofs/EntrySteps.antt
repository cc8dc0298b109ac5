-- Steps of reading an entry.
use Rattle.std.proofs.Common.{◌≡◌, ℕ, List, Ok, Some, refl, subst}
use Rattle.rds_names.specs.Entry.{HasParts}
use Rattle.rds_names.specs.declared.entry.Entry.{Entry}
use Rattle.rds_names.specs.declared.entry.Kind.{Kind}
use Rattle.rds_names.specs.declared.scalar.Scalar.{Scalar}
use Rattle.rds_names.proofs.Entries.{entry_of_parts}
use Rattle.rds_bytes.specs.Reading.{Reader}
use Rattle.rds_packed.specs.PackedReading.{head_at, head_keys, head_kind, head_tag, entry_of_head, packed_path_at, payload_at, packed_entry_at}

pub entry_found : (key : Reader (List ℕ)) (bytes : List ℕ) (head : ℕ) (first : List ℕ) (path : List (List ℕ)) (second : List ℕ) (value : Scalar) (rest : List ℕ) (kind : Kind) (entry : Entry)
    → head_at bytes ≡ Ok (head, first) → packed_path_at key (head_keys head) first ≡ Ok (path, second) → payload_at (head_tag head) second ≡ Ok (value, rest) → kind ≡ head_kind head → HasParts path kind value entry
    → packed_entry_at key bytes ≡ Ok (entry, rest)
unfolding packed_entry_at
entry_found key bytes head first path second value rest kind entry p q r is has =
    let made : entry_of_head (head, (path, value)) ≡ Some entry = entry_of_parts path (head_kind head) value entry (subst (λ (k : Kind). HasParts path k value entry) is has) in
    rw (p, q, r, made) refl
