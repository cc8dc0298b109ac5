-- Paths, names and scalars that are spelled and read again.
use Rattle.std.proofs.Common.{◌≡◌, ◌^◌, ℕ, zero, suc, Bool, true, false, cond, not, ◌&&◌, ◌||◌, leb, List, [], ◌∷◌, length, pos, negsuc, Result, Ok, Err, refl, sym, ap, subst, ◌∙◌, All, le-leb, lt-ltb, arith}
use Rattle.std.specs.Prelude.{◌==◌, nat_le}
use Rattle.std.specs.List.{list_all, list_any, join_with_byte}
use Rattle.std.proofs.lemmas.Bool.{leb-true}
use Rattle.std.proofs.lemmas.List.Splits.{slice_split_none, slice_split_at, join_with_byte-slice_split}
use mathlib.Core.Bool.{false≢true}
use Rattle.rds_names.specs.Conditions.{and_left, and_right}
use Rattle.rds_names.specs.declared.fault.Fault.{Fault}
use Rattle.rds_names.specs.declared.fault.Fault.TheVariants.{BadKey, BadPath}
use Rattle.rds_names.specs.declared.scalar.Scalar.{Scalar}
use Rattle.rds_names.specs.declared.scalar.Scalar.TheVariants.{Null, Bool as Truth, Int, Text}
use Rattle.rds_names.specs.Key.{is_key}
use Rattle.rds_names.specs.Path.{path_of, pieces, segments}
use Rattle.rds_json.specs.Limits.{IsPath, FitsScalar}
use Rattle.rds_json.specs.Scalar.{scalar_of}
use Rattle.rds_json.specs.Show.{scalar_data}
use Rattle.rds_json.proofs.Outcomes.{ok_is, passed}

pub scalar_read : (v : Scalar) → FitsScalar v → scalar_of (scalar_data v) ≡ Ok v
scalar_read Null h = refl
scalar_read (Truth b) h = refl
scalar_read (Int (pos n)) h = rw (lt-ltb n (2 ^ 63) h.sfits) refl
scalar_read (Int (negsuc n)) h = refl
scalar_read (Text s) h = rw (le-leb (length s) 1024 h) refl

-- ---- paths

head_of : (a b : Bool) → not (a || b) ≡ true → a ≡ false
head_of true b h = absurd (false≢true h)
head_of false b h = refl

tail_of : (a b : Bool) → not (a || b) ≡ true → not b ≡ true
tail_of true b h = absurd (false≢true h)
tail_of false b h = h

no_slash : (bs : List ℕ) → not (list_any (λ b. b == 47) bs) ≡ true → All (λ b. (b == 47) ≡ false) bs
no_slash [] h k d lt = absurd (omega arith)
no_slash (b ∷ bs) h zero d lt = head_of (b == 47) _ h
no_slash (b ∷ bs) h (suc k) d lt = no_slash bs (tail_of (b == 47) _ h) k d (omega arith)

key_whole : (k : List ℕ) → is_key k ≡ true → All (λ b. (b == 47) ≡ false) k
key_whole k h = no_slash k (and_right (nat_le 1 (length k) && nat_le (length k) 64) _ h)

cut_joined : (k : List ℕ) (ks : List (List ℕ)) → list_all is_key (k ∷ ks) ≡ true → segments (join_with_byte 47 (k ∷ ks)) ≡ k ∷ ks
cut_joined k [] h = slice_split_none _ k (key_whole k (and_left (is_key k) _ h))
cut_joined k (l ∷ ks) h =
    slice_split_at (λ b. b == 47) k 47 (join_with_byte 47 (l ∷ ks)) (key_whole k (and_left (is_key k) _ h)) refl
    ∙ ap (λ ls. k ∷ ls) (cut_joined l ks (and_right (is_key k) _ h))

pieces_joined : (ks : List (List ℕ)) → list_all is_key ks ≡ true → pieces (join_with_byte 47 ks) ≡ ks
pieces_joined [] h = refl
pieces_joined ([] ∷ ks) h = absurd (false≢true h)
pieces_joined ((b ∷ bs) ∷ []) h = cut_joined (b ∷ bs) [] h
pieces_joined ((b ∷ bs) ∷ k ∷ ks) h = cut_joined (b ∷ bs) (k ∷ ks) h

abbrev judged : List (List ℕ) → Result (List (List ℕ)) Fault
judged keys = cond (leb (length keys) 8) (cond (list_all is_key keys) (Ok keys) (Err BadKey)) (Err BadPath)

pub path_read : (keys : List (List ℕ)) → IsPath keys → path_of (join_with_byte 47 keys) ≡ Ok keys
path_read keys h = ap judged (pieces_joined keys h.1) ∙ rw (le-leb _ _ h.0, h.1) refl

joined_pieces : (t : List ℕ) → join_with_byte 47 (pieces t) ≡ t
joined_pieces [] = refl
joined_pieces (b ∷ bs) = join_with_byte-slice_split 47 (b ∷ bs)

pub path_back : (t : List ℕ) (keys : List (List ℕ)) → path_of t ≡ Ok keys → (t ≡ join_with_byte 47 keys) × IsPath keys
path_back t keys h =
    let few = passed (leb (length (pieces t)) 8) _ BadPath keys h in
    let each = passed (list_all is_key (pieces t)) (Ok (pieces t)) BadKey keys few.1 in
    subst (λ ks. (t ≡ join_with_byte 47 ks) × IsPath ks) (ok_is (pieces t) keys each.1)
    (sym (joined_pieces t), (leb-true _ _ few.0, each.0))
