-- What decoding promises leaves one answer to the same bytes, but for Memory.
use Rattle.std.proofs.Common.{◌≡◌, ◌⊎◌, inl, inr, length, Result, Ok, Err, sym, ap, ◌∙◌}
use Rattle.std.proofs.lemmas.Bool.{cases_lt}
use Rattle.rds_names.specs.declared.fault.Fault.{Fault}
use Rattle.rds_names.specs.declared.fault.Fault.TheVariants.{Memory}
use Rattle.rds_codec.specs.declared.limits.TheConstants.{LIMIT}
use Rattle.rds_codec.specs.Decoding.{all_of}
use Rattle.rds_codec.specs.Kinds.{Kind}
use Rattle.rds_codec.specs.Laws.{DecodesOnce}
use Rattle.rds_codec.proofs.Whole.{fails_is}
use Rattle.rds_bytes.specs.Reading.{Reader, Reads}

-- what a call answered is what reading gives, or memory ran out
answer_is : {V : Type 0} (r read : Result V Fault) → Reads (λ v. v) r read → (r ≡ read) ⊎ (r ≡ Err Memory)
answer_is (Ok v) read h = inl (sym h)
answer_is (Err e) read h = elim (fails_is e read h) [ inl memory ↦ inr (ap Err memory) | inr is ↦ inl (sym is) ]

both_are : {V : Type 0} (r s read : Result V Fault) → (r ≡ read) ⊎ (r ≡ Err Memory) → (s ≡ read) ⊎ (s ≡ Err Memory)
    → (r ≡ s) ⊎ ((r ≡ Err Memory) ⊎ (s ≡ Err Memory))
both_are r s read (inr memory) other = inr (inl memory)
both_are r s read (inl is) (inr memory) = inr (inr memory)
both_are r s read (inl is) (inl same) = inl (is ∙ sym same)

pub decodes_once : {V : Type 0} (kind : Kind V) (reader : Reader V) → DecodesOnce kind reader
decodes_once kind reader bytes r s decoded read other reads = elim (cases_lt LIMIT (length bytes)) [
  | inl long ↦ inl (decoded.long long ∙ sym (other.long long))
  | inr within ↦ both_are r s (all_of reader bytes) (answer_is r _ (read within)) (answer_is s _ (reads within))
]
