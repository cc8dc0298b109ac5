-- The places of a torn end, one after the other.
use Rattle.std.proofs.Common.{◌≡◌, ℕ, zero, suc, ◌+◌, ◌*◌, ◌≤◌, ◌<◌, ◌^◌, true, List, [], ◌∷◌, length, take, Option, Some, None, IfSome, is_some, arith}
use Rattle.std.specs.Int.{w32, from_be_bytes}
use Rattle.std.proofs.lemmas.Bool.Decides.{nat_tests}
use Rattle.rds_journal.specs.declared.records.TheConstants.{MOST, HEAD}
use Rattle.rds_journal.specs.Records.{IsBegun, IsFirst, HasNoRecord, claim, claimed, claimed_in_all}
use Rattle.rds_journal.proofs.Format.{no_text}

pub none_in_nothing : HasNoRecord []
none_in_nothing zero begun = no_text begun.0 begun.1 begun.3
none_in_nothing (suc k) begun = no_text begun.0 begun.1 begun.3

-- no record begins at the first place, and none behind it
pub none_before : (b : ℕ) (rest : List ℕ) → (IsBegun (b ∷ rest) → ⊥) → HasNoRecord rest → HasNoRecord (b ∷ rest)
none_before b rest here behind zero begun = here begun
none_before b rest here behind (suc k) begun = behind k begun

pub none_behind : (b : ℕ) (rest : List ℕ) → HasNoRecord (b ∷ rest) → HasNoRecord rest
none_behind b rest none k begun = none (suc k) begun

pub begun_of : {X : Type 0} (payload behind : X → List ℕ) (bytes : List ℕ) (first : Option X) → IfSome first (λ x. IsFirst bytes (payload x) (behind x)) → is_some first ≡ true → IsBegun bytes
begun_of payload behind bytes None is some = absurd cc
begun_of payload behind bytes (Some x) is some = (payload x, behind x, is.short, is.parts)

claim_bound : (n room : ℕ) → claim n room ≤ MOST + HEAD
claim_bound n room = grind (arith, nat_tests)

pub claimed_bound : (bytes : List ℕ) → claimed_in_all bytes ≤ length bytes * (MOST + HEAD)
claimed_bound [] = omega arith
claimed_bound (b ∷ rest) =
    let here : claimed (b ∷ rest) ≤ MOST + HEAD = claim_bound (from_be_bytes w32 (take 4 (b ∷ rest))) (length (b ∷ rest)) in
    omega (arith, claimed_bound rest)

pub sum_fits : (bytes rest later : List ℕ) (b sum : ℕ) → length bytes ≤ MOST + HEAD → rest ≡ b ∷ later → sum + claimed_in_all rest ≡ claimed_in_all bytes → sum + claimed rest < 2 ^ 64
sum_fits bytes rest later b sum short is added =
    let all : sum + (claimed (b ∷ later) + claimed_in_all later) ≡ claimed_in_all bytes = rw is at added in
    rw is (omega (arith, claimed_bound bytes))
