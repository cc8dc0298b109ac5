use Rattle.std.proofs.Common.{◌≡◌, ℕ, List, Result, Ok, Err, refl}
use Rattle.rds_names.specs.declared.fault.Fault.{Fault}
use Rattle.rds_bytes.specs.Packed.{packed_at}
use Rattle.rds_bytes.specs.Reading.{◌>>=◌}
use Rattle.rds_feeds.proofs.packed.unfinished_packed.Goals as goal

as_it_is : (read : Result (ℕ × List ℕ) Fault) → (read >>= λ a. Ok (a.0, a.1)) ≡ read
as_it_is (Ok x) = refl
as_it_is (Err e) = refl

pub returns : goal.returns
returns c bytes = as_it_is (packed_at bytes)
