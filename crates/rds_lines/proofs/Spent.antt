-- How much was read, read by read.
use Rattle.std.proofs.Common.{◌≡◌, ℕ, ◌-◌, ◌<◌, ◌≤◌, List, [], ◌++◌, length, take, Option, arith}
use Rattle.std.specs.Prelude.{OnOk, Result, Ok, Err}
use Rattle.std.specs.Io.KnownBytes.{ReadConsumes}
use Rattle.std.proofs.KnownBytes.{Consumes-kept, Consumes-nil, Consumes-trans}
use Rattle.std.proofs.lemmas.List.{length-append, length-take}
use Rattle.rds_keep.specs.Parts.{ConsumesAtMost}
use Rattle.rds_lines.specs.Ahead.{most_given}

-- nothing was read
pub unread : (input : Option (List ℕ)) (most : ℕ) → ConsumesAtMost input input most
unread input most = ([], omega arith, Consumes-nil input)

-- one read, which took a turn
pub read_once : {E : Type 0} (now next : Option (List ℕ)) (r : Result ℕ E) (piece : List ℕ) (left later : ℕ) → ReadConsumes now next r piece → length piece ≤ most_given 1
    → later ≡ left - 1 → OnOk r (0 < left) → ConsumesAtMost now next (most_given (left - later))
read_once now next (Ok n) piece left later read room one some = (take n piece, omega (arith, length-take n piece, room, one, some), read.0)
read_once now next (Err e) piece left later read room one some = ([], omega arith, Consumes-kept now now next [] (Consumes-nil now) read)

-- what was read so far, and then more
pub read_more : (first now next : Option (List ℕ)) (turns left later : ℕ) → ConsumesAtMost first now (most_given (turns - left)) → ConsumesAtMost now next (most_given (left - later))
    → left ≤ turns → later ≤ left → ConsumesAtMost first next (most_given (turns - later))
read_more first now next turns left later before more le lower =
    (before.0 ++ more.0, omega (arith, length-append before.0 more.0, before.1, more.1, le, lower), Consumes-trans first now next before.0 more.0 before.2 more.2)
