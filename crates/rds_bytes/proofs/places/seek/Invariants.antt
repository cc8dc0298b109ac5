use Rattle.std.proofs.Common.{◌≡◌, length}
use Rattle.rds_bytes.specs.Places.{seek}
use Rattle.rds_bytes.proofs.places.seek.Given as goal

-- what is left of the bucket tells what all of it would
abbrev pub invariant-seeking : goal.invariant-seeking
invariant-seeking l = seek l.keys l.bucket l.tag l.key ≡ seek l.keys l.fn.bucket l.tag l.key

abbrev pub decreases-seeking : goal.decreases-seeking
decreases-seeking l = length l.bucket
