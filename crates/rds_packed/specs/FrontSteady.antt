-- The readers of a table whose keys share their fronts are steady.
use Rattle.std.specs.Prelude.{ℕ, List}
use Rattle.rds_bytes.specs.Reading.{Reader, made_at}
use Rattle.rds_bytes.specs.Steady.{IsSteady}
use Rattle.rds_bytes.specs.SteadyLaws.{made_steady, then_steady, when_steady, list_steady, byte_steady, string_steady}
use Rattle.rds_feeds.specs.MarkedKeys.{marked}
use Rattle.rds_packed.specs.PackedSteady.{packed_u32_steady}
use Rattle.rds_packed.specs.FrontTexts.{own_at, joined, front_bytes_at, front_key_at, new_front_at, packed_table_at}

own_steady : (count : ℕ) → IsSteady (own_at count)
own_steady count = string_steady _ (when_steady _ _ byte_steady)

front_key_steady : (before : List ℕ) → IsSteady (front_key_at before)
unfolding front_key_at front_bytes_at
front_key_steady before =
    when_steady _ _ (when_steady _ _ (made_steady (joined before) _ (when_steady _ _ (then_steady _ _ (when_steady _ _ byte_steady) own_steady))))

pub new_front_steady : (before : List (List ℕ)) → IsSteady (new_front_at before)
unfolding new_front_at
new_front_steady before = when_steady _ _ (front_key_steady _)

pub packed_table_steady : IsSteady packed_table_at
unfolding packed_table_at
packed_table_steady = list_steady _ _ packed_u32_steady new_front_steady

-- ---- with its mark

-- a key that none of these equals, with its mark
abbrev pub marked_front_at : List (List ℕ) → Reader (List ℕ × ℕ)
marked_front_at keys = made_at marked (new_front_at keys)

pub marked_front_steady : (keys : List (List ℕ)) → IsSteady (marked_front_at keys)
marked_front_steady keys = made_steady marked (new_front_at keys) (new_front_steady keys)
