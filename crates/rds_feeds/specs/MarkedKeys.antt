-- A key that is new to a table, read with its mark.
use Rattle.std.specs.Prelude.{ℕ, List}
use Rattle.rds_bytes.specs.Marks.{mark}
use Rattle.rds_bytes.specs.Reading.{Reader, made_at}
use Rattle.rds_bytes.specs.Steady.{IsSteady}
use Rattle.rds_bytes.specs.SteadyLaws.{made_steady}
use Rattle.rds_bytes.specs.SteadyTables.{new_key_steady}
use Rattle.rds_bytes.specs.TableTexts.{new_key_at}

-- a key, and its mark
abbrev pub marked : List ℕ → List ℕ × ℕ
marked key = (key, mark key)

-- a key that none of these equals, with its mark
abbrev pub marked_key_at : List (List ℕ) → Reader (List ℕ × ℕ)
marked_key_at keys = made_at marked (new_key_at keys)

pub marked_key_steady : (keys : List (List ℕ)) → IsSteady (marked_key_at keys)
marked_key_steady keys = made_steady marked (new_key_at keys) (new_key_steady keys)
