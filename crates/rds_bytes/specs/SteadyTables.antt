-- The readers of a table and of the numbers of its keys are steady.
use Rattle.std.specs.Prelude.{ℕ, List, slice_get}
use Rattle.std.specs.Int.{w32}
use Rattle.rds_bytes.specs.Steady.{IsSteady}
use Rattle.rds_bytes.specs.SteadyLaws.{when_steady, drawn_steady, list_steady, number_steady}
use Rattle.rds_bytes.specs.SteadyParts.{key_steady}
use Rattle.rds_bytes.specs.TableTexts.{new_key_at, table_at, numbered_at}

pub new_key_steady : (before : List (List ℕ)) → IsSteady (new_key_at before)
unfolding new_key_at
new_key_steady before = when_steady _ _ key_steady

pub table_steady : IsSteady table_at
unfolding table_at
table_steady = list_steady _ _ (number_steady w32) new_key_steady

pub numbered_steady : (table : List (List ℕ)) → IsSteady (numbered_at table)
unfolding numbered_at
numbered_steady table = drawn_steady (slice_get table) _ (number_steady w32)
