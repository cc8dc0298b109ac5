-- The readers of states, answers and snapshots are steady, in each format.
use Rattle.std.specs.Prelude.{ℕ, List, length}
use Rattle.rds_bytes.specs.Steady.{IsSteady}
use Rattle.rds_bytes.specs.SteadyLaws.{made_steady, then_steady, pair_steady, when_steady, drawn_steady, bytes_steady}
use Rattle.rds_bytes.specs.SteadyParts.{key_steady, replica_steady, member_steady, dots_steady, keyed_live_rows_steady, keyed_counters_steady}
use Rattle.rds_bytes.specs.SteadyTables.{table_steady, numbered_steady}
use Rattle.rds_bytes.specs.Reading.{Reader, key_at}
use Rattle.rds_bytes.specs.TableTexts.{numbered_at}
use Rattle.rds_codec.specs.AnswerTexts.{answer_by, answer_at_in}
use Rattle.rds_codec.specs.FormatTexts.{format_of, format_at, member_state_at, snapshot_of, snapshot_in_at}
use Rattle.rds_codec.specs.StateTexts.{state_by, body_at, without_table, state_at_in}
use Rattle.rds_codec.specs.SteadyTexts.{certificate_steady}
use Rattle.rds_codec.specs.declared.formats.Format.{Format}
use Rattle.rds_codec.specs.declared.formats.Format.TheVariants.{One, Two}

pub body_steady : (key : Reader (List ℕ)) → IsSteady key → (replicas : ℕ) → IsSteady (body_at key replicas)
unfolding body_at
body_steady key is replicas =
    made_steady state_by _ (then_steady _ _ (dots_steady replicas) (λ seen. pair_steady _ _ (keyed_live_rows_steady key is seen) (keyed_counters_steady key is replicas)))

pub state_in_steady : (format : Format) (replicas : ℕ) → IsSteady (state_at_in format replicas)
unfolding state_at_in
state_in_steady One replicas = body_steady key_at key_steady replicas
state_in_steady Two replicas =
    made_steady without_table _ (when_steady _ _ (then_steady _ _ table_steady (λ table. body_steady (numbered_at table) (numbered_steady table) replicas)))

pub answer_in_steady : (format : Format) (replicas : ℕ) → IsSteady (answer_at_in format replicas)
unfolding answer_at_in
answer_in_steady format replicas =
    made_steady answer_by _ (pair_steady _ _ (replica_steady replicas) (pair_steady _ _ (state_in_steady format replicas) (certificate_steady replicas)))

format_steady : IsSteady format_at
unfolding format_at
format_steady = drawn_steady format_of _ (bytes_steady 4)

member_state_steady : (format : Format) → IsSteady (member_state_at format)
unfolding member_state_at
member_state_steady format = then_steady _ _ member_steady (λ m. state_in_steady format (length m.0.names))

pub snapshot_in_steady : IsSteady snapshot_in_at
unfolding snapshot_in_at
snapshot_in_steady = made_steady snapshot_of _ (then_steady _ _ format_steady member_state_steady)
