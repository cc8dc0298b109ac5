use Rattle.rds_bytes.specs.SteadyParts as steady
use Rattle.rds_bytes.proofs.laws.readers_are_steady.Goals as goal

pub returns : goal.returns
returns c = record {
  names = record {
    key = steady.key_steady;
    name = steady.name_steady;
    roster = steady.roster_steady;
    member = steady.member_steady;
    header = steady.header_steady;
    replica = steady.replica_steady;
  };
  dots = record {
    gap = steady.gap_steady;
    row_head = steady.row_head_steady;
    dot_row = steady.dot_row_steady;
    dots = steady.dots_steady;
  };
  entries = record {
    scalar = steady.scalar_steady;
    entry = steady.entry_steady;
    live_row = steady.live_row_steady;
    live_rows = steady.live_rows_steady;
  };
  counters = record { count_row = steady.count_row_steady; counters = steady.counters_steady };
  packed = steady.packed_steady;
}
