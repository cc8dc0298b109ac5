use Rattle.rds_bytes.specs.Entries.{entry_of_tuple}
use Rattle.rds_bytes.specs.Reading.{kind_at, scalar_at, pair_at, keyed_path_at, keyed_entry_at}
use Rattle.rds_names.proofs.Entries.{entry_of_parts}
use Rattle.rds_bytes.proofs.EntryParts.{pair_found, drawn_found}
use Rattle.rds_bytes.proofs.entries.read_keyed_entry.Goals as goal

pub returns-in-Ok-clause-read : goal.returns-in-Ok-clause-read
unfolding keyed_entry_at
returns-in-Ok-clause-read g c =
    let read_path = keyed_path_at (g.K.KeySource.reader c.args.keys.now) in
    let path = c.in_ok-path.path in
    let kind = c.in_ok-kind.kind in
    let value = c.in_ok-value.value in
    let last = pair_found kind_at scalar_at c.in_ok-path.rest.now kind c.in_ok-kind.rest.now value c.in_ok-value.rest.now c.in_ok-kind.ensures c.in_ok-value.ensures in
    let all = pair_found read_path (pair_at kind_at scalar_at) c.args.bytes.now path c.in_ok-path.rest.now (kind, value) c.in_ok-value.rest.now c.in_ok-path.ensures.read last in
    drawn_found entry_of_tuple (pair_at read_path (pair_at kind_at scalar_at)) c.args.bytes.now (path, (kind, value)) c.in_ok-value.rest.now c.in-Ok.entry all (entry_of_parts path kind value c.in-Ok.entry c.in-Ok.ensures)
