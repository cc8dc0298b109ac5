use Rattle.std.proofs.Common.{arith}
use Rattle.rds_codec.specs.FormatTexts.{snapshot_kind_in, snapshot_in_at}
use Rattle.rds_codec.proofs.BothSnapshots.{snapshot_in_reader}
use Rattle.rds_codec.proofs.Whole.{decodes_whole, reads_whole}
use Rattle.rds_codec.proofs.snapshots.decode_snapshot_with_format.Goals as goal

pub returns-clause-text : goal.returns-clause-text
returns-clause-text g c =
    decodes_whole snapshot_in_at _ c.unfinished_snapshot.ensures c.args.bytes.now c.read_whole.result c.read_whole.ensures.read snapshot_kind_in snapshot_in_reader (λ i. omega (arith, c.type_inv.bytes i)) c.read_whole.ensures.long

pub returns-clause-read : goal.returns-clause-read
returns-clause-read g c = reads_whole snapshot_in_at _ c.unfinished_snapshot.ensures c.args.bytes.now c.read_whole.result c.read_whole.ensures.read
