use Rattle.std.proofs.Common.{arith}
use Rattle.rds_codec.specs.DigestTexts.{digest_at, digest_kind}
use Rattle.rds_codec.proofs.DigestFormats.{digest_reader}
use Rattle.rds_codec.proofs.Whole.{decodes_whole, reads_whole}
use Rattle.rds_codec.proofs.digests.decode_digest.Goals as goal

pub returns-clause-text : goal.returns-clause-text
returns-clause-text g c =
    decodes_whole (digest_at c.args.replicas) _ c.unfinished_digest.ensures c.args.bytes.now c.read_whole.result c.read_whole.ensures.read (digest_kind c.args.replicas) (digest_reader c.args.replicas) (λ i. omega (arith, c.type_inv.bytes i)) c.read_whole.ensures.long

pub returns-clause-read : goal.returns-clause-read
returns-clause-read g c = reads_whole (digest_at c.args.replicas) _ c.unfinished_digest.ensures c.args.bytes.now c.read_whole.result c.read_whole.ensures.read
