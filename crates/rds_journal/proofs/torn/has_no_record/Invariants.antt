use Rattle.std.proofs.Common.{◌↔◌, length}
use Rattle.rds_journal.specs.Records.{HasNoRecord}
use Rattle.rds_journal.proofs.torn.has_no_record.Given as goal

-- none begins at any place if none begins at one that is left
abbrev pub invariant-seeking : goal.invariant-seeking
invariant-seeking l = HasNoRecord l.rest ↔ HasNoRecord l.fn.bytes

abbrev pub decreases-seeking : goal.decreases-seeking
decreases-seeking l = length l.rest
