use Rattle.std.proofs.Common.{length}
use Rattle.std.proofs.lemmas.List.{drop-replicate}
use Rattle.std.proofs.lemmas.Str.{is_utf8-from_IsUtf8}
use Rattle.rds_names.proofs.Room.{filled}
use Rattle.rds_names.proofs.key.Key.new_inline.Goals as goal

-- the first bytes are the text, and zeros stand behind it
pub invariant_of-result : goal.invariant_of-result
invariant_of-result c =
    rw c.copy_from_slice.ensures.after (filled c.as_bytes-text.result.now _ (drop-replicate (length c.as_bytes-text.result.now) 22 0) (rw c.as_bytes-text.ensures.value c.requires.key) (rw c.as_bytes-text.ensures.value c.requires.short) (is_utf8-from_IsUtf8 _ c.as_bytes-text.ensures.utf8))
