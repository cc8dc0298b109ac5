-- Where a key's bytes stand.
use Rattle.std.specs.Prelude.{ℕ, Bool, true, ◌&&◌, ◌-◌, nat_eq, nat_le, List, length, take, drop, replicate}
use Rattle.std.specs.Str.{is_utf8, bytes_eq}
use Rattle.std.specs.Arc.{arc_str_bytes}
use Rattle.rds_names.specs.declared.key.Form.{Form}
use Rattle.rds_names.specs.declared.key.Form.TheVariants.{Inline, Shared}

-- what stands behind the text of an inline key isn't seen, and is zeros
abbrev pub bytes_in : Form → List ℕ
bytes_in (Inline bytes len) = take len bytes
bytes_in (Shared text) = arc_str_bytes text

-- no more bytes than there is room for, a text, and zeros behind it
abbrev pub is_kept : Form → Bool
is_kept (Inline bytes len) =
    nat_eq (length bytes) 22 && (nat_le len 22 && (is_utf8 (take len bytes) && bytes_eq (drop len bytes) (replicate (22 - len) 0)))
is_kept (Shared text) = true
