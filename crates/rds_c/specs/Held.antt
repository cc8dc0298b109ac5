-- What a handle owns: nothing where it is closed, and where it is open the document at its pointer, with the right to
-- free its block.
use base.Stored.{Coded}
use base.Fml.{Fml, ftrue}
use denote.RawPtr.{Ptr}
use Rattle.std.specs.Prelude.{ℕ, Option, None, Some}
use Rattle.std.specs.Coded.{coded_option}
use Rattle.std.specs.Box.Ownership.{box_owns}
use Rattle.std.specs.Global.{Global}
use Rattle.std_heap.specs.contracts.GlobalAllocator.TheImpl.{ghosts}
use Rattle.rds_c.specs.contracts.opened.Opened.{the_row}

abbrev pub held_owns : Global → Ptr → Option the_row.Denot → Fml
held_owns alloc p None = ftrue
held_owns alloc p (Some d) = box_owns (ghosts.dealloc_token alloc) the_row p d

abbrev pub document_coded : Coded (Option the_row.Denot)
document_coded = coded_option the_row.coded

-- 1 where a handle holds a document, 0 where it is closed
abbrev pub is_held : Option the_row.Denot → ℕ
is_held None = 0
is_held (Some d) = 1
