-- A handle moves to another thread as the document at its pointer does.
use mir.Raw.{raw}
use base.Shift.{Keyless}
use denote.Memory.{lone}
use denote.RawPtr.{Ptr}
use denote.Struct.Struct.{exits_of}
use denote.Struct.Owning.{shape, fields, to}
use denote.Struct.Declared.{shape as shape_of}
use denote.Param.Send.{IsSend, AllSend, owning_send, recorded_send, struct_send, view_send, sendable}
use denote.RattleType.{RattleType}
use Rattle.std.specs.Prelude.{Option, None, Some}
use Rattle.std.specs.Global.{Global}
use Rattle.std.proofs.Crossing as heap
use Rattle.std.proofs.MapsCrossing as maps
use Rattle.std_alloc.proofs.SendSync.{quiet, lies}
use Rattle.std_heap.proofs.Global.TheSendSync as handle
use Rattle.rds_state.proofs.replica.Replica.TheSendSync as replica
use Rattle.rds_state.proofs.state.State.TheSendSync as state
use Rattle.rds_state.proofs.mark.Mark.TheSendSync as mark
use Rattle.rds_gaps.proofs.gap_set.GapSet.TheSendSync as seen
use Rattle.rds_names.proofs.key.Key.TheSendSync as key
use Rattle.rds_tree.proofs.leaves.Leaves.TheSendSync as leaves
use Rattle.rds_tree.proofs.node.Node.TheLaws.TheKnot as tree
use Rattle.rds_json.proofs.reader.LineReader.TheSendSync as reader
use Rattle.rds_c.specs.Held.{held_owns}
use Rattle.rds_gaps.specs.contracts.gap_set.GapSet as GapSet
use Rattle.rds_gaps.specs.contracts.gap_set.GapSetDotSet.TheImpl.{ghosts}
use Rattle.rds_keep.specs.contracts.past.Past as Past
use Rattle.rds_state.specs.contracts.replica.Replica as Replica
use Rattle.rds_state.specs.contracts.state.State as State
use Rattle.rds_tree.specs.contracts.node.Node as Node
use Rattle.rds_tree.specs.contracts.index.Index as Index
use Rattle.rds_store.specs.contracts.changes.Changes as Changes
use Rattle.rds_store.specs.contracts.document.Document as Document
use Rattle.rds_store.specs.contracts.drafts.Draft as Draft
use Rattle.rds_store.specs.contracts.drafts.Draft.TheInside as inside
use Rattle.rds_c.specs.contracts.opened.Opened as Opened
use Rattle.rds_c.specs.contracts.handle.Handle.{the_row, the_type}

-- what is open: a replica, its tree and a reader of lines, with what changed them, and with a text
replica_here : IsSend (Replica.the_row GapSet.the_row ghosts)
replica_here = search (sendable, heap.crosses, maps.crosses, replica.the_send, seen.the_send) depth 8

node : IsSend Node.the_row
node = search (sendable, heap.crosses, maps.crosses, tree.crosses, leaves.the_send, key.the_send) depth 8

index : IsSend (Index.the_row GapSet.the_row ghosts)
index = search (sendable, heap.crosses, maps.crosses, replica_here, node, mark.the_field_send, handle.the_field_send) depth 12

document : IsSend Document.the_row
document = search (sendable, heap.crosses, index, reader.the_field_send, handle.the_field_send) depth 8

-- what a document was is in no memory
past : (T : RattleType) → IsSend T → IsSend (Past.the_row T)
past T sent = owning_send (Past.the_type T) (search sendable, tt) (λ d. tt) (λ k x w. tt)

was : IsSend (Past.the_row Document.the_row)
was = past Document.the_row document

delta : IsSend (State.the_row GapSet.the_row ghosts)
delta = search (sendable, heap.crosses, maps.crosses, state.the_send, seen.the_send) depth 8

changes : IsSend (Changes.the_field).row
changes = struct_send (shape_of Changes.the_type) (was, (search (sendable, heap.crosses, delta) depth 8, (search sendable, tt)))

draft : IsSend Draft.the_row
draft = view_send _ _ _ _ _ (recorded_send _ _ _ inside.the_type.to_one (struct_send (shape_of inside.the_type) (document, (changes, tt))))

opened : IsSend Opened.the_row
opened = search (sendable, heap.crosses, draft) depth 8

held : (alloc : Global) (p : Ptr) (o : Option Opened.the_row.Denot) → Keyless (held_owns alloc p o)
held alloc p None = tt
held alloc p (Some d) = (lies Opened.the_row opened p d, heap.frees.frees alloc (raw (lone Opened.the_row.mir)) p)

pub send : IsSend the_row
send =
    let all : AllSend (fields the_type) = (search sendable, (handle.the_field_send, tt)) in
    owning_send the_type all (λ d. held d.alloc d.at d.document)
    (λ k. quiet (to the_type) (exits_of k (fields the_type)) ((struct_send (shape the_type) all).leaving k))
