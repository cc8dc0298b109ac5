use Rattle.std.proofs.Common.{false}
use Rattle.rds_store.proofs.ChangeLemmas.{edit_made, noted}
use Rattle.rds_store.proofs.drafts.edit_noted.Goals as goal

pub returns-clause-since : goal.returns-clause-since
returns-clause-since c =
    noted c.make_room.new.self c.note.new.self c.args.document.now c.edit_with_delta.new.self false c.in_ok-edited.delta (c.make_room.ensures.since c.args.document.now c.requires.since) c.note.ensures
    (edit_made c.args.document.now c.edit_with_delta.new.self c.args.command.now c.in_ok-edited.edited c.in_ok-edited.delta c.in_ok-edited.ensures)
