use Rattle.std.proofs.Common.{sym}
use Rattle.rds_offline.proofs.Copied.{made_from_copy, not_from_copy}
use Rattle.rds_offline.proofs.copies.init_from_copy.Goals as goal

pub returns-in-Ok-clause-made : goal.returns-in-Ok-clause-made
returns-in-Ok-clause-made g c =
    made_from_copy c.args.path.now c.args.copy.now c.args.own.now c.in_ok-name.name c.in-Ok.stored.kept _ c.in-Ok.stored.layout c.in-Ok.ensures.stored c.in-Ok.ensures.value c.view_of.ensures.replica (sym c.in_ok-name.ensures)
    c.create_next.result c.create_next.ensures.path c.create_next.ensures.place c.create_next.ensures.next

pub returns-in-Ok-clause-fault : goal.returns-in-Ok-clause-fault
returns-in-Ok-clause-fault g c =
    not_from_copy c.args.path.now c.args.copy.now c.args.own.now c.in_ok-name.name c.in-Ok.stored.kept _ c.in-Ok.stored.layout c.in-Ok.ensures.stored c.in-Ok.ensures.value c.view_of.ensures.replica (sym c.in_ok-name.ensures)
    c.create_next.result c.create_next.ensures.fault
