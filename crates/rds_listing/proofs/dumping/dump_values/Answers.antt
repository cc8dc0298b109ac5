use Rattle.std.proofs.Common.{refl}
use Rattle.std.specs.Prelude.{string_bytes}
use Rattle.rds_tree.specs.Shown.{shown_view}
use Rattle.rds_listing.proofs.Amounts.{values_dumped}
use Rattle.rds_listing.proofs.dumping.dump_values.Goals as goal

pub returns-clause-text : goal.returns-clause-text
returns-clause-text c =
    let shown = shown_view c.args.shape.now in
    values_dumped c.args.path.now c.keys.result.now shown shown c.as_slice.result.now c.in_ok-all.all.items
    (string_bytes c.new-text.result) (string_bytes c.push_standings.new.text)
    c.new-text.ensures.bytes c.in_ok-push_standings.ensures.text c.as_slice.ensures.value c.in_ok-all.ensures.ok c.keys.ensures.keys refl
