use Rattle.std.proofs.Common.{◌≡◌, ◌≤◌, ◌∙◌, ap, subst, get_or, Err, Ok}
use Rattle.std.proofs.Math.ListN.{set}
use Rattle.std.specs.List.{insert}
use Rattle.rds_counts.specs.Counted.{pair_of}
use Rattle.rds_counts.specs.Search.{IsSpot}
use Rattle.rds_counts.specs.Raised.{row_of}
use Rattle.rds_counts.proofs.Found.{pair_found, parted, same_spot}
use Rattle.rds_counts.proofs.Puts.{set_drawn, insert_drawn}
use Rattle.rds_counts.proofs.rows.put_row.Goals as goal

pub returns-in-Ok-clause-ok : goal.returns-in-Ok-clause-ok
returns-in-Ok-clause-ok c =
    let key = c.args.key.now in
    let rows = c.args.rows.now.items in
    let x = row_of key c.args.replica c.args.pair in
    let e = c.index_mut-row.result.now in
    let spot : IsSpot key c.args.replica rows (Ok c.in-Ok.at) = subst (IsSpot key c.args.replica rows) c.in-Ok.is c.requires.found in
    let old : pair_of rows key c.args.replica ≡ ((get_or rows c.in-Ok.at e).p, (get_or rows c.in-Ok.at e).n) = pair_found key c.args.replica rows c.requires.rows.rise c.in-Ok.at spot e in
    let p : (get_or rows c.in-Ok.at e).p ≤ c.args.pair.0 = subst (λ n. n ≤ c.args.pair.0) (ap (λ k. k.0) old) c.requires.above.0 in
    let n : (get_or rows c.in-Ok.at e).n ≤ c.args.pair.1 = subst (λ n. n ≤ c.args.pair.1) (ap (λ k. k.1) old) c.requires.above.1 in
    let there = same_spot key c.args.replica (get_or rows c.in-Ok.at e) (spot.position e) in
    ap (λ (k : _ × _). set rows c.in-Ok.at (row_of k.0 k.1 c.args.pair)) (λ i. ((ap (λ r. r.key) c.index_mut-row.ensures.value ∙ there.0) i, (ap (λ r. r.replica) c.index_mut-row.ensures.value ∙ there.1) i))
    ∙ set_drawn x e rows c.requires.rows.rise c.in-Ok.at spot.bound (spot.position e) p n

pub returns-in_ok-insert-in-Err-clause-ok : goal.returns-in_ok-insert-in-Err-clause-ok
returns-in_ok-insert-in-Err-clause-ok c =
    let key = c.args.key.now in
    let rows = c.args.rows.now.items in
    let x = row_of key c.args.replica c.args.pair in
    let spot : IsSpot key c.args.replica rows (Err c.in-Err.at) = subst (IsSpot key c.args.replica rows) c.in-Err.is c.requires.found in
    let by = parted key c.args.replica rows c.requires.rows.rise c.in-Err.at spot x in
    let drawn_is = insert_drawn x x rows c.in-Err.at spot.bound by.0 by.1 in
    c.in_ok-insert-in-Err.ensures.items ∙ ap (λ k. insert rows c.in-Err.at (row_of k c.args.replica c.args.pair)) c.in_ok-key-in-Err.ensures.ok ∙ drawn_is
