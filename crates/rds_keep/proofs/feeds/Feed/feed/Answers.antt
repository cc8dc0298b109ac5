use Rattle.std.proofs.Common.{refl, sym, arith}
use Rattle.rds_keep.proofs.FeedSteps.{piece_adds, piece_refuses}
use Rattle.rds_keep.proofs.feeds.Feed.feed.Goals as goal

pub returns-in-Err-read_piece-clause-refuses : goal.returns-in-Err-read_piece-clause-refuses
returns-in-Err-read_piece-clause-refuses g c =
    let now = c.self.inside in
    rw (← c.self.view_is) (piece_refuses g.U.Unfinished.finish (record { progress = now.progress; rest = now.rest.items; left = now.left }) c.in-Ok.field-0 now.rest.items c.args.piece.now
    (sym c.in-Ok.ensures.value) refl c.if-self-piece.false c.in-Err-read_piece.fault c.in-Err-read_piece.ensures.err)

pub returns-in-Ok-read_piece-clause-adds : goal.returns-in-Ok-read_piece-clause-adds
returns-in-Ok-read_piece-clause-adds g c =
    let now = c.self.inside in
    rw (← c.self.view_is) (piece_adds g.U.Unfinished.finish (record { progress = now.progress; rest = now.rest.items; left = now.left }) c.in-Ok.field-0 now.rest.items c.args.piece.now
    (sym c.in-Ok.ensures.value) refl c.if-self-piece.false c.in-Ok-read_piece.progress c.read_piece.new.rest.items (λ i. omega (arith, c.type_inv.piece i)) c.in-Ok-read_piece.ensures.ok)
