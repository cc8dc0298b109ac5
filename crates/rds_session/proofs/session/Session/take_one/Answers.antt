use Rattle.std.proofs.Common.{refl, sym, ap, ◌∙◌}
use Rattle.rds_session.specs.Arriving.{Reading}
use Rattle.rds_session.specs.Chunks.{scan, start_of_chunks}
use Rattle.rds_session.specs.Session.{Standing}
use Rattle.rds_session.proofs.Runs.{over_is, ran_over, ran_on, ran_whole, ran_too_long, rest_less, with_under}
use Rattle.rds_session.proofs.session.Session.take_one.Goals as goal

pub returns-in-Done : goal.returns-in-Done
returns-in-Done g c = record {
  ran = rw (← c.self.view_is) (ran_over _ _ _ (over_is _ c.in-Done.is));
  known = λ h. h;
  less = c.requires;
  kept = refl;
  err = tt;
}

pub returns-in-More-clause-ran : goal.returns-in-More-clause-ran
returns-in-More-clause-ran g c =
    let going = sym (ap (λ (s : Standing). s.ended) c.self.view_is) ∙ c.in-Going.is in
    let e = rw c.in-More.is at c.in_ok-chunks.ensures.ok in
    let from = sym (ap (λ (r : Reading). scan c.args.piece.now r.under) c.under_way.ensures.chunks) in
    ran_on c.args.self.now _ c.args.send.now.items c.args.piece.now c.in-More.chunks.under
    going (from ∙ e.0) (ap (λ (s : Standing). with_under s c.in-More.chunks.under) (c.self-in-More.view_is ∙ c.under_way.ensures.taken))

pub returns-in_ok-message-in-Whole-clause-ran : goal.returns-in_ok-message-in-Whole-clause-ran
returns-in_ok-message-in-Whole-clause-ran g c =
    let going = sym (ap (λ (s : Standing). s.ended) c.self.view_is) ∙ c.in-Going.is in
    let e = rw c.in-Whole.is at c.in_ok-chunks.ensures.ok in
    let from = sym (ap (λ (r : Reading). scan c.args.piece.now r.under) c.under_way.ensures.chunks) in
    ran_whole c.args.self.now (with_under c.under_way.new.self start_of_chunks) c.message.new.self c.args.send.now.items c.message.new.send.items c.args.piece.now c.in-Whole.rest.now c.in-Whole.message.came c.in-Whole.message.came
    going (from ∙ e.0) (ap (λ (s : Standing). with_under s start_of_chunks) c.under_way.ensures.taken) refl c.in_ok-message-in-Whole.ensures.does

pub returns-in_ok-message-in-Whole-clause-less : goal.returns-in_ok-message-in-Whole-clause-less
returns-in_ok-message-in-Whole-clause-less g c =
    let e = rw c.in-Whole.is at c.in_ok-chunks.ensures.ok in
    let from = sym (ap (λ (r : Reading). scan c.args.piece.now r.under) c.under_way.ensures.chunks) in
    rest_less c.args.self.now c.args.piece.now c.in-Whole.rest.now c.in-Whole.message.came (from ∙ e.0)

pub returns-in_ok-refuse-in-Long-clause-ran : goal.returns-in_ok-refuse-in-Long-clause-ran
returns-in_ok-refuse-in-Long-clause-ran g c =
    let going = sym (ap (λ (s : Standing). s.ended) c.self.view_is) ∙ c.in-Going.is in
    let e = rw c.in-Long.is at c.in_ok-chunks.ensures.ok in
    let from = sym (ap (λ (r : Reading). scan c.args.piece.now r.under) c.under_way.ensures.chunks) in
    ran_too_long c.args.self.now c.under_way.new.self c.refuse.new.self c.args.send.now.items c.refuse.new.send.items c.args.piece.now going (from ∙ e) c.under_way.ensures.taken c.in_ok-refuse-in-Long.ensures.does
