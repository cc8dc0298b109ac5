use Rattle.std.proofs.Common.{rules, ◌≡◌, List, ℕ, Ok, sym, ap, ◌∙◌}
use Rattle.rds_bytes.specs.Reading.{Reader}
use Rattle.rds_keep.specs.Feeding.{FeedValue, StandsFor}
use Rattle.rds_keep.proofs.FeedSteps.{ends_as, ends_as_text}
use Rattle.rds_keep.proofs.feeds.Feed.end.Goals as goal

pub returns : goal.returns
returns g c =
    let progress : c.args.self.progress ≡ Ok c.in_ok-progress.field-0 = sym (ap (λ (f : FeedValue g.row.U.Denot g.row.U-Whole.Denot). f.progress) c.self.view_is) ∙ c.in_ok-progress.was in
    let rest : c.deref.result.now ≡ c.args.self.rest = c.deref.ensures.value ∙ ap (λ (f : FeedValue g.row.U.Denot g.row.U-Whole.Denot). f.rest) c.self.view_is in
    let read = λ (reader : Reader g.row.U-Whole.Denot) (came : List ℕ) (stands : StandsFor g.U.Unfinished.finish reader c.args.self came).
    ends_as g.U.Unfinished.finish reader came c.args.self c.in_ok-progress.field-0 c.read_end.result progress (rw rest at c.read_end.ensures) stands in
    record {
      text = λ format replicas came stands. ends_as_text g.U.Unfinished.finish (g.U.Fed.kind format replicas) (g.U.Fed.reader format replicas) came c.args.self c.read_end.result (g.met.U.Fed.decodes format replicas) stands
          (read (g.U.Fed.reader format replicas) came stands);
      read = read;
      again = search rules;
    }
