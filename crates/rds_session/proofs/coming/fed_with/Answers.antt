use Rattle.std.proofs.Common.{Result, inl, inr, subst}
use Rattle.rds_names.specs.declared.fault.Fault.{Fault}
use Rattle.rds_keep.specs.Feeding.{FeedValue}
use Rattle.rds_session.specs.Coming.{HoldsText}
use Rattle.rds_session.proofs.coming.fed_with.Goals as goal

pub returns-in-Ok-feed-clause-ok : goal.returns-in-Ok-feed-clause-ok
returns-in-Ok-feed-clause-ok g c = λ reader came holds.
    c.in-Ok-feed.ensures.adds reader came (subst (λ (t : Result (FeedValue g.row.U.Denot g.row.U-Whole.Denot) Fault). HoldsText g.U.Unfinished.finish reader t came) c.in-Ok.is holds)

pub returns : goal.returns
returns g c = record {
  ok = λ reader came holds.
      (let stands = subst (λ (t : Result (FeedValue g.row.U.Denot g.row.U-Whole.Denot) Fault). HoldsText g.U.Unfinished.finish reader t came) c.in-Ok.is holds in
      elim c.in-Err-feed.ensures.refuses [
        | inl memory ↦ absurd (c.in_default.not-Memory memory)
        | inr hopeless ↦ (hopeless reader came stands).ever
      ]);
  memory = tt;
}
