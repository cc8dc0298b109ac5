-- A replica that takes all that another has seen takes an answer of the model.
use Rattle.std.proofs.Common.{◌≡◌, ◌∙◌, length, max, refl, sym, ap}
use Rattle.rds_names.specs.Roster.{RosterValue}
use Rattle.rds_state.specs.Fits.{ReplicaValue}
use Rattle.rds_state.specs.Value.{coordinates}
use Rattle.rds_state.proofs.JoinLaws.{reflexive}
use Rattle.rds_delta.proofs.LeastLaws.{grown_delta}
use Rattle.rds_world.proofs.Meeting.{longer_length}
use Rattle.rds_world.proofs.Open.{TakesAnswer}
use Rattle.rds_offline.specs.Merging.{IsMergedFrom}

pub merge_takes : (source before after : ReplicaValue) → IsMergedFrom source before after → TakesAnswer before source before after
merge_takes source before after merged = record {
  asker = refl;
  own = merged.own;
  joined = merged.joined ∙ sym (grown_delta (coordinates source.state) (coordinates before.state) (coordinates before.state) (reflexive (coordinates before.state)));
  names = ap (λ (s : RosterValue). length s.names) merged.roster ∙ longer_length before.roster source.roster;
}
