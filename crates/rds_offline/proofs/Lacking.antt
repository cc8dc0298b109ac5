-- What a replica lacked of another.
use Rattle.std.proofs.Common.{◌≡◌, ◌∙◌, ap, length, subst, sym}
use Rattle.rds_names.specs.Roster.{longer}
use Rattle.rds_delta.proofs.Exchanges.{least_fits}
use Rattle.rds_delta.proofs.LeastLaws.{grown_delta}
use Rattle.rds_delta.specs.Ranks.{ranks}
use Rattle.rds_state.proofs.JoinLaws.{reflexive}
use Rattle.rds_state.specs.Coordinates.{join}
use Rattle.rds_state.specs.Fits.{Fits, ReplicaValue}
use Rattle.rds_state.specs.Value.{StateValue, coordinates}
use Rattle.rds_offline.specs.Merging.{IsLackingPart}
use Rattle.rds_offline.proofs.Longer.{longer_fits}

module _ (source before after : ReplicaValue) (lacking : StateValue) (is : IsLackingPart source before lacking) where
  -- it is all that the other has
  pub lacking_joined : coordinates after.state ≡ join (coordinates before.state) (coordinates source.state) → coordinates after.state ≡ join (coordinates before.state) (coordinates lacking)
  lacking_joined joined = joined ∙ sym (grown_delta (coordinates source.state) (coordinates before.state) (coordinates before.state) (reflexive (coordinates before.state))) ∙ ap (join (coordinates before.state)) (sym is)

  pub lacking_fits : Fits (length source.roster.names) (coordinates source.state) → after.roster ≡ longer before.roster source.roster → Fits (length after.roster.names) (coordinates lacking)
  lacking_fits fits roster = longer_fits before.roster source.roster after.roster (coordinates lacking) roster
      (subst (Fits (length source.roster.names)) (sym is) (least_fits (length source.roster.names) (coordinates source.state) (ranks (coordinates before.state)) fits))
