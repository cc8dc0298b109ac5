-- Replicas that have seen the same, and have different marks.
use Rattle.std.proofs.Common.{◌≡◌, ap, subst}
use Rattle.rds_names.specs.Roster.{OneBegins, RosterValue}
use Rattle.rds_state.specs.Mark.{mark_of}
use Rattle.rds_questions.proofs.Told.{equal_states}
use Rattle.rds_meetings.proofs.Takes.{same_self}
use Rattle.rds_commands.specs.Sessions.{LevelForksAreTold}

pub level_forks : LevelForksAreTold
level_forks one other roster digest marks = record {
  rosters = subst (λ (r : RosterValue). OneBegins one.roster r) roster (same_self one).rosters;
  entries = λ compatible. marks (ap mark_of (equal_states one.state other.state digest compatible));
}
