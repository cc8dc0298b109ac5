-- What a response tells of a fork: two replicas that have seen the same, and hold different entries.
use Rattle.std.specs.Prelude.{◌≢◌}
use Rattle.rds_codec.specs.Laws.{HasText}
use Rattle.rds_state.specs.Coordinates.{AreCompatible}
use Rattle.rds_state.specs.Fits.{ReplicaValue}
use Rattle.rds_state.specs.Mark.{mark_of}
use Rattle.rds_state.specs.Value.{coordinates}
use Rattle.rds_answers.specs.Hashes.{Collide}
use Rattle.rds_questions.specs.Hashed.{TellTheSame, told_text}
use Rattle.rds_questions.specs.Questions.{question_kind, question_of}
use Rattle.rds_questions.specs.Receiving.{ReceivedValue}
use Rattle.rds_questions.specs.Tags.{IsForkOf, IsTagOf, tag_of}

-- the one that answered had seen what the replica has, and held something else
abbrev pub TellsFork : ReplicaValue → ReceivedValue → Type 0
TellsFork held x = IsForkOf x.tag (tag_of held)

-- where who answered and who took would ask the same, and have other marks, a fork is reported
abbrev pub ForksAreTold : Type 0
ForksAreTold =
    (peer held : ReplicaValue) (x : ReceivedValue) → IsTagOf peer x.tag → TellTheSame (question_of peer) (question_of held)
    → mark_of peer.state ≢ mark_of held.state → TellsFork held x

-- where no dot of their states has two entries, none is reported, or texts of theirs collide
abbrev pub NoOtherForksAreTold : Type 0
NoOtherForksAreTold =
    (peer held : ReplicaValue) (x : ReceivedValue) → IsTagOf peer x.tag → HasText question_kind (question_of peer)
    → HasText question_kind (question_of held) → AreCompatible (coordinates peer.state) (coordinates held.state)
    → TellsFork held x → Collide (told_text (question_of peer)) (told_text (question_of held))
