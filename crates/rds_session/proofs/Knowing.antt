-- No fault of a message is that of a device.
use Rattle.std.proofs.Common.{◌≡◌, inl, inr, sym, subst}
use Rattle.rds_names.specs.declared.fault.Fault.{Fault}
use Rattle.rds_names.specs.declared.fault.Fault.TheVariants.{Memory, Cut, Bad, Extra, TooLong}
use Rattle.rds_codec.specs.Decoding.{IsOtherFault}
use Rattle.rds_session.specs.declared.talk.Stop.TheVariants.{Refused}
use Rattle.rds_session.specs.Judging.{StopsByNoDevice}

abbrev IsKnownFault : Fault → Type 0
IsKnownFault e = StopsByNoDevice (Refused e)

known_by : (e f : Fault) → e ≡ f → IsKnownFault f → IsKnownFault e
known_by e f is h = subst IsKnownFault (sym is) h

pub known_fault : (e : Fault) → IsOtherFault e → IsKnownFault e
known_fault e h = elim h [
  | inl m ↦ known_by e Memory m tt
  | inr a ↦ elim a [
    | inl l ↦ known_by e TooLong l tt
    | inr c ↦ elim c [
      | inl x ↦ known_by e Extra x tt
      | inr r ↦ elim r [ inl s ↦ known_by e Cut s tt | inr t ↦ known_by e Bad t tt ]
    ]
  ]
]
