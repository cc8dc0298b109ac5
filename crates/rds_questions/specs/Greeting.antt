-- Whether two replicas may talk, as a session judges a hello.
use Rattle.std.specs.Prelude.{◌≡◌, ◌≢◌, ℕ, Result, Ok, Err}
use Rattle.rds_names.specs.Roster.{RosterValue, OneBegins}
use Rattle.rds_names.specs.declared.fault.Fault.{Fault}
use Rattle.rds_names.specs.declared.fault.Fault.TheVariants.{WrongGroup, WrongRoster, SameReplica}
use Rattle.rds_codec.specs.declared.hellos.Hello.{Hello}

-- when the replica with this roster and number hears a hello, and which fault it gives: first that of another group,
-- then that of rosters of which neither begins the other, then that of the same number
abbrev pub GreetGives : {T : Type 0} → RosterValue → ℕ → Hello → Result T Fault → Type 0
GreetGives roster own h (Ok x) = OneBegins roster h.roster × (own ≢ h.own)
GreetGives roster own h (Err WrongGroup) = ¬ (roster.group ≡ h.roster.group)
GreetGives roster own h (Err WrongRoster) = (roster.group ≡ h.roster.group) × ¬ (OneBegins roster h.roster)
GreetGives roster own h (Err SameReplica) = OneBegins roster h.roster × (own ≡ h.own)
GreetGives roster own h (Err f) = ⊥
