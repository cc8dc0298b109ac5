-- A replica that takes a longer roster.
use Rattle.std.specs.Prelude.{◌≡◌, ℕ, Result, Ok, Err}
use Rattle.rds_names.specs.declared.fault.Fault.{Fault}
use Rattle.rds_names.specs.declared.fault.Fault.TheVariants.{WrongGroup, WrongRoster}
use Rattle.rds_names.specs.Roster.{RosterValue, Begins, MeetGives, OneBegins}
use Rattle.rds_state.specs.Ahead.{TakeGives}
use Rattle.rds_state.specs.Value.{StateValue}

-- when a roster grows to another, and which fault is given: first that of another group
abbrev pub GrowGives : {T : Type 0} → RosterValue → RosterValue → Result T Fault → Type 0
GrowGives r s (Ok x) = Begins r s
GrowGives r s (Err WrongGroup) = ¬ (r.group ≡ s.group)
GrowGives r s (Err WrongRoster) = (r.group ≡ s.group) × ¬ (Begins r s)
GrowGives r s (Err f) = ⊥

-- when a delta that comes with a roster is taken, and which fault is given: first what the rosters give
abbrev pub TakeWithGives : {T : Type 0} → RosterValue → RosterValue → StateValue → ℕ → StateValue → Result T Fault → Type 0
TakeWithGives r s a own d (Err WrongGroup) = MeetGives {T = Unit {0}} r s (Err WrongGroup)
TakeWithGives r s a own d (Err WrongRoster) = MeetGives {T = Unit {0}} r s (Err WrongRoster)
TakeWithGives r s a own d (Err f) = OneBegins r s × TakeGives {T = Unit {0}} a own d (Err f)
TakeWithGives r s a own d (Ok x) = OneBegins r s × TakeGives {T = Unit {0}} a own d (Ok tt)
