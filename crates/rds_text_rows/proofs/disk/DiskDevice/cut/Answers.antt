use Rattle.std.proofs.Common.{◌≡◌, ℕ, List}
use Rattle.rds_text_rows.specs.declared.disk.Call.TheVariants.{Shorten}
use Rattle.rds_text_rows.proofs.Outcomes.{elapses_same, elapses, nothing_cut, cut_short}
use Rattle.rds_text_rows.proofs.disk.DiskDevice.cut.Goals as goal

pub returns-in_default-clause-crash : goal.returns-in_default-clause-crash
returns-in_default-clause-crash c = nothing_cut (λ (f : List ℕ). f ≡ c.args.self.now.first.items) c.args.self.now.calls.items c.note_cut.new.calls.items c.args.end c.in_default.ensures.unnoted

pub returns-in_default-clause-time : goal.returns-in_default-clause-time
returns-in_default-clause-time c = elapses_same (λ (f : List ℕ). f ≡ c.args.self.now.first.items) c.args.self.now.calls.items c.note_cut.new.calls.items c.in_default.ensures.unnoted

pub returns-clause-crash : goal.returns-clause-crash
returns-clause-crash c = cut_short (λ (f : List ℕ). f ≡ c.args.self.now.first.items) c.args.self.now.calls.items c.note_cut.new.calls.items c.args.end c.in-Ok.ensures.noted

pub returns-clause-time : goal.returns-clause-time
returns-clause-time c = elapses (λ (f : List ℕ). f ≡ c.args.self.now.first.items) c.args.self.now.calls.items c.note_cut.new.calls.items (Shorten c.args.end) c.in-Ok.ensures.noted
