use Rattle.std.proofs.Common.{◌≡◌, ℕ, List, ◌∙◌}
use Rattle.rds_text_rows.specs.declared.disk.Call.TheVariants.{Sync}
use Rattle.rds_text_rows.proofs.Outcomes.{elapses_same, elapses, synced, sync_leaves}
use Rattle.rds_text_rows.proofs.disk.DiskDevice.sync.Goals as goal

pub returns-in_default-clause-time : goal.returns-in_default-clause-time
returns-in_default-clause-time c = elapses_same (λ (f : List ℕ). f ≡ c.args.self.now.first.items) c.args.self.now.calls.items c.note_sync.new.calls.items c.in_default.ensures.unnoted

pub returns-clause-durable : goal.returns-clause-durable
returns-clause-durable c =
    let noted = c.in-Ok.ensures.noted in
    synced (λ (f : List ℕ). f ≡ c.args.self.now.first.items) c.args.self.now.calls.items c.note_sync.new.calls.items noted.0 c.args.self.now.bytes.items (noted.1 ∙ c.deref.ensures.value) noted.2

pub returns-clause-crash : goal.returns-clause-crash
returns-clause-crash c =
    let noted = c.in-Ok.ensures.noted in
    sync_leaves (λ (f : List ℕ). f ≡ c.args.self.now.first.items) c.args.self.now.calls.items c.note_sync.new.calls.items noted.0 noted.2

pub returns-clause-time : goal.returns-clause-time
returns-clause-time c =
    let noted = c.in-Ok.ensures.noted in
    elapses (λ (f : List ℕ). f ≡ c.args.self.now.first.items) c.args.self.now.calls.items c.note_sync.new.calls.items (Sync noted.0) noted.2
