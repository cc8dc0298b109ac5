use Rattle.std.proofs.Common.{◌≡◌, ℕ, ◌<◌, List, length, rules}
use Rattle.rds_text_rows.specs.declared.disk.Call.TheVariants.{Write}
use Rattle.rds_text_rows.proofs.Outcomes.{elapses_same, elapses, nothing_torn, write_torn, nothing_written}
use Rattle.rds_text_rows.proofs.disk.DiskDevice.write_at.Goals as goal

pub returns-in_default-clause-short : goal.returns-in_default-clause-short
returns-in_default-clause-short c =
    let some : 0 < length c.args.bytes.now = search rules in
    nothing_written c.args.self.now.bytes.items c.args.at c.args.bytes.now c.put.new.file.items some c.in_default.ensures.unwritten

pub returns-in_default-clause-crash : goal.returns-in_default-clause-crash
returns-in_default-clause-crash c = nothing_torn (λ (f : List ℕ). f ≡ c.args.self.now.first.items) c.args.self.now.calls.items c.put.new.calls.items c.args.at (length c.args.bytes.now) c.in_default.ensures.unnoted

pub returns-in_default-clause-time : goal.returns-in_default-clause-time
returns-in_default-clause-time c = elapses_same (λ (f : List ℕ). f ≡ c.args.self.now.first.items) c.args.self.now.calls.items c.put.new.calls.items c.in_default.ensures.unnoted

pub returns-then-count-bytes-clause-crash : goal.returns-then-count-bytes-clause-crash
returns-then-count-bytes-clause-crash c =
    let noted = c.in-Ok.ensures.noted in
    write_torn (λ (f : List ℕ). f ≡ c.args.self.now.first.items) c.args.self.now.calls.items c.put.new.calls.items c.args.at noted.0 c.args.bytes.now noted.1 noted.2

pub returns-then-count-bytes-clause-time : goal.returns-then-count-bytes-clause-time
returns-then-count-bytes-clause-time c =
    let noted = c.in-Ok.ensures.noted in
    elapses (λ (f : List ℕ). f ≡ c.args.self.now.first.items) c.args.self.now.calls.items c.put.new.calls.items (Write c.args.at noted.0) noted.2

pub returns-clause-crash : goal.returns-clause-crash
returns-clause-crash c =
    let noted = c.in-Ok.ensures.noted in
    write_torn (λ (f : List ℕ). f ≡ c.args.self.now.first.items) c.args.self.now.calls.items c.put.new.calls.items c.args.at noted.0 c.args.bytes.now noted.1 noted.2

pub returns-clause-time : goal.returns-clause-time
returns-clause-time c =
    let noted = c.in-Ok.ensures.noted in
    elapses (λ (f : List ℕ). f ≡ c.args.self.now.first.items) c.args.self.now.calls.items c.put.new.calls.items (Write c.args.at noted.0) noted.2
