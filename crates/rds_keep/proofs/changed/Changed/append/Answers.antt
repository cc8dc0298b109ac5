use Rattle.std.proofs.Common.{◌≡◌, ◌∙◌, Err, ap, subst}
use Rattle.rds_keep.specs.Changed.{ChangedValue, IsRecordOf}
use Rattle.rds_keep.proofs.Appended.{appended_seen, kept_more}
use Rattle.rds_keep.proofs.changed.Changed.append.Goals as goal

pub was-requires : goal.was-requires
was-requires g c =
    let now = c.self.inside in
    kept_more (record { before = now.before.value; after = now.after.value; bytes = now.record.items }) c.self.invariant.0 c.self.invariant.1

pub returns-in-Ok-clause-stored : goal.returns-in-Ok-clause-stored
returns-in-Ok-clause-stored g c =
    let bytes : c.deref.result.now ≡ c.args.self.bytes = c.deref.ensures.value ∙ ap (λ (x : ChangedValue). x.bytes) c.self.view_is in
    let is = subst IsRecordOf c.self.view_is c.self.invariant.1 in
    let written = rw bytes at c.in-Ok.ensures.written in
    appended_seen (g.D.Device.seen c.args.device.now) (g.D.Device.seen c.append.new.device) c.args.self c.args.layout.now c.requires.stored written is

pub returns-in-Ok-clause-any_moment : goal.returns-in-Ok-clause-any_moment
returns-in-Ok-clause-any_moment g c =
    let bytes : c.deref.result.now ≡ c.args.self.bytes = c.deref.ensures.value ∙ ap (λ (x : ChangedValue). x.bytes) c.self.view_is in
    rw bytes at c.append.ensures.any_moment

pub returns-in-Err-Unwritten-clause-unwritten : goal.returns-in-Err-Unwritten-clause-unwritten
returns-in-Err-Unwritten-clause-unwritten g c = λ _.
    let bytes : c.deref.result.now ≡ c.args.self.bytes = c.deref.ensures.value ∙ ap (λ (x : ChangedValue). x.bytes) c.self.view_is in
    rw bytes at (c.in-Err-Unwritten.ensures.unwritten (ap Err c.in-Err-Unwritten.field-0-is))

pub returns-in-Err-Unwritten-clause-any_moment : goal.returns-in-Err-Unwritten-clause-any_moment
returns-in-Err-Unwritten-clause-any_moment g c =
    let bytes : c.deref.result.now ≡ c.args.self.bytes = c.deref.ensures.value ∙ ap (λ (x : ChangedValue). x.bytes) c.self.view_is in
    rw bytes at c.append.ensures.any_moment

pub returns-clause-unsure : goal.returns-clause-unsure
returns-clause-unsure g c = λ _.
    let bytes : c.deref.result.now ≡ c.args.self.bytes = c.deref.ensures.value ∙ ap (λ (x : ChangedValue). x.bytes) c.self.view_is in
    let is = subst IsRecordOf c.self.view_is c.self.invariant.1 in
    appended_seen (g.D.Device.seen c.args.device.now) (g.D.Device.seen c.append.new.device) c.args.self c.args.layout.now c.requires.stored (rw bytes at (c.in-Err-Unsure.ensures.unsure (ap Err c.in-Err-Unsure.field-0-is))) is

pub returns-clause-any_moment : goal.returns-clause-any_moment
returns-clause-any_moment g c =
    let bytes : c.deref.result.now ≡ c.args.self.bytes = c.deref.ensures.value ∙ ap (λ (x : ChangedValue). x.bytes) c.self.view_is in
    rw bytes at c.append.ensures.any_moment

pub returns-in-Ok-clause-from_rest : goal.returns-in-Ok-clause-from_rest
returns-in-Ok-clause-from_rest g c =
    let bytes : c.deref.result.now ≡ c.args.self.bytes = c.deref.ensures.value ∙ ap (λ (x : ChangedValue). x.bytes) c.self.view_is in
    rw bytes at c.append.ensures.from_rest

pub returns-in-Err-Unwritten-clause-from_rest : goal.returns-in-Err-Unwritten-clause-from_rest
returns-in-Err-Unwritten-clause-from_rest g c =
    let bytes : c.deref.result.now ≡ c.args.self.bytes = c.deref.ensures.value ∙ ap (λ (x : ChangedValue). x.bytes) c.self.view_is in
    rw bytes at c.append.ensures.from_rest

pub returns-clause-from_rest : goal.returns-clause-from_rest
returns-clause-from_rest g c =
    let bytes : c.deref.result.now ≡ c.args.self.bytes = c.deref.ensures.value ∙ ap (λ (x : ChangedValue). x.bytes) c.self.view_is in
    rw bytes at c.append.ensures.from_rest
