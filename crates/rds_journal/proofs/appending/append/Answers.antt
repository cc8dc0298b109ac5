use Rattle.std.proofs.Common.{ℕ, List, take, length, ◌∙◌}
use Rattle.rds_journal.specs.Device.{LeavesOnly, Only}
use Rattle.rds_journal.specs.Appending.{KeepsFront, LeavesEnd}
use Rattle.rds_journal.proofs.Ends.{reaches, is_appended, stays_cut, is_short, appended_lasts, cut_keeps, write_keeps, cut_leaves, write_leaves, known, each}
use Rattle.rds_journal.proofs.Moments.{goes_on, weaker}
use Rattle.rds_journal.proofs.appending.append.Goals as goal

-- ---- what is seen

pub write_at-requires : goal.write_at-requires
write_at-requires g c = reaches c.args.end c.args.is_torn _ _ c.requires c.in-Ok.ensures.cut

pub returns-in_default-clause-unwritten : goal.returns-in_default-clause-unwritten
returns-in_default-clause-unwritten g c _ = stays_cut c.args.end c.args.text.now _ _ c.in_default.ensures.uncut

pub returns-in_default-write_at-clause-unwritten : goal.returns-in_default-write_at-clause-unwritten
returns-in_default-write_at-clause-unwritten g c _ =
    is_short c.args.end c.args.is_torn c.args.text.now _ _ _ c.requires c.in-Ok.ensures.cut c.in_default-write_at.ensures.short

pub returns-in_default-sync-clause-unsure : goal.returns-in_default-sync-clause-unsure
returns-in_default-sync-clause-unsure g c _ =
    c.sync.ensures.seen ∙ is_appended c.args.end c.args.is_torn c.args.text.now _ _ _ c.requires c.in-Ok.ensures.cut c.in-Ok-write_at.ensures.written

pub returns-clause-written : goal.returns-clause-written
returns-clause-written g c =
    c.sync.ensures.seen ∙ is_appended c.args.end c.args.is_torn c.args.text.now _ _ _ c.requires c.in-Ok.ensures.cut c.in-Ok-write_at.ensures.written

pub returns-clause-durable : goal.returns-clause-durable
returns-clause-durable g c =
    let put = is_appended c.args.end c.args.is_torn c.args.text.now _ _ _ c.requires c.in-Ok.ensures.cut c.in-Ok-write_at.ensures.written in
    appended_lasts c.args.end c.args.text.now _ _ _ put c.in-Ok-sync.ensures.durable

-- ---- what a crash leaves

pub returns-in_default-clause-any_moment : goal.returns-in_default-clause-any_moment
returns-in_default-clause-any_moment g c =
    let d = c.args.device.now in
    let P : List ℕ → Type 0 = λ f. (x : List ℕ) × g.D.Device.may_leave d x × KeepsFront c.args.end (length c.args.text.now) x f in
    weaker g.D.Device.moment g.D.Device.left_since d c.cut_off.new.device _ P c.cut_off.ensures.any_moment
    (λ f from. (from.0, from.1, cut_keeps c.args.end (length c.args.text.now) from.0 f from.2))

pub returns-in_default-write_at-clause-any_moment : goal.returns-in_default-write_at-clause-any_moment
returns-in_default-write_at-clause-any_moment g c =
    let d = c.args.device.now in
    let n = length c.args.text.now in
    let P : List ℕ → Type 0 = λ f. (x : List ℕ) × g.D.Device.may_leave d x × KeepsFront c.args.end n x f in
    let was_cut = weaker g.D.Device.moment g.D.Device.left_since d c.cut_off.new.device _ P c.cut_off.ensures.any_moment (λ f from. (from.0, from.1, cut_keeps c.args.end n from.0 f from.2)) in
    let put = write_keeps c.args.end n _ _ _ c.cut_off.ensures.crash c.write_at.ensures.crash in
    goes_on g.D.Device.moment g.D.Device.left_since d c.cut_off.new.device c.write_at.new.self P _ was_cut c.write_at.ensures.time put

pub returns-in_default-sync-clause-any_moment : goal.returns-in_default-sync-clause-any_moment
returns-in_default-sync-clause-any_moment g c =
    let d = c.args.device.now in
    let n = length c.args.text.now in
    let P : List ℕ → Type 0 = λ f. (x : List ℕ) × g.D.Device.may_leave d x × KeepsFront c.args.end n x f in
    let was_cut = weaker g.D.Device.moment g.D.Device.left_since d c.cut_off.new.device _ P c.cut_off.ensures.any_moment (λ f from. (from.0, from.1, cut_keeps c.args.end n from.0 f from.2)) in
    let put = write_keeps c.args.end n _ _ _ c.cut_off.ensures.crash c.write_at.ensures.crash in
    let was_put = goes_on g.D.Device.moment g.D.Device.left_since d c.cut_off.new.device c.write_at.new.self P _ was_cut c.write_at.ensures.time put in
    goes_on g.D.Device.moment g.D.Device.left_since d c.write_at.new.self c.sync.new.self P _ was_put c.sync.ensures.time (λ f now. put f (c.sync.ensures.crash f now))

pub returns-clause-any_moment : goal.returns-clause-any_moment
returns-clause-any_moment g c =
    let d = c.args.device.now in
    let n = length c.args.text.now in
    let P : List ℕ → Type 0 = λ f. (x : List ℕ) × g.D.Device.may_leave d x × KeepsFront c.args.end n x f in
    let was_cut = weaker g.D.Device.moment g.D.Device.left_since d c.cut_off.new.device _ P c.cut_off.ensures.any_moment (λ f from. (from.0, from.1, cut_keeps c.args.end n from.0 f from.2)) in
    let put = write_keeps c.args.end n _ _ _ c.cut_off.ensures.crash c.write_at.ensures.crash in
    let was_put = goes_on g.D.Device.moment g.D.Device.left_since d c.cut_off.new.device c.write_at.new.self P _ was_cut c.write_at.ensures.time put in
    goes_on g.D.Device.moment g.D.Device.left_since d c.write_at.new.self c.sync.new.self P _ was_put c.sync.ensures.time (λ f now. put f (c.sync.ensures.crash f now))

pub returns-in_default-clause-from_rest : goal.returns-in_default-clause-from_rest
returns-in_default-clause-from_rest g c =
    let d = c.args.device.now in
    known (g.D.Device.seen d) (λ file. Only file (g.D.Device.may_leave d) → LeavesOnly g.D.Device.moment g.D.Device.left_since d c.cut_off.new.device (LeavesEnd file c.args.end (length c.args.text.now)))
    (λ file only. weaker g.D.Device.moment g.D.Device.left_since d c.cut_off.new.device _ (LeavesEnd file c.args.end (length c.args.text.now)) c.cut_off.ensures.any_moment (cut_leaves c.args.end (length c.args.text.now) file _ only))

pub returns-in_default-write_at-clause-from_rest : goal.returns-in_default-write_at-clause-from_rest
returns-in_default-write_at-clause-from_rest g c =
    let d = c.args.device.now in
    let n = length c.args.text.now in
    each (g.D.Device.seen d) (λ file. Only file (g.D.Device.may_leave d) → Only (take c.args.end file) (g.D.Device.may_leave c.cut_off.new.device))
    (λ file. Only file (g.D.Device.may_leave d) → LeavesOnly g.D.Device.moment g.D.Device.left_since d c.write_at.new.self (LeavesEnd file c.args.end n))
    (λ file lasts only.
    let was_cut = weaker g.D.Device.moment g.D.Device.left_since d c.cut_off.new.device _ (LeavesEnd file c.args.end n) c.cut_off.ensures.any_moment (cut_leaves c.args.end n file _ only) in
    let put = write_leaves c.args.end n file _ _ (lasts only) c.write_at.ensures.crash in
    goes_on g.D.Device.moment g.D.Device.left_since d c.cut_off.new.device c.write_at.new.self (LeavesEnd file c.args.end n) _ was_cut c.write_at.ensures.time put)
    c.in-Ok.ensures.durable

pub returns-in_default-sync-clause-from_rest : goal.returns-in_default-sync-clause-from_rest
returns-in_default-sync-clause-from_rest g c =
    let d = c.args.device.now in
    let n = length c.args.text.now in
    each (g.D.Device.seen d) (λ file. Only file (g.D.Device.may_leave d) → Only (take c.args.end file) (g.D.Device.may_leave c.cut_off.new.device))
    (λ file. Only file (g.D.Device.may_leave d) → LeavesOnly g.D.Device.moment g.D.Device.left_since d c.sync.new.self (LeavesEnd file c.args.end n))
    (λ file lasts only.
    let was_cut = weaker g.D.Device.moment g.D.Device.left_since d c.cut_off.new.device _ (LeavesEnd file c.args.end n) c.cut_off.ensures.any_moment (cut_leaves c.args.end n file _ only) in
    let put = write_leaves c.args.end n file _ _ (lasts only) c.write_at.ensures.crash in
    let was_put = goes_on g.D.Device.moment g.D.Device.left_since d c.cut_off.new.device c.write_at.new.self (LeavesEnd file c.args.end n) _ was_cut c.write_at.ensures.time put in
    goes_on g.D.Device.moment g.D.Device.left_since d c.write_at.new.self c.sync.new.self (LeavesEnd file c.args.end n) _ was_put c.sync.ensures.time (λ f now. put f (c.sync.ensures.crash f now)))
    c.in-Ok.ensures.durable

pub returns-clause-from_rest : goal.returns-clause-from_rest
returns-clause-from_rest g c =
    let d = c.args.device.now in
    let n = length c.args.text.now in
    each (g.D.Device.seen d) (λ file. Only file (g.D.Device.may_leave d) → Only (take c.args.end file) (g.D.Device.may_leave c.cut_off.new.device))
    (λ file. Only file (g.D.Device.may_leave d) → LeavesOnly g.D.Device.moment g.D.Device.left_since d c.sync.new.self (LeavesEnd file c.args.end n))
    (λ file lasts only.
    let was_cut = weaker g.D.Device.moment g.D.Device.left_since d c.cut_off.new.device _ (LeavesEnd file c.args.end n) c.cut_off.ensures.any_moment (cut_leaves c.args.end n file _ only) in
    let put = write_leaves c.args.end n file _ _ (lasts only) c.write_at.ensures.crash in
    let was_put = goes_on g.D.Device.moment g.D.Device.left_since d c.cut_off.new.device c.write_at.new.self (LeavesEnd file c.args.end n) _ was_cut c.write_at.ensures.time put in
    goes_on g.D.Device.moment g.D.Device.left_since d c.write_at.new.self c.sync.new.self (LeavesEnd file c.args.end n) _ was_put c.sync.ensures.time (λ f now. put f (c.sync.ensures.crash f now)))
    c.in-Ok.ensures.durable
