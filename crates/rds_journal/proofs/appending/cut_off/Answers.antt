use Rattle.std.proofs.Common.{List, ℕ}
use Rattle.rds_journal.specs.Device.{Cut}
use Rattle.rds_journal.proofs.Cutting.{on_err, as_before, cut_back, cut_lasts, is_whole, whole_lasts, uncut}
use Rattle.rds_journal.proofs.Moments.{started, goes_on}
use Rattle.rds_journal.proofs.appending.cut_off.Goals as goal

pub returns-in_err-cut-clause-uncut : goal.returns-in_err-cut-clause-uncut
returns-in_err-cut-clause-uncut g c = on_err c.from_residual.result _ (as_before c.args.end c.args.is_torn _ _ c.requires c.in_err-cut.ensures.uncut)

pub returns-in_err-cut-clause-any_moment : goal.returns-in_err-cut-clause-any_moment
returns-in_err-cut-clause-any_moment g c =
    let d = c.args.device.now in
    let P : List ℕ → Type 0 = λ f. (x : List ℕ) × g.D.Device.may_leave d x × Cut c.args.end x f in
    let before = started g.D.Device.moment g.D.Device.left_since d P (λ f left. (f, g.met.D.Device.only_now d f left, uncut c.args.end f)) in
    goes_on g.D.Device.moment g.D.Device.left_since d d c.cut.new.self P _ before c.cut.ensures.time c.cut.ensures.crash

pub returns-in_err-sync-clause-uncut : goal.returns-in_err-sync-clause-uncut
returns-in_err-sync-clause-uncut g c = on_err c.from_residual-in_err-sync.result _ (cut_back c.args.end _ _ _ c.in_ok-cut.ensures.cut c.sync.ensures.seen)

pub returns-in_err-sync-clause-any_moment : goal.returns-in_err-sync-clause-any_moment
returns-in_err-sync-clause-any_moment g c =
    let d = c.args.device.now in
    let P : List ℕ → Type 0 = λ f. (x : List ℕ) × g.D.Device.may_leave d x × Cut c.args.end x f in
    let before = started g.D.Device.moment g.D.Device.left_since d P (λ f left. (f, g.met.D.Device.only_now d f left, uncut c.args.end f)) in
    let was_cut = goes_on g.D.Device.moment g.D.Device.left_since d d c.cut.new.self P _ before c.cut.ensures.time c.cut.ensures.crash in
    goes_on g.D.Device.moment g.D.Device.left_since d c.cut.new.self c.sync.new.self P _ was_cut c.sync.ensures.time (λ f now. c.cut.ensures.crash f (c.sync.ensures.crash f now))

pub returns-in_ok-sync-clause-durable : goal.returns-in_ok-sync-clause-durable
returns-in_ok-sync-clause-durable g c = cut_lasts c.args.end _ _ _ _ c.in_ok-cut.ensures.cut c.in_ok-sync.ensures.durable

pub returns-in_ok-sync-clause-any_moment : goal.returns-in_ok-sync-clause-any_moment
returns-in_ok-sync-clause-any_moment g c =
    let d = c.args.device.now in
    let P : List ℕ → Type 0 = λ f. (x : List ℕ) × g.D.Device.may_leave d x × Cut c.args.end x f in
    let before = started g.D.Device.moment g.D.Device.left_since d P (λ f left. (f, g.met.D.Device.only_now d f left, uncut c.args.end f)) in
    let was_cut = goes_on g.D.Device.moment g.D.Device.left_since d d c.cut.new.self P _ before c.cut.ensures.time c.cut.ensures.crash in
    goes_on g.D.Device.moment g.D.Device.left_since d c.cut.new.self c.sync.new.self P _ was_cut c.sync.ensures.time (λ f now. c.cut.ensures.crash f (c.sync.ensures.crash f now))

pub returns-else-is_torn-clause-cut : goal.returns-else-is_torn-clause-cut
returns-else-is_torn-clause-cut g c = is_whole c.args.end c.args.is_torn _ c.if-is_torn.false c.requires

pub returns-else-is_torn-clause-durable : goal.returns-else-is_torn-clause-durable
returns-else-is_torn-clause-durable g c = whole_lasts c.args.end c.args.is_torn _ _ c.if-is_torn.false c.requires

pub returns-else-is_torn-clause-crash : goal.returns-else-is_torn-clause-crash
returns-else-is_torn-clause-crash g c = λ f now. (f, now, uncut c.args.end f)

pub returns-else-is_torn-clause-any_moment : goal.returns-else-is_torn-clause-any_moment
returns-else-is_torn-clause-any_moment g c =
    let d = c.args.device.now in
    let P : List ℕ → Type 0 = λ f. (x : List ℕ) × g.D.Device.may_leave d x × Cut c.args.end x f in
    started g.D.Device.moment g.D.Device.left_since d P (λ f left. (f, g.met.D.Device.only_now d f left, uncut c.args.end f))
