use Rattle.std.proofs.Common.{rules, arith}
use Rattle.std.proofs.lemmas.Grind.{common_steps}
use Rattle.std.proofs.lemmas.Result.{err_from_is_err_and}
use Rattle.rds_keep.specs.Parts.{ConsumesAtMost}
use Rattle.rds_keep.proofs.FirstParts.{first_bound, first_value, leading_refuses, loses_first, magic_refuses, text_hashed, text_size, too_long_refuses, unread_refuses}
use Rattle.rds_keep.proofs.Fronts.{never_foreign}
use Rattle.rds_keep.proofs.stored.read_first.Goals as goal

-- ---- there is none

pub returns-in_err-front-clause-refused : goal.returns-in_err-front-clause-refused
returns-in_err-front-clause-refused g c =
    let p = err_from_is_err_and c.from_residual.result c.from_residual.ensures.1 in
    rw (p.1, p.2) (magic_refuses (g.R.Read.remaining c.args.reader.now.inner) c.args.reader.now.budget _ c.in_err-front.ensures.bad c.in_err-front.ensures.cut c.in_err-front.ensures.fault)

pub returns-in_err-leading-clause-refused : goal.returns-in_err-leading-clause-refused
returns-in_err-leading-clause-refused g c =
    let p = err_from_is_err_and c.from_residual-in_err-leading.result c.from_residual-in_err-leading.ensures.1 in
    rw (p.1, p.2) (leading_refuses _ (g.R.Read.remaining c.args.reader.now.inner) (g.R.Read.remaining c.read_magic.new.reader.inner) c.in_ok-front.front.items _ c.unfinished_snapshot.ensures c.in_ok-front.ensures.bytes c.in_err-leading.ensures.fault c.in_err-leading.ensures.refused)

pub returns-in_err-leading-clause-foreign : goal.returns-in_err-leading-clause-foreign
returns-in_err-leading-clause-foreign g c =
    never_foreign (ConsumesAtMost (g.R.Read.remaining c.args.reader.now.inner) (g.R.Read.remaining c.read_leading.new.self.inner) 4) (g.R.Read.remaining c.args.reader.now.inner)
    (g.R.Read.remaining c.read_magic.new.reader.inner) c.in_ok-front.front.items c.in_ok-front.ensures.magic c.in_ok-front.ensures.bytes

pub returns-in_err-hold_more-clause-refused : goal.returns-in_err-hold_more-clause-refused
returns-in_err-hold_more-clause-refused g c =
    let p = err_from_is_err_and c.from_residual-in_err-hold_more.result c.from_residual-in_err-hold_more.ensures.1 in
    rw (p.1, p.2) (unread_refuses (g.R.Read.remaining c.args.reader.now.inner) _ (search rules))

pub returns-in_err-hold_more-clause-foreign : goal.returns-in_err-hold_more-clause-foreign
returns-in_err-hold_more-clause-foreign g c =
    never_foreign (ConsumesAtMost (g.R.Read.remaining c.args.reader.now.inner) (g.R.Read.remaining c.hold_more.new.reader.inner) 4) (g.R.Read.remaining c.args.reader.now.inner)
    (g.R.Read.remaining c.read_magic.new.reader.inner) c.in_ok-front.front.items c.in_ok-front.ensures.magic c.in_ok-front.ensures.bytes

pub returns-in_err-first-clause-refused : goal.returns-in_err-first-clause-refused
returns-in_err-first-clause-refused g c =
    let p = err_from_is_err_and c.from_residual-in_err-first.result c.from_residual-in_err-first.ensures.1 in
    let leading = c.in_ok-leading.leading in
    let total = text_size _ c.unfinished_snapshot.ensures c.in_ok-front.front.items (g.R.Read.remaining c.args.reader.now.inner) (g.R.Read.remaining c.read_magic.new.reader.inner) (g.R.Read.remaining c.read_leading.new.self.inner) (g.R.Read.remaining c.hold_more.new.reader.inner)
    leading.value leading.count leading.behind.items leading.hasher leading.last.items c.hold_more.new.held.items c.in_ok-front.ensures.bytes c.in_ok-leading.ensures.leads c.in_ok-hold_more.ensures.more in
    rw (p.1, p.2) (too_long_refuses _ c.unfinished_snapshot.ensures c.in_ok-front.front.items (g.R.Read.remaining c.args.reader.now.inner) (g.R.Read.remaining c.read_magic.new.reader.inner) (g.R.Read.remaining c.read_leading.new.self.inner) (g.R.Read.remaining c.hold_more.new.reader.inner)
    leading.value leading.count leading.behind.items leading.hasher leading.last.items c.hold_more.new.held.items c.in_ok-front.ensures.bytes c.in_ok-leading.ensures.leads c.in_ok-hold_more.ensures.more c.saturating_sub-size.result _ (grind (arith, common_steps)) c.in_err-first.ensures.fault)

pub returns-in_err-first-clause-foreign : goal.returns-in_err-first-clause-foreign
returns-in_err-first-clause-foreign g c =
    never_foreign (ConsumesAtMost (g.R.Read.remaining c.args.reader.now.inner) (g.R.Read.remaining c.hold_more.new.reader.inner) 4) (g.R.Read.remaining c.args.reader.now.inner)
    (g.R.Read.remaining c.read_magic.new.reader.inner) c.in_ok-front.front.items c.in_ok-front.ensures.magic c.in_ok-front.ensures.bytes

-- ---- there is one

pub first_of-requires-clause-size : goal.first_of-requires-clause-size
first_of-requires-clause-size g c =
    let leading = c.in_ok-leading.leading in
    let total = text_size _ c.unfinished_snapshot.ensures c.in_ok-front.front.items (g.R.Read.remaining c.args.reader.now.inner) (g.R.Read.remaining c.read_magic.new.reader.inner) (g.R.Read.remaining c.read_leading.new.self.inner) (g.R.Read.remaining c.hold_more.new.reader.inner)
    leading.value leading.count leading.behind.items leading.hasher leading.last.items c.hold_more.new.held.items c.in_ok-front.ensures.bytes c.in_ok-leading.ensures.leads c.in_ok-hold_more.ensures.more in
    grind (arith, common_steps)

pub first_of-requires-clause-sum : goal.first_of-requires-clause-sum
first_of-requires-clause-sum g c within =
    let leading = c.in_ok-leading.leading in
    let leads = c.in_ok-leading.ensures.leads in
    let total = text_size _ c.unfinished_snapshot.ensures c.in_ok-front.front.items (g.R.Read.remaining c.args.reader.now.inner) (g.R.Read.remaining c.read_magic.new.reader.inner) (g.R.Read.remaining c.read_leading.new.self.inner) (g.R.Read.remaining c.hold_more.new.reader.inner)
    leading.value leading.count leading.behind.items leading.hasher leading.last.items c.hold_more.new.held.items c.in_ok-front.ensures.bytes leads c.in_ok-hold_more.ensures.more in
    let hashed = text_hashed _ c.unfinished_snapshot.ensures c.in_ok-front.front.items (g.R.Read.remaining c.args.reader.now.inner) (g.R.Read.remaining c.read_magic.new.reader.inner) (g.R.Read.remaining c.read_leading.new.self.inner) (g.R.Read.remaining c.hold_more.new.reader.inner)
    leading.value leading.count leading.behind.items leading.hasher leading.last.items c.hold_more.new.held.items c.in_ok-front.ensures.bytes leads c.in_ok-hold_more.ensures.more (grind (arith, common_steps)) in
    let sum = c.sum_of-sum.ensures leads.hashed leads.holds in
    grind (arith, common_steps)

pub first_of-requires-clause-value : goal.first_of-requires-clause-value
first_of-requires-clause-value g c =
    let leading = c.in_ok-leading.leading in
    first_value _ c.unfinished_snapshot.ensures c.in_ok-front.front.items (g.R.Read.remaining c.args.reader.now.inner) (g.R.Read.remaining c.read_magic.new.reader.inner) (g.R.Read.remaining c.read_leading.new.self.inner) (g.R.Read.remaining c.hold_more.new.reader.inner)
    leading.value leading.count leading.behind.items leading.hasher leading.last.items c.hold_more.new.held.items c.in_ok-front.ensures.bytes c.in_ok-leading.ensures.leads c.in_ok-hold_more.ensures.more

pub returns-clause-loses : goal.returns-clause-loses
returns-clause-loses g c =
    let leading = c.in_ok-leading.leading in
    let is = c.in_ok-first.ensures.same in
    rw (is.0, is.1) (loses_first _ c.unfinished_snapshot.ensures c.in_ok-front.front.items (g.R.Read.remaining c.args.reader.now.inner) (g.R.Read.remaining c.read_magic.new.reader.inner) (g.R.Read.remaining c.read_leading.new.self.inner) (g.R.Read.remaining c.hold_more.new.reader.inner)
    leading.value leading.count leading.behind.items leading.hasher leading.last.items c.hold_more.new.held.items c.in_ok-front.ensures.bytes c.in_ok-leading.ensures.leads c.in_ok-hold_more.ensures.more)

pub returns-clause-first : goal.returns-clause-first
returns-clause-first g c = let is = c.in_ok-first.ensures.same in rw (is.0, is.1) c.in_ok-first.ensures.first

pub returns-clause-bound : goal.returns-clause-bound
returns-clause-bound g c =
    let leading = c.in_ok-leading.leading in
    first_bound _ c.unfinished_snapshot.ensures c.in_ok-front.front.items (g.R.Read.remaining c.args.reader.now.inner) (g.R.Read.remaining c.read_magic.new.reader.inner) (g.R.Read.remaining c.read_leading.new.self.inner) (g.R.Read.remaining c.hold_more.new.reader.inner)
    leading.value leading.count leading.behind.items leading.hasher leading.last.items c.hold_more.new.held.items c.in_ok-front.ensures.bytes c.in_ok-leading.ensures.leads c.in_ok-hold_more.ensures.more
    c.args.reader.now.budget c.read_magic.new.reader.left c.read_leading.new.self.left c.hold_more.new.reader.left c.in_ok-front.ensures.magic c.in_ok-front.ensures.bound c.in_ok-leading.ensures.bound c.in_ok-hold_more.ensures.bound
    c.in_ok-front.ensures.left c.in_ok-leading.ensures.left c.in_ok-hold_more.ensures.left

pub returns-clause-foreign : goal.returns-clause-foreign
returns-clause-foreign g c =
    never_foreign (ConsumesAtMost (g.R.Read.remaining c.args.reader.now.inner) (g.R.Read.remaining c.hold_more.new.reader.inner) 4) (g.R.Read.remaining c.args.reader.now.inner)
    (g.R.Read.remaining c.read_magic.new.reader.inner) c.in_ok-front.front.items c.in_ok-front.ensures.magic c.in_ok-front.ensures.bytes
