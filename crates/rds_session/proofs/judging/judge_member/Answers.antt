use Rattle.std.proofs.Common.{rules, ◌≡◌, true, sym, subst}
use Rattle.rds_session.specs.Judging.{one_begins, longer_than}
use Rattle.rds_session.specs.Received.{IsLongerIfThere}
use Rattle.rds_session.proofs.Rosters.{longer_begins}
use Rattle.rds_session.proofs.judging.judge_member.Goals as goal

pub returns-clause-brings : goal.returns-clause-brings
returns-clause-brings g c = λ turn.
    let own = c.args.kept.now.roster in
    let other = c.args.hello.roster in
    let group : other.group ≡ own.group = search rules in
    let names : one_begins other.names own.names ≡ true = search rules in
    let is : c.longer_than.result ≡ longer_than own other = search rules in
    subst (IsLongerIfThere own) (sym is) (longer_begins own other group names)
