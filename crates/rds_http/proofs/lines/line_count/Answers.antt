use Rattle.std.proofs.Common.{◌≡◌, ◌+◌, ◌==◌, ap, arith, rules}
use Rattle.std.specs.List.{count_by}
use Rattle.rds_http.proofs.ReplyLines.{lines_few}
use Rattle.rds_http.proofs.lines.line_count.Goals as goal

pub returns-clause-count : goal.returns-clause-count
returns-clause-count c =
    let feeds : c.count.result ≡ count_by (λ b. b == 10) c.args.body.now = search rules in
    ap (λ n. n + 1) feeds

pub returns-clause-most : goal.returns-clause-most
returns-clause-most c =
    let feeds : c.count.result ≡ count_by (λ b. b == 10) c.args.body.now = search rules in
    omega (arith, feeds, lines_few c.args.body.now)
