use Rattle.std.proofs.Common.{◌<◌, ◌≤◌, arith}
use Rattle.std.proofs.lemmas.Grind.{common_steps}
use Rattle.rds_keep.proofs.FedSoFar.{read_long, read_all, all_decoded, has_text, is_known, no_failure}
use Rattle.rds_keep.proofs.feeding.read_fed.Goals as goal

pub returns-then-count-most-clause-whole : goal.returns-then-count-most-clause-whole
returns-then-count-most-clause-whole g c = λ format replicas came stands.
    let room = stands.room in
    let over : c.args.feed.left < c.in_ok-count.count = grind (arith, common_steps) in
    read_long g.U.Unfinished.finish (g.U.Fed.kind format replicas) (g.U.Fed.reader format replicas) c.args.feed c.feed_on.new.feed came (g.R.Read.remaining c.args.reader.now.inner) (g.R.Read.remaining c.feed_on.new.self.inner)
    c.in_ok-count.count c.in_ok-count.ensures.fed stands over

pub returns-clause-whole : goal.returns-clause-whole
returns-clause-whole g c = λ format replicas came stands.
    let room = stands.room in
    let short : c.in_ok-count.count < c.saturating_add-most.result = grind (arith, common_steps) in
    let within : c.in_ok-count.count ≤ c.args.feed.left = grind (arith, common_steps) in
    read_all g.U.Unfinished.finish (g.U.Fed.kind format replicas) (g.U.Fed.reader format replicas) c.args.feed c.feed_on.new.feed came (g.R.Read.remaining c.args.reader.now.inner) (g.R.Read.remaining c.feed_on.new.self.inner)
    c.in_ok-count.count c.end.result c.in_ok-count.ensures.fed stands within (c.in_ok-count.ensures.end short) (g.met.U.Fed.decodes format replicas) (c.end.ensures.read (g.U.Fed.reader format replicas)) c.end.ensures.again

pub returns-clause-value : goal.returns-clause-value
returns-clause-value g c = λ format replicas came stands.
    let room = stands.room in
    let within : c.in_ok-count.count ≤ c.args.feed.left = grind (arith, common_steps) in
    has_text g.U.Unfinished.finish (g.U.Fed.kind format replicas) _ c.end.result
    (all_decoded g.U.Unfinished.finish (g.U.Fed.kind format replicas) (g.U.Fed.reader format replicas) c.args.feed c.feed_on.new.feed came (g.R.Read.remaining c.args.reader.now.inner)
    (g.R.Read.remaining c.feed_on.new.self.inner) c.in_ok-count.count c.end.result c.in_ok-count.ensures.fed stands within (g.met.U.Fed.decodes format replicas) (c.end.ensures.read (g.U.Fed.reader format replicas)) c.end.ensures.again)

pub returns-clause-fault : goal.returns-clause-fault
returns-clause-fault g c = λ format replicas came stands.
    let room = stands.room in
    let within : c.in_ok-count.count ≤ c.args.feed.left = grind (arith, common_steps) in
    is_known g.U.Unfinished.finish (g.U.Fed.kind format replicas) _ c.end.result
    (all_decoded g.U.Unfinished.finish (g.U.Fed.kind format replicas) (g.U.Fed.reader format replicas) c.args.feed c.feed_on.new.feed came (g.R.Read.remaining c.args.reader.now.inner)
    (g.R.Read.remaining c.feed_on.new.self.inner) c.in_ok-count.count c.end.result c.in_ok-count.ensures.fed stands within (g.met.U.Fed.decodes format replicas) (c.end.ensures.read (g.U.Fed.reader format replicas)) c.end.ensures.again)

pub returns-clause-counted : goal.returns-clause-counted
returns-clause-counted g c = λ format replicas came stands is.
    let room = stands.room in
    let within : c.in_ok-count.count ≤ c.args.feed.left = grind (arith, common_steps) in
    absurd (no_failure g.U.Unfinished.finish (g.U.Fed.kind format replicas) _ c.end.result
    (all_decoded g.U.Unfinished.finish (g.U.Fed.kind format replicas) (g.U.Fed.reader format replicas) c.args.feed c.feed_on.new.feed came (g.R.Read.remaining c.args.reader.now.inner)
    (g.R.Read.remaining c.feed_on.new.self.inner) c.in_ok-count.count c.end.result c.in_ok-count.ensures.fed stands within (g.met.U.Fed.decodes format replicas) (c.end.ensures.read (g.U.Fed.reader format replicas)) c.end.ensures.again) is)
