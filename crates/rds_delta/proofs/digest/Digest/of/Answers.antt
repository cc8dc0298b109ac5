use Rattle.std.proofs.Common.{◌≡◌, ◌∙◌, sym, ap}
use Rattle.rds_life.specs.Life.{seen_of, live_of}
use Rattle.rds_delta.specs.Digested.{DigestValue, ranks_in}
use Rattle.rds_delta.proofs.Digests.{digest_of_nothing, live_inside, ranks_of_digest}
use Rattle.rds_delta.proofs.digest.Digest.of.Goals as goal

pub invariant_of-result : goal.invariant_of-result
invariant_of-result g c =
    let contents = g.S.DotSet.contents in
    let v = c.args.state.now in
    let seen : contents c.in_ok-seen.seen ≡ seen_of v.lives = c.in_ok-seen.ensures.ok ∙ c.seen.ensures ∙ ap seen_of c.lives.ensures in
    let live : contents c.in_ok-live.live ≡ live_of v.lives = c.in_ok-live.ensures.dots ∙ ap live_of c.lives-2.ensures in
    rw (seen, live) (live_inside v.lives)

pub returns-clause-ranks : goal.returns-clause-ranks
returns-clause-ranks g c =
    let contents = g.S.DotSet.contents in
    let v = c.args.state.now in
    let seen : contents c.in_ok-seen.seen ≡ seen_of v.lives = c.in_ok-seen.ensures.ok ∙ c.seen.ensures ∙ ap seen_of c.lives.ensures in
    let live : contents c.in_ok-live.live ≡ live_of v.lives = c.in_ok-live.ensures.dots ∙ ap live_of c.lives-2.ensures in
    let counts = c.in_ok-counts.ensures.ok ∙ c.counts.ensures in
    ap ranks_in (λ i. let g : DigestValue = record { seen = seen i; live = live i; counts = counts i } in g) ∙ ranks_of_digest v

pub returns-then-components-eq0-clause-value : goal.returns-then-components-eq0-clause-value
returns-then-components-eq0-clause-value g c = c.empty.ensures.value ∙ digest_of_nothing c.args.state.now (sym c.components.ensures ∙ c.if-components-eq0.true)

pub returns-then-components-eq0-clause-ranks : goal.returns-then-components-eq0-clause-ranks
returns-then-components-eq0-clause-ranks g c = ap ranks_in (c.empty.ensures.value ∙ digest_of_nothing c.args.state.now (sym c.components.ensures ∙ c.if-components-eq0.true)) ∙ ranks_of_digest c.args.state.now

pub returns-in_err-seen-clause-nothing : goal.returns-in_err-seen-clause-nothing
returns-in_err-seen-clause-nothing g c = λ none. absurd (c.if-components-eq0.false (c.components.ensures ∙ none))

pub returns-in_err-live-clause-nothing : goal.returns-in_err-live-clause-nothing
returns-in_err-live-clause-nothing g c = λ none. absurd (c.if-components-eq0.false (c.components.ensures ∙ none))

pub returns-in_err-counts-clause-nothing : goal.returns-in_err-counts-clause-nothing
returns-in_err-counts-clause-nothing g c = λ none. absurd (c.if-components-eq0.false (c.components.ensures ∙ none))
