use Rattle.std.proofs.Common.{◌<◌, ℕ, subst, sym, ◌∙◌, length, arith}
use Rattle.rds_names.specs.Roster.{RosterValue}
use Rattle.rds_bytes.specs.Spelling.{member_text}
use Rattle.rds_bytes.specs.Values.{IsMember}
use Rattle.rds_state.specs.Fits.{Fits}
use Rattle.rds_state.specs.Value.{StateValue, coordinates}
use Rattle.rds_codec.specs.StateTexts.{IsStateOf}
use Rattle.rds_codec.proofs.SmallTexts.{small_snapshot}
use Rattle.rds_codec.proofs.snapshots.snapshots_have_texts.Goals as goal

pub returns-clause-small : goal.returns-clause-small
returns-clause-small g c = λ format lives counts.
    let front = c.member_length.ensures.length ∙ (λ i. length (member_text (c.roster.ensures i) (c.own.ensures.own i))) in
    let most = c.member_length.ensures.most in
    small_snapshot format c.args.replica.now (omega (arith, front, most)) lives counts

pub returns-clause-value : goal.returns-clause-value
returns-clause-value g c =
    let v = c.args.replica.now in
    let own = subst (λ (r : RosterValue). c.own.result < length r.names) (sym c.roster.ensures) (subst (λ (n : ℕ). n < length v.roster.names) (sym c.own.ensures.own) c.own.ensures.within) in
    let member = subst (λ (r : RosterValue). IsMember r v.own) c.roster.ensures (subst (λ (n : ℕ). IsMember c.roster.result.now n) c.own.ensures.own (c.member_length.ensures.is_member own)) in
    let state = c.state.ensures.state in
    let fits = subst (λ (s : StateValue). Fits (length v.roster.names) (coordinates s)) (sym state) c.state.ensures.fits in
    record { member = member; state = subst (IsStateOf (length v.roster.names)) state (c.measure_one.ensures.value (length v.roster.names) fits) }
