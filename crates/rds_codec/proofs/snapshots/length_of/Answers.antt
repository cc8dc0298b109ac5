use Rattle.std.proofs.Common.{arith, ◌<◌, ℕ, subst, sym, ◌∙◌, length}
use Rattle.rds_names.specs.Roster.{RosterValue}
use Rattle.rds_bytes.specs.Values.{IsMember}
use Rattle.rds_bytes.specs.Spelling.{member_text}
use Rattle.rds_codec.specs.Measured.{format_with}
use Rattle.rds_codec.proofs.SmallTexts.{small_snapshot}
use Rattle.rds_codec.proofs.Texts.{snapshot_length}
use Rattle.rds_codec.proofs.snapshots.length_of.Goals as goal

pub returns-clause-length : goal.returns-clause-length
returns-clause-length g c =
    let v = c.args.replica.now in
    let front = c.member_length.ensures.length ∙ (λ i. length (member_text (c.roster.ensures i) (c.own.ensures.own i))) in
    let len = snapshot_length (format_with c.args.measured.now.keys) v in
    omega (arith, front, len, c.requires.measured.exact)

pub returns-clause-small : goal.returns-clause-small
returns-clause-small g c = λ lives counts.
    let v = c.args.replica.now in
    let front = c.member_length.ensures.length ∙ (λ i. length (member_text (c.roster.ensures i) (c.own.ensures.own i))) in
    let most = c.member_length.ensures.most in
    let len = snapshot_length (format_with c.args.measured.now.keys) v in
    let small = small_snapshot (format_with c.args.measured.now.keys) v (omega (arith, front, most)) lives counts in
    omega (arith, front, len, small, c.requires.measured.exact)

pub returns-clause-member : goal.returns-clause-member
returns-clause-member g c =
    let v = c.args.replica.now in
    let own = subst (λ (r : RosterValue). c.own.result < length r.names) (sym c.roster.ensures) (subst (λ (n : ℕ). n < length v.roster.names) (sym c.own.ensures.own) c.own.ensures.within) in
    subst (λ (r : RosterValue). IsMember r v.own) c.roster.ensures (subst (λ (n : ℕ). IsMember c.roster.result.now n) c.own.ensures.own (c.member_length.ensures.is_member own))
