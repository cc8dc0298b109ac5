use Rattle.std.proofs.Common.{sym, ap, ◌∙◌, Some}
use Rattle.rds_session.proofs.Began.{of_no_kind, hello_out_of_turn, digest_out_of_turn, delta_out_of_turn, hash_of_no_kind}
use Rattle.rds_session.proofs.message.Body.new.Goals as goal

pub returns-in-None : goal.returns-in-None
returns-in-None g c = of_no_kind c.args.expected c.args.number (sym c.in-None.ensures)

pub returns-in_default : goal.returns-in_default
returns-in_default g c = hello_out_of_turn c.args.expected c.args.number (sym c.in-Some-Hello.ensures ∙ ap Some c.in-Some-Hello.field-0-is) c.in_default.not-Hello

pub returns-in_default-expected : goal.returns-in_default-expected
returns-in_default-expected g c = digest_out_of_turn c.args.expected c.args.number (sym c.in-Some-Digest.ensures ∙ ap Some c.in-Some-Digest.field-0-is) c.in_default-expected.not-Digest

pub returns-in_default-expected-2 : goal.returns-in_default-expected-2
returns-in_default-expected-2 g c = delta_out_of_turn c.args.expected c.args.number (sym c.in-Some-Delta.ensures ∙ ap Some c.in-Some-Delta.field-0-is) c.in_default-expected-2.not-Delta

pub returns-else-is_hashed : goal.returns-else-is_hashed
returns-else-is_hashed g c =
    hash_of_no_kind c.args.expected c.args.number (sym c.in-Some-Hash.ensures ∙ ap Some c.in-Some-Hash.field-0-is) (sym c.is_hashed.ensures ∙ c.if-is_hashed.false)
