use Rattle.std.proofs.Common.{◌≡◌, false, ltb, length, Ok, sym, ap, ◌∙◌}
use Rattle.std.proofs.lemmas.Bool.{le-ltb}
use Rattle.std.proofs.lemmas.List.{take_all}
use Rattle.rds_session.proofs.hashes.read_hash.Goals as goal

pub returns-in-Some : goal.returns-in-Some
returns-in-Some c =
    let bytes = c.args.bytes.now in
    let first = c.in-Some.ensures.cases in
    let not_short : ltb (length bytes) 32 ≡ false = le-ltb _ _ first.enough in
    let not_long : ltb 32 (length bytes) ≡ false = le-ltb _ _ c.if-bytes-gt-HASH_LENGTH.false in
    let whole : c.in-Some.hash.now ≡ bytes = first.same ∙ take_all 32 bytes c.if-bytes-gt-HASH_LENGTH.false in
    rw (not_short, not_long) (ap Ok (sym whole))
