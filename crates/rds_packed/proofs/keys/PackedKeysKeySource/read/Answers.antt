use Rattle.std.proofs.Common.{◌≡◌, rules, List, ℕ, Ok, subst}
use Rattle.std.proofs.lemmas.Result.{err_from_is_err_and}
use Rattle.std.specs.Int.{w32, to_be_bytes}
use Rattle.rds_bytes.specs.Reading.{Fails}
use Rattle.rds_bytes.specs.TableTexts.{numbered_at}
use Rattle.rds_bytes.specs.TableValue.{TableValue}
use Rattle.rds_packed.specs.PackedReading.{packed_key_at}
use Rattle.rds_packed.proofs.KeySteps.{no_number, key_fails, key_read}
use Rattle.rds_packed.proofs.keys.PackedKeysKeySource.read.Goals as goal

pub returns-in_err-number-clause-read : goal.returns-in_err-number-clause-read
returns-in_err-number-clause-read c =
    let failed = no_number c.args.self.now.keys c.args.bytes.now c.in_err-number.field-0.0 c.in_err-number.ensures in
    search rules

pub returns-in_err-key-clause-read : goal.returns-in_err-key-clause-read
returns-in_err-key-clause-read c =
    let p = err_from_is_err_and c.from_residual-in_err-key.result c.from_residual-in_err-key.ensures.1 in
    let table = c.self.inside.keys.keys in
    let said : Fails c.in_err-key.field-0.0 (numbered_at table (to_be_bytes w32 c.in_ok-number.number)) =
    subst (λ (b : List ℕ). Fails c.in_err-key.field-0.0 (numbered_at table b)) c.to_be_bytes-spelled.ensures c.in_err-key.ensures.read in
    let fails = key_fails table c.in_ok-number.number c.args.bytes.now c.in_ok-number.rest.now c.in_ok-number.ensures c.in_err-key.field-0.0 said in
    rw (p.1, p.2) (subst (λ (t : TableValue). Fails c.in_err-key.field-0.0 (packed_key_at t.keys c.args.bytes.now)) c.self.view_is fails)

pub returns-clause-read : goal.returns-clause-read
returns-clause-read c =
    let table = c.self.inside.keys.keys in
    let said : numbered_at table (to_be_bytes w32 c.in_ok-number.number) ≡ Ok (c.in_ok-key.key, c.in_ok-key.field-0-1.now) =
    subst (λ (b : List ℕ). numbered_at table b ≡ Ok (c.in_ok-key.key, c.in_ok-key.field-0-1.now)) c.to_be_bytes-spelled.ensures c.in_ok-key.ensures.read in
    let read = key_read table c.in_ok-number.number c.args.bytes.now c.in_ok-number.rest.now c.in_ok-number.ensures c.in_ok-key.key c.in_ok-key.field-0-1.now said in
    subst (λ (t : TableValue). packed_key_at t.keys c.args.bytes.now ≡ Ok (c.in_ok-key.key, c.in_ok-number.rest.now)) c.self.view_is read
