use Rattle.std.proofs.Common.{rules, ◌≡◌, ◌∙◌, Ok, true, false, ap, subst, List, ℕ}
use Rattle.std.proofs.lemmas.Result.{err_from_is_err_and}
use Rattle.rds_bytes.specs.Numbers.{place_in}
use Rattle.rds_bytes.specs.Reading.{Fails, last}
use Rattle.rds_bytes.specs.Table.{has_key}
use Rattle.rds_bytes.proofs.KeyLoops.{is_placed}
use Rattle.rds_packed.specs.FrontTexts.{front_key_at, or_nothing}
use Rattle.rds_packed.proofs.FrontKeys.{key_fails, key_is_new, key_is_old, marked_bad, marked_fails, marked_found}
use Rattle.rds_packed.proofs.tables.KeysSoFarPart.read.Goals as goal

pub returns-in_err-key : goal.returns-in_err-key
returns-in_err-key c =
    let p = err_from_is_err_and c.from_residual.result c.from_residual.ensures.1 in
    let fault = c.in_err-key.field-0.0 in
    let keys : c.as_slice.result.now ≡ c.args.self.now = c.as_slice.ensures.value ∙ c.self.view_is in
    let fails = subst (λ (ks : List (List ℕ)). Fails fault (front_key_at (or_nothing (last ks)) c.args.bytes.now)) keys c.in_err-key.ensures in
    rw (p.1, p.2) (marked_fails c.args.self.now c.args.bytes.now fault (key_fails c.args.self.now c.args.bytes.now fault fails))

pub returns-then-is_some : goal.returns-then-is_some
returns-then-is_some c =
    let key = c.in_ok-key.key in
    let rest = c.in_ok-key.rest.now in
    let before : c.as_slice.result.now ≡ c.args.self.now = c.as_slice.ensures.value ∙ c.self.view_is in
    let keys : c.as_slice-2.result.now ≡ c.args.self.now = c.as_slice-2.ensures.value ∙ c.self.view_is in
    let read = subst (λ (ks : List (List ℕ)). front_key_at (or_nothing (last ks)) c.args.bytes.now ≡ Ok (key, rest)) before c.in_ok-key.ensures in
    let placed : c.in_ok-known.known ≡ place_in c.args.self.now key = c.in_ok-known.ensures.number ∙ ap (λ (ks : List (List ℕ)). place_in ks key) keys in
    let old : has_key c.args.self.now key ≡ true = is_placed c.args.self.now key c.in_ok-known.known true placed (search rules) in
    marked_bad c.args.self.now c.args.bytes.now (key_is_old c.args.self.now c.args.bytes.now key rest read old)

pub returns : goal.returns
returns c =
    let key = c.in_ok-key.key in
    let rest = c.in_ok-key.rest.now in
    let before : c.as_slice.result.now ≡ c.args.self.now = c.as_slice.ensures.value ∙ c.self.view_is in
    let keys : c.as_slice-2.result.now ≡ c.args.self.now = c.as_slice-2.ensures.value ∙ c.self.view_is in
    let read = subst (λ (ks : List (List ℕ)). front_key_at (or_nothing (last ks)) c.args.bytes.now ≡ Ok (key, rest)) before c.in_ok-key.ensures in
    let placed : c.in_ok-known.known ≡ place_in c.args.self.now key = c.in_ok-known.ensures.number ∙ ap (λ (ks : List (List ℕ)). place_in ks key) keys in
    let new : has_key c.args.self.now key ≡ false = is_placed c.args.self.now key c.in_ok-known.known false placed (search rules) in
    marked_found c.args.self.now c.args.bytes.now key rest c.mark_of-mark.result c.mark_of-mark.ensures (key_is_new c.args.self.now c.args.bytes.now key rest read new)
