use Rattle.std.proofs.Common.{◌≡◌, Ok, refl, ◌∙◌}
use Rattle.rds_state.specs.Fits.{Fits}
use Rattle.rds_state.specs.Value.{coordinates}
use Rattle.rds_delta.specs.Digested.{DigestValue, digest_of}
use Rattle.rds_codec.specs.Decoding.{GivesOrMemory}
use Rattle.rds_codec.specs.DigestTexts.{digest_text, digest_kind}
use Rattle.rds_codec.specs.Exchanged.{IsLongDigest}
use Rattle.rds_codec.proofs.ExchangeLemmas.{is_read, brought, brought_within, read_ok, read_err, within_text}
use Rattle.rds_codec.proofs.exchanges.send_digest.Goals as goal

pub returns : goal.returns
returns g c =
    let n = c.args.replicas in
    let asked = c.args.asked.now in
    let sent = c.in_ok-bytes.ensures.ok in
    let read : Fits n (coordinates asked) → GivesOrMemory c.decode_digest.result (Ok (digest_of asked)) = λ fits.
    is_read (digest_kind n) (digest_of asked) c.deref.result.now c.decode_digest.result c.decode_digest.ensures.text (sent.again n fits) (c.deref.ensures.value ∙ sent.text) (within_text _ _ sent.text sent.within) in
    record {
      brought = brought (digest_kind n) (digest_text (digest_of asked)) c.deref.result.now c.decode_digest.result (c.deref.ensures.value ∙ sent.text) c.decode_digest.ensures.text;
      within = brought_within (digest_kind n) (digest_text (digest_of asked)) c.deref.result.now c.decode_digest.result (c.deref.ensures.value ∙ sent.text) c.decode_digest.ensures.text;
      ok = λ fits. read_ok (digest_of asked) c.decode_digest.result (λ (d : DigestValue). d ≡ digest_of asked) (read fits) refl;
      fault = λ fits. read_err (digest_of asked) c.decode_digest.result (IsLongDigest asked) (read fits);
    }
