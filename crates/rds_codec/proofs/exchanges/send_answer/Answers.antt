use Rattle.std.proofs.Common.{◌<◌, Ok, ◌∙◌}
use Rattle.rds_state.specs.Fits.{Fits}
use Rattle.rds_state.specs.Value.{coordinates}
use Rattle.rds_codec.specs.AnswerTexts.{answer_kind}
use Rattle.rds_codec.specs.Decoding.{GivesOrMemory}
use Rattle.rds_codec.specs.Exchanged.{IsAnswerTo, IsLongAnswer}
use Rattle.rds_codec.proofs.ExchangeLemmas.{is_read, read_ok, read_err, read_fits, read_within, within_text}
use Rattle.rds_codec.proofs.exchanges.send_answer.Goals as goal

pub returns : goal.returns
returns g c =
    let n = c.args.replicas in
    let held = c.args.held.now in
    let sent = c.in_ok-bytes.ensures.ok in
    let v = sent.value in
    let read : c.args.asker < n → Fits n (coordinates held) → GivesOrMemory c.decode_answer.result (Ok v) = λ below fits.
    is_read (answer_kind n) v c.deref.result.now c.decode_answer.result c.decode_answer.ensures.text
    (sent.again n below fits)
    (c.deref.ensures.value ∙ sent.text) (within_text _ _ sent.text sent.within) in
    record {
      fits = read_fits n c.deref.result.now c.decode_answer.result c.decode_answer.ensures.text;
      within = read_within (answer_kind n) c.deref.result.now c.decode_answer.result c.decode_answer.ensures.text;
      ok = λ below fits. read_ok v c.decode_answer.result (IsAnswerTo c.args.digest.now c.args.asker held) (read below fits) sent.answers;
      fault = λ below fits. read_err v c.decode_answer.result (IsLongAnswer c.args.digest.now c.args.asker held) (read below fits);
    }
