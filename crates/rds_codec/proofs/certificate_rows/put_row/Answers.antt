use Rattle.std.proofs.Common.{sym, ap, ◌∙◌, ◌∷◌, ◌++◌, []}
use Rattle.rds_delta.specs.declared.row.Row.{Row}
use Rattle.rds_codec.specs.CertificateTexts.{run_text, row_text}
use Rattle.rds_bytes.specs.Spelling.{byte_text}
use Rattle.rds_bytes.proofs.Sequences.{three_added}
use Rattle.rds_codec.proofs.Texts.{OnOk-map}
use Rattle.rds_codec.proofs.certificate_rows.put_row.Goals as goal

pub returns-in_ok-put_run-in-Dead : goal.returns-in_ok-put_run-in-Dead
returns-in_ok-put_run-in-Dead c =
    let a = c.args.out.now.items in
    OnOk-map c.put_byte-in-Dead-2.result
    (λ last. three_added a c.put_byte-in-Dead.new.out.items c.put_run.new.out.items c.put_byte-in-Dead-2.new.out.items (2 ∷ []) (run_text c.in-Dead.run') (byte_text c.in-Dead.peer)
    c.in_ok-put_byte-in-Dead.ensures c.in_ok-put_run-in-Dead.ensures last
    ∙ ap (λ (row : Row). a ++ row_text row) (sym c.in-Dead.is))
    c.put_byte-in-Dead-2.ensures
