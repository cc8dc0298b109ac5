use Rattle.std.proofs.Common.{◌≡◌, ◌≤◌, false, ltb, List, ℕ, [], length, Result, Err, sym, ap, ◌∙◌, subst}
use Rattle.std.proofs.lemmas.Bool.{le-ltb}
use Rattle.std.proofs.lemmas.List.{append-nil}
use Rattle.rds_names.specs.declared.fault.Fault.{Fault}
use Rattle.rds_names.specs.declared.fault.Fault.TheVariants.{Memory}
use Rattle.rds_bytes.specs.Reading.{Fails, Reader}
use Rattle.rds_codec.specs.Decoding.{all_of}
use Rattle.rds_codec.specs.declared.limits.TheConstants.{LIMIT}
use Rattle.rds_keep.specs.Feeding.{FeedValue, IsRefused, decoding}
use Rattle.rds_session.specs.Coming.{HoldsText}
use Rattle.rds_session.proofs.coming.Coming.end.Goals as goal

fails_so : {V : Type 0} (e : Fault) (read : Result V Fault) → read ≡ Err e → Fails e read
fails_so Memory read is = tt
fails_so e read is = is

refused_all : {V : Type 0} (reader : Reader V) (came : List ℕ) (e : Fault) → IsRefused reader came e → length came ≤ LIMIT → all_of reader came ≡ Err e
refused_all reader came e refused within =
    let at : decoding reader came ≡ Err e = ap (decoding reader) (sym (append-nil came)) ∙ refused [] (subst (λ (t : List ℕ). length t ≤ LIMIT) (sym (append-nil came)) within) in
    let short : ltb LIMIT (length came) ≡ false = le-ltb LIMIT (length came) within in
    rw short at at

refused_at_end : {U V : Type 0} (finish : U → Reader V) (reader : Reader V) (text : Result (FeedValue U V) Fault) (came : List ℕ) (e : Fault) → text ≡ Err e → HoldsText finish reader text came
    → length came ≤ LIMIT → Fails e (all_of reader came)
refused_at_end finish reader text came e is holds within =
    fails_so e (all_of reader came) (refused_all reader came e (subst (λ (t : Result (FeedValue _ _) Fault). HoldsText finish reader t came) is holds) within)

pub returns-in-Err : goal.returns-in-Err
returns-in-Err g c = rw (← c.self.view_is) (record {
  read = refused_at_end g.U.Unfinished.finish (g.U.Fed.reader c.self.inside.format c.self.inside.replicas) c.self.inside.text c.self.inside.came.bytes c.in-Err.fault c.in-Err.is c.self.invariant;
})
