use Rattle.std.proofs.Common.{IfSome, IsNone, subst, sym, arith}
use Rattle.rds_journal.specs.Records.{IsBegun, IsFirst}
use Rattle.rds_journal.proofs.Format.{first_of, none_of}
use Rattle.rds_journal.proofs.records.first_record.Goals as goal

pub returns-clause-first : goal.returns-clause-first
returns-clause-first c =
    let first = first_of (λ x. (x.0.now, x.1.now)) c.args.bytes.now c.read_record.result (λ i. omega (arith, c.type_inv.bytes i)) c.read_record.ensures in
    subst (λ p. IfSome p (λ x. IsFirst c.args.bytes.now x.0.now x.1.now)) (sym c.ok.ensures.value) first

pub returns-clause-none : goal.returns-clause-none
returns-clause-none c =
    let none = none_of (λ x. (x.0.now, x.1.now)) c.args.bytes.now c.read_record.result c.read_record.ensures in
    subst (λ p. IsNone p → IsBegun c.args.bytes.now → ⊥) (sym c.ok.ensures.value) none
