-- What is read of the bytes of asks and answers.
use Rattle.std.proofs.Common.{◌≡◌, ℕ, ◌≤◌, max, inl, inr, List, Result, Ok, Err, ◌∙◌, ap}
use Rattle.rds_names.specs.Roster.{RosterValue}
use Rattle.rds_names.specs.declared.fault.Fault.{Fault}
use Rattle.rds_names.specs.declared.fault.Fault.TheVariants.{Memory}
use Rattle.rds_delta.specs.Digested.{DigestValue, ranks_in}
use Rattle.rds_delta.specs.Ranks.{ranks}
use Rattle.rds_codec.specs.AnswerTexts.{answer, answer_kind}
use Rattle.rds_codec.specs.AnswerValues.{AnswerValue}
use Rattle.rds_codec.specs.Decoding.{Decodes, IsTextOf}
use Rattle.rds_codec.specs.DigestTexts.{digest_kind}
use Rattle.rds_world.specs.World.{Question, Reply}
use Rattle.rds_world.specs.Stored.{AskText, AnswerText}
use Rattle.rds_world.specs.Stands.{HoldsAsk, HoldsAnswer}
use Rattle.rds_codec.proofs.Longer.{digest_longer, answer_longer}

ok_is : {V : Type 0} (x y : V) → (let r : Result V Fault = Ok x in r ≡ Ok y) → x ≡ y
ok_is x y e = cc

err_is : {V : Type 0} (e f : Fault) → (let r : Result V Fault = Err e in r ≡ Err f) → e ≡ f
err_is e f h = cc

abbrev done : {V : Type 0} → V → Result V Fault
done x = Ok x

abbrev failed : {V : Type 0} → Fault → Result V Fault
failed f = Err f

-- an ask and an answer are read with the number of any roster that is long enough

module _ (n : ℕ) (q : Question) (a : AskText) (h : HoldsAsk q a) (le : q.names ≤ n) where
  ask_reads : IsTextOf (digest_kind n) a.bytes h.digest
  ask_reads = record { is_value = digest_longer q.names n le h.digest h.again; spelled = h.text }

  pub read_ask : (g : DigestValue) → Decodes (digest_kind n) a.bytes (Ok g) → g ≡ h.digest
  read_ask g d = elim (d.found h.digest h.within ask_reads) [
    | inl e ↦ ok_is g h.digest e
    | inr e ↦ absurd (let bad : done g ≡ Err Memory = e in cc)
  ]

  pub read_ranks : (g : DigestValue) → Decodes (digest_kind n) a.bytes (Ok g) → ranks_in g ≡ ranks q.state
  read_ranks g d = ap ranks_in (read_ask g d) ∙ h.ranks

  pub unread_ask : (f : Fault) → Decodes (digest_kind n) a.bytes (Err f) → f ≡ Memory
  unread_ask f d = elim (d.found h.digest h.within ask_reads) [
    | inl e ↦ absurd (let bad : failed f ≡ Ok h.digest = e in cc)
    | inr e ↦ err_is {V = DigestValue} f Memory e
  ]

module _ (n : ℕ) (roster : RosterValue) (qs : List Question) (m : Reply) (a : AnswerText) (h : HoldsAnswer roster qs m a) (le : max m.names h.asked.names ≤ n) where
  abbrev value : AnswerValue
  value = answer a.asker h.value h.rows

  answer_reads : IsTextOf (answer_kind n) a.bytes value
  answer_reads = record { is_value = answer_longer (max m.names h.asked.names) n le value h.again; spelled = h.text }

  pub read_answer : (x : AnswerValue) → Decodes (answer_kind n) a.bytes (Ok x) → x ≡ answer a.asker h.value h.rows
  read_answer x d = elim (d.found value h.within answer_reads) [
    | inl e ↦ ok_is x value e
    | inr e ↦ absurd (let bad : done x ≡ Err Memory = e in cc)
  ]

  pub unread_answer : (f : Fault) → Decodes (answer_kind n) a.bytes (Err f) → f ≡ Memory
  unread_answer f d = elim (d.found value h.within answer_reads) [
    | inl e ↦ absurd (let bad : failed f ≡ Ok value = e in cc)
    | inr e ↦ err_is {V = AnswerValue} f Memory e
  ]
