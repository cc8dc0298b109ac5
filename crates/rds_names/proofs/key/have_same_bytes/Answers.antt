use Rattle.std.proofs.Common.{◌∙◌, sym, ap, List, ℕ, take, drop, rules}
use Rattle.std.proofs.lemmas.Bool.Decides.{Decides-eqb}
use Rattle.std.specs.Int.{w64, from_le_bytes}
use Rattle.rds_names.proofs.Room.{same_words}
use Rattle.rds_names.proofs.key.have_same_bytes.Goals.{then-word, else-word}
use Rattle.rds_names.proofs.key.have_same_bytes.Goals as goal

pub returns-then-word-2 : goal.returns-then-word-2
returns-then-word-2 c =
    let last : List ℕ → ℕ = λ room. from_le_bytes w64 (take 8 (drop 14 room)) in (
      (λ third. elim c.if-word.branch [
        | then-word w ↦ same_words c.args.room.now c.args.other.now (search rules) (search rules) (search rules) (search rules) (sym c.word.ensures ∙ w.if-word.true ∙ c.word-2.ensures) (sym w.word-then-word.ensures ∙ (Decides-eqb _ _).0 (sym w.value-is ∙ c.if-word-2.true) ∙ w.word-then-word-2.ensures) (sym c.word-then-word-2-2.ensures ∙ (Decides-eqb _ _).0 third ∙ c.word-then-word-2-3.ensures)
        | else-word w ↦ absurd (w.if-word.false ((Decides-eqb _ _).0 (sym w.value-is ∙ c.if-word-2.true)))
      ]),
      (λ same. (Decides-eqb _ _).1 (c.word-then-word-2-2.ensures ∙ ap last same ∙ sym c.word-then-word-2-3.ensures)),
    )
