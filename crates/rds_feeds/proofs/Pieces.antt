-- Pieces that are read one after the other are read as one.
use Rattle.std.proofs.Common.{◌≡◌, ℕ, List, [], ◌∷◌, ◌++◌, Ok, sym, ap, ◌∙◌, append_assoc}
use Rattle.std.specs.List.{concat}
use Rattle.std.proofs.lemmas.List.{append-nil}
use Rattle.rds_names.specs.declared.fault.Fault.{Fault}
use Rattle.rds_names.specs.declared.fault.Fault.TheVariants.{Cut}
use Rattle.rds_bytes.specs.Reading.{Reader}
use Rattle.rds_bytes.proofs.Format.{failed, ok_is}
use Rattle.rds_feeds.specs.declared.unfinished.Progress.{Progress}
use Rattle.rds_feeds.specs.declared.unfinished.Progress.TheVariants.{More, Whole}
use Rattle.rds_feeds.specs.Pieces.{ReadsOn, ReadsPieces, EndAlike}

module _ {U V : Type 0} (finish : U → Reader V) where
  read_alike : (read other : Reader V) (p : Progress U V) (rest : List ℕ) → ((more : List ℕ) → read more ≡ other more) → ReadsOn finish other p rest → ReadsOn finish read p rest
  read_alike read other (More u) rest same h = (λ more. same more ∙ h.0 more, h.1)
  read_alike read other (Whole v) rest same h = λ more. same more ∙ h more

  pub pieces_once : (pieces : List (List ℕ)) (u : U) (held : List ℕ) (p : Progress U V) (rest : List ℕ)
      → ReadsPieces finish u held pieces p rest → ReadsOn finish (λ more. finish u ((held ++ concat pieces) ++ more)) p rest
  pieces_once [] u held p rest h = absurd h
  pieces_once (piece ∷ []) u held p rest h =
      read_alike (λ more. finish u ((held ++ (piece ++ [])) ++ more)) (λ more. finish u ((held ++ piece) ++ more)) p rest
      (λ more. ap (λ (b : List ℕ). finish u ((held ++ b) ++ more)) (append-nil piece)) h
  pieces_once (piece ∷ (next ∷ pieces)) u held p rest h =
      let all : List ℕ = concat (next ∷ pieces) in
      read_alike (λ more. finish u ((held ++ (piece ++ all)) ++ more)) (λ more. finish h.0 ((h.1 ++ all) ++ more)) p rest
      (λ more. ap (finish u) (ap (λ (b : List ℕ). b ++ more) (sym (append_assoc held piece all)) ∙ append_assoc (held ++ piece) all more) ∙ h.2.0 (all ++ more) ∙ ap (finish h.0) (sym (append_assoc h.1 all more)))
      (pieces_once (next ∷ pieces) h.0 h.1 p rest h.3)

  cut_is_no_value : (e : Fault) (x : V × List ℕ) → failed {A = V × List ℕ} e ≡ Ok x → ⊥
  cut_is_no_value e x h = absurd cc

  not_both : (read : Reader V) (u : U) (v : V) (rest other : List ℕ) → ReadsOn finish read (More u) rest → ReadsOn finish read (Whole v) other → ⊥
  not_both read u v rest other h k = cut_is_no_value Cut (v, other ++ []) (sym h.1 ∙ ap (finish u) (sym (append-nil rest)) ∙ sym (h.0 []) ∙ k [])

  pub end_alike : (read : Reader V) (p q : Progress U V) (rest other : List ℕ) → ReadsOn finish read p rest → ReadsOn finish read q other → EndAlike p rest q other
  end_alike read (More u) (More w) rest other h k = tt
  end_alike read (More u) (Whole w) rest other h k = not_both read u w rest other h k
  end_alike read (Whole v) (More w) rest other h k = not_both read w v other rest k h
  end_alike read (Whole v) (Whole w) rest other h k =
      let same : (v, rest ++ []) ≡ (w, other ++ []) = ok_is _ _ (sym (h []) ∙ k []) in
      (ap (λ (x : V × List ℕ). x.0) same, sym (append-nil rest) ∙ ap (λ (x : V × List ℕ). x.1) same ∙ append-nil other)
