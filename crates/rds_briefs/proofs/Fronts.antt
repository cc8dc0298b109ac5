-- What is read at the front of bytes.
use Rattle.std.proofs.Common.{◌≡◌, ℕ, inl, inr, List, [], ◌++◌, Result, Ok, Err, sym, ap, subst, ◌∙◌}
use Rattle.std.proofs.lemmas.List.{append-nil}
use Rattle.rds_names.specs.declared.fault.Fault.{Fault}
use Rattle.rds_names.specs.declared.fault.Fault.TheVariants.{Memory, Cut}
use Rattle.rds_feeds.specs.declared.unfinished.Progress.{Progress}
use Rattle.rds_feeds.specs.declared.unfinished.Progress.TheVariants.{More, Whole}
use Rattle.rds_feeds.specs.Pieces.{ReadsOn, RefusesAlready}
use Rattle.rds_bytes.specs.Reading.{Reader, Fails}

module _ {U V : Type 0} (finish : U → Reader V) (u : U) (bytes : List ℕ) where
  at_end : finish u (bytes ++ []) ≡ finish u bytes
  at_end = ap (finish u) (append-nil bytes)

  fails_with : (e : Fault) (r : Result (V × List ℕ) Fault) → r ≡ Err e → Fails e r
  fails_with Memory r h = tt
  fails_with e r h = h

  pub front_refused : (e : Fault) → RefusesAlready (λ more. finish u (bytes ++ more)) e → Fails e (finish u bytes)
  front_refused e h = elim h [
    | inl m ↦ subst (λ (x : Fault). Fails x (finish u bytes)) (sym m) tt
    | inr r ↦ fails_with e (finish u bytes) (sym at_end ∙ r.1 [])
  ]

  pub front_cut : (p : Progress U V) (w : U) (rest : List ℕ) → p ≡ More w → ReadsOn finish (λ more. finish u (bytes ++ more)) p rest → finish u bytes ≡ Err Cut
  front_cut p w rest is h =
      let r : ReadsOn finish (λ more. finish u (bytes ++ more)) (More w) rest = subst (λ (x : Progress U V). ReadsOn finish (λ more. finish u (bytes ++ more)) x rest) is h in
      sym at_end ∙ r.0 [] ∙ ap (finish w) (append-nil rest) ∙ r.1

  pub front_whole : (p : Progress U V) (v : V) (rest : List ℕ) → p ≡ Whole v → ReadsOn finish (λ more. finish u (bytes ++ more)) p rest → finish u bytes ≡ Ok (v, rest)
  front_whole p v rest is h =
      let r : ReadsOn finish (λ more. finish u (bytes ++ more)) (Whole v) rest = subst (λ (x : Progress U V). ReadsOn finish (λ more. finish u (bytes ++ more)) x rest) is h in
      sym at_end ∙ r [] ∙ ap (λ (l : List ℕ). Ok (v, l)) (append-nil rest)
