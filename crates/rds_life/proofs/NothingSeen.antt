-- Lives of which no dot was seen, and lives that have a join.
use Rattle.std.proofs.Common.{◌≡◌, List, [], ◌∷◌, Option, Some, None, length, refl, sym, ◌∙◌, ap, subst, arith}
use Rattle.std.specs.Prelude.{map as each, Result, Ok, Err, IfErr}
use Rattle.std.specs.FinMap as map
use Rattle.std.specs.FinSet as set
use Rattle.rds_names.specs.declared.entry.Entry.{Entry}
use Rattle.rds_names.specs.declared.fault.Fault.{Fault}
use Rattle.rds_names.specs.declared.fault.Fault.TheVariants.{Memory}
use Rattle.rds_dots.specs.declared.dot.Dot.{Dot}
use Rattle.rds_dots.specs.Dots.{dot_cmp, Dots}
use Rattle.rds_life.specs.Life.{Life, Live, Dead, Lived, Agree, LivesAreCompatible, MergeGives, lives_of, seen_of}
use Rattle.rds_life.proofs.Views.{seen_of-lives_of}

no_items : {X : Type 0} (xs : List X) → length xs ≡ 0 → xs ≡ []
no_items [] none = refl
no_items (x ∷ xs) none = absurd (omega (arith, none))

pub nothing_seen : (seen : Dots) (rows : List (Dot × Entry)) (v : Lived) → lives_of seen rows ≡ v → map.len v ≡ 0 → set.len seen ≡ 0
nothing_seen seen rows v is none =
    ap (λ s. set.len s)
    (sym (seen_of-lives_of seen rows) ∙ ap seen_of is
    ∙ ap (λ (es : List (Dot × Life)). set.from_list (each (λ e. e.0) es)) (no_items (map.entries v) (sym (map.len-entries v) ∙ none)))
    ∙ set.len-empty dot_cmp

agrees : (o : Option Life) → Agree o None
agrees None = tt
agrees (Some (Live e)) = tt
agrees (Some Dead) = tt

-- they agree with all lives
pub agrees_nothing : (a b : Lived) → map.len b ≡ 0 → (d : Dot) → Agree (map.get a d) (map.get b d)
agrees_nothing a b none d = subst (Agree (map.get a d)) (sym (ap (λ (v : Lived). map.get v d) (map.empty_of_len b none) ∙ map.get-empty dot_cmp d)) (agrees (map.get a d))

-- lives that have a join are refused with Memory alone
pub gives_memory : (a b : Lived) (r : Result (Unit {0}) Fault) → LivesAreCompatible a b → IfErr r (λ f. f ≡ Memory) → MergeGives a b r
gives_memory a b (Ok x) agree memory = agree
gives_memory a b (Err f) agree memory = subst (λ g. MergeGives {T = Unit {0}} a b (Err g)) (sym memory) agree
