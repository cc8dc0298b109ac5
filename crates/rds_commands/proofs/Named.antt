-- A replica of a roster and an own number in words.
use Rattle.std.proofs.Common.{◌≡◌, ◌∙◌, ℕ, List, Ok, Err, sym}
use Rattle.std.specs.Prelude.{map}
use denote.Bor.{Bor}
use Rattle.std.specs.FinMap as finite
use Rattle.rds_names.specs.Roster.{RosterValue}
use Rattle.rds_names.specs.declared.fault.Fault.{Fault}
use Rattle.rds_names.specs.declared.fault.Fault.TheVariants.{Memory}
use Rattle.rds_state.specs.Fits.{ReplicaValue}
use Rattle.rds_json.specs.MayGive.{MayGive}
use Rattle.rds_commands.specs.Edits.{IsNamed}
use Rattle.rds_commands.proofs.Told.{not_refused}
use Rattle.rds_words.proofs.OneMeaning.{ok_isnt_err}
use Rattle.rds_words.specs.Meaning.{roster_for, roster_in}
use Rattle.rds_words.specs.declared.tasks.InitWords.{InitWords}

pub is_named : (words : InitWords) (roster : RosterValue) (own : ℕ) (replica : ReplicaValue) (names : List (Bor (List ℕ))) → names ≡ words.names.items
    → MayGive (Ok (roster, own)) (roster_in words.group.now words.own.now (map (λ n. n.now) names))
    → (replica.roster ≡ roster) × (replica.own ≡ own) × (replica.state.lives ≡ finite.empty) × (replica.state.counts ≡ finite.empty) → IsNamed words replica
is_named words roster own replica names same given is = record {
  named = rw (is.0, is.1, ← same) (sym (not_refused (roster, own) Memory given));
  no_lives = is.2;
  no_counts = is.3;
}

-- words that name a roster aren't refused
pub not_unnamed : {P : Type 0} (words : InitWords) (replica : ReplicaValue) (fault : Fault) → IsNamed words replica → roster_for words ≡ Err fault → P
not_unnamed words replica fault is due = absurd (ok_isnt_err (replica.roster, replica.own) fault (sym is.named ∙ due))
