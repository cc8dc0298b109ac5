-- A change of a kept replica that is put behind the others.
use Rattle.std.specs.Prelude.{◌≡◌, ◌+◌, ℕ, List, Option, Some, refl}
use Rattle.std.specs.Coded.{Coded, code_by, coded×, coded_list, coded_ℕ}
use Rattle.rds_state.specs.Fits.{ReplicaValue, coded_replica}
use Rattle.rds_journal.specs.Device.{Only}
use Rattle.rds_journal.specs.Records.{IsPayload, record_text}
use Rattle.rds_keep.specs.Changes.{ChangeValue, IsRedone, change_text}
use Rattle.rds_keep.specs.Kept.{IsStored}
use Rattle.rds_keep.specs.declared.layout.Layout.{Layout}

-- the replica before a change and after it, and the bytes of the change's record
pub record ChangedValue : Type 0 where
  pub before : ReplicaValue
  pub after : ReplicaValue
  pub bytes : List ℕ

abbrev pub coded_changed : Coded ChangedValue
coded_changed =
    code_by (ReplicaValue × (ReplicaValue × List ℕ)) (coded× coded_replica (coded× coded_replica (coded_list coded_ℕ)))
    (λ c. (c.before, (c.after, c.bytes))) (λ p. record { before = p.0; after = p.1.0; bytes = p.1.1 }) (λ _. refl)

-- the bytes are the record of a change that made the one replica of the other
pub record IsRecordOf (c : ChangedValue) : Type 0 where
  pub change : ChangeValue
  pub redone : IsRedone c.before change c.after
  pub payload : IsPayload (change_text c.before.own change)
  pub bytes : c.bytes ≡ record_text (change_text c.before.own change)

-- the layout of a file with a record of so many bytes behind its whole ones, and no torn end
abbrev pub with_record : Layout → ℕ → Layout
with_record layout count = record {
  format = layout.format;
  snapshot = layout.snapshot;
  whole = layout.whole + count;
  length = layout.whole + count;
}

-- what is seen is a file that holds this
abbrev pub IsSeen : Option (List ℕ) → ReplicaValue → Layout → Type 0
IsSeen seen v layout = (file : List ℕ) × (seen ≡ Some file) × IsStored file v layout

-- so is what a crash leaves
abbrev pub Lasts : Option (List ℕ) → (List ℕ → Type 0) → Type 0
Lasts seen may_leave = (file : List ℕ) × (seen ≡ Some file) × Only file may_leave
