-- A file that takes a copy of another, and a file that is made from another.
use Rattle.std.proofs.Common.{◌≡◌, ◌∙◌, ℕ, List, Result, Ok, Err, subst, sym, inr}
use Rattle.rds_names.specs.declared.fault.Fault.{Fault}
use Rattle.rds_names.specs.Name.{name_of}
use Rattle.rds_codec.specs.StateTexts.{IsSnapshot}
use Rattle.rds_files.specs.Files.{FileValue, IsHeldAt, IsReadAt, IsUnkept, KeptFile, ReplacedValue, is_beside}
use Rattle.rds_keep.specs.Kept.{IsStored}
use Rattle.rds_keep.specs.declared.layout.Layout.{Layout}
use Rattle.std.specs.Prelude.{false, IfErr, IfOk}
use Rattle.rds_state.specs.Fits.{ReplicaValue}
use Rattle.rds_offline.specs.Copies.{InitsFrom, InitsFromCopy, MergesFile, RefusesInitFromCopy, RefusesMergeFile, RefusesMergeIn, RefusesNextFile, RefusesNextIn}
use Rattle.rds_offline.specs.Merging.{CountsLacking, IsMergedFrom}
use Rattle.rds_offline.specs.Next.{IsNextOf}

-- what was merged can't be kept
pub unkept_merge : (source before old after : ReplicaValue) (fault : Fault) → old ≡ before → IsMergedFrom source old after → IsUnkept after fault → RefusesMergeIn source before fault
unkept_merge source before old after fault same merged unkept = inr (after, subst (λ (v : ReplicaValue). IsMergedFrom source v after) same merged, unkept)

module _ (path from : List ℕ) (source : FileValue) (opened : KeptFile) (given : ReplicaValue) (read : IsReadAt from source) (held : IsHeldAt path opened) (same : given ≡ source.kept) where
  -- what the file held doesn't take the copy
  pub no_merge : (fault : Fault) → RefusesMergeIn given opened.kept fault → RefusesMergeFile path fault
  no_merge fault refused = inr (inr (record {
    source = source.kept;
    source_value = read.value;
    before = opened.kept;
    before_value = held.value;
    why = subst (λ (v : ReplicaValue). RefusesMergeIn v opened.kept fault) same refused;
  }))

  -- it took it
  pub merges_file : (done : ReplacedValue) (components : ℕ) → done.path ≡ opened.path → done.before ≡ opened.kept → IsMergedFrom given opened.kept done.kept → CountsLacking given opened.kept components
      → MergesFile path from done components
  merges_file done components at is merged counted = record {
    read = record { at = at ∙ held.at; value = subst IsSnapshot (sym is) held.value; place = held.place };
    source = source;
    source_read = read;
    merged = subst (λ (v : ReplicaValue). IsMergedFrom source.kept v done.kept) (sym is) (subst (λ (v : ReplicaValue). IsMergedFrom v opened.kept done.kept) same merged);
    counted = subst (λ (v : ReplicaValue). CountsLacking source.kept v components) (sym is) (subst (λ (v : ReplicaValue). CountsLacking v opened.kept components) same counted);
  }

module _ (own name : List ℕ) (source given : ReplicaValue) (value : IsSnapshot source) (same : given ≡ source) (named : name_of own ≡ Ok name) where
  -- there is no next replica, or it can't be kept
  pub no_next : (fault : Fault) → RefusesNextIn given name fault → RefusesNextFile own fault
  no_next fault refused = record {
    source = source;
    source_value = value;
    name = name;
    is_name = named;
    why = subst (λ (v : ReplicaValue). RefusesNextIn v name fault) same refused;
  }

module _ (path own name : List ℕ) (given : ReplicaValue) (named : name_of own ≡ Ok name) (file : KeptFile) (at : file.path ≡ path) (place : is_beside path ≡ false) (next : IsNextOf given name file.kept) where
  -- it is, of what was read from another file
  pub inits_from : (from : List ℕ) (source : FileValue) → IsReadAt from source → given ≡ source.kept → InitsFrom path from own file
  inits_from from source read same = record {
    at = at;
    place = place;
    source = source;
    source_read = read;
    name = name;
    is_name = named;
    next = subst (λ (v : ReplicaValue). IsNextOf v name file.kept) same next;
  }

  -- it is, of what bytes hold
  pub inits_from_copy : (copy : List ℕ) (source : ReplicaValue) (layout : Layout) → IsStored copy source layout → given ≡ source → InitsFromCopy path copy own file
  inits_from_copy copy source layout stored same = record {
    at = at;
    place = place;
    source = source;
    layout = layout;
    stored = stored;
    name = name;
    is_name = named;
    next = subst (λ (v : ReplicaValue). IsNextOf v name file.kept) same next;
  }

-- the same, whatever became of the file
module _ (path copy own name : List ℕ) (source given : ReplicaValue) (layout : Layout) (stored : IsStored copy source layout) (value : IsSnapshot source) (same : given ≡ source) (named : name_of own ≡ Ok name) where
  pub made_from_copy : (result : Result KeptFile Fault) → IfOk result (λ file. file.path ≡ path) → IfOk result (λ _. is_beside path ≡ false) → IfOk result (λ file. IsNextOf given name file.kept)
      → IfOk result (InitsFromCopy path copy own)
  made_from_copy (Ok file) at place next = inits_from_copy path own name given named file at place next copy source layout stored same
  made_from_copy (Err fault) at place next = tt

  pub not_from_copy : (result : Result KeptFile Fault) → IfErr result (RefusesNextIn given name) → IfErr result (RefusesInitFromCopy copy own)
  not_from_copy (Ok file) refused = tt
  not_from_copy (Err fault) refused = inr (inr (no_next own name source given value same named fault refused))
