-- What becomes of a file that takes a copy of another, and of one that is made from another.
use Rattle.std.specs.Prelude.{◌≡◌, ◌⊎◌, ℕ, false, List, Ok, Err}
use Rattle.rds_names.specs.declared.fault.Fault.{Fault}
use Rattle.rds_names.specs.Name.{name_of}
use Rattle.rds_codec.specs.StateTexts.{IsSnapshot}
use Rattle.rds_keep.specs.Kept.{IsStored, RefusesBytes}
use Rattle.rds_keep.specs.declared.layout.Layout.{Layout}
use Rattle.rds_files.specs.Files.{FileValue, IsReadAt, IsReplacedAt, IsUnkept, IsUnreadFile, KeptFile, RefusesFile, RefusesLock, ReplacedValue, is_beside}
use Rattle.rds_state.specs.Fits.{ReplicaValue}
use Rattle.rds_offline.specs.Merging.{CountsLacking, IsMergedFrom, RefusesMerge}
use Rattle.rds_offline.specs.Next.{IsNextOf, RefusesNext}

-- ---- merging a copy

-- the file at a path was read under its lock, and keeps what it held then with all that a replica had seen that was read
-- from another file; so many components were lacking
pub record MergesFile (path from : List ℕ) (file : ReplacedValue) (components : ℕ) : Type 0 where
  pub read : IsReplacedAt path file
  pub source : FileValue
  pub source_read : IsReadAt from source
  pub merged : IsMergedFrom source.kept file.before file.kept
  pub counted : CountsLacking source.kept file.before components

-- why what a file holds doesn't take all that a replica has seen: a take of it is refused, or the new one can't be kept
abbrev pub RefusesMergeIn : ReplicaValue → ReplicaValue → Fault → Type 0
RefusesMergeIn source before fault =
    RefusesMerge source before fault ⊎ ((after : ReplicaValue) × IsMergedFrom source before after
    × IsUnkept after fault)

-- the same, of something that two files may hold
pub record RefusesHeldMerge (fault : Fault) : Type 0 where
  pub source : ReplicaValue
  pub source_value : IsSnapshot source
  pub before : ReplicaValue
  pub before_value : IsSnapshot before
  pub why : RefusesMergeIn source before fault

-- why the file at a path takes no copy: the copy can't be read, or the file can't be locked and read, or what it holds
-- doesn't take it
abbrev pub RefusesMergeFile : List ℕ → Fault → Type 0
RefusesMergeFile path fault = IsUnreadFile fault ⊎ (RefusesLock path fault ⊎ RefusesHeldMerge fault)

-- ---- the next replica

-- the file of this path was made, and keeps the replica of this name in the group of one that was read from another
-- file, with all that that had seen
pub record InitsFrom (path from own : List ℕ) (file : KeptFile) : Type 0 where
  pub at : file.path ≡ path
  pub place : is_beside path ≡ false
  pub source : FileValue
  pub source_read : IsReadAt from source
  pub name : List ℕ
  pub is_name : name_of own ≡ Ok name
  pub next : IsNextOf source.kept name file.kept

-- the file of this path was made, and keeps the replica of this name in the group of the one whose file these bytes
-- are, with all that that had seen
pub record InitsFromCopy (path copy own : List ℕ) (file : KeptFile) : Type 0 where
  pub at : file.path ≡ path
  pub place : is_beside path ≡ false
  pub source : ReplicaValue
  pub layout : Layout
  pub stored : IsStored copy source layout
  pub name : List ℕ
  pub is_name : name_of own ≡ Ok name
  pub next : IsNextOf source name file.kept

-- why no file keeps the next replica of a group: there is none, or it can't be kept in a new file
abbrev pub RefusesNextIn : ReplicaValue → List ℕ → Fault → Type 0
RefusesNextIn source name fault =
    RefusesNext source name fault ⊎ ((next : ReplicaValue) × IsNextOf source name next × RefusesFile next fault)

-- the same of this name, in the group of one that a file may hold
pub record RefusesNextFile (own : List ℕ) (fault : Fault) : Type 0 where
  pub source : ReplicaValue
  pub source_value : IsSnapshot source
  pub name : List ℕ
  pub is_name : name_of own ≡ Ok name
  pub why : RefusesNextIn source name fault

-- why no file is made from another: the own name is none; else the other file can't be read, or gives no such replica,
-- or that can't be kept in a new file
abbrev pub RefusesInitFrom : List ℕ → Fault → Type 0
RefusesInitFrom own fault = (name_of own ≡ Err fault) ⊎ (IsUnreadFile fault ⊎ RefusesNextFile own fault)

-- why no file is made from bytes: the own name is none; else they are no file's, or give no such replica, or that can't
-- be kept in a new file
abbrev pub RefusesInitFromCopy : List ℕ → List ℕ → Fault → Type 0
RefusesInitFromCopy copy own fault =
    (name_of own ≡ Err fault) ⊎ (RefusesBytes copy fault ⊎ RefusesNextFile own fault)
