-- Replicas in files.
use Rattle.std.specs.Prelude.{◌≡◌, ◌==◌, ◌⊎◌, ◌<◌, ℕ, Bool, true, false, List, length, codes, refl, Option, IfSome}
use Rattle.std.specs.List.{ends_with}
use Rattle.std.specs.Coded.{Coded, code_by, coded×, coded_bool, coded_list, coded_ℕ}
use Rattle.rds_names.specs.declared.fault.Fault.{Fault}
use Rattle.rds_names.specs.declared.fault.Fault.TheVariants.{Memory, Device, TooLong, Unsure, Usage}
use Rattle.rds_state.specs.Fits.{ReplicaValue, coded_replica}
use Rattle.rds_codec.specs.Decoding.{IsOtherFault}
use Rattle.rds_codec.specs.StateTexts.{IsSnapshot, snapshot_text}
use Rattle.rds_codec.specs.declared.formats.Format.{Format}
use Rattle.rds_codec.specs.declared.formats.Format.TheVariants.{One, Two}
use Rattle.rds_codec.specs.declared.limits.TheConstants.{LIMIT}
use Rattle.rds_keep.specs.Counted.{one_more}
use Rattle.rds_keep.specs.declared.layout.Layout.{Layout}

-- ---- values

-- a file's path, and how many times the file was read by it
pub record PathValue : Type 0 where
  pub path : List ℕ
  pub reads : ℕ

abbrev pub coded_path : Coded PathValue
coded_path =
    code_by (List ℕ × ℕ) (coded× (coded_list coded_ℕ) coded_ℕ) (λ p. (p.path, p.reads))
    (λ p. record { path = p.0; reads = p.1 }) (λ _. refl)

abbrev pub read_more : PathValue → PathValue
read_more at = record at { reads = one_more at.reads }

-- a replica that was read from a file, where the parts of the file stand, and how many readings by that path came
-- before
pub record FileValue : Type 0 where
  pub path : List ℕ
  pub kept : ReplicaValue
  pub layout : Layout
  pub nth : ℕ

abbrev pub is_two : Format → Bool
is_two One = false
is_two Two = true

abbrev pub format_if : Bool → Format
format_if false = One
format_if true = Two

abbrev pub format_back : (f : Format) → format_if (is_two f) ≡ f
format_back One = refl
format_back Two = refl

abbrev pub coded_format : Coded Format
coded_format = code_by Bool coded_bool is_two format_if format_back

abbrev pub coded_layout : Coded Layout
coded_layout =
    code_by (Format × (ℕ × (ℕ × ℕ))) (coded× coded_format (coded× coded_ℕ (coded× coded_ℕ coded_ℕ)))
    (λ l. (l.format, (l.snapshot, (l.whole, l.length))))
    (λ p. record { format = p.0; snapshot = p.1.0; whole = p.1.1.0; length = p.1.1.1 }) (λ _. refl)

abbrev pub coded_file : Coded FileValue
coded_file =
    code_by (List ℕ × (ReplicaValue × (Layout × ℕ)))
    (coded× (coded_list coded_ℕ) (coded× coded_replica (coded× coded_layout coded_ℕ)))
    (λ f. (f.path, (f.kept, (f.layout, f.nth))))
    (λ p. record { path = p.0; kept = p.1.0; layout = p.1.1.0; nth = p.1.1.1 }) (λ _. refl)

-- a replica that a file holds
pub record KeptFile : Type 0 where
  pub path : List ℕ
  pub kept : ReplicaValue

abbrev pub coded_kept_file : Coded KeptFile
coded_kept_file =
    code_by (List ℕ × ReplicaValue) (coded× (coded_list coded_ℕ) coded_replica) (λ f. (f.path, f.kept))
    (λ p. record { path = p.0; kept = p.1 }) (λ _. refl)

-- a replica in the place of another
pub record ReplacedValue : Type 0 where
  pub path : List ℕ
  pub before : ReplicaValue
  pub kept : ReplicaValue

abbrev pub coded_replaced : Coded ReplacedValue
coded_replaced =
    code_by (List ℕ × (ReplicaValue × ReplicaValue)) (coded× (coded_list coded_ℕ) (coded× coded_replica coded_replica))
    (λ f. (f.path, (f.before, f.kept)))
    (λ p. record { path = p.0; before = p.1.0; kept = p.1.1 }) (λ _. refl)

-- ---- what they hold

-- the file at this path was read, and what it held makes its replica
pub record IsReadAt (path : List ℕ) (file : FileValue) : Type 0 where
  pub at : file.path ≡ path
  pub value : IsSnapshot file.kept

-- the same, whether it was read under its lock or not
pub record IsKeptAt (path : List ℕ) (file : KeptFile) : Type 0 where
  pub at : file.path ≡ path
  pub value : IsSnapshot file.kept

-- it was read by this path, after so many readings
pub record IsReadBy (at : PathValue) (file : FileValue) : Type 0 where
  pub read : IsReadAt at.path file
  pub nth : file.nth ≡ at.reads

-- the path ends as that of a file that is written beside another
abbrev pub is_beside : List ℕ → Bool
is_beside path = ends_with (λ a b. a == b) path (codes ".new")

-- the file at this path was read under its lock
pub record IsHeldAt (path : List ℕ) (file : KeptFile) : Type 0 where
  pub at : file.path ≡ path
  pub value : IsSnapshot file.kept
  pub place : is_beside path ≡ false

-- the file at this path was read under its lock, and holds another replica since
pub record IsReplacedAt (path : List ℕ) (file : ReplacedValue) : Type 0 where
  pub at : file.path ≡ path
  pub value : IsSnapshot file.before
  pub place : is_beside path ≡ false

-- ---- refusals

-- why a file gives no replica: it can't be had, or holds none; or Memory
abbrev pub IsUnreadFile : Fault → Type 0
IsUnreadFile fault = (fault ≡ Device) ⊎ IsOtherFault fault

-- there is a file that holds more than a text may have, where it is known what it holds
abbrev pub HoldsTooMuch : {F : Type 0} → (F → Option (List ℕ)) → Type 0
HoldsTooMuch {F} remaining = (file : F) × IfSome (remaining file) (λ input. LIMIT < length input)

-- why a file can't be locked and read: by its path; or it gives no replica
abbrev pub RefusesLock : List ℕ → Fault → Type 0
RefusesLock path fault = ((fault ≡ Usage) × (is_beside path ≡ true)) ⊎ IsUnreadFile fault

-- why a replica can't be kept in a file: a call on a file failed, or its text is above the limit; or Memory; or
-- it is written, and the system doesn't say that it lasts
abbrev pub IsUnkept : ReplicaValue → Fault → Type 0
IsUnkept replica fault =
    (fault ≡ Memory)
    ⊎ ((fault ≡ Device) ⊎ ((fault ≡ Unsure) ⊎ ((fault ≡ TooLong) × (LIMIT < length (snapshot_text replica)))))

-- why a replica isn't kept whose text is above the limit: for that, or as memory ran out before its length was found
abbrev pub IsTooLongOrLost : Fault → Type 0
IsTooLongOrLost fault = (fault ≡ TooLong) ⊎ (fault ≡ Memory)

-- why no file can be made at a path, whatever it is to keep: by the path, since something is there, or since a call
-- failed
abbrev pub MakesNoFile : Fault → Type 0
MakesNoFile fault = (fault ≡ Usage) ⊎ (fault ≡ Device)

-- why no file is made for a replica: by its path, or since something is there; or the replica can't be kept
abbrev pub RefusesFile : ReplicaValue → Fault → Type 0
RefusesFile replica fault = (fault ≡ Usage) ⊎ IsUnkept replica fault
