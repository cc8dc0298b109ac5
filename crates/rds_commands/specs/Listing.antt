-- What is written for scripts of the documents of replicas in files.
use Rattle.std.specs.Prelude.{◌≡◌, ◌⊎◌, ℕ, List, [], ◌∷◌, ◌++◌, Option, Ok, IsOk, string_bytes}
use Rattle.std.specs.Io.KnownBytes.{Appends}
use Rattle.rds_names.specs.declared.fault.Fault.{Fault}
use Rattle.rds_names.specs.declared.fault.Fault.TheVariants.{Usage}
use Rattle.rds_names.specs.Gives.{Refuses}
use Rattle.rds_names.specs.Path.{path_of}
use Rattle.rds_files.specs.Files.{FileValue, IsReadAt, IsUnreadFile}
use Rattle.rds_listing.specs.Differences.{differences_text}
use Rattle.rds_listing.specs.Raw.{GivesRaw}
use Rattle.rds_listing.specs.declared.bare.Raw.{Raw}
use Rattle.rds_listing.specs.declared.bare.Raw.TheVariants as raws
use Rattle.rds_listing.specs.declared.bare.Wanted.{Wanted}
use Rattle.rds_listing.specs.declared.bare.Wanted.TheVariants.{Any, Register, Set, Counter}
use Rattle.rds_state.specs.Value.{StateValue}
use Rattle.rds_words.specs.declared.tasks.RawKind.{RawKind}
use Rattle.rds_words.specs.declared.tasks.RawKind.TheVariants as kinds
use Rattle.rds_commands.specs.Looks.{RefusesGet}
use Rattle.rds_commands.specs.Offline.{WritesNothing}

-- ---- values alone

-- the file at a path was read, and this is what stands alone at the path of the text in what it held
pub record GetsRaw (path text : List ℕ) (wanted : Wanted) (file : FileValue) (raw : Raw) : Type 0 where
  pub read : IsReadAt path file
  pub above : List (List ℕ)
  pub key : List ℕ
  pub asked : path_of text ≡ Ok (above ++ key ∷ [])
  pub gives : GivesRaw file.kept.state above key wanted raw

-- which kind a word asks for
abbrev pub wanted_of : RawKind → Wanted
wanted_of kinds.Any = Any
wanted_of kinds.Register = Register
wanted_of kinds.Set = Set
wanted_of kinds.Counter = Counter

-- the status where nothing is there that was asked for, or where something is that was to be found
abbrev pub found_status : ℕ
found_status = 3

-- the lines of the values alone, or nothing: with a status of its own where nothing stands there
abbrev pub WritesValues : Raw → Option (List ℕ) → Option (List ℕ) → ℕ → Type 0
WritesValues raws.Nothing before after status = Appends before after [] × (status ≡ found_status)
WritesValues (raws.Text text) before after status = Appends before after (string_bytes text) × (status ≡ 0)
WritesValues raws.Several before after status = WritesNothing Usage before after status

abbrev pub WritesRaw : List ℕ → List ℕ → Wanted → Option (List ℕ) → Option (List ℕ) → ℕ → Type 0
WritesRaw path text wanted before after status =
    ((file : FileValue) × (raw : Raw) × GetsRaw path text wanted file raw × WritesValues raw before after status)
    ⊎ ((fault : Fault) × RefusesGet text fault × WritesNothing fault before after status)

-- ---- lines

-- the file at a path was read, and these are the lines of what it held at the path of the text
pub record ListsFile (lines_of : StateValue → List (List ℕ) → List ℕ) (path text : List ℕ) (file : FileValue)
    (lines : List ℕ) : Type 0 where
  pub read : IsReadAt path file
  pub keys : List (List ℕ)
  pub asked : path_of text ≡ Ok keys
  pub are : lines ≡ lines_of file.kept.state keys

-- why nothing is listed: the text is no path; else there is no replica in the file
abbrev pub RefusesList : List ℕ → Fault → Type 0
RefusesList text fault = Refuses fault (path_of text) ⊎ (IsOk (path_of text) × IsUnreadFile fault)

-- the status of lines: where there are none, and where there are some
abbrev pub list_status : ℕ → List ℕ → ℕ
list_status some [] = 0
list_status some (byte ∷ bytes) = some

-- the lines were written and nothing else, and their status is answered
abbrev pub WritesLines : ℕ → List ℕ → Option (List ℕ) → Option (List ℕ) → ℕ → Type 0
WritesLines some lines before after status = Appends before after lines × (status ≡ list_status some lines)

-- such lines were written; or, for a fault, nothing
abbrev pub WritesList : (StateValue → List (List ℕ) → List ℕ) → ℕ → List ℕ → List ℕ → Option (List ℕ)
    → Option (List ℕ) → ℕ → Type 0
WritesList lines_of some path text before after status =
    ((file : FileValue) × (lines : List ℕ) × ListsFile lines_of path text file lines
    × WritesLines some lines before after status)
    ⊎ ((fault : Fault) × RefusesList text fault × WritesNothing fault before after status)

-- ---- what two documents show

-- the files at two paths were read, and these are the lines of what one document shows and the other doesn't
pub record ComparesFiles (path other : List ℕ) (lines : List ℕ) : Type 0 where
  pub first : FileValue
  pub first_read : IsReadAt path first
  pub second : FileValue
  pub second_read : IsReadAt other second
  pub are : lines ≡ differences_text first.kept.state second.kept.state []

-- such lines were written; or, for a fault, nothing
abbrev pub WritesDiff : List ℕ → List ℕ → Option (List ℕ) → Option (List ℕ) → ℕ → Type 0
WritesDiff path other before after status =
    ((lines : List ℕ) × ComparesFiles path other lines × WritesLines found_status lines before after status)
    ⊎ ((fault : Fault) × IsUnreadFile fault × WritesNothing fault before after status)
