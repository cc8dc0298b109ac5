-- What commands come to that look at the replica in a file.
use Rattle.std.specs.Prelude.{◌≡◌, ◌⊎◌, ◌++◌, ◌-◌, ◌∷◌, ℕ, List, [], Option, Ok}
use Rattle.rds_names.specs.declared.fault.Fault.{Fault}
use Rattle.rds_names.specs.declared.fault.Fault.TheVariants.{BadPath}
use Rattle.rds_names.specs.Gives.{Refuses}
use Rattle.rds_names.specs.Path.{path_of}
use Rattle.rds_lines.specs.Overview.{TellsOverview}
use Rattle.rds_lines.specs.Views.{TellsAt}
use Rattle.rds_output.specs.declared.reply.Reply.{Reply}
use Rattle.rds_files.specs.Files.{FileValue, IsReadAt, IsUnreadFile}
use Rattle.rds_commands.specs.OfFile.{WritesOfFile}

-- ---- get

-- the file at this path was read, and this is what stands at the path of the text in what it held
pub record GetsFile (path text : List ℕ) (file : FileValue) (answer : Reply) : Type 0 where
  pub read : IsReadAt path file
  pub above : List (List ℕ)
  pub key : List ℕ
  pub asked : path_of text ≡ Ok (above ++ key ∷ [])
  pub told : TellsAt file.kept.state above key answer

-- the text is the path of the root
abbrev pub IsRoot : List ℕ → Type 0
IsRoot text = path_of text ≡ Ok []

-- the text is another path
abbrev pub IsBelowRoot : List ℕ → Type 0
IsBelowRoot text = (above : List (List ℕ)) × (key : List ℕ) × (path_of text ≡ Ok (above ++ key ∷ []))

-- why nothing is reported: the text is no path, or that of the root; else there is no replica in the file
abbrev pub RefusesGet : List ℕ → Fault → Type 0
RefusesGet text fault =
    Refuses fault (path_of text) ⊎ (((fault ≡ BadPath) × IsRoot text) ⊎ (IsBelowRoot text × IsUnreadFile fault))

abbrev pub WritesGet : List ℕ → List ℕ → Option (List ℕ) → Option (List ℕ) → ℕ → Type 0
WritesGet path text = WritesOfFile (GetsFile path text) (RefusesGet text)

-- ---- status

-- the file at this path was read, and this tells whose replica it held, how much of it, and in how many bytes
pub record DescribesFile (path : List ℕ) (file : FileValue) (answer : Reply) : Type 0 where
  pub read : IsReadAt path file
  pub told : TellsOverview file.kept file.layout.snapshot (file.layout.whole - file.layout.snapshot) answer

abbrev pub WritesStatus : List ℕ → Option (List ℕ) → Option (List ℕ) → ℕ → Type 0
WritesStatus path = WritesOfFile (DescribesFile path) IsUnreadFile
