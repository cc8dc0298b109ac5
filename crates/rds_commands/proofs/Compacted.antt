-- A file that is written anew.
use Rattle.std.proofs.Common.{◌≡◌, ◌∙◌, ℕ, List, ap, refl, sym}
use Rattle.rds_state.specs.Fits.{ReplicaValue}
use Rattle.rds_output.specs.declared.reply.Reply.TheVariants.{Done}
use Rattle.rds_files.specs.Files.{IsHeldAt, KeptFile, ReplacedValue}
use Rattle.rds_commands.specs.Edits.{CompactsFile}

-- the file that was read under its lock is the one that was replaced, by what it held
pub compacts_file : (path : List ℕ) (file : KeptFile) (replica : ReplicaValue) (emptied : KeptFile) (done : ReplacedValue) → IsHeldAt path file → replica ≡ file.kept → emptied ≡ file
    → done ≡ record { path = emptied.path; before = emptied.kept; kept = replica } → CompactsFile path done Done
compacts_file path file replica emptied done held same is replaced = record {
  read = record {
    at = ap (λ (f : ReplacedValue). f.path) replaced ∙ ap (λ (f : KeptFile). f.path) is ∙ held.at;
    value = rw (ap (λ (f : ReplacedValue). f.before) replaced ∙ ap (λ (f : KeptFile). f.kept) is) held.value;
    place = held.place;
  };
  same = ap (λ (f : ReplacedValue). f.kept) replaced ∙ same ∙ sym (ap (λ (f : ReplacedValue). f.before) replaced ∙ ap (λ (f : KeptFile). f.kept) is);
  told = refl;
}
