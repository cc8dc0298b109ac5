-- Whose replica there is, and how much there is of it, as JSON.
use Rattle.std.specs.Prelude.{◌≡◌, ℕ, List, [], ◌++◌, codes, false, Some, count_by, length, slice_get, unwrap_or}
use Rattle.std.specs.FinMap as map
use Rattle.std.specs.Fmt.{decimal}
use Rattle.serde_json.specs.Data.{string}
use Rattle.serde_json.specs.Written.{compact_text}
use Rattle.rds_names.specs.Roster.{RosterValue}
use Rattle.rds_life.specs.Life.{Lived, is_dead, live_rows}
use Rattle.rds_state.specs.Fits.{ReplicaValue}
use Rattle.rds_state.specs.Mark.{mark_of, mark_text}
use Rattle.rds_state.specs.Value.{size}
use Rattle.rds_state.specs.declared.mark.Mark.{Mark}
use Rattle.rds_codec.specs.StateTexts.{snapshot_text}
use Rattle.rds_tree.specs.Document.{sums_of}
use Rattle.rds_json.specs.Texts.{texts_data}
use Rattle.rds_output.specs.Reply.{reply_text, is_refusal}
use Rattle.rds_output.specs.declared.reply.Reply.{Reply}
use Rattle.rds_lines.specs.declared.overview.Amounts.{Amounts}

-- how many seen dots are dead
abbrev pub dead_count : Lived → ℕ
dead_count lives = count_by (λ x. is_dead (Some x.1)) (map.entries lives)

-- how much there is of a replica
pub record AreAmounts (r : ReplicaValue) (a : Amounts) : Type 0 where
  pub live : a.live ≡ length (live_rows r.state.lives)
  pub dead : a.dead ≡ dead_count r.state.lives
  pub counters : a.counters ≡ length (sums_of r.state.counts)
  pub components : a.components ≡ size r.state
  pub bytes : a.bytes ≡ length (snapshot_text r)

-- the name of a number in the roster
abbrev pub own_name : RosterValue → ℕ → List ℕ
own_name roster own = unwrap_or (slice_get roster.names own) []

-- the group, the own name and all names
abbrev pub whose_text : RosterValue → ℕ → List ℕ
whose_text roster own =
    codes "{\"group\":" ++ compact_text (string roster.group) ++ codes ",\"own\":"
    ++ compact_text (string (own_name roster own)) ++ codes ",\"names\":" ++ compact_text (texts_data roster.names)

abbrev pub amounts_text : Amounts → List ℕ
amounts_text a =
    codes ",\"live\":" ++ (decimal a.live ++ (codes ",\"dead\":" ++ (decimal a.dead
    ++ (codes ",\"counters\":" ++ (decimal a.counters ++ (codes ",\"components\":" ++ (decimal a.components
    ++ (codes ",\"bytes\":" ++ decimal a.bytes))))))))

-- how many bytes the snapshot of a file has, and how many the records behind it
abbrev pub file_sizes_text : ℕ → ℕ → List ℕ
file_sizes_text snapshot records =
    codes ",\"snapshot\":" ++ (decimal snapshot ++ (codes ",\"records\":" ++ decimal records))

-- with what is reported of a file, if anything
abbrev pub overview_text : RosterValue → ℕ → Amounts → List ℕ → Mark → List ℕ
overview_text roster own amounts of_file mark =
    whose_text roster own
    ++ (amounts_text amounts ++ (of_file ++ (codes ",\"mark\":\"" ++ (mark_text mark ++ codes "\"}"))))

-- the text says that of a replica, and this of its file
pub record IsOverviewWith (of_file : List ℕ) (r : ReplicaValue) (text : List ℕ) : Type 0 where
  pub amounts : Amounts
  pub are : AreAmounts r amounts
  pub told : text ≡ overview_text r.roster r.own amounts of_file (mark_of r.state)

-- of a replica alone
abbrev pub IsOverview : ReplicaValue → List ℕ → Type 0
IsOverview r text = IsOverviewWith [] r text

-- the answer tells it of a replica in a file with a snapshot and records of so many bytes
pub record TellsOverview (r : ReplicaValue) (snapshot records : ℕ) (answer : Reply) : Type 0 where
  pub overview : IsOverviewWith (file_sizes_text snapshot records) r (reply_text answer)
  pub done : is_refusal answer ≡ false
