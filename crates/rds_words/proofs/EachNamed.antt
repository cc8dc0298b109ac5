-- The words of each task name it, where they are data or stand behind dashes.
use Rattle.std.proofs.Common.{◌≡◌, ◌∙◌, List, [], ◌∷◌, ◌++◌, codes, length, map, option_map, Option, Some, None, refl, ap, inl, arith}
use Rattle.std.specs.Borrow.{Bor}
use Rattle.std.proofs.lemmas.Bool.{le-leb}
use Rattle.clap.specs.Words.{Text, built}
use Rattle.rds_words.specs.declared.tasks.Task.{Task}
use Rattle.rds_words.specs.declared.tasks.Task.TheVariants.{Join, Sim, Files, Faults, Init, InitFrom, Grow, Edit, EditIfChanged, EditLines, Get, GetRaw, Show, ShowPretty, Dump, Compact, Status, Serve, Run, Sync, Pair, Ask, Answer, Take, Merge, Check, Conflicts, Diff, Watch}
use Rattle.rds_words.specs.declared.tasks.EditWords.TheVariants.{Set, Add, Del, Clear, ClearAll, Inc, Dec}
use Rattle.rds_words.specs.declared.tasks.RawKind.{RawKind}
use Rattle.rds_words.specs.declared.tasks.RawKind.TheVariants as kind
use Rattle.rds_words.specs.declared.tasks.ValueWord.TheVariants as word
use Rattle.rds_words.specs.Commands.{node_app}
use Rattle.rds_words.specs.Entered.{Names}
use Rattle.rds_words.specs.Raw.{token_words}
use Rattle.rds_words.specs.Spelling.{Count, IsGivenWords}
use Rattle.rds_words.specs.Task.{raw_word, words_in, task_words}
use Rattle.rds_words.specs.Written.{AreData, HasNames, IsWritable, words_dashed, words_written}
use Rattle.rds_words.proofs.ClearPlan.{clear_plan, clear_takes}
use Rattle.rds_words.proofs.CommandWords.{node_on_words}
use Rattle.rds_words.proofs.Dashed.{Meets, undashed_fault, undashed_rows}
use Rattle.rds_words.proofs.GrowNamed.{grow_dashed, grow_met}
use Rattle.rds_words.proofs.OptionPlans.{add_plan, add_takes, del_plan, del_takes, get_plan, get_takes, init_is, init_plan, init_takes, serve_plan, serve_takes, set_plan, set_takes, show_plan, show_takes, sync_plan, sync_takes}
use Rattle.rds_words.proofs.OptionsNamed.{run_dashed, run_named}
use Rattle.rds_words.proofs.PlainCommands.{answer_plain, ask_plain, check_plain, compact_plain, conflicts_plain, dec_plain, diff_plain, dump_plain, edit_lines_plain, faults_plain, files_plain, inc_plain, join_plain, merge_plain, pair_plain, sim_plain, status_plain, take_plain}
use Rattle.rds_words.proofs.PlainForms.{IsPlain}
use Rattle.rds_words.proofs.TypedNames.{alone, apart, joined, named, named_dashed, placed}
use Rattle.rds_words.proofs.WatchPlan.{watch_plan, watch_takes}

-- words that are data need no dashes
undashed : (name command : Text) (words result : List Text) → Meets (built node_app) command → AreData words
    → Names (name ∷ command ∷ codes "--" ∷ words) result → Names (name ∷ command ∷ words) result
unfolding node_on_words
undashed name command words result meets are behind = (
  undashed_fault (built node_app) command words meets are ∙ behind.0,
  ap words_in (undashed_rows (built node_app) command words meets are) ∙ behind.1,
)

-- ---- a command without options

module _ (command : Text) (count : Count) (plain : IsPlain command count) (name : Text) (given words : List Text) where
  plain_dashed : IsGivenWords count given words → Names (name ∷ command ∷ codes "--" ∷ given) (command ∷ words)
  plain_dashed is = plain.known.counted.named name given words is

  plain_written : AreData given → IsGivenWords count given words → Names (name ∷ command ∷ given) (command ∷ words)
  plain_written are is = undashed name command given (command ∷ words) plain.known.is.met are (plain_dashed is)

-- ---- commands with names, or with a token

init_dashed : (name file group own : Text) (names : List (Bor Text)) → (names ≡ [] → ⊥)
    → Names (name ∷ codes "init" ∷ codes "--" ∷ file ∷ group ∷ own ∷ map (λ n. n.now) names)
    (codes "init" ∷ file ∷ group ∷ own ∷ map (λ n. n.now) names)
init_dashed name file group own [] has = absurd (has refl)
init_dashed name file group own (n ∷ names) has =
    let given = file ∷ group ∷ own ∷ n.now ∷ map (λ n. n.now) names in
    named_dashed init_plan init_takes name [] given given refl refl (le-leb 2 (length given) (omega arith)) refl

grow_behind : (name file : Text) (names : List (Bor Text)) → (names ≡ [] → ⊥)
    → Names (name ∷ codes "grow" ∷ codes "--" ∷ file ∷ map (λ n. n.now) names) (codes "grow" ∷ file ∷ map (λ n. n.now) names)
grow_behind name file [] has = absurd (has refl)
grow_behind name file (n ∷ names) has = grow_dashed name file n.now (map (λ n. n.now) names)

sync_dashed : (name file addr timeout : Text) (token : Option Text)
    → Names (name ∷ codes "sync" ∷ (codes "--timeout=" ++ timeout) ∷ (token_words token ++ codes "--" ∷ file ∷ addr ∷ []))
    (codes "sync" ∷ file ∷ addr ∷ timeout ∷ token_words token)
sync_dashed name file addr timeout None =
    named_dashed sync_plan sync_takes name (joined (codes "--timeout") timeout ∷ []) (file ∷ addr ∷ []) _ refl refl refl refl
sync_dashed name file addr timeout (Some token) =
    named_dashed sync_plan sync_takes name (joined (codes "--timeout") timeout ∷ joined (codes "--token-file") token ∷ [])
    (file ∷ addr ∷ []) _ refl refl refl refl

sync_written : (name file addr timeout : Text) (token : Option Text) → AreData (file ∷ addr ∷ timeout ∷ [])
    → Names (name ∷ codes "sync" ∷ file ∷ addr ∷ codes "--timeout" ∷ timeout ∷ token_words token)
    (codes "sync" ∷ file ∷ addr ∷ timeout ∷ token_words token)
sync_written name file addr timeout None are =
    named sync_plan sync_takes name (placed file ∷ placed addr ∷ apart (codes "--timeout") timeout ∷ []) _ are refl refl refl
sync_written name file addr timeout (Some token) are =
    named sync_plan sync_takes name
    (placed file ∷ placed addr ∷ apart (codes "--timeout") timeout ∷ joined (codes "--token-file") token ∷ [])
    _ are refl refl refl

watch_dashed : (name node path : Text) (token : Option Text)
    → Names (name ∷ codes "watch" ∷ (token_words token ++ codes "--" ∷ node ∷ path ∷ []))
    (codes "watch" ∷ node ∷ path ∷ token_words token)
watch_dashed name node path None =
    named_dashed watch_plan watch_takes name [] (node ∷ path ∷ []) _ refl refl refl refl
watch_dashed name node path (Some token) =
    named_dashed watch_plan watch_takes name (joined (codes "--token-file") token ∷ []) (node ∷ path ∷ []) _ refl refl refl refl

watch_written : (name node path : Text) (token : Option Text) → AreData (node ∷ path ∷ [])
    → Names (name ∷ codes "watch" ∷ node ∷ path ∷ token_words token) (codes "watch" ∷ node ∷ path ∷ token_words token)
watch_written name node path None are =
    named watch_plan watch_takes name (placed node ∷ placed path ∷ []) _ are refl refl refl
watch_written name node path (Some token) are =
    named watch_plan watch_takes name (placed node ∷ placed path ∷ joined (codes "--token-file") token ∷ []) _ are refl refl refl

raw_dashed : (name file path : Text) (which : RawKind)
    → Names (name ∷ codes "get" ∷ raw_word which ∷ codes "--" ∷ file ∷ path ∷ []) (codes "get" ∷ file ∷ path ∷ raw_word which ∷ [])
raw_dashed name file path kind.Any =
    named_dashed get_plan get_takes name (alone (codes "--raw") ∷ []) (file ∷ path ∷ []) _ refl refl refl refl
raw_dashed name file path kind.Register =
    named_dashed get_plan get_takes name (alone (codes "--reg") ∷ []) (file ∷ path ∷ []) _ refl refl refl refl
raw_dashed name file path kind.Set =
    named_dashed get_plan get_takes name (alone (codes "--set") ∷ []) (file ∷ path ∷ []) _ refl refl refl refl
raw_dashed name file path kind.Counter =
    named_dashed get_plan get_takes name (alone (codes "--counter") ∷ []) (file ∷ path ∷ []) _ refl refl refl refl

raw_written : (name file path : Text) (which : RawKind) → AreData (file ∷ path ∷ [])
    → Names (name ∷ codes "get" ∷ raw_word which ∷ file ∷ path ∷ []) (codes "get" ∷ file ∷ path ∷ raw_word which ∷ [])
raw_written name file path kind.Any are =
    named get_plan get_takes name (alone (codes "--raw") ∷ placed file ∷ placed path ∷ []) _ are refl refl refl
raw_written name file path kind.Register are =
    named get_plan get_takes name (alone (codes "--reg") ∷ placed file ∷ placed path ∷ []) _ are refl refl refl
raw_written name file path kind.Set are =
    named get_plan get_takes name (alone (codes "--set") ∷ placed file ∷ placed path ∷ []) _ are refl refl refl
raw_written name file path kind.Counter are =
    named get_plan get_takes name (alone (codes "--counter") ∷ placed file ∷ placed path ∷ []) _ are refl refl refl

-- ---- each task

pub task_dashed : (name : Text) (task : Task) → HasNames task → Names (name ∷ words_dashed task) (task_words task)
task_dashed name Join has = plain_dashed _ _ join_plain name [] _ (refl, refl)
task_dashed name Sim has = plain_dashed _ _ sim_plain name [] _ (refl, refl)
task_dashed name Files has = plain_dashed _ _ files_plain name [] _ (refl, refl)
task_dashed name Faults has = plain_dashed _ _ faults_plain name [] _ (refl, refl)
task_dashed name (Init words) has = init_dashed name words.file.now words.group.now words.own.now words.names.items has
task_dashed name (InitFrom words) has =
    named_dashed init_plan init_takes name (joined (codes "--from") words.from.now ∷ []) (words.file.now ∷ words.own.now ∷ []) _
    refl refl refl refl
task_dashed name (Grow words) has = grow_behind name words.file.now words.names.items has
task_dashed name (Edit file (Set path (word.Json value))) has =
    named_dashed set_plan set_takes name [] (file.now ∷ path.now ∷ value.now ∷ []) _ refl refl refl refl
task_dashed name (Edit file (Set path (word.Text value))) has =
    named_dashed set_plan set_takes name (alone (codes "--text") ∷ []) (file.now ∷ path.now ∷ value.now ∷ []) _ refl refl refl refl
task_dashed name (EditIfChanged file (Set path (word.Json value))) has =
    named_dashed set_plan set_takes name (alone (codes "--if-changed") ∷ []) (file.now ∷ path.now ∷ value.now ∷ []) _ refl refl refl refl
task_dashed name (EditIfChanged file (Set path (word.Text value))) has =
    named_dashed set_plan set_takes name (alone (codes "--if-changed") ∷ alone (codes "--text") ∷ []) (file.now ∷ path.now ∷ value.now ∷ []) _ refl refl refl refl
task_dashed name (Edit file (Add path (word.Json value))) has =
    named_dashed add_plan add_takes name [] (file.now ∷ path.now ∷ value.now ∷ []) _ refl refl refl refl
task_dashed name (Edit file (Add path (word.Text value))) has =
    named_dashed add_plan add_takes name (alone (codes "--text") ∷ []) (file.now ∷ path.now ∷ value.now ∷ []) _ refl refl refl refl
task_dashed name (EditIfChanged file (Add path (word.Json value))) has =
    named_dashed add_plan add_takes name (alone (codes "--if-changed") ∷ []) (file.now ∷ path.now ∷ value.now ∷ []) _ refl refl refl refl
task_dashed name (EditIfChanged file (Add path (word.Text value))) has =
    named_dashed add_plan add_takes name (alone (codes "--if-changed") ∷ alone (codes "--text") ∷ []) (file.now ∷ path.now ∷ value.now ∷ []) _ refl refl refl refl
task_dashed name (Edit file (Del path (word.Json value))) has =
    named_dashed del_plan del_takes name [] (file.now ∷ path.now ∷ value.now ∷ []) _ refl refl refl refl
task_dashed name (Edit file (Del path (word.Text value))) has =
    named_dashed del_plan del_takes name (alone (codes "--text") ∷ []) (file.now ∷ path.now ∷ value.now ∷ []) _ refl refl refl refl
task_dashed name (Edit file (Clear path)) has =
    named_dashed clear_plan clear_takes name [] (file.now ∷ path.now ∷ []) _ refl refl refl refl
task_dashed name (Edit file ClearAll) has =
    named_dashed clear_plan clear_takes name (alone (codes "--all") ∷ []) (file.now ∷ []) _ refl refl refl refl
task_dashed name (Edit file (Inc key by)) has =
    plain_dashed _ _ inc_plain name (file.now ∷ key.now ∷ by.now ∷ []) _ (refl, refl)
task_dashed name (Edit file (Dec key by)) has =
    plain_dashed _ _ dec_plain name (file.now ∷ key.now ∷ by.now ∷ []) _ (refl, refl)
task_dashed name (EditIfChanged file (Del path value)) has = absurd has
task_dashed name (EditIfChanged file (Clear path)) has = absurd has
task_dashed name (EditIfChanged file ClearAll) has = absurd has
task_dashed name (EditIfChanged file (Inc key by)) has = absurd has
task_dashed name (EditIfChanged file (Dec key by)) has = absurd has
task_dashed name (EditLines file) has = plain_dashed _ _ edit_lines_plain name (file.now ∷ []) _ (refl, refl)
task_dashed name (Get file path) has =
    named_dashed get_plan get_takes name [] (file.now ∷ path.now ∷ []) _ refl refl refl refl
task_dashed name (GetRaw file path which) has = raw_dashed name file.now path.now which
task_dashed name (Show file path) has =
    named_dashed show_plan show_takes name [] (file.now ∷ path.now ∷ []) _ refl refl refl refl
task_dashed name (ShowPretty file path) has =
    named_dashed show_plan show_takes name (alone (codes "--pretty") ∷ []) (file.now ∷ path.now ∷ []) _ refl refl refl refl
task_dashed name (Dump file path) has = plain_dashed _ _ dump_plain name (file.now ∷ path.now ∷ []) _ (inl (refl, refl))
task_dashed name (Compact file) has = plain_dashed _ _ compact_plain name (file.now ∷ []) _ (refl, refl)
task_dashed name (Status file) has = plain_dashed _ _ status_plain name (file.now ∷ []) _ (refl, refl)
task_dashed name (Sync words) has =
    sync_dashed name words.file.now words.addr.now words.timeout.now (option_map (λ t. t.now) words.token_file)
task_dashed name (Pair first second) has = plain_dashed _ _ pair_plain name (first.now ∷ second.now ∷ []) _ (refl, refl)
task_dashed name (Serve words) has =
    named_dashed serve_plan serve_takes name
    (joined (codes "--sessions") words.sessions.now ∷ joined (codes "--timeout") words.timeout.now ∷ [])
    (words.file.now ∷ words.addr.now ∷ []) _ refl refl refl refl
task_dashed name (Run words) has =
    run_dashed words.http.now words.every.now (map (λ p. p.now) words.peers.items) (option_map (λ t. t.now) words.token_file) words.is_open words.log
    name words.file.now
task_dashed name (Ask file) has = plain_dashed _ _ ask_plain name (file.now ∷ []) _ (refl, refl)
task_dashed name (Answer file) has = plain_dashed _ _ answer_plain name (file.now ∷ []) _ (refl, refl)
task_dashed name (Take file question answer) has =
    plain_dashed _ _ take_plain name (file.now ∷ question.now ∷ answer.now ∷ []) _ (refl, refl)
task_dashed name (Merge file from) has = plain_dashed _ _ merge_plain name (file.now ∷ from.now ∷ []) _ (refl, refl)
task_dashed name (Check question answer) has =
    plain_dashed _ _ check_plain name (question.now ∷ answer.now ∷ []) _ (refl, refl)
task_dashed name (Conflicts file path) has =
    plain_dashed _ _ conflicts_plain name (file.now ∷ path.now ∷ []) _ (inl (refl, refl))
task_dashed name (Diff file other) has = plain_dashed _ _ diff_plain name (file.now ∷ other.now ∷ []) _ (refl, refl)
task_dashed name (Watch words) has =
    watch_dashed name words.node.now words.path.now (option_map (λ t. t.now) words.token_file)

pub task_written : (name : Text) (task : Task) → IsWritable task → Names (name ∷ words_written task) (task_words task)
task_written name Join is = plain_written _ _ join_plain name [] _ is.1 (refl, refl)
task_written name Sim is = plain_written _ _ sim_plain name [] _ is.1 (refl, refl)
task_written name Files is = plain_written _ _ files_plain name [] _ is.1 (refl, refl)
task_written name Faults is = plain_written _ _ faults_plain name [] _ is.1 (refl, refl)
task_written name (Init words) is =
    undashed name (codes "init") _ _ init_is.met is.1 (init_dashed name words.file.now words.group.now words.own.now words.names.items is.0)
task_written name (InitFrom words) is =
    named init_plan init_takes name
    (apart (codes "--from") words.from.now ∷ placed words.file.now ∷ placed words.own.now ∷ []) _ is.1 refl refl refl
task_written name (Grow words) is =
    undashed name (codes "grow") _ _ grow_met is.1 (grow_behind name words.file.now words.names.items is.0)
task_written name (Edit file (Set path (word.Json value))) is =
    named set_plan set_takes name (placed file.now ∷ placed path.now ∷ placed value.now ∷ []) _ is.1 refl refl refl
task_written name (Edit file (Set path (word.Text value))) is =
    named set_plan set_takes name (alone (codes "--text") ∷ placed file.now ∷ placed path.now ∷ placed value.now ∷ []) _ is.1 refl refl refl
task_written name (EditIfChanged file (Set path (word.Json value))) is =
    named set_plan set_takes name (alone (codes "--if-changed") ∷ placed file.now ∷ placed path.now ∷ placed value.now ∷ []) _ is.1 refl refl refl
task_written name (EditIfChanged file (Set path (word.Text value))) is =
    named set_plan set_takes name (alone (codes "--if-changed") ∷ alone (codes "--text") ∷ placed file.now ∷ placed path.now ∷ placed value.now ∷ []) _ is.1 refl refl refl
task_written name (Edit file (Add path (word.Json value))) is =
    named add_plan add_takes name (placed file.now ∷ placed path.now ∷ placed value.now ∷ []) _ is.1 refl refl refl
task_written name (Edit file (Add path (word.Text value))) is =
    named add_plan add_takes name (alone (codes "--text") ∷ placed file.now ∷ placed path.now ∷ placed value.now ∷ []) _ is.1 refl refl refl
task_written name (EditIfChanged file (Add path (word.Json value))) is =
    named add_plan add_takes name (alone (codes "--if-changed") ∷ placed file.now ∷ placed path.now ∷ placed value.now ∷ []) _ is.1 refl refl refl
task_written name (EditIfChanged file (Add path (word.Text value))) is =
    named add_plan add_takes name (alone (codes "--if-changed") ∷ alone (codes "--text") ∷ placed file.now ∷ placed path.now ∷ placed value.now ∷ []) _ is.1 refl refl refl
task_written name (Edit file (Del path (word.Json value))) is =
    named del_plan del_takes name (placed file.now ∷ placed path.now ∷ placed value.now ∷ []) _ is.1 refl refl refl
task_written name (Edit file (Del path (word.Text value))) is =
    named del_plan del_takes name (alone (codes "--text") ∷ placed file.now ∷ placed path.now ∷ placed value.now ∷ []) _ is.1 refl refl refl
task_written name (Edit file (Clear path)) is =
    named clear_plan clear_takes name (placed file.now ∷ placed path.now ∷ []) _ is.1 refl refl refl
task_written name (Edit file ClearAll) is =
    named clear_plan clear_takes name (alone (codes "--all") ∷ placed file.now ∷ []) _ is.1 refl refl refl
task_written name (Edit file (Inc key by)) is =
    plain_written _ _ inc_plain name (file.now ∷ key.now ∷ by.now ∷ []) _ is.1 (refl, refl)
task_written name (Edit file (Dec key by)) is =
    plain_written _ _ dec_plain name (file.now ∷ key.now ∷ by.now ∷ []) _ is.1 (refl, refl)
task_written name (EditIfChanged file (Del path value)) is = absurd is.0
task_written name (EditIfChanged file (Clear path)) is = absurd is.0
task_written name (EditIfChanged file ClearAll) is = absurd is.0
task_written name (EditIfChanged file (Inc key by)) is = absurd is.0
task_written name (EditIfChanged file (Dec key by)) is = absurd is.0
task_written name (EditLines file) is = plain_written _ _ edit_lines_plain name (file.now ∷ []) _ is.1 (refl, refl)
task_written name (Get file path) is =
    named get_plan get_takes name (placed file.now ∷ placed path.now ∷ []) _ is.1 refl refl refl
task_written name (GetRaw file path which) is = raw_written name file.now path.now which is.1
task_written name (Show file path) is =
    named show_plan show_takes name (placed file.now ∷ placed path.now ∷ []) _ is.1 refl refl refl
task_written name (ShowPretty file path) is =
    named show_plan show_takes name (alone (codes "--pretty") ∷ placed file.now ∷ placed path.now ∷ []) _ is.1 refl refl refl
task_written name (Dump file path) is =
    plain_written _ _ dump_plain name (file.now ∷ path.now ∷ []) _ is.1 (inl (refl, refl))
task_written name (Compact file) is = plain_written _ _ compact_plain name (file.now ∷ []) _ is.1 (refl, refl)
task_written name (Status file) is = plain_written _ _ status_plain name (file.now ∷ []) _ is.1 (refl, refl)
task_written name (Sync words) is =
    sync_written name words.file.now words.addr.now words.timeout.now (option_map (λ t. t.now) words.token_file) is.1
task_written name (Pair first second) is =
    plain_written _ _ pair_plain name (first.now ∷ second.now ∷ []) _ is.1 (refl, refl)
task_written name (Serve words) is =
    let options = apart (codes "--sessions") words.sessions.now ∷ apart (codes "--timeout") words.timeout.now ∷ [] in
    named serve_plan serve_takes name (placed words.file.now ∷ placed words.addr.now ∷ options) _ is.1 refl refl refl
task_written name (Run words) is =
    run_named words.http.now words.every.now (map (λ p. p.now) words.peers.items) (option_map (λ t. t.now) words.token_file) words.is_open words.log
    name words.file.now is.1
task_written name (Ask file) is = plain_written _ _ ask_plain name (file.now ∷ []) _ is.1 (refl, refl)
task_written name (Answer file) is = plain_written _ _ answer_plain name (file.now ∷ []) _ is.1 (refl, refl)
task_written name (Take file question answer) is =
    plain_written _ _ take_plain name (file.now ∷ question.now ∷ answer.now ∷ []) _ is.1 (refl, refl)
task_written name (Merge file from) is =
    plain_written _ _ merge_plain name (file.now ∷ from.now ∷ []) _ is.1 (refl, refl)
task_written name (Check question answer) is =
    plain_written _ _ check_plain name (question.now ∷ answer.now ∷ []) _ is.1 (refl, refl)
task_written name (Conflicts file path) is =
    plain_written _ _ conflicts_plain name (file.now ∷ path.now ∷ []) _ is.1 (inl (refl, refl))
task_written name (Diff file other) is =
    plain_written _ _ diff_plain name (file.now ∷ other.now ∷ []) _ is.1 (refl, refl)
task_written name (Watch words) is =
    watch_written name words.node.now words.path.now (option_map (λ t. t.now) words.token_file) is.1
