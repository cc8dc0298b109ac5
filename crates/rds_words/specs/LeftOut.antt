-- Words of commands that leave some out, and stand by themselves or with an option behind them.
use Rattle.std.specs.Prelude.{[], ◌∷◌, ◌++◌, codes}
use Rattle.clap.specs.Words.{Text}
use Rattle.rds_words.specs.Entered.{Names}
use Rattle.rds_words.specs.Written.{AreData}

-- a path that `show` lacks is the root; its option stands before the words or behind them
pub record ShowMayLackWords : Type 0 where
  pub root_shown : (name file : Text) → AreData (file ∷ [])
      → Names (name ∷ codes "show" ∷ file ∷ []) (codes "show" ∷ file ∷ [] ∷ [])
  pub pretty_root : (name file : Text) → AreData (file ∷ [])
      → Names (name ∷ codes "show" ∷ codes "--pretty" ∷ file ∷ []) (codes "show" ∷ file ∷ [] ∷ codes "--pretty" ∷ [])
  pub pretty_root_dashed : (name file : Text)
      → Names (name ∷ codes "show" ∷ codes "--pretty" ∷ codes "--" ∷ file ∷ [])
      (codes "show" ∷ file ∷ [] ∷ codes "--pretty" ∷ [])
  pub pretty_behind : (name file path : Text) → AreData (file ∷ path ∷ [])
      → Names (name ∷ codes "show" ∷ file ∷ path ∷ codes "--pretty" ∷ [])
      (codes "show" ∷ file ∷ path ∷ codes "--pretty" ∷ [])
  pub pretty_root_behind : (name file : Text) → AreData (file ∷ [])
      → Names (name ∷ codes "show" ∷ file ∷ codes "--pretty" ∷ []) (codes "show" ∷ file ∷ [] ∷ codes "--pretty" ∷ [])

-- `serve` has one session where it isn't told how many, and gives a silent peer 60 seconds where it isn't told how long
pub record ServeMayLackWords : Type 0 where
  pub one_session : (name file addr : Text) → AreData (file ∷ addr ∷ [])
      → Names (name ∷ codes "serve" ∷ file ∷ addr ∷ []) (codes "serve" ∷ file ∷ addr ∷ codes "1" ∷ codes "60" ∷ [])
  pub sessions_alone : (name file addr sessions : Text) → AreData (file ∷ addr ∷ sessions ∷ [])
      → Names (name ∷ codes "serve" ∷ file ∷ addr ∷ codes "--sessions" ∷ sessions ∷ [])
      (codes "serve" ∷ file ∷ addr ∷ sessions ∷ codes "60" ∷ [])
  pub sessions_alone_dashed : (name file addr sessions : Text)
      → Names (name ∷ codes "serve" ∷ (codes "--sessions=" ++ sessions) ∷ codes "--" ∷ file ∷ addr ∷ [])
      (codes "serve" ∷ file ∷ addr ∷ sessions ∷ codes "60" ∷ [])
  pub timeout_alone : (name file addr timeout : Text) → AreData (file ∷ addr ∷ timeout ∷ [])
      → Names (name ∷ codes "serve" ∷ file ∷ addr ∷ codes "--timeout" ∷ timeout ∷ [])
      (codes "serve" ∷ file ∷ addr ∷ codes "1" ∷ timeout ∷ [])
  pub timeout_alone_dashed : (name file addr timeout : Text)
      → Names (name ∷ codes "serve" ∷ (codes "--timeout=" ++ timeout) ∷ codes "--" ∷ file ∷ addr ∷ [])
      (codes "serve" ∷ file ∷ addr ∷ codes "1" ∷ timeout ∷ [])

-- `sync` likewise
pub record SyncMayLackWords : Type 0 where
  pub alone : (name file addr : Text) → AreData (file ∷ addr ∷ [])
      → Names (name ∷ codes "sync" ∷ file ∷ addr ∷ []) (codes "sync" ∷ file ∷ addr ∷ codes "60" ∷ [])
  pub alone_dashed : (name file addr : Text)
      → Names (name ∷ codes "sync" ∷ codes "--" ∷ file ∷ addr ∷ []) (codes "sync" ∷ file ∷ addr ∷ codes "60" ∷ [])
  pub token_alone : (name file addr token : Text) → AreData (file ∷ addr ∷ token ∷ [])
      → Names (name ∷ codes "sync" ∷ file ∷ addr ∷ codes "--token-file" ∷ token ∷ [])
      (codes "sync" ∷ file ∷ addr ∷ codes "60" ∷ (codes "--token-file=" ++ token) ∷ [])

-- a path that `watch` lacks is the root
pub record WatchMayLackWords : Type 0 where
  pub alone : (name node : Text) → AreData (node ∷ [])
      → Names (name ∷ codes "watch" ∷ node ∷ []) (codes "watch" ∷ node ∷ [] ∷ [])
  pub alone_dashed : (name node : Text)
      → Names (name ∷ codes "watch" ∷ codes "--" ∷ node ∷ []) (codes "watch" ∷ node ∷ [] ∷ [])
  pub token_alone : (name node token : Text) → AreData (node ∷ token ∷ [])
      → Names (name ∷ codes "watch" ∷ node ∷ codes "--token-file" ∷ token ∷ [])
      (codes "watch" ∷ node ∷ [] ∷ (codes "--token-file=" ++ token) ∷ [])
  pub token_behind : (name node path token : Text) → AreData (node ∷ path ∷ token ∷ [])
      → Names (name ∷ codes "watch" ∷ node ∷ path ∷ codes "--token-file" ∷ token ∷ [])
      (codes "watch" ∷ node ∷ path ∷ (codes "--token-file=" ++ token) ∷ [])

-- `run` serves at 127.0.0.1:7780 where it isn't told where, and meets its peers again after 10 seconds where it isn't
-- told how long
pub record RunMayLackWords : Type 0 where
  pub alone : (name file : Text) → AreData (file ∷ [])
      → Names (name ∷ codes "run" ∷ file ∷ []) (codes "run" ∷ file ∷ codes "127.0.0.1:7780" ∷ codes "10" ∷ [])
  pub alone_dashed : (name file : Text)
      → Names (name ∷ codes "run" ∷ codes "--" ∷ file ∷ [])
      (codes "run" ∷ file ∷ codes "127.0.0.1:7780" ∷ codes "10" ∷ [])
  pub peer_alone : (name file peer : Text) → AreData (file ∷ peer ∷ [])
      → Names (name ∷ codes "run" ∷ file ∷ codes "--peer" ∷ peer ∷ [])
      (codes "run" ∷ file ∷ codes "127.0.0.1:7780" ∷ codes "10" ∷ (codes "--peer=" ++ peer) ∷ [])
  pub every_alone : (name file every : Text) → AreData (file ∷ every ∷ [])
      → Names (name ∷ codes "run" ∷ file ∷ codes "--every" ∷ every ∷ [])
      (codes "run" ∷ file ∷ codes "127.0.0.1:7780" ∷ every ∷ [])
  pub open_alone : (name file : Text) → AreData (file ∷ [])
      → Names (name ∷ codes "run" ∷ file ∷ codes "--open" ∷ [])
      (codes "run" ∷ file ∷ codes "127.0.0.1:7780" ∷ codes "10" ∷ codes "--open" ∷ [])
  pub log_alone : (name file : Text) → AreData (file ∷ [])
      → Names (name ∷ codes "run" ∷ file ∷ codes "--log" ∷ [])
      (codes "run" ∷ file ∷ codes "127.0.0.1:7780" ∷ codes "10" ∷ codes "--log" ∷ [])
  pub token_alone : (name file token : Text) → AreData (file ∷ token ∷ [])
      → Names (name ∷ codes "run" ∷ file ∷ codes "--token-file" ∷ token ∷ [])
      (codes "run" ∷ file ∷ codes "127.0.0.1:7780" ∷ codes "10" ∷ (codes "--token-file=" ++ token) ∷ [])
