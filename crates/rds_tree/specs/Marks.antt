-- How the mark of a state goes with what comes and goes.
use Rattle.std.specs.Prelude.{◌≡◌, ℕ, cond, fold, filter, List, [], ◌∷◌, Option, Some, None}
use Rattle.std.specs.Ordering.{is_eq}
use Rattle.std.specs.FinMap as map
use Rattle.rds_names.specs.declared.entry.Entry.{Entry}
use Rattle.rds_dots.specs.declared.dot.Dot.{Dot}
use Rattle.rds_life.specs.Life.{Lived, entry_of, live_rows}
use Rattle.rds_counts.specs.declared.row.CountRow.{CountRow}
use Rattle.rds_counts.specs.Counted.{AreCountRows, Counted, counts_of}
use Rattle.rds_counts.specs.RowsOf.{count_rows}
use Rattle.rds_counts.specs.Search.{spot_cmp}
use Rattle.rds_state.specs.declared.mark.Mark.{Mark}
use Rattle.rds_state.specs.declared.command.Command.{Command}
use Rattle.rds_state.specs.declared.command.Command.TheVariants.{Inc, Dec}
use Rattle.rds_state.specs.Edit.{covers}
use Rattle.rds_state.specs.Fits.{ReplicaValue}
use Rattle.rds_state.specs.Mark.{count_mark, live_mark, no_mark, plus, plus_live}

-- the marks of live dots, added up
abbrev pub marks_of : List (Dot × Entry) → Mark
marks_of rows = fold plus_live no_mark rows

-- the mark of a dot, where it is live
abbrev pub mark_at : Dot → Option Entry → Mark
mark_at d None = no_mark
mark_at d (Some e) = live_mark d e

-- those of several dots, added up
abbrev pub marks_at : Lived → List Dot → Mark
marks_at v dots = fold (λ m d. plus m (mark_at d (entry_of (map.get v d)))) no_mark dots

-- the mark of the row of a key and a replica, where there is one
abbrev pub mark_in : List ℕ → ℕ → List CountRow → Mark
mark_in key replica [] = no_mark
mark_in key replica (r ∷ rows) = cond (is_eq (spot_cmp key replica r)) (count_mark r) (mark_in key replica rows)

-- those of the keys and replicas of other rows, added up
abbrev pub marks_in : List CountRow → List CountRow → Mark
marks_in rows others = fold (λ m r. plus m (mark_in r.key r.replica rows)) no_mark others

-- what goes where a command is done: the covered dots, or the own row under a counter's key
abbrev pub going : ReplicaValue → Command → Mark
going v (Inc k by) = mark_in k v.own (count_rows v.state.counts)
going v (Dec k by) = mark_in k v.own (count_rows v.state.counts)
going v c = marks_of (filter (λ r. covers c r.1) (live_rows v.state.lives))

-- and what has come once it is done
abbrev pub coming : ReplicaValue → Command → Option Dot → Mark
coming v (Inc k by) dot = mark_in k v.own (count_rows v.state.counts)
coming v (Dec k by) dot = mark_in k v.own (count_rows v.state.counts)
coming v c None = no_mark
coming v c (Some d) = mark_at d (entry_of (map.get v.state.lives d))

-- counters have rows, which say them
pub record HasRows (m : Counted) : Type 0 where
  pub are : AreCountRows (count_rows m)
  pub say : counts_of (count_rows m) ≡ m

-- a mark without the one and with the other
pub record IsMoved (old less more new : Mark) : Type 0 where
  pub rest : Mark
  pub was : plus rest less ≡ old
  pub is : new ≡ plus rest more
