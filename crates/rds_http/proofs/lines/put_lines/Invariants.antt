use Rattle.std.proofs.Common.{◌≡◌, ◌*◌, ◌≤◌, ◌++◌, drop, length, true}
use Rattle.std.specs.List.{list_all}
use Rattle.rds_lines.specs.Editing.{replies_text}
use Rattle.rds_http.specs.Lines.{is_short}
use Rattle.rds_http.specs.declared.lines.TheConstants.{LONGEST}
use Rattle.rds_http.proofs.lines.put_lines.Given as goal

-- the lines so far, with those of the replies that are left, for which there is room
abbrev pub invariant-loop-reply : goal.invariant-loop-reply
invariant-loop-reply l = record {
  lines : l.body.items ++ replies_text (drop l.reply-index l.replies) ≡ l.initial.body.items ++ replies_text l.replies;
  room : LONGEST * length (drop l.reply-index l.replies) ≤ l.body.spare;
  short : list_all is_short (drop l.reply-index l.replies) ≡ true;
}
