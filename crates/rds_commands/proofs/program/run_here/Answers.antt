use Rattle.rds_commands.proofs.program.run_here.Goals as goal

pub returns-in-Join-clause-join : goal.returns-in-Join-clause-join
returns-in-Join-clause-join g c = λ is. c.run_join.ensures.ran

pub returns-in-Sim-clause-sim : goal.returns-in-Sim-clause-sim
returns-in-Sim-clause-sim g c = λ is. c.run_sim.ensures.ran

pub returns-in-Init-clause-written : goal.returns-in-Init-clause-written
returns-in-Init-clause-written g c = rw c.in-Init.is c.run_init.ensures.written

pub returns-in-InitFrom-clause-written : goal.returns-in-InitFrom-clause-written
returns-in-InitFrom-clause-written g c = rw c.in-InitFrom.is c.run_init_from.ensures.written

pub returns-in-Grow-clause-written : goal.returns-in-Grow-clause-written
returns-in-Grow-clause-written g c = rw c.in-Grow.is c.run_grow.ensures.written

pub returns-in-Edit-clause-written : goal.returns-in-Edit-clause-written
returns-in-Edit-clause-written g c = rw c.in-Edit.is c.run_edit.ensures.written

pub returns-in-EditIfChanged-clause-written : goal.returns-in-EditIfChanged-clause-written
returns-in-EditIfChanged-clause-written g c = rw c.in-EditIfChanged.is c.run_edit_if_changed.ensures.written

pub returns-in-EditLines-clause-written : goal.returns-in-EditLines-clause-written
returns-in-EditLines-clause-written g c = rw c.in-EditLines.is c.run_edit_lines.ensures.written

pub returns-in-Get-clause-written : goal.returns-in-Get-clause-written
returns-in-Get-clause-written g c = rw c.in-Get.is c.run_get.ensures.written

pub returns-in-GetRaw-clause-written : goal.returns-in-GetRaw-clause-written
returns-in-GetRaw-clause-written g c = rw (c.in-GetRaw.is, ← c.wanted_of.ensures) c.run_raw.ensures.written

pub returns-in-Show-clause-written : goal.returns-in-Show-clause-written
returns-in-Show-clause-written g c = rw c.in-Show.is c.run_show.ensures.written

pub returns-in-ShowPretty-clause-written : goal.returns-in-ShowPretty-clause-written
returns-in-ShowPretty-clause-written g c = rw c.in-ShowPretty.is c.run_show-in-ShowPretty.ensures.written

pub returns-in-Status-clause-written : goal.returns-in-Status-clause-written
returns-in-Status-clause-written g c = rw c.in-Status.is c.run_status.ensures.written

pub returns-in-Dump-clause-written : goal.returns-in-Dump-clause-written
returns-in-Dump-clause-written g c = rw c.in-Dump.is c.run_dump.ensures.written

pub returns-in-Compact-clause-written : goal.returns-in-Compact-clause-written
returns-in-Compact-clause-written g c = rw c.in-Compact.is c.run_compact.ensures.written

pub returns-in-Conflicts-clause-written : goal.returns-in-Conflicts-clause-written
returns-in-Conflicts-clause-written g c = rw c.in-Conflicts.is c.run_conflicts.ensures.written

pub returns-in-Serve-clause-written : goal.returns-in-Serve-clause-written
returns-in-Serve-clause-written g c = rw c.in-Serve.is c.run_serve.ensures.written

pub returns-in-Run-clause-written : goal.returns-in-Run-clause-written
returns-in-Run-clause-written g c = rw c.in-Run.is (λ wrote. (c.run_site.result, c.write_fault.ensures.written wrote))

pub returns-in-Sync-clause-written : goal.returns-in-Sync-clause-written
returns-in-Sync-clause-written g c = rw c.in-Sync.is c.run_sync.ensures.written

pub returns-in-Pair-clause-written : goal.returns-in-Pair-clause-written
returns-in-Pair-clause-written g c = rw c.in-Pair.is c.run_pair.ensures.written

pub returns-in-Ask-clause-written : goal.returns-in-Ask-clause-written
returns-in-Ask-clause-written g c = rw c.in-Ask.is c.run_ask.ensures.written

pub returns-in-Answer-clause-written : goal.returns-in-Answer-clause-written
returns-in-Answer-clause-written g c = rw c.in-Answer.is c.run_answer.ensures.written

pub returns-in-Take-clause-written : goal.returns-in-Take-clause-written
returns-in-Take-clause-written g c = rw (c.in-Take.is, ← c.new.ensures.file, ← c.new.ensures.question, ← c.new.ensures.answer) c.run_take.ensures.written

pub returns-in-Merge-clause-written : goal.returns-in-Merge-clause-written
returns-in-Merge-clause-written g c = rw c.in-Merge.is c.run_merge.ensures.written

pub returns-in-Check-clause-written : goal.returns-in-Check-clause-written
returns-in-Check-clause-written g c = rw c.in-Check.is c.run_check.ensures.written

pub returns-in-Diff-clause-written : goal.returns-in-Diff-clause-written
returns-in-Diff-clause-written g c = rw c.in-Diff.is c.run_diff.ensures.written

pub returns-in-Files-clause-written : goal.returns-in-Files-clause-written
returns-in-Files-clause-written g c = rw c.in-Files.is c.run_text.ensures.written

pub returns-in-Faults-clause-written : goal.returns-in-Faults-clause-written
returns-in-Faults-clause-written g c = rw c.in-Faults.is c.run_text-in-Faults.ensures.written

pub returns-in-Watch-clause-written : goal.returns-in-Watch-clause-written
returns-in-Watch-clause-written g c = rw c.in-Watch.is c.run_watch.ensures.written
