use Rattle.rds_state_rows.proofs.views.+view_text.Given as goal

abbrev pub decreases-view_text : goal.decreases-view_text
decreases-view_text l = l.depth
