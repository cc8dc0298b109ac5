use Rattle.rds_bytes.proofs.packed.+length_up_to.Given as goal

abbrev pub decreases-length_up_to : goal.decreases-length_up_to
decreases-length_up_to l = l.more
