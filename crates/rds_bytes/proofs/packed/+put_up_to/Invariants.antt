use Rattle.rds_bytes.proofs.packed.+put_up_to.Given as goal

abbrev pub decreases-put_up_to : goal.decreases-put_up_to
decreases-put_up_to l = l.more
