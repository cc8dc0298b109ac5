use Rattle.rds_listing.proofs.presence.stands.Goals as goal

pub returns-in-Set-clause-exact : goal.returns-in-Set-clause-exact
returns-in-Set-clause-exact g c = rw c.in-Set.is (c.stands_at.ensures.exact)

pub returns-in-Add-clause-exact : goal.returns-in-Add-clause-exact
returns-in-Add-clause-exact g c = rw c.in-Add.is (c.stands_at-in-Add.ensures.exact)
