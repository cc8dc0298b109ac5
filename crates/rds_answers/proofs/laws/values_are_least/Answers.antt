use Rattle.rds_answers.proofs.Checks.{least_coordinates, own_certificate, passes_exactly}
use Rattle.rds_answers.proofs.laws.values_are_least.Goals as goal

pub returns : goal.returns
returns c = record { least = least_coordinates; certificate = own_certificate; passes = passes_exactly }
