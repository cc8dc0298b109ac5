use Rattle.std.proofs.Common.{inl, inr}
use Rattle.rds_meetings.specs.Pairing.{file_of}
use Rattle.rds_meetings.proofs.pairing.pair_files.Goals as goal

pub returns-in-Ok-connect-clause-written : goal.returns-in-Ok-connect-clause-written
returns-in-Ok-connect-clause-written g c = λ wrote. inr (record {
  client = file_of c.in-Ok.file;
  client_read = c.in-Ok.ensures.read;
  server = file_of c.in-Ok-open_other.file;
  server_read = c.in-Ok-open_other.ensures.read;
  both = c.pair.ensures.written wrote;
})

pub returns-in-Err-connect-clause-written : goal.returns-in-Err-connect-clause-written
returns-in-Err-connect-clause-written g c = λ wrote. inl (record { fault = c.in-Err-connect.fault; due = inl c.in-Err-connect.ensures.fault; written = c.give_up-in-Err-connect.ensures.written wrote })

pub returns-in-Err-open_other-clause-written : goal.returns-in-Err-open_other-clause-written
returns-in-Err-open_other-clause-written g c = λ wrote. inl (record { fault = c.in-Err-open_other.fault; due = c.in-Err-open_other.ensures.fault; written = c.give_up-in-Err-open_other.ensures.written wrote })
