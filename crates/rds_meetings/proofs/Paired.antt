-- The ends of a pair.
use Rattle.std.proofs.Common.{◌≡◌, ◌<◌, ◌-◌, ◌^◌, ◌∙◌, ◌⊎◌, ◌||◌, ◌++◌, ℕ, Bool, List, Option, inl, inr, refl, sym, ap, subst}
use Rattle.std.specs.Prelude.{◌↔◌, IsTrue, Result, Ok, Err, OnOk, OnErr, MatchResult}
use Rattle.std.specs.Io.KnownBytes.{Appends}
use Rattle.rds_names.specs.declared.fault.Fault.{Fault}
use Rattle.rds_names.specs.declared.fault.Fault.TheVariants.{Device, Memory}
use Rattle.rds_keep.specs.Counted.{one_more}
use Rattle.rds_output.proofs.Failing.{failed_by}
use Rattle.rds_state.specs.Fits.{ReplicaValue}
use Rattle.rds_session.specs.declared.step.Ended.{Ended}
use Rattle.rds_session.specs.declared.step.Ended.TheVariants.{Going, Done, Failed}
use Rattle.rds_session.specs.declared.talk.Side.{Side}
use Rattle.rds_session.specs.declared.talk.Side.TheVariants.{Client, Server}
use Rattle.rds_session.specs.declared.version.Version.TheVariants.{Two}
use Rattle.rds_session.specs.Leaving.{Leaves, StandsAs}
use Rattle.rds_session.specs.Received.{Delivery, HasChecked, IsDoneBy}
use Rattle.rds_session.specs.Session.{Nothing, Standing, course}
use Rattle.rds_session.specs.Steps.{Continues, HasStanding, IsOver}
use Rattle.rds_files.specs.Files.{KeptFile, ReplacedValue}
use Rattle.rds_meetings.specs.Forks.{EndForked, fork_text}
use Rattle.rds_meetings.specs.Pairing.{IsPairEnd, TellsEnd, WritesBoth}
use Rattle.rds_meetings.specs.Reports.{report_text, tells_fault, told_status}
use Rattle.rds_meetings.specs.Settling.{Settles}
use Rattle.rds_meetings.specs.declared.settling.Settled.{Settled}

-- a session that has heard nothing is of the replica that it was made for
fresh_kept : (side : Side) (kept : ReplicaValue) (s : Standing) → HasStanding side kept Nothing s → s.kept ≡ kept
unfolding course
fresh_kept side kept s is = ap (λ (s : Standing). s.kept) is

-- the first step
pub begun : (side : Side) (kept : ReplicaValue) (first s : Standing) (ended : Ended) (sent : List ℕ) (input : Option (List ℕ))
    → HasStanding side kept Nothing first → Continues side kept Nothing input s sent → s.kept ≡ first.kept → ended ≡ s.ended → IsPairEnd side kept s ended
begun side kept first s ended sent input is (inl on) same e = record {
  kept_is = same ∙ fresh_kept side kept first is;
  heard = (_, inl on.standing);
  stands = inl e;
}
begun side kept first s ended sent input is (inr out) same e = record {
  kept_is = same ∙ fresh_kept side kept first is;
  heard = (_, inr (record { memory = out.ended; at_most = out.received }));
  stands = inl e;
}

-- one that is left as done stood so
left_done : (s : Standing) (ended last : Ended) (received : Option Delivery) → StandsAs s ended → (last ≡ ended) ⊎ (last ≡ Failed Device) → IsDoneBy s.ended received → IsDoneBy last received
left_done s ended last received stands (inr device) done is = absurd (let bad : Done ≡ Failed Device = sym is ∙ device in cc)
left_done s ended last received (inl same) (inl e) done is = done (sym same ∙ sym e ∙ is)
left_done s ended last received (inr (inl device)) (inl e) done is = absurd (let bad : Done ≡ Failed Device = sym is ∙ e ∙ device in cc)
left_done s ended last received (inr (inr memory)) (inl e) done is = absurd (let bad : Done ≡ Failed Memory = sym is ∙ e ∙ memory in cc)

left_stands : (s : Standing) (ended last : Ended) → StandsAs s ended → (last ≡ ended) ⊎ (last ≡ Failed Device) → StandsAs s last
left_stands s ended last stands (inl e) = rw e stands
left_stands s ended last stands (inr device) = inr (inl device)

-- how an end stands at last: one that goes on has failed, and one that is over stands as it did
pub at_last : (ended last : Ended) → (IsOver ended → last ≡ ended) → (ended ≡ Going → last ≡ Failed Device) → IsOver last × ((last ≡ ended) ⊎ (last ≡ Failed Device))
at_last Going last over going = (subst IsOver (sym (going refl)) tt, inr (going refl))
at_last Done last over going = (subst IsOver (sym (over tt)) tt, inl (over tt))
at_last (Failed fault) last over going = (subst IsOver (sym (over tt)) tt, inl (over tt))

-- an end that is left
pub left : (side : Side) (kept : ReplicaValue) (s : Standing) (ended last : Ended) (received : Option Delivery)
    → IsPairEnd side kept s ended → received ≡ s.received → HasChecked s.kept received → IsDoneBy s.ended received → IsOver last → (last ≡ ended) ⊎ (last ≡ Failed Device) → Leaves side kept received last
left side kept s ended last received is same checked done over e = record {
  checked = subst (λ (k : ReplicaValue). HasChecked k received) is.kept_is checked;
  done = left_done s ended last received is.stands e done;
  over = over;
  session = record { session = s; heard = is.heard; is_received = same; stands = left_stands s ended last is.stands e };
}

-- an end was settled, and is reported
pub told_of : (side : Side) (file : KeptFile) (received : Option Delivery) (ended : Ended) (settled : Settled) (taken : Option ReplacedValue)
    → Leaves side file.kept received ended → Settles file.path file.kept received settled taken → TellsEnd side file (report_text settled ended) (tells_fault settled ended) taken
told_of side file received ended settled taken leaves settles =
    record { received = received; ended = ended; leaves = leaves; settled = settled; settles = settles; text_is = refl; told_is = refl }

module _ (client server : KeptFile) (before after : Option (List ℕ)) (first second : List ℕ) (first_told second_told : Bool) (first_taken second_taken : Option ReplacedValue) (forked : Bool)
    (one : TellsEnd (Client Two) client first first_told first_taken) (two : TellsEnd Server server second second_told second_taken) (fork : IsTrue forked ↔ EndForked first_taken second_taken) where
  -- both ends were told of
  told_both : (status : ℕ) → Appends before after (first ++ second ++ fork_text forked) → status ≡ told_status (first_told || second_told || forked) → WritesBoth client server before after status
  told_both status wrote e = record {
    first = first;
    first_told = first_told;
    first_taken = first_taken;
    tells_first = one;
    second = second;
    second_told = second_told;
    second_taken = second_taken;
    tells_second = two;
    forked = forked;
    forked_is = fork;
    written = wrote;
    status_is = e;
  }

  -- both ends were told of, where no write failed
  pub both_written : (old new due status : ℕ) (written : Result (Unit {0}) Fault)
      → OnOk written (Appends before after (first ++ second ++ fork_text forked)) → OnErr written (new ≡ one_more old) → due ≡ told_status (first_told || second_told || forked)
      → MatchResult written (λ _. status ≡ due) (λ _. status ≡ 1) → ((old < new) ⊎ (new ≡ 2 ^ 64 - 1) → ⊥) → WritesBoth client server before after status
  both_written old new due status (Ok u) wrote counted e s = λ steady. told_both status wrote (s ∙ e)
  both_written old new due status (Err fault) wrote counted e s = λ steady. absurd (steady (failed_by old old new refl counted))
