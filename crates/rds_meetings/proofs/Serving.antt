-- Sessions that are told one after the other.
use Rattle.std.proofs.Common.{◌≡◌, ◌<◌, ◌+◌, ℕ, Bool, true, false, ◌||◌, List, Option, refl, sym, ap, ◌∙◌, subst, inl, inr, arith}
use Rattle.std.specs.Io.KnownBytes.{Appends}
use Rattle.std.proofs.KnownBytes.{Appends-nil, Appends-trans}
use Rattle.rds_session.specs.declared.step.Ended.{Ended}
use Rattle.rds_session.specs.declared.talk.Side.{Side}
use Rattle.rds_files.specs.Files.{PathValue}
use Rattle.rds_meetings.specs.Reports.{report_text, tells_fault, told_status}
use Rattle.rds_meetings.specs.Settling.{is_unkept}
use Rattle.rds_meetings.specs.Syncing.{MeetsPeer, Served, served_none, served_more, Serves, none, more, WritesSessionsOf}
use Rattle.rds_meetings.specs.declared.settling.Settled.{Settled}
use Rattle.rds_meetings.specs.declared.settling.Settled.TheVariants.{Nothing, Taken, Refused, Unkept}

-- so many sessions were told, and the file was read so often by now
pub record HasServed (side : Side) (first now_at : PathValue) (count : ℕ) (told : Bool) (before after : Option (List ℕ)) : Type 0 where
  pub served : Served
  pub serves : Serves side first served
  pub is_at : served.at ≡ now_at
  pub is_count : served.count ≡ count
  pub is_told : served.told ≡ told
  pub going : served.stopped ≡ false
  pub written : Appends before after served.text

pub none_served : (side : Side) (first : PathValue) (before : Option (List ℕ)) → HasServed side first first 0 false before before
none_served side first before = record {
  served = served_none first;
  serves = none;
  is_at = refl;
  is_count = refl;
  is_told = refl;
  going = refl;
  written = Appends-nil before;
}

-- one session more
served_then : (side : Side) (first at new : PathValue) (count : ℕ) (told : Bool) (before now after : Option (List ℕ)) (settled : Settled) (ended : Ended) (s : HasServed side first at count told before now) → MeetsPeer side at new settled ended
    → Serves side first (served_more s.served new settled ended)
served_then side first at new count told before now after settled ended s session =
    more s.served new settled ended s.serves s.going (subst (λ (p : PathValue). MeetsPeer side p new settled ended) (sym s.is_at) session)

pub more_served : (side : Side) (first at new : PathValue) (count : ℕ) (told : Bool) (before now after : Option (List ℕ)) (settled : Settled) (ended : Ended) → HasServed side first at count told before now → MeetsPeer side at new settled ended
    → Appends now after (report_text settled ended) → is_unkept settled ≡ false → HasServed side first new (count + 1) (told || tells_fault settled ended) before after
more_served side first at new count told before now after settled ended s session written goes = record {
  served = served_more s.served new settled ended;
  serves = served_then side first at new count told before now after settled ended s session;
  is_at = refl;
  is_count = ap (λ n. n + 1) s.is_count;
  is_told = ap (λ b. b || tells_fault settled ended) s.is_told;
  going = goes;
  written = Appends-trans before now after s.served.text (report_text settled ended) s.written written;
}

-- an unkept file is a fault
or_unkept : (told : Bool) (settled : Settled) (ended : Ended) → is_unkept settled ≡ true → (told || tells_fault settled ended) ≡ true
or_unkept true settled ended is = refl
or_unkept false (Unkept fault) ended is = refl
or_unkept false Nothing ended is = absurd cc
or_unkept false (Taken n) ended is = absurd cc
or_unkept false (Refused fault) ended is = absurd cc

-- the session after which the file isn't kept is the last
pub last_served : (side : Side) (sessions : ℕ) (first at new : PathValue) (count : ℕ) (told : Bool) (before now after : Option (List ℕ)) (settled : Settled) (ended : Ended) → HasServed side first at count told before now → MeetsPeer side at new settled ended
    → Appends now after (report_text settled ended) → is_unkept settled ≡ true → count < sessions → WritesSessionsOf side first new sessions before after 1
last_served side sessions first at new count told before now after settled ended s session written stops less = record {
  served = served_more s.served new settled ended;
  serves = served_then side first at new count told before now after settled ended s session;
  left = refl;
  most = let e = s.is_count in omega arith;
  whole = inr stops;
  written = Appends-trans before now after s.served.text (report_text settled ended) s.written written;
  told = sym (ap told_status (or_unkept s.served.told settled ended stops));
}

pub all_served : (side : Side) (sessions : ℕ) (first at : PathValue) (told : Bool) (before after : Option (List ℕ)) (status : ℕ) → HasServed side first at sessions told before after → status ≡ told_status told → WritesSessionsOf side first at sessions before after status
all_served side sessions first at told before after status s is = record {
  served = s.served;
  serves = s.serves;
  left = s.is_at;
  most = let e = s.is_count in omega arith;
  whole = inl s.is_count;
  written = s.written;
  told = is ∙ sym (ap told_status s.is_told);
}
