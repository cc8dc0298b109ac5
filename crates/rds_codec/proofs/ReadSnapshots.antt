-- An opening and a state in its format that were read are a replica.
use Rattle.std.proofs.Common.{◌≡◌, ℕ, List, length, Result, Ok, Err, refl, ap}
use Rattle.rds_names.specs.declared.fault.Fault.{Fault}
use Rattle.rds_state.specs.Value.{StateValue}
use Rattle.rds_state.specs.Fits.{IsReplica}
use Rattle.rds_bytes.specs.Reading.{◌>>=◌, member_at}
use Rattle.rds_codec.specs.FormatTexts.{Snapshot, format_at, state_at_in, member_state_at, snapshot_of, snapshot_in_at}
use Rattle.rds_codec.specs.declared.formats.Format.{Format}
use Rattle.rds_feeds.specs.Chained.{chain}
use Rattle.rds_feeds.specs.Parts.{makes}
use Rattle.rds_codec.specs.Openings.{Member, Opening, opening_as_it_is, state_after_opening, replica_by, snapshot_of_parts}
use Rattle.rds_codec.proofs.ReplicaTests.{made_replica}
use Rattle.rds_codec.proofs.ReadWithin.{own_is_below, state_in_fits}

-- as they are read one after the other
abbrev with_member : Format → Member × List ℕ → Result (Opening × List ℕ) Fault
with_member f m = Ok ((f, m.0), m.1)

abbrev then_member : Format × List ℕ → Result (Opening × List ℕ) Fault
then_member f = member_at f.1 >>= with_member f.0

abbrev as_it_is : Opening × List ℕ → Result (Opening × List ℕ) Fault
as_it_is o = Ok (o.0, o.1)

abbrev with_state : Opening → StateValue × List ℕ → Result ((Opening × StateValue) × List ℕ) Fault
with_state o s = Ok ((o, s.0), s.1)

abbrev then_state : Opening × List ℕ → Result ((Opening × StateValue) × List ℕ) Fault
then_state o = state_after_opening o.0 o.1

abbrev snapshot_made : (Opening × StateValue) × List ℕ → Result (Snapshot × List ℕ) Fault
snapshot_made p = snapshot_of_parts p.0 >>= λ w. Ok (w, p.1)

-- as a text has them
abbrev state_beside : Member → StateValue × List ℕ → Result ((Member × StateValue) × List ℕ) Fault
state_beside m s = Ok ((m, s.0), s.1)

abbrev state_then : Format → Member × List ℕ → Result ((Member × StateValue) × List ℕ) Fault
state_then f m = state_at_in f (length m.0.0.names) m.1 >>= state_beside m.0

abbrev format_beside : Format → (Member × StateValue) × List ℕ → Result ((Format × (Member × StateValue)) × List ℕ) Fault
format_beside f p = Ok ((f, p.0), p.1)

abbrev format_then : Format × List ℕ → Result ((Format × (Member × StateValue)) × List ℕ) Fault
format_then f = member_state_at f.0 f.1 >>= format_beside f.0

abbrev by_parts : (Format × (Member × StateValue)) × List ℕ → Result (Snapshot × List ℕ) Fault
by_parts p = Ok (snapshot_of p.0, p.1)

after_state : (f : Format) (m : Member) (s : Result (StateValue × List ℕ) Fault) → ((v : StateValue) (rest : List ℕ) → s ≡ Ok (v, rest) → IsReplica (replica_by ((f, m), v)))
    → ((s >>= with_state (f, m)) >>= snapshot_made) ≡ (((s >>= state_beside m) >>= format_beside f) >>= by_parts)
after_state f m (Ok s) is = ap (λ (r : Result Snapshot Fault). r >>= λ w. Ok (w, s.1)) (made_replica ((f, m), s.0) (is s.0 s.1 refl))
after_state f m (Err e) is = refl

after_member : (f : Format) (bytes : List ℕ) (m : Result (Member × List ℕ) Fault) → member_at bytes ≡ m
    → ((((m >>= with_member f) >>= as_it_is) >>= then_state) >>= snapshot_made) ≡ (((m >>= state_then f) >>= format_beside f) >>= by_parts)
after_member f bytes (Ok m) is =
    after_state f m.0 (state_at_in f (length m.0.0.names) m.1)
    (λ v rest e. record { own = own_is_below bytes m.0 m.1 is; fits = state_in_fits (length m.0.0.names) f m.1 v rest e })
after_member f bytes (Err e) is = refl

after_format : (f : Result (Format × List ℕ) Fault) → ((((f >>= then_member) >>= as_it_is) >>= then_state) >>= snapshot_made) ≡ ((f >>= format_then) >>= by_parts)
unfolding member_state_at
after_format (Ok f) = after_member f.0 f.1 (member_at f.1) refl
after_format (Err e) = refl

pub snapshot_in_read : (bytes : List ℕ) → makes (chain opening_as_it_is state_after_opening) snapshot_of_parts bytes ≡ snapshot_in_at bytes
unfolding snapshot_in_at
snapshot_in_read bytes = after_format (format_at bytes)
