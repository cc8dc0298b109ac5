-- The code of standings.
use Rattle.std.specs.Prelude.{◌≡◌, ℕ, Bool, List, Option, Some, None, refl}
use Rattle.std.specs.Coded.{Coded, code_by, coded×, coded_ℕ, coded_bool, coded_list, coded_option}
use Rattle.rds_names.specs.Roster.{RosterValue}
use Rattle.rds_state.specs.Fits.{ReplicaValue, coded_replica, coded_roster}
use Rattle.rds_state.specs.Value.{coded_state}
use Rattle.rds_state.specs.declared.mark.Mark.{Mark}
use Rattle.rds_delta.specs.Digested.{DigestValue, coded_digest}
use Rattle.rds_session.specs.contracts.chunks.Place as place
use Rattle.rds_session.specs.contracts.step.Ended as ended
use Rattle.rds_session.specs.contracts.version.Version as version
use Rattle.rds_session.specs.declared.chunks.Place.{Place}
use Rattle.rds_session.specs.declared.step.Ended.{Ended}
use Rattle.rds_session.specs.declared.talk.Peer.{Peer}
use Rattle.rds_session.specs.declared.talk.Side.{Side}
use Rattle.rds_session.specs.declared.talk.Side.TheVariants.{Client, Server}
use Rattle.rds_session.specs.declared.version.Version.{Version}
use Rattle.rds_session.specs.Chunks.{Under}
use Rattle.rds_session.specs.Judging.{Awaited, ForHello, ForDigest, ForWhole, ForDelta, ForBye}
use Rattle.rds_session.specs.Received.{Delivery}
use Rattle.rds_session.specs.Session.{Standing}

abbrev coded_peer : Coded Peer
coded_peer =
    code_by (ℕ × (Option RosterValue × Version))
    (coded× coded_ℕ (coded× (coded_option coded_roster) version.the_row.coded))
    (λ p. (p.number, (p.roster, p.version))) (λ q. record { number = q.0; roster = q.1.0; version = q.1.1 }) (λ _. refl)

-- the version of a client
abbrev version_of_side : Side → Option Version
version_of_side (Client version) = Some version
version_of_side Server = None

abbrev side_of : Option Version → Side
side_of (Some version) = Client version
side_of None = Server

abbrev side_back : (s : Side) → side_of (version_of_side s) ≡ s
side_back (Client version) = refl
side_back Server = refl

abbrev coded_side : Coded Side
coded_side = code_by (Option Version) (coded_option version.the_row.coded) version_of_side side_of side_back

abbrev coded_mark : Coded Mark
coded_mark = code_by (ℕ × ℕ) (coded× coded_ℕ coded_ℕ) (λ m. (m.high, m.low)) (λ p. record { high = p.0; low = p.1 }) (λ _. refl)

abbrev coded_delivery : Coded Delivery
coded_delivery = coded× coded_state (coded_option coded_roster)

-- the peer, where it is known, and its digest; else the side that a HELLO comes to; else the own mark, where it is
-- reported. Beside a peer a side says that its digest is waited for whole
abbrev Known : Type 0
Known = Option (Peer × Option DigestValue) × (Option Side × Option Mark)

abbrev known_of : Awaited → Known
known_of (ForHello side) = (None, (Some side, None))
known_of (ForDigest peer) = (Some (peer, None), (None, None))
known_of (ForWhole peer) = (Some (peer, None), (Some Server, None))
known_of (ForDelta peer digest) = (Some (peer, Some digest), (None, None))
known_of (ForBye mark) = (None, (None, mark))

abbrev awaited_of : Known → Awaited
awaited_of (None, (Some side, mark)) = ForHello side
awaited_of (None, (None, mark)) = ForBye mark
awaited_of (Some (peer, None), (None, mark)) = ForDigest peer
awaited_of (Some (peer, None), (Some side, mark)) = ForWhole peer
awaited_of (Some (peer, Some digest), rest) = ForDelta peer digest

abbrev awaited_back : (a : Awaited) → awaited_of (known_of a) ≡ a
awaited_back (ForHello side) = refl
awaited_back (ForDigest peer) = refl
awaited_back (ForWhole peer) = refl
awaited_back (ForDelta peer digest) = refl
awaited_back (ForBye mark) = refl

abbrev coded_awaited : Coded Awaited
coded_awaited =
    code_by Known
    (coded× (coded_option (coded× coded_peer (coded_option coded_digest))) (coded× (coded_option coded_side) (coded_option coded_mark)))
    known_of awaited_of awaited_back

abbrev coded_under : Coded Under
coded_under = code_by (Place × List ℕ) (coded× place.the_row.coded (coded_list coded_ℕ)) (λ u. (u.place, u.held)) (λ p. record { place = p.0; held = p.1 }) (λ _. refl)

abbrev SessionParts : Type 0
SessionParts = (Side × (ReplicaValue × Bool)) × (Awaited × (Option Delivery × (Ended × Under)))

abbrev pub coded_standing : Coded Standing
coded_standing =
    code_by SessionParts (coded× (coded× coded_side (coded× coded_replica coded_bool)) (coded× coded_awaited (coded× (coded_option coded_delivery) (coded× ended.the_row.coded coded_under))))
    (λ s. ((s.side, (s.kept, s.begun)), (s.turn, (s.received, (s.ended, s.under)))))
    (λ p. record { side = p.0.0; kept = p.0.1.0; begun = p.0.1.1; turn = p.1.0; received = p.1.1.0; ended = p.1.1.1.0; under = p.1.1.1.1 })
    (λ _. refl)
