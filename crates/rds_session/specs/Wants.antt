-- What a replica wants of another one whose digest it has, said as a digest.
use Rattle.std.specs.FinSet as set
use Rattle.std.specs.Prelude.{if◌then◌else◌}
use Rattle.rds_dots.specs.Dots.{Dots}
use Rattle.rds_delta.specs.Digested.{DigestValue}
use Rattle.rds_session.specs.Versions.{says_briefs}
use Rattle.rds_session.specs.declared.version.Version.{Version}

-- its live dots that are dead in the other
abbrev pub dead_there : DigestValue → DigestValue → Dots
dead_there own peer = set.intersection (set.difference own.live peer.live) peer.seen

-- the dots that are further on in the other: those that it lacks, and as live ones those of its own that are dead there;
-- and all of its own counters
abbrev pub wants_of : DigestValue → DigestValue → DigestValue
wants_of own peer =
    let dead = dead_there own peer in
    record { seen = set.union (set.difference peer.seen own.seen) dead; live = dead; counts = own.counts }

-- what has been seen of these dots and counters by one that wants so, and of all others what has been seen here
abbrev pub wanted_by : DigestValue → DigestValue → DigestValue
wanted_by own wants =
    let lacked = set.difference wants.seen wants.live in
    record {
      seen = set.union (set.difference own.seen lacked) wants.live;
      live = set.union (set.difference own.live lacked) wants.live;
      counts = wants.counts;
    }

-- how a digest is said to one whose own is known: as what is wanted of that, in a version of briefs, or as it is
abbrev pub said_behind : Version → DigestValue → DigestValue → DigestValue
said_behind version own peer = if says_briefs version then wants_of own peer else own

-- and what one that has said its own takes that for
abbrev pub heard_behind : Version → DigestValue → DigestValue → DigestValue
heard_behind version own said = if says_briefs version then wanted_by own said else said
