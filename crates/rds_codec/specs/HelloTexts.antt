-- The text of a hello, how it is read, and which hellos have one.
use Rattle.std.specs.Prelude.{◌≡◌, ℕ, Bool, true, ◌==◌, ◌||◌, if◌then◌else◌, List, ◌++◌, Option, Some, None}
use Rattle.rds_names.specs.Roster.{RosterValue}
use Rattle.rds_codec.specs.declared.hellos.Hello.{Hello}
use Rattle.rds_codec.specs.declared.formats.Format.{Format}
use Rattle.rds_codec.specs.declared.formats.Format.TheVariants.{One, Two}
use Rattle.rds_codec.specs.Kinds.{Kind}
use Rattle.rds_bytes.specs.Reading.{Reader, pair_at, made_at, when_at, byte_at, member_at}
use Rattle.rds_bytes.specs.Spelling.{byte_text, member_text}
use Rattle.rds_bytes.specs.Values.{IsMember}

-- the version, the roster, and the own number
unfoldable pub hello_text : Hello → List ℕ
hello_text h = byte_text h.version ++ member_text h.roster h.own

-- the version whose texts are of a format
abbrev pub version_of : Format → ℕ
version_of One = 1
version_of Two = 2

-- the format that the texts of a version are of
abbrev pub format_spoken : ℕ → Option Format
format_spoken b = if b == 1 then Some One else (if b == 2 then Some Two else None)

abbrev pub is_version : ℕ → Bool
is_version b = b == 1 || b == 2

unfoldable pub version_at : Reader ℕ
version_at = when_at is_version byte_at

abbrev pub HelloParts : Type 0
HelloParts = ℕ × (RosterValue × ℕ)

abbrev pub hello_by : HelloParts → Hello
hello_by p = record { version = p.0; roster = p.1.0; own = p.1.1 }

unfoldable pub hello_at : Reader Hello
hello_at = made_at hello_by (pair_at version_at member_at)

-- the version is one that is spoken, and the replica is one of the roster
pub record IsHello (h : Hello) : Type 0 where
  pub version : is_version h.version ≡ true
  pub member : IsMember h.roster h.own

abbrev pub hello_kind : Kind Hello
hello_kind = record { is_value = IsHello; text = hello_text }
