-- The versions of a session.
use Rattle.std.specs.Prelude.{ℕ, ◌==◌, Bool, true, false, List, ◌∷◌, Option, Some, None, if◌then◌else◌}
use Rattle.rds_codec.specs.HelloTexts.{version_of}
use Rattle.rds_codec.specs.declared.formats.Format.{Format}
use Rattle.rds_codec.specs.declared.formats.Format.TheVariants as formats
use Rattle.rds_session.specs.declared.version.Version.{Version}
use Rattle.rds_session.specs.declared.version.Version.TheVariants.{One, Two, Three, Four, Five}

-- the byte by which a HELLO says it
abbrev pub version_byte : Version → ℕ
version_byte One = 1
version_byte Two = 2
version_byte Three = 3
version_byte Four = 4
version_byte Five = 5

-- the version that a byte says
abbrev pub version_said : ℕ → Option Version
version_said b =
    if b == 1 then Some One
    else (if b == 2 then Some Two
    else (if b == 3 then Some Three
    else (if b == 4 then Some Four
    else (if b == 5 then Some Five
    else None))))

-- the format of its deltas
abbrev pub delta_format : Version → Format
delta_format One = formats.One
delta_format Two = formats.Two
delta_format Three = formats.Two
delta_format Four = formats.Two
delta_format Five = formats.Two

-- whether each side tells the mark of what it holds at the end
abbrev pub tells_marks : Version → Bool
tells_marks Three = true
tells_marks Four = true
tells_marks Five = true
tells_marks _ = false

-- whether each side says its digest by a hash, as far as that is enough
abbrev pub says_hashes : Version → Bool
says_hashes Four = true
says_hashes Five = true
says_hashes _ = false

-- whether a digest that is said whole is its brief, and behind another one what is wanted of that
abbrev pub says_briefs : Version → Bool
says_briefs Five = true
says_briefs _ = false

-- a HELLO's body behind its version, as a hello of the version's format
abbrev pub as_hello : Version → List ℕ → List ℕ
as_hello version body = version_of (delta_format version) ∷ body
