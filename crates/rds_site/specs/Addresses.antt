-- Where a site may stand.
use Rattle.std.specs.Prelude.{◌⊎◌, Bool, IsTrue, is_some}
use Rattle.std.specs.declared.net.socket_addr.SocketAddr.{SocketAddr}
use Rattle.std.specs.Net.Addr.{IsLoopbackV4, IsLoopbackV6, MatchIp}
use Rattle.std.specs.Net.Grammar.{IsSocketText}
use Rattle.std.specs.Net.Socket.{socket_ip}
use Rattle.rds_site.specs.declared.words.SiteWords.{SiteWords}

-- only this machine reaches the address
abbrev pub IsLoopback : SocketAddr → Type 0
IsLoopback address = MatchIp (socket_ip address) IsLoopbackV4 IsLoopbackV6

-- others may come only with a token, or where the site is open
abbrev pub MayStand : SocketAddr → Bool → Bool → Type 0
MayStand address has_token is_open = IsLoopback address ⊎ IsTrue has_token ⊎ IsTrue is_open

-- the words spell an address where a site may stand
pub record NamesPlace (words : SiteWords) : Type 0 where
  pub address : SocketAddr
  pub spelled : IsSocketText words.http.now address
  pub allowed : MayStand address (is_some words.token_file) words.is_open
