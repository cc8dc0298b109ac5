-- A site.
use Rattle.std.specs.Prelude.{◌≡◌, ℕ, ◌+◌, ◌^◌, ◌-◌, ◌||◌, min, Bool, false, List, refl, if◌then◌else◌}
use Rattle.std.specs.Coded.{Coded, code_by, coded×, coded_bool, coded_list, coded_ℕ}
use Rattle.rds_state.specs.Fits.{ReplicaValue, coded_replica}
use Rattle.rds_store.specs.Files.{OpenValue}
use Rattle.rds_http.specs.Access.{AccessValue, coded_access}

-- a document of the file at a path, what the file holds, whether the document may differ from that, how many times it
-- was kept, whether that is to be told, and who may come
pub record SiteValue : Type 0 where
  pub path : List ℕ
  pub document : ReplicaValue
  pub kept : ReplicaValue
  pub has_changed : Bool
  pub turn : ℕ
  pub has_news : Bool
  pub access : AccessValue

abbrev pub coded_site : Coded SiteValue
coded_site =
    code_by (List ℕ × (ReplicaValue × (ReplicaValue × (Bool × (ℕ × (Bool × AccessValue))))))
    (coded× (coded_list coded_ℕ) (coded× coded_replica (coded× coded_replica (coded× coded_bool
    (coded× coded_ℕ (coded× coded_bool coded_access))))))
    (λ s. (s.path, (s.document, (s.kept, (s.has_changed, (s.turn, (s.has_news, s.access)))))))
    (λ p. record {
      path = p.0;
      document = p.1.0;
      kept = p.1.1.0;
      has_changed = p.1.1.1.0;
      turn = p.1.1.1.1.0;
      has_news = p.1.1.1.1.1.0;
      access = p.1.1.1.1.1.1;
    }) (λ _. refl)

-- the file has what it had
pub record KeepsFile (old new : OpenValue) : Type 0 where
  pub path : new.path ≡ old.path
  pub kept : new.kept ≡ old.kept

-- what wasn't changed is what is kept
abbrev pub ChangesAreNoted : Bool → ReplicaValue → ReplicaValue → Type 0
ChangesAreNoted has_changed document kept = has_changed ≡ false → document ≡ kept

-- a turn more, where something was kept. A full count stays.
abbrev pub turn_after : SiteValue → ℕ
turn_after site = if site.has_changed then min (site.turn + 1) (2 ^ 64 - 1) else site.turn

-- what is kept is the document, and where it changed, that is to be told
abbrev pub after_keep : SiteValue → SiteValue
after_keep site = record site {
  kept = site.document;
  has_changed = false;
  turn = turn_after site;
  has_news = site.has_changed || site.has_news;
}

-- nothing is to be told
abbrev pub after_news : SiteValue → SiteValue
after_news site = record site { has_news = false }
