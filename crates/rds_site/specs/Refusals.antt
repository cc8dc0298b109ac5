-- What a site answers that doesn't do what it is asked for.
use Rattle.std.specs.Prelude.{◌≡◌, ℕ, Bool, ◌&&◌, List, [], ◌∷◌, Option, None, Some, codes, decimal, option_map}
use Rattle.std.specs.Prelude.{if◌then◌else◌}
use Rattle.http.specs.declared.request.Request.{Request}
use Rattle.http_server.specs.declared.response.Response.{Response}
use Rattle.http_server.specs.Response.{IsResponse}
use Rattle.rds_http.specs.Answers.{Answers, asked_in, may_be_long, may_change}
use Rattle.rds_http.specs.Refusals.{json}
use Rattle.rds_http.specs.Replies.{Tells, type_field}
use Rattle.rds_http.specs.Routes.{is_own_change}
use Rattle.rds_http.specs.Site.{SiteValue}
use Rattle.rds_site.specs.declared.refusals.Refusal.{Refusal}
use Rattle.rds_site.specs.declared.refusals.Refusal.TheVariants.{Behind, Crowded, Stalled}

-- the request is to edit the document, or to put a name in its roster
abbrev pub is_edit : Request (List ℕ) → Bool
is_edit request = is_own_change (asked_in request)

-- the request may change the document
abbrev pub is_change : Request (List ℕ) → Bool
is_change request = may_change (asked_in request)

-- the request changes nothing, and its answer may be long
abbrev pub is_long : Request (List ℕ) → Bool
is_long request = may_be_long (asked_in request)

-- why a request is refused: by whether the file is behind, after how many seconds changes are tried again where it can't
-- be written, and whether many answers are under way
abbrev pub refusal_of : Bool → Option ℕ → Bool → Request (List ℕ) → Option Refusal
refusal_of is_behind stalled is_crowded request =
    if is_behind && is_edit request then Some Behind
    else (if is_change request then option_map Stalled stalled
    else (if is_crowded && is_long request then Some Crowded else None))

-- after how many seconds a request may be tried again
abbrev pub retry_field : ℕ → List ℕ × List ℕ
retry_field seconds = (codes "retry-after", decimal seconds)

-- what is reported
abbrev pub TellsRefusal : Refusal → Response → Type 0
TellsRefusal Behind response =
    Tells 409 json
    (codes "{\"fault\":10,\"name\":\"OwnAhead\",\"text\":\"the file is older than what its replica has sent\"}")
    response
TellsRefusal (Stalled seconds) response =
    IsResponse 507 (type_field json ∷ retry_field seconds ∷ [])
    (codes "{\"fault\":24,\"name\":\"Device\",\"text\":\"reading, writing or another call of the system failed\"}")
    response
TellsRefusal Crowded response =
    IsResponse 503 (type_field json ∷ retry_field 1 ∷ [])
    (codes "{\"status\":503,\"text\":\"too many answers are under way\"}") response

-- a request is answered by the site, or refused, and then the site stays as it is
abbrev pub AnswersOrRefuses : Option Refusal → SiteValue → Request (List ℕ) → Response → SiteValue → Type 0
AnswersOrRefuses (Some refusal) old request response new = (new ≡ old) × TellsRefusal refusal response
AnswersOrRefuses None old request response new = Answers old request response new
