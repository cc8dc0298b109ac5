-- What a site answers a request, and what becomes of it by that.
use Rattle.std.specs.Prelude.{◌⊎◌, ◌≡◌, ◌≢◌, ℕ, Bool, true, false, not, ◌&&◌, List, Option, None, Some}
use Rattle.http.specs.Request.{body_of, head_of}
use Rattle.http.specs.declared.request.Request.{Request}
use Rattle.http_server.specs.declared.response.Response.{Response}
use Rattle.http_header.specs.FieldValue.{FieldValue}
use Rattle.http_header.specs.HeaderMap.{Entries}
use Rattle.http_uri.specs.Uri.{uri_path}
use Rattle.rds_state.specs.Value.{StateValue}
use Rattle.rds_http.specs.Access.{denial}
use Rattle.rds_http.specs.Changes.{AnswersEdits, AnswersGrowth, AnswersPull, AnswersPush, AnswersQuestion, AnswersTake}
use Rattle.rds_http.specs.Changes.{AnswersPut}
use Rattle.rds_http.specs.Handshakes.{AnswersHandshake, headers_of}
use Rattle.rds_http.specs.Login.{AnswersLogin}
use Rattle.rds_http.specs.Looks.{AnswersLook, IsValueAt, TellsNoPlace}
use Rattle.rds_http.specs.Refusals.{IsDenied, IsNotAllowed, IsUnknown, IsUnmet, IsUnmetAt}
use Rattle.rds_http.specs.Routes.{asked_of, place_of}
use Rattle.rds_http.specs.Site.{SiteValue}
use Rattle.rds_http.specs.Tags.{always, is_met, standing, state_tag}
use Rattle.rds_http.specs.declared.access.Denied.{Denied}
use Rattle.rds_http.specs.declared.routes.Asked.{Asked}
use Rattle.rds_http.specs.declared.routes.Asked.TheVariants as Ask
use Rattle.rds_http.specs.declared.routes.Change.{Change}
use Rattle.rds_http.specs.declared.routes.Change.TheVariants as Changed
use Rattle.rds_http.specs.declared.routes.Look.{Look}
use Rattle.rds_http.specs.declared.routes.Look.TheVariants as Shown
use Rattle.rds_http.specs.declared.routes.Post.{Post}
use Rattle.rds_http.specs.declared.routes.Post.TheVariants.{Edits, Grow, Answer, Take, Push, Pull, Login}

-- what a request asks for, and the place that it names
abbrev pub asked_in : Request (List ℕ) → Asked
asked_in request = asked_of (head_of request).method (uri_path (head_of request).uri)

abbrev pub asked_place : Request (List ℕ) → List ℕ
asked_place request = place_of (uri_path (head_of request).uri)

-- what may change the document
abbrev pub is_changing : Post → Bool
is_changing Edits = true
is_changing Grow = true
is_changing Take = true
is_changing Push = true
is_changing Answer = false
is_changing Pull = false
is_changing Login = false

abbrev pub may_change : Asked → Bool
may_change (Ask.Post post) = is_changing post
may_change (Ask.Change change) = true
may_change _ = false

-- what shows or brings as much as there is in the document
abbrev pub is_long_look : Look → Bool
is_long_look Shown.View = true
is_long_look Shown.Here = true
is_long_look Shown.Conflicts = true
is_long_look Shown.Snapshot = true
is_long_look _ = false

abbrev pub is_long_post : Post → Bool
is_long_post Answer = true
is_long_post Pull = true
is_long_post _ = false

-- what may have a long answer, and changes nothing
abbrev pub may_be_long : Asked → Bool
may_be_long (Ask.Look look) = is_long_look look
may_be_long (Ask.Post post) = is_long_post post
may_be_long _ = false

-- what is kept stays, and so does all but the document
pub record KeepsRest (old new : SiteValue) : Type 0 where
  pub path : new.path ≡ old.path
  pub kept : new.kept ≡ old.kept
  pub turn : new.turn ≡ old.turn
  pub has_news : new.has_news ≡ old.has_news
  pub access : new.access ≡ old.access

-- what a body that is posted is answered, and what it makes of the document
abbrev pub DoesPost : Post → List ℕ → SiteValue → Response → SiteValue → Type 0
DoesPost Edits body old response new = AnswersEdits body old.document new.document response
DoesPost Grow body old response new = AnswersGrowth body old.document new.document response
DoesPost Take body old response new = AnswersTake body old.document new.document response
DoesPost Push body old response new = AnswersPush body old.document new.document response
DoesPost Answer body old response new = AnswersQuestion body old.document response
DoesPost Pull body old response new = AnswersPull body old.document response
DoesPost Login body old response new = AnswersLogin old.access.port old.access.token body response

-- what is done only where the document has a tag that the request names
abbrev pub is_conditional : Post → Bool
is_conditional Edits = true
is_conditional Grow = true
is_conditional Take = false
is_conditional Push = false
is_conditional Answer = false
is_conditional Pull = false
is_conditional Login = false

-- the request names tags that the document has to have, or not, and it doesn't go with them
abbrev pub is_unmet : Post → Entries FieldValue → StateValue → Bool
is_unmet post headers state = is_conditional post && not (is_met headers (always (state_tag state)))

-- then that is reported, and nothing is done
abbrev pub DoesPostUnless : Bool → Post → List ℕ → SiteValue → Response → SiteValue → Type 0
DoesPostUnless true post body old response new = (new ≡ old) × IsUnmet response
DoesPostUnless false post body old response new = DoesPost post body old response new

-- what a body that is sent for a place is answered, and what it makes of the document
abbrev pub DoesChange : Change → List ℕ → List ℕ → SiteValue → Response → SiteValue → Type 0
DoesChange Changed.Edits place body old response new = DoesPost Edits body old response new
DoesChange Changed.Set place body old response new = AnswersPut place body old.document new.document response

-- that is done where what stands there meets the conditions of the request. Else that is reported, and nothing is done
abbrev pub DoesChangeIf : Bool → Change → List ℕ → List ℕ → SiteValue → Response → SiteValue → Type 0
DoesChangeIf true change place body old response new = DoesChange change place body old response new
DoesChangeIf false change place body old response new = (new ≡ old) × IsUnmetAt response

-- the same by the text that is reported of the place, unless it is none, or memory ran out: then nothing is done
abbrev pub DoesChangeAt : Change → List ℕ → Entries FieldValue → List ℕ → SiteValue → Response → SiteValue → Type 0
DoesChangeAt change place headers body old response new =
    ((text : List ℕ) × IsValueAt old.document.state place text
    × DoesChangeIf (is_met headers (standing text)) change place body old response new)
    ⊎ ((new ≡ old) × TellsNoPlace place response)

-- what a request that is let in is answered, by what it asks for and the place that it names
abbrev pub Does : Asked → List ℕ → SiteValue → Request (List ℕ) → Response → SiteValue → Type 0
Does (Ask.Look look) place old request response new =
    AnswersLook look old.document place (headers_of request) response
Does (Ask.Post post) place old request response new =
    DoesPostUnless (is_unmet post (headers_of request) old.document.state) post (body_of request) old response new
Does (Ask.Change change) place old request response new =
    DoesChangeAt change place (headers_of request) (body_of request) old response new
Does Ask.Live place old request response new = AnswersHandshake (headers_of request) response
Does (Ask.NotAllowed resource) place old request response new = IsNotAllowed resource response
Does Ask.Unknown place old request response new = IsUnknown response

-- who isn't let in is told so
abbrev pub AnswersBy : Option Denied → SiteValue → Request (List ℕ) → Response → SiteValue → Type 0
AnswersBy (Some why) old request response new = IsDenied why response
AnswersBy None old request response new = Does (asked_in request) (asked_place request) old request response new

-- a request was answered
pub record Answers (old : SiteValue) (request : Request (List ℕ)) (response : Response) (new : SiteValue) : Type 0 where
  pub answered : AnswersBy (denial old.access (asked_in request) (headers_of request)) old request response new
  -- what is kept is never changed by a request, nor is anything but the document
  pub rest : KeepsRest old new
  -- only an edit, a growth or a take that is done changes the document
  pub refused : response.status ≢ 200 → new ≡ old
  pub looked : may_change (asked_in request) ≡ false → new ≡ old
  -- and who isn't let in changes nothing
  pub denied : denial old.access (asked_in request) (headers_of request) ≢ None → new ≡ old
