-- What a request is answered that isn't done.
use Rattle.std.specs.Prelude.{ℕ, List, [], ◌∷◌, ◌++◌, codes, decimal, if◌then◌else◌}
use Rattle.http_server.specs.declared.response.Response.{Response}
use Rattle.http_server.specs.Response.{IsResponse}
use Rattle.rds_names.specs.Fault.{name_of, number_of, words_of}
use Rattle.rds_names.specs.declared.fault.Fault.{Fault}
use Rattle.rds_names.specs.declared.fault.Fault.TheVariants.{Memory, TooLong, Conflict, OwnAhead, WrongAsker}
use Rattle.rds_names.specs.declared.fault.Fault.TheVariants.{WrongGroup, WrongRoster, SameReplica, BadCertificate}
use Rattle.rds_http.specs.Replies.{Tells, type_field}
use Rattle.rds_http.specs.Routes.{is_put}
use Rattle.rds_http.specs.declared.access.Denied.{Denied}
use Rattle.rds_http.specs.declared.access.Denied.TheVariants as Why
use Rattle.rds_http.specs.declared.routes.Resource.{Resource}
use Rattle.rds_http.specs.declared.routes.Resource.TheVariants as Of

-- the status by which a fault of the document is answered
abbrev pub status_of : Fault → ℕ
status_of Memory = 503
status_of TooLong = 413
status_of (Conflict replica seq) = 409
status_of (OwnAhead own) = 409
status_of WrongAsker = 409
status_of WrongGroup = 409
status_of WrongRoster = 409
status_of SameReplica = 409
status_of BadCertificate = 409
status_of _ = 400

-- a fault as JSON
abbrev pub fault_json : Fault → List ℕ
fault_json fault =
    codes "{\"fault\":" ++ (decimal (number_of fault) ++ (codes ",\"name\":\"" ++ (name_of fault
    ++ (codes "\",\"text\":\"" ++ (words_of fault ++ codes "\"}")))))

-- a status and words as JSON
abbrev pub words_json : ℕ → List ℕ → List ℕ
words_json status words =
    codes "{\"status\":" ++ (decimal status ++ (codes ",\"text\":\"" ++ (words ++ codes "\"}")))

abbrev pub json : List ℕ
json = codes "application/json"

-- a fault is reported, with its status
abbrev pub TellsFault : Fault → Response → Type 0
TellsFault fault response = Tells (status_of fault) json (fault_json fault) response

-- words are told, with a status
abbrev pub TellsWords : ℕ → List ℕ → Response → Type 0
TellsWords status words response = Tells status json (words_json status words) response

-- the same, with one more field
abbrev pub TellsWith : ℕ → List ℕ → List ℕ → List ℕ → Response → Type 0
TellsWith status words name value response =
    IsResponse status (type_field json ∷ (name, value) ∷ []) (words_json status words) response

-- why a request isn't let in
abbrev pub IsDenied : Denied → Response → Type 0
IsDenied Why.Host response =
    TellsWords 403 (codes "the Host field has to name this machine and this port") response
IsDenied Why.Origin response = TellsWords 403 (codes "the Origin field names another site") response
IsDenied Why.Token response =
    TellsWith 401 (codes "the token is due: none or a wrong one was given") (codes "www-authenticate") (codes "Bearer") response

-- there is no such resource
abbrev pub IsUnknown : Response → Type 0
IsUnknown response = TellsWords 404 (codes "no such resource") response

-- there is no question with such a tag
abbrev pub IsUnknownTag : Response → Type 0
IsUnknownTag response = TellsWords 412 (codes "the tag is of no question that is known") response

-- the tag of what the conditions of the request are about isn't one for which it is meant: of the document, or of what
-- stands at a place
abbrev pub IsUnmet : Response → Type 0
IsUnmet response = TellsWords 412 (codes "the document's tag doesn't meet the condition") response

abbrev pub IsUnmetAt : Response → Type 0
IsUnmetAt response = TellsWords 412 (codes "what stands there doesn't meet the condition") response

-- the methods of a resource
abbrev pub methods_of : Resource → List ℕ
methods_of (Of.Look look) = if is_put look then codes "GET, HEAD, PUT" else codes "GET, HEAD"
methods_of (Of.Post post) = codes "POST"
methods_of Of.EditsAt = codes "POST"
methods_of Of.Live = codes "GET"
methods_of Of.Unknown = []

-- the resource doesn't have the method, but others
abbrev pub IsNotAllowed : Resource → Response → Type 0
IsNotAllowed resource response =
    TellsWith 405 (codes "the resource doesn't have this method") (codes "allow") (methods_of resource) response
