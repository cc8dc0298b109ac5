-- What is shown of a document.
use Rattle.std.specs.Prelude.{◌≡◌, ◌⊎◌, ℕ, ◌-◌, Bool, true, false, List, [], ◌∷◌, ◌++◌, codes, decimal, Result, Ok, Err}
use Rattle.std.specs.Prelude.{length, take}
use Rattle.std.specs.Prelude.{if◌then◌else◌, MatchResult, Option, None, Some, String, option_map, string_bytes}
use Rattle.std.specs.Global.{Global, Vec}
use Rattle.std.specs.Str.{is_utf8}
use Rattle.http1.specs.Fields.{Header}
use Rattle.http_header.specs.FieldValue.{FieldValue}
use Rattle.http_header.specs.HeaderMap.{Entries}
use Rattle.http_server.specs.declared.response.Response.{Response}
use Rattle.http_server.specs.Response.{IsResponse}
use Rattle.percent_encoding.specs.Percent.{percent_decode}
use Rattle.serde_json.specs.Data.{Data}
use Rattle.serde_json.specs.Written.{IsInOrder}
use Rattle.rds_fields.specs.Tags.{tag_text}
use Rattle.rds_keep.specs.Sums.{EncodesFile}
use Rattle.rds_lines.specs.Overview.{IsOverview}
use Rattle.rds_listing.specs.Conflicts.{conflicts_text}
use Rattle.rds_names.specs.AndThen.{◌>>=◌}
use Rattle.rds_names.specs.declared.fault.Fault.{Fault}
use Rattle.rds_names.specs.declared.fault.Fault.TheVariants.{BadKey, Memory}
use Rattle.rds_page.specs.declared.TheConstants.{PAGE, POLICY}
use Rattle.rds_questions.specs.Tags.{IsTagOf, RefusesTag}
use Rattle.rds_questions.specs.declared.tags.Tag.{Tag}
use Rattle.rds_state.specs.Fits.{ReplicaValue}
use Rattle.rds_state.specs.Value.{StateValue}
use Rattle.rds_store.specs.Looks.{IsValueText, RefusesPlace, here_text, text_at_path, view_text}
use Rattle.rds_store.specs.Meetings.{MayAsk}
use Rattle.rds_http.specs.Ranges.{TellsFile}
use Rattle.rds_http.specs.Refusals.{TellsFault, json}
use Rattle.rds_http.specs.Replies.{Tells, TellsTagged, tag_fields, type_field}
use Rattle.rds_http.specs.Tags.{always, is_known, state_tag, text_tag}
use Rattle.rds_http.specs.declared.metrics.PeerCounts.{PeerCounts}
use Rattle.rds_http.specs.declared.routes.Look.{Look}
use Rattle.rds_http.specs.declared.routes.Look.TheVariants.{Page, View, Here, Value, Conflicts, Status, Metrics}
use Rattle.rds_http.specs.declared.routes.Look.TheVariants.{Ask, Snapshot}

abbrev pub lines_of_json : List ℕ
lines_of_json = codes "application/x-ndjson"

-- the path that a percent-encoded place is. Bytes that are no UTF-8 are no keys.
abbrev pub path_in : List ℕ → Result (List ℕ) Fault
path_in place = if is_utf8 (percent_decode place) then Ok (percent_decode place) else Err BadKey

-- what has this tag is reported to a request, or no more than that it is known
abbrev pub TellsOf : Entries FieldValue → List ℕ → List ℕ → List ℕ → Response → Type 0
TellsOf headers tag kind text response = TellsTagged (is_known headers (always tag)) tag kind text response

-- a text about a state, at the path that a place is
abbrev pub told_in : (StateValue → List (List ℕ) → List ℕ) → StateValue → List ℕ → Result (List ℕ) Fault
told_in text state place = path_in place >>= λ path. text_at_path text state path

-- the text that is due is reported, or the fault why there is none
abbrev pub Shows : Entries FieldValue → StateValue → List ℕ → Result (List ℕ) Fault → Response → Type 0
Shows headers state kind due response =
    ((text : List ℕ) × (due ≡ Ok text) × TellsOf headers (state_tag state) kind text response)
    ⊎ ((fault : Fault) × ((fault ≡ Memory) ⊎ (due ≡ Err fault)) × TellsFault fault response)

-- the text is reported, or known
abbrev pub IsToldOf : Bool → List ℕ → Option (String Global) → Type 0
IsToldOf true text told = told ≡ None
IsToldOf false text told = option_map string_bytes told ≡ Some text

-- the text that is due is reported or known, or the fault is due, unless memory ran out
abbrev pub MayShow : Bool → Result (List ℕ) Fault → Result (Option (String Global)) Fault → Type 0
MayShow known due result =
    MatchResult result (λ told. (text : List ℕ) × (due ≡ Ok text) × IsToldOf known text told)
    (λ fault. (fault ≡ Memory) ⊎ (due ≡ Err fault))

-- the text tells what stands at a place
abbrev pub IsValueAt : StateValue → List ℕ → List ℕ → Type 0
IsValueAt state place text = (path : List ℕ) × (path_in place ≡ Ok path) × IsValueText state path text

-- why nothing stands at a place: it is no path below the root
abbrev pub IsNoPlace : List ℕ → Fault → Type 0
IsNoPlace place fault =
    (path_in place ≡ Err fault) ⊎ ((path : List ℕ) × (path_in place ≡ Ok path) × RefusesPlace path fault)

-- the fault why nothing is reported of a place, or Memory, is reported
abbrev pub TellsNoPlace : List ℕ → Response → Type 0
TellsNoPlace place response =
    (fault : Fault) × ((fault ≡ Memory) ⊎ IsNoPlace place fault) × TellsFault fault response

-- what stands at a place is reported, with a tag of its own
abbrev pub ShowsValue : Entries FieldValue → StateValue → List ℕ → Response → Type 0
ShowsValue headers state place response =
    ((text : List ℕ) × IsValueAt state place text × TellsOf headers (text_tag text) json text response)
    ⊎ TellsNoPlace place response

-- the text is JSON, of some value
abbrev pub IsJson : List ℕ → Type 0
IsJson text = (value : Data) × IsInOrder text value

abbrev pub truth_text : Bool → List ℕ
truth_text truth = if truth then codes "true" else codes "false"

-- how many other nodes there are, how many of them were met when they were called last, how many have a fork, and how
-- each stands
abbrev pub peers_text : PeerCounts → List ℕ → List ℕ
peers_text peers each =
    codes ",\"peers\":{\"named\":" ++ (decimal peers.named ++ (codes ",\"met\":" ++ (decimal peers.met
    ++ (codes ",\"forked\":" ++ (decimal peers.forked ++ (codes ",\"each\":" ++ (each ++ codes "}")))))))

-- how many requests came of a fork, whether the file is behind, and whether it couldn't be written
abbrev pub callers_text : PeerCounts → List ℕ
callers_text peers =
    codes ",\"callers\":{\"forked\":" ++ (decimal peers.forks ++ (codes "},\"behind\":"
    ++ (truth_text peers.is_behind ++ (codes ",\"unwritable\":" ++ (truth_text peers.is_unwritable ++ codes "}")))))

-- an object of JSON with these as its last members
abbrev pub with_peers : List ℕ → PeerCounts → List ℕ → List ℕ
with_peers object peers each = (take (length object - 1) object ++ peers_text peers each) ++ callers_text peers

-- the status of a document, with what was counted of the other nodes and how each stands
abbrev pub ShowsStatus : ReplicaValue → Response → Type 0
ShowsStatus document response =
    ((text : List ℕ) × IsOverview document text × (peers : PeerCounts) × (each : List ℕ) × IsJson each
    × Tells 200 json (with_peers text peers each) response)
    ⊎ TellsFault Memory response

-- the field that tells the number of a replica
abbrev pub own_field : ReplicaValue → Header
own_field document = (codes "rds-replica", decimal document.own)

-- the question with this tag is reported, or no more than that where it is known
abbrev pub TellsQuestion : Bool → List ℕ → ReplicaValue → Response → Type 0
TellsQuestion true tag document response = IsResponse 304 (own_field document ∷ tag_fields tag) [] response
TellsQuestion false tag document response =
    (bytes : Vec ℕ) × MayAsk document (Ok bytes)
    × IsResponse 200 (own_field document ∷ type_field (codes "application/octet-stream") ∷ tag_fields tag) bytes.items
    response

-- what the document's replica asks is reported with its tag, or the fault why there is no text of it
abbrev pub ShowsQuestion : Entries FieldValue → ReplicaValue → Response → Type 0
ShowsQuestion headers document response =
    ((tag : Tag) × IsTagOf document tag
    × TellsQuestion (is_known headers (always (tag_text tag))) (tag_text tag) document response)
    ⊎ ((fault : Fault) × (MayAsk document (Err fault) ⊎ RefusesTag document fault) × TellsFault fault response)

-- a new file of the document is reported, by a tag of its own and from a byte on where that is wanted, or why it has none
abbrev pub ShowsSnapshot : Entries FieldValue → ReplicaValue → Response → Type 0
ShowsSnapshot headers document response =
    ((bytes : Vec ℕ) × EncodesFile document (Ok bytes)
    × TellsFile headers (text_tag bytes.items) (codes "application/octet-stream") bytes.items response)
    ⊎ ((fault : Fault) × EncodesFile document (Err fault) × TellsFault fault response)

-- the fields of the page
abbrev pub page_fields : List Header
page_fields =
    type_field (codes "text/html; charset=utf-8")
    ∷ (codes "content-security-policy", POLICY.now)
    ∷ (codes "x-content-type-options", codes "nosniff")
    ∷ (codes "referrer-policy", codes "no-referrer")
    ∷ (codes "cache-control", codes "no-cache")
    ∷ []

-- what a look at a document, at a place, is answered, by a request with these fields
abbrev pub AnswersLook : Look → ReplicaValue → List ℕ → Entries FieldValue → Response → Type 0
AnswersLook Page document place headers response = IsResponse 200 page_fields PAGE.now response
AnswersLook View document place headers response =
    Shows headers document.state json (told_in view_text document.state place) response
AnswersLook Here document place headers response =
    Shows headers document.state json (told_in here_text document.state place) response
AnswersLook Value document place headers response = ShowsValue headers document.state place response
AnswersLook Conflicts document place headers response =
    Shows headers document.state lines_of_json (told_in conflicts_text document.state place) response
AnswersLook Status document place headers response = ShowsStatus document response
AnswersLook Metrics document place headers response = response.status ≡ 200
AnswersLook Ask document place headers response = ShowsQuestion headers document response
AnswersLook Snapshot document place headers response = ShowsSnapshot headers document response
