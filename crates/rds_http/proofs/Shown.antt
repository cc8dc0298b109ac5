-- What is shown of a document, or known, and its tag.
use Rattle.std.proofs.Common.{◌≡◌, ◌∙◌, ℕ, false, List, [], ◌∷◌, ◌++◌, Ok, codes, sym, ap, subst, inl, append_assoc}
use Rattle.std.specs.Global.{Vec}
use Rattle.http1.specs.Fields.{Header}
use Rattle.http_header.specs.FieldValue.{FieldValue}
use Rattle.http_header.specs.HeaderMap.{Entries}
use Rattle.http_server.specs.Response.{IsResponse}
use Rattle.http_server.specs.declared.response.Response.{Response}
use Rattle.rds_fields.specs.Tags.{tag_text}
use Rattle.rds_questions.specs.Tags.{IsTagOf}
use Rattle.rds_questions.specs.declared.tags.Tag.{Tag}
use Rattle.rds_state.specs.Fits.{ReplicaValue}
use Rattle.rds_store.specs.Meetings.{MayAsk}
use Rattle.rds_http.specs.Looks.{AnswersLook, ShowsQuestion, ShowsSnapshot, TellsQuestion, own_field}
use Rattle.rds_http.specs.Replies.{tag_fields, type_field}
use Rattle.rds_http.specs.Tags.{always, is_known}
use Rattle.rds_http.specs.declared.routes.Look.{Look}
use Rattle.rds_http.specs.declared.routes.Look.TheVariants.{Snapshot}

-- two fields behind others
pub two_more : (old first after : List Header) (one : Header) (name tag value : List ℕ) → first ≡ old ++ one ∷ [] → value ≡ tag
    → after ≡ first ++ (name, value) ∷ [] → after ≡ old ++ one ∷ (name, tag) ∷ []
two_more old first after one name tag value first_is same after_is =
    after_is ∙ ap (λ (f : List Header). f ++ (name, value) ∷ []) first_is
    ∙ append_assoc old (one ∷ []) ((name, value) ∷ [])
    ∙ ap (λ (v : List ℕ). old ++ one ∷ (name, v) ∷ []) same

-- a question that isn't known is reported
pub question_told : (headers : Entries FieldValue) (held : ReplicaValue) (tag : Tag) (text : List ℕ) (bytes : Vec ℕ) (before : List Header) (response : Response)
    → IsTagOf held tag → text ≡ tag_text tag → is_known headers (always text) ≡ false → MayAsk held (Ok bytes) → before ≡ own_field held ∷ []
    → IsResponse 200 (before ++ (type_field (codes "application/octet-stream") ∷ tag_fields text)) bytes.items response
    → ShowsQuestion headers held response
question_told headers held tag text bytes before response is text_is unknown asks before_is told =
    let kind = type_field (codes "application/octet-stream") in
    let behind : IsResponse 200 (own_field held ∷ kind ∷ tag_fields text) bytes.items response =
    subst (λ f. IsResponse 200 (f ++ (kind ∷ tag_fields text)) bytes.items response) before_is told in
    let tagged : IsResponse 200 (own_field held ∷ kind ∷ tag_fields (tag_text tag)) bytes.items response =
    subst (λ t. IsResponse 200 (own_field held ∷ kind ∷ tag_fields t) bytes.items response) text_is behind in
    let due : TellsQuestion false (tag_text tag) held response = (bytes, asks, tagged) in
    inl (tag, is, subst (λ k. TellsQuestion k (tag_text tag) held response) (sym (ap (λ t. is_known headers (always t)) (sym text_is) ∙ unknown)) due)

-- the snapshot of the document is
pub snapshot_shown : (look : Look) (place : List ℕ) (headers : Entries FieldValue) (before document : ReplicaValue) (response : Response)
    → look ≡ Snapshot → document ≡ before → ShowsSnapshot headers document response → AnswersLook look before place headers response
snapshot_shown look place headers before document response is same shown =
    subst (λ l. AnswersLook l before place headers response) (sym is) (subst (λ d. ShowsSnapshot headers d response) same shown)
