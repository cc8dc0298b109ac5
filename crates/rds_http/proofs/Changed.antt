-- What a request changed, and how that is noted.
use Rattle.std.proofs.Common.{◌≡◌, ◌≢◌, ◌⊎◌, ◌<◌, ◌≤◌, ◌||◌, ◌∙◌, ℕ, Bool, true, false, not, List, None, Some, Result, Ok, Err, OnOk, refl, sym, ap, subst, inl, inr}
use Rattle.std.specs.Str.{is_utf8}
use Rattle.http.specs.declared.request.Request.{Request}
use Rattle.http_header.specs.FieldValue.{FieldValue}
use Rattle.http_header.specs.HeaderMap.{Entries}
use Rattle.http_server.specs.declared.response.Response.{Response}
use Rattle.rds_names.specs.declared.fault.Fault.{Fault}
use Rattle.rds_names.specs.declared.fault.Fault.TheVariants.{BadName, Cut, Memory, TooLong}
use Rattle.rds_state.specs.Fits.{ReplicaValue}
use Rattle.rds_store.specs.Files.{OpenValue}
use Rattle.rds_store.specs.Meetings.{RefusesTaking}
use Rattle.rds_http.specs.Access.{denial}
use Rattle.rds_http.specs.Answers.{Answers, AnswersBy, Does, DoesChange, DoesChangeAt, DoesChangeIf, DoesPost, KeepsRest, asked_in, may_change, asked_place}
use Rattle.rds_http.specs.Changes.{AnswersEdits, AnswersQuestion, AnswersTake, AnswersTexts, RefusesNewName}
use Rattle.rds_http.specs.Handshakes.{headers_of}
use Rattle.rds_http.specs.Lines.{line_count}
use Rattle.rds_http.specs.Looks.{IsNoPlace, IsValueAt}
use Rattle.rds_http.specs.Refusals.{IsDenied, IsUnmetAt, TellsFault}
use Rattle.rds_http.specs.Site.{SiteValue}
use Rattle.rds_http.specs.Tags.{is_met, standing}
use Rattle.rds_http.specs.declared.access.Denied.{Denied}
use Rattle.rds_http.specs.declared.lines.TheConstants.{MOST_LINES}
use Rattle.rds_http.specs.declared.routes.Change.{Change}
use Rattle.rds_http.specs.declared.routes.Post.{Post}
use Rattle.rds_http.specs.declared.routes.Post.TheVariants.{Answer, Take}

-- what follows from what holds where a call succeeds holds there
pub on_ok : {T E : Type 0} (r : Result T E) {P Q : Type 0} → (P → Q) → OnOk r P → OnOk r Q
on_ok (Ok x) f p = f p
on_ok (Err e) f p = p

-- what isn't noted didn't change: neither before nor now
pub still_noted : (noted came : Bool) (before after kept still : ReplicaValue)
    → (noted ≡ false → before ≡ kept) → (came ≡ false → after ≡ before) → still ≡ kept → (noted || came) ≡ false → after ≡ still
still_noted true came before after kept still first later same quiet = absurd (cc)
still_noted false true before after kept still first later same quiet = absurd (cc)
still_noted false false before after kept still first later same quiet = later refl ∙ first refl ∙ sym same

-- what wasn't changed is noted as it was
pub noted_as_before : (noted all : Bool) → all ≡ true → (noted || not all) ≡ noted
noted_as_before true all is = refl
noted_as_before false all is = ap not is

-- a file that has the same is the same
pub same_open : (old new : OpenValue) → new.path ≡ old.path → new.document ≡ old.document → new.kept ≡ old.kept → new ≡ old
same_open old new path document kept = λ i. record { path = path i; document = document i; kept = kept i }

pub not_all : (all : Bool) → not all ≡ false → all ≡ true
not_all true quiet = refl
not_all false quiet = absurd (cc)

-- nothing is done with Memory
pub edits_refused : (body : List ℕ) (before after : ReplicaValue) (response : Response) (fault : Fault)
    → line_count body ≤ MOST_LINES → fault ≡ Memory → after ≡ before → TellsFault fault response
    → AnswersEdits body before after response
edits_refused body before after response fault few memory same told =
    inl (few, inr (record { same = same; told = subst (λ f. TellsFault f response) memory told }))

-- one of too many lines is refused whole
pub edits_too_many : (body : List ℕ) (before : ReplicaValue) (response : Response)
    → MOST_LINES < line_count body → TellsFault TooLong response → AnswersEdits body before before response
edits_too_many body before response many told = inr (many, record { same = refl; told = told })

of_test : (is : Bool) → (is ≡ true → ⊥) → is ≡ false
of_test true never = absurd (never refl)
of_test false never = refl

-- bytes that are no text are no name
pub no_name : (body : List ℕ) (before : ReplicaValue) → (is_utf8 body ≡ true → ⊥) → RefusesNewName body before BadName
no_name body before never = inl (of_test (is_utf8 body) never, refl)

-- what answers a question is refused
pub texts_refused : (question answer : List ℕ) (before after : ReplicaValue) (response : Response) (fault : Fault)
    → RefusesTaking question answer before fault → after ≡ before → TellsFault fault response
    → AnswersTexts question answer before after response
texts_refused question answer before after response fault why same told =
    inr (fault, why, record { same = same; told = told })

-- a body holds no two texts
pub take_refused : (body : List ℕ) (before : ReplicaValue) (response : Response) (fault : Fault) → fault ≡ Cut
    → TellsFault fault response → AnswersTake body before before response
take_refused body before response fault cut told =
    inr (record { same = refl; told = subst (λ f. TellsFault f response) cut told })

-- ---- what is sent for a place

-- the place is none, or memory ran out
pub change_refused : (change : Change) (place : List ℕ) (headers : Entries FieldValue) (body : List ℕ) (old : SiteValue) (response : Response) (fault : Fault)
    → (fault ≡ Memory) ⊎ IsNoPlace place fault → TellsFault fault response
    → DoesChangeAt change place headers body old response old
change_refused change place headers body old response fault why told = inr (refl, (fault, why, told))

-- what stands there doesn't meet the condition
pub change_unmet : (change : Change) (place : List ℕ) (headers : Entries FieldValue) (body : List ℕ) (old : SiteValue) (response : Response) (text : List ℕ)
    → IsValueAt old.document.state place text → is_met headers (standing text) ≡ false → IsUnmetAt response
    → DoesChangeAt change place headers body old response old
change_unmet change place headers body old response text is unmet told =
    inl (text, is, subst (λ met. DoesChangeIf met change place body old response old) (sym unmet) (refl, told))

-- it does
pub change_met : (change : Change) (place : List ℕ) (headers : Entries FieldValue) (body : List ℕ) (old : SiteValue) (response : Response) (new : SiteValue) (text : List ℕ)
    → IsValueAt old.document.state place text → is_met headers (standing text) ≡ true
    → DoesChange change place body old response new → DoesChangeAt change place headers body old response new
change_met change place headers body old response new text is met done =
    inl (text, is, subst (λ m. DoesChangeIf m change place body old response new) (sym met) done)

-- ---- the whole answer

keeps : (old new : SiteValue) → new ≡ old → KeepsRest old new
keeps old new same = record {
  path = ap (λ s. s.path) same;
  kept = ap (λ s. s.kept) same;
  turn = ap (λ s. s.turn) same;
  has_news = ap (λ s. s.has_news) same;
  access = ap (λ s. s.access) same;
}

-- who isn't let in
pub is_denied : (old : SiteValue) (request : Request (List ℕ)) (response : Response) (new : SiteValue) (why : Denied)
    → denial old.access (asked_in request) (headers_of request) ≡ Some why → IsDenied why response → new ≡ old
    → Answers old request response new
is_denied old request response new why denied told same = record {
  answered = subst (λ d. AnswersBy d old request response new) (sym denied) told;
  rest = keeps old new same;
  refused = λ _. same;
  looked = λ _. same;
  denied = λ _. same;
}

-- who is
pub is_let_in : (old : SiteValue) (request : Request (List ℕ)) (response : Response) (new : SiteValue)
    → denial old.access (asked_in request) (headers_of request) ≡ None
    → Does (asked_in request) (asked_place request) old request response new → KeepsRest old new
    → (response.status ≢ 200 → new ≡ old) → (may_change (asked_in request) ≡ false → new ≡ old)
    → Answers old request response new
is_let_in old request response new none done rest refused looked = record {
  answered = subst (λ d. AnswersBy d old request response new) (sym none) done;
  rest = rest;
  refused = refused;
  looked = looked;
  denied = λ some. absurd (some none);
}

-- a question is answered of the document
pub answers_question : (post : Post) (body : List ℕ) (old : SiteValue) (response : Response) (new : SiteValue) (document : ReplicaValue)
    → post ≡ Answer → document ≡ old.document → AnswersQuestion body document response → DoesPost post body old response new
answers_question post body old response new document is same answered =
    subst (λ p. DoesPost p body old response new) (sym is) (subst (λ d. AnswersQuestion body d response) same answered)

-- what answers a question is taken into the document
pub takes_posted : (post : Post) (body : List ℕ) (old : SiteValue) (response : Response) (new : SiteValue) (before after : ReplicaValue)
    → post ≡ Take → before ≡ old.document → after ≡ new.document → AnswersTake body before after response
    → DoesPost post body old response new
takes_posted post body old response new before after is was now answered =
    subst (λ p. DoesPost p body old response new) (sym is)
    (subst (λ d. AnswersTake body d new.document response) was (subst (λ d. AnswersTake body before d response) now answered))
