-- The lines that answer a body: how many, how long, and what they say was done.
use Rattle.std.proofs.Common.{◌≡◌, ◌≢◌, ◌⊎◌, ◌∙◌, ap, ℕ, suc, ◌+◌, ◌<◌, ◌≤◌, ◌==◌, ◌&&◌, ◌^◌, Bool, true, false, cond, List, [], ◌∷◌, ◌++◌, length, Result, Ok, Err, IsTrue, refl, inl, inr, arith, lit≤, lit<, append_assoc, decimal}
use Rattle.std.specs.List.{count_by, list_all}
use Rattle.std.proofs.lemmas.Fmt.{length-decimal-le_wide}
use Rattle.std.proofs.lemmas.List.Sums.{sum_by-cons}
use Rattle.rds_lines.specs.Editing.{EditsLines, EditsLinesBehind, EditsNext, IsLineRefused, MeetsCommand, MeetsEdit, edit_of_bytes}
use Rattle.rds_lines.specs.Lines.{is_empty_line, lines_in, line_with_byte}
use Rattle.rds_names.specs.Fault.{name_of}
use Rattle.rds_names.specs.Name.{is_name}
use Rattle.rds_names.specs.declared.fault.Fault.{Fault}
use Rattle.rds_names.specs.declared.fault.Fault.TheVariants.{Memory, BadName, BadKey, BadPath, BadScalar, BadRoster}
use Rattle.rds_names.specs.declared.fault.Fault.TheVariants.{SeqFull, CounterFull, Conflict, OwnAhead, WrongAsker, Cut}
use Rattle.rds_names.specs.declared.fault.Fault.TheVariants.{Bad, Extra, TooLong, TooManyDots, BadCertificate}
use Rattle.rds_names.specs.declared.fault.Fault.TheVariants.{WrongVersion, WrongGroup, WrongRoster, SameReplica}
use Rattle.rds_names.specs.declared.fault.Fault.TheVariants.{OutOfTurn, PeerEnded, Device, BadLine, NoSuch, Usage, Forked, Unsure}
use Rattle.rds_output.specs.Reply.{is_refusal}
use Rattle.rds_output.specs.declared.reply.Reply.{Reply}
use Rattle.rds_state.specs.Fits.{ReplicaValue}
use Rattle.rds_state.specs.declared.command.Command.{Command}
use Rattle.rds_http.specs.Changes.{MeetsPut, put_command}
use Rattle.rds_http.specs.Lines.{is_short, line_status, lines_status}

-- ---- how many

few_with : (t : Bool) (b : ℕ) (lines : List (List ℕ)) (n : ℕ) → length lines ≤ n + 1
    → length (cond t ([] ∷ lines) (line_with_byte b lines)) ≤ (cond t 1 0 + n) + 1
few_with true b lines n few = omega arith
few_with false b [] n few = omega arith
few_with false b (line ∷ lines) n few = omega arith

-- a body has at most one line more than line feeds
pub lines_few : (body : List ℕ) → length (lines_in body) ≤ count_by (λ b. b == 10) body + 1
lines_few [] = omega arith
lines_few (b ∷ body) =
    rw sum_by-cons (few_with (b == 10) b (lines_in body) (count_by (λ b. b == 10) body) (lines_few body))

-- ---- what they say

-- one is short, and where it is a refusal, nothing was done
pub record IsAnswer (before after : ReplicaValue) (answer : Reply) : Type 0 where
  pub short : is_short answer ≡ true
  pub refused : is_refusal answer ≡ true → after ≡ before

met_command : (line : ℕ) (asked : Result Command Fault) (before after : ReplicaValue) (answer : Reply)
    → MeetsCommand line asked before answer after → IsAnswer before after answer
met_command line (Ok command) before after answer (inl done) = record {
  short = rw done.1.told refl;
  refused = rw done.1.told (λ no. cc);
}
met_command line (Ok command) before after answer (inr refused) = record {
  short = rw refused.2.0 refl;
  refused = λ _. refused.2.1;
}
met_command line (Err fault) before after answer refused = record {
  short = rw refused.0 refl;
  refused = λ _. refused.1;
}

met_if_room : (line : ℕ) (asked : Result Command Fault) (before after : ReplicaValue) (answer : Reply)
    → IsLineRefused line Memory before answer after ⊎ MeetsCommand line asked before answer after
    → IsAnswer before after answer
met_if_room line asked before after answer (inl refused) = record {
  short = rw refused.0 refl;
  refused = λ _. refused.1;
}
met_if_room line asked before after answer (inr met) = met_command line asked before after answer met

met_edit : (line : ℕ) (bytes : List ℕ) (before after : ReplicaValue) (answer : Reply)
    → MeetsEdit line bytes before answer after → IsAnswer before after answer
met_edit line bytes before after answer met = met_if_room line (edit_of_bytes bytes) before after answer met

-- the same of a register that is put
pub met_put : (place body : List ℕ) (before after : ReplicaValue) (answer : Reply)
    → MeetsPut place body before answer after → IsAnswer before after answer
met_put place body before after answer met = met_if_room 1 (put_command place body) before after answer met

-- a lone answer that is short
pub one_short : (answer : Reply) → is_short answer ≡ true → list_all is_short (answer ∷ []) ≡ true
one_short answer short = ap (λ s. s && true) short

-- all are short, there are at most so many, and where all are refusals, nothing was done
pub record AreAnswers (before after : ReplicaValue) (answers : List Reply) (most : ℕ) : Type 0 where
  pub short : list_all is_short answers ≡ true
  pub few : length answers ≤ most
  pub refused : list_all is_refusal answers ≡ true → after ≡ before

answers_next : (empty : Bool) (line : ℕ) (bytes : List ℕ) (lines : List (List ℕ)) (before after : ReplicaValue) (answers : List Reply)
    → ((next : ReplicaValue) (rest : List Reply) → EditsLinesBehind line lines next after rest → AreAnswers next after rest (length lines))
    → EditsNext empty line bytes (EditsLinesBehind line lines) before after answers → AreAnswers before after answers (suc (length lines))
answers_next true line bytes lines before after answers later next =
    let rest = later before answers next in
    record { short = rest.short; few = omega arith; refused = rest.refused }
answers_next false line bytes lines before after answers later next =
    let one = met_edit line bytes before next.next next.answer next.met in
    let rest = later next.next next.rest next.later in
    record {
      short = rw (next.answers_are, one.short) rest.short;
      few = rw next.answers_are (omega arith);
      refused = rw next.answers_are (λ all. nothing_done (is_refusal next.answer) (list_all is_refusal next.rest) before next.next after one.refused rest.refused all);
    }
  where
    nothing_done : (a b : Bool) (before next after : ReplicaValue) → (a ≡ true → next ≡ before) → (b ≡ true → after ≡ next) → (a && b) ≡ true → after ≡ before
    nothing_done true b before next after first later both = later both ∙ first refl
    nothing_done false b before next after first later both = absurd (cc)

answers_behind : (count : ℕ) (lines : List (List ℕ)) (before after : ReplicaValue) (answers : List Reply)
    → EditsLinesBehind count lines before after answers → AreAnswers before after answers (length lines)
answers_behind count [] before after answers none = record {
  short = rw none.1 refl;
  few = rw none.1 (omega arith);
  refused = λ _. none.0;
}
answers_behind count (bytes ∷ lines) before after answers next =
    answers_next (is_empty_line bytes) (count + 1) bytes lines before after answers
    (λ now rest later. answers_behind (count + 1) lines now after rest later) next

pub answers_are : (lines : List (List ℕ)) (before after : ReplicaValue) (answers : List Reply)
    → EditsLines lines before after answers → AreAnswers before after answers (length lines)
answers_are lines before after answers edits = answers_behind 0 lines before after answers edits

-- ---- by which status

if_all : (all : Bool) (status : ℕ) → cond all status 200 ≢ 200 → all ≡ true
if_all true status other = refl
if_all false status other = absurd (other refl)

-- another status than 200 says that each line was refused
pub all_refused : (replies : List Reply) → lines_status replies ≢ 200 → list_all is_refusal replies ≡ true
all_refused [] other = absurd (other refl)
all_refused (reply ∷ replies) other = if_all (list_all is_refusal (reply ∷ replies)) (line_status reply) other

-- the same of the status that was reported
pub all_refused_by : (replies passed : List Reply) (status : ℕ) → passed ≡ replies → status ≡ lines_status passed
    → status ≢ 200 → list_all is_refusal replies ≡ true
all_refused_by replies passed status same is other =
    all_refused replies (λ ok. other (is ∙ ap lines_status same ∙ ok))

-- a lone one that tells of a refusal
pub one_refused : (answer : Reply) (status : ℕ) → status ≡ lines_status (answer ∷ []) → status ≢ 200 → is_refusal answer ≡ true
one_refused answer status is other = of_and (is_refusal answer) (all_refused (answer ∷ []) (λ ok. other (is ∙ ok)))
  where
    of_and : (b : Bool) → (b && true) ≡ true → b ≡ true
    of_and true both = refl
    of_and false both = absurd (cc)

-- ---- how long

pub name_len : (name : List ℕ) → IsTrue (is_name name) → length name ≤ 16
name_len name is = grind (arith)

pub fault_len : (fault : Fault) → length (name_of fault) ≤ 16
fault_len Memory = lit≤ tt
fault_len BadName = lit≤ tt
fault_len BadKey = lit≤ tt
fault_len BadPath = lit≤ tt
fault_len BadScalar = lit≤ tt
fault_len BadRoster = lit≤ tt
fault_len SeqFull = lit≤ tt
fault_len CounterFull = lit≤ tt
fault_len (Conflict replica seq) = lit≤ tt
fault_len (OwnAhead own) = lit≤ tt
fault_len WrongAsker = lit≤ tt
fault_len Cut = lit≤ tt
fault_len Bad = lit≤ tt
fault_len Extra = lit≤ tt
fault_len TooLong = lit≤ tt
fault_len TooManyDots = lit≤ tt
fault_len BadCertificate = lit≤ tt
fault_len WrongVersion = lit≤ tt
fault_len WrongGroup = lit≤ tt
fault_len WrongRoster = lit≤ tt
fault_len SameReplica = lit≤ tt
fault_len OutOfTurn = lit≤ tt
fault_len PeerEnded = lit≤ tt
fault_len Device = lit≤ tt
fault_len BadLine = lit≤ tt
fault_len NoSuch = lit≤ tt
fault_len Usage = lit≤ tt
fault_len Forked = lit≤ tt
fault_len Unsure = lit≤ tt

pub number_len : (number : ℕ) → number < 2 ^ 128 → length (decimal number) ≤ 39
number_len number fits = length-decimal-le_wide 39 number (lit< tt) (omega (arith, fits)) (omega (arith, fits))

-- ---- what is behind what

pub three : (o a x b : List ℕ) → ((o ++ a) ++ x) ++ b ≡ o ++ (a ++ (x ++ b))
three o a x b = simp append_assoc

pub seven : (o a x b y c z d : List ℕ)
    → ((((((o ++ a) ++ x) ++ b) ++ y) ++ c) ++ z) ++ d ≡ o ++ (a ++ (x ++ (b ++ (y ++ (c ++ (z ++ d))))))
seven o a x b y c z d = simp append_assoc
