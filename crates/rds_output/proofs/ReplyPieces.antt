-- The pieces of which a reply's line is written.
use Rattle.std.proofs.Common.{◌≡◌, ℕ, List, [], ◌∷◌, ◌++◌, codes, decimal, Option, Some, None, Result, OnOk, OnErr, sym, ap, ◌∙◌, subst, append_assoc}
use Rattle.std.specs.Io.KnownBytes.{Appends}
use Rattle.rds_names.specs.Fault.{number_of, name_of}
use Rattle.rds_names.specs.declared.fault.Fault.{Fault}
use Rattle.rds_keep.specs.Parts.{AppendsPart}
use Rattle.rds_output.specs.Reply.{reply_line}
use Rattle.rds_output.specs.Output.{fault_line}
use Rattle.rds_output.specs.declared.reply.Reply.TheVariants.{Asked, Edited, Answered, Refused, RefusedLine, Taken}

-- a newline behind the last of the pieces
closed_after_two : (a x b y c : List ℕ) → a ++ (x ++ (b ++ (y ++ (c ++ 10 ∷ [])))) ≡ (a ++ (x ++ (b ++ (y ++ c)))) ++ 10 ∷ []
closed_after_two a x b y c =
    ap (λ (l : List ℕ). a ++ (x ++ (b ++ l))) (sym (append_assoc y c (10 ∷ [])))
    ∙ ap (λ (l : List ℕ). a ++ (x ++ l)) (sym (append_assoc b (y ++ c) (10 ∷ [])))
    ∙ ap (λ (l : List ℕ). a ++ l) (sym (append_assoc x (b ++ (y ++ c)) (10 ∷ [])))
    ∙ sym (append_assoc a (x ++ (b ++ (y ++ c))) (10 ∷ []))

closed_after_one : (a x c : List ℕ) → a ++ (x ++ (c ++ 10 ∷ [])) ≡ (a ++ (x ++ c)) ++ 10 ∷ []
closed_after_one a x c = ap (λ (l : List ℕ). a ++ l) (sym (append_assoc x c (10 ∷ []))) ∙ sym (append_assoc a (x ++ c) (10 ∷ []))

closed_after_three : (a x b y c z d : List ℕ) → a ++ (x ++ (b ++ (y ++ (c ++ (z ++ (d ++ 10 ∷ [])))))) ≡ (a ++ (x ++ (b ++ (y ++ (c ++ (z ++ d)))))) ++ 10 ∷ []
closed_after_three a x b y c z d =
    ap (λ (l : List ℕ). a ++ (x ++ l)) (closed_after_two b y c z d)
    ∙ ap (λ (l : List ℕ). a ++ l) (sym (append_assoc x (b ++ (y ++ (c ++ (z ++ d)))) (10 ∷ [])))
    ∙ sym (append_assoc a (x ++ (b ++ (y ++ (c ++ (z ++ d))))) (10 ∷ []))

-- the same pieces, grouped from the left
from_left : (a x b y c : List ℕ) → a ++ (x ++ (b ++ (y ++ c))) ≡ (((a ++ x) ++ b) ++ y) ++ c
from_left a x b y c = sym (append_assoc ((a ++ x) ++ b) y c ∙ append_assoc (a ++ x) b (y ++ c) ∙ append_assoc a x (b ++ (y ++ c)))

before_rest : (a x b y c rest : List ℕ) → a ++ (x ++ (b ++ (y ++ (c ++ rest)))) ≡ ((((a ++ x) ++ b) ++ y) ++ c) ++ rest
before_rest a x b y c rest = from_left a x b y (c ++ rest) ∙ sym (append_assoc (((a ++ x) ++ b) ++ y) c rest)

pub fault_pieces : (number name : List ℕ) (fault : Fault) → number ≡ decimal (number_of fault) → name ≡ name_of fault
    → codes "fault " ++ (number ++ (codes ": " ++ (name ++ 10 ∷ []))) ≡ fault_line fault
fault_pieces number name fault e f = rw (e, f) (from_left (codes "fault ") (decimal (number_of fault)) (codes ": ") (name_of fault) (10 ∷ []))

pub answered_pieces : (x y : List ℕ) (number components : ℕ) → x ≡ decimal number → y ≡ decimal components
    → codes "{\"delta\":" ++ (x ++ (codes ",\"components\":" ++ (y ++ codes "}\n"))) ≡ reply_line (Answered number components)
answered_pieces x y number components e f = rw (e, f) (closed_after_two (codes "{\"delta\":") (decimal number) (codes ",\"components\":") (decimal components) (codes "}"))

pub refused_pieces : (number name : List ℕ) (fault : Fault) → number ≡ decimal (number_of fault) → name ≡ name_of fault
    → codes "{\"fault\":" ++ (number ++ (codes ",\"name\":\"" ++ (name ++ codes "\"}\n"))) ≡ reply_line (Refused fault)
refused_pieces number name fault e f = rw (e, f) (closed_after_two (codes "{\"fault\":") (decimal (number_of fault)) (codes ",\"name\":\"") (name_of fault) (codes "\"}"))

pub asked_pieces : (x : List ℕ) (number : ℕ) → x ≡ decimal number → codes "{\"ask\":" ++ (x ++ codes "}\n") ≡ reply_line (Asked number)
asked_pieces x number e = rw e (sym (append_assoc (codes "{\"ask\":" ++ decimal number) (codes "}") (10 ∷ []) ∙ append_assoc (codes "{\"ask\":") (decimal number) (codes "}\n")))

pub taken_pieces : (x : List ℕ) (components : ℕ) → x ≡ decimal components → codes "{\"taken\":" ++ (x ++ codes "}\n") ≡ reply_line (Taken components)
taken_pieces x components e = rw e (closed_after_one (codes "{\"taken\":") (decimal components) (codes "}"))

pub refused_line_pieces : (number name at : List ℕ) (line : ℕ) (fault : Fault) → number ≡ decimal (number_of fault) → name ≡ name_of fault → at ≡ decimal line
    → codes "{\"fault\":" ++ (number ++ (codes ",\"name\":\"" ++ (name ++ (codes "\",\"line\":" ++ (at ++ codes "}\n"))))) ≡ reply_line (RefusedLine line fault)
refused_line_pieces number name at line fault e f h =
    rw (e, f, h) (closed_after_three (codes "{\"fault\":") (decimal (number_of fault)) (codes ",\"name\":\"") (name_of fault) (codes "\",\"line\":") (decimal line) (codes "}"))

pub edited_pieces : (name x y given : List ℕ) (seq killed : ℕ) → given ≡ name → x ≡ decimal seq → y ≡ decimal killed
    → codes "{\"dot\":[\"" ++ (given ++ (codes "\"," ++ (x ++ (codes "],\"killed\":" ++ (y ++ codes "}\n"))))) ≡ reply_line (Edited (Some (name, seq)) killed)
edited_pieces name x y given seq killed d e f =
    let dot = (((codes "[\"" ++ name) ++ codes "\",") ++ decimal seq) ++ codes "]" in
    let rest = codes ",\"killed\":" ++ (decimal killed ++ codes "}\n") in
    rw (d, e, f) (ap (λ (l : List ℕ). codes "{\"dot\":" ++ l) (before_rest (codes "[\"") name (codes "\",") (decimal seq) (codes "]") rest)
    ∙ before_rest (codes "{\"dot\":") dot (codes ",\"killed\":") (decimal killed) (codes "}") (10 ∷ []))

pub edited_without_dot : (x : List ℕ) (killed : ℕ) → x ≡ decimal killed → codes "{\"dot\":null,\"killed\":" ++ (x ++ codes "}\n") ≡ reply_line (Edited None killed)
edited_without_dot x killed e =
    let front = codes "{\"dot\":null,\"killed\":" in
    rw e (sym (append_assoc (front ++ decimal killed) (codes "}") (10 ∷ []) ∙ append_assoc front (decimal killed) (codes "}\n")))

pub same_bytes : {T : Type 0} (before after : Option (List ℕ)) (text other : List ℕ) (result : Result T Fault) → text ≡ other → OnOk result (Appends before after text) → OnOk result (Appends before after other)
same_bytes before after text other result e p = subst (λ (l : List ℕ). OnOk result (Appends before after l)) e p

pub same_part : {T : Type 0} (before after : Option (List ℕ)) (text other : List ℕ) (result : Result T Fault) → text ≡ other → OnErr result (AppendsPart before after text)
    → OnErr result (AppendsPart before after other)
same_part before after text other result e p = subst (λ (l : List ℕ). OnErr result (AppendsPart before after l)) e p
