-- Of one roster, one value stands for a world of the model.
use Rattle.std.proofs.Common.{◌≡◌, ℕ, suc, Bool, true, false, cond, List, [], ◌∷◌, length, Some, refl, sym, ap, ◌∙◌}
use Rattle.std.proofs.Common.{subst, slice_get, arith}
use Rattle.std.specs.List.{AllZip}
use Rattle.std.specs.FinMap as map
use Rattle.std.specs.FinSet as set
use Rattle.rds_names.specs.Roster.{RosterValue, Begins}
use Rattle.rds_dots.specs.declared.dot.Dot.{Dot}
use Rattle.rds_dots.specs.Order.{dots_exact, dots_total}
use Rattle.rds_state.specs.Coordinates.{Coordinates}
use Rattle.rds_state.specs.Fits.{ReplicaValue}
use Rattle.rds_state.specs.Value.{StateValue, coordinates}
use Rattle.rds_state.proofs.JoinLaws.{same_value}
use Rattle.rds_delta.specs.Claims.{IsCertificate}
use Rattle.rds_delta.specs.Digested.{DigestValue, IsInside, ranks_in}
use Rattle.rds_delta.specs.Ranks.{Ranks, ranks}
use Rattle.rds_delta.proofs.Grouping.{one_certificate}
use Rattle.rds_codec.specs.AnswerTexts.{answer, answer_text}
use Rattle.rds_codec.specs.DigestTexts.{digest_text}
use Rattle.rds_world.specs.World.{Question, Reply}
use Rattle.rds_world.specs.Stored.{AskText, AnswerText}
use Rattle.rds_world.specs.Stands.{AreAtTheirPlaces, HaveNames, HoldsAnswer, HoldsAsk, WorldsHaveOneValue, state_of}
use Rattle.rds_world.proofs.Meeting.{same_beginnings}
use Rattle.rds_world.proofs.Tables.{same_some}

-- ---- lists

-- lists of one length that have the same at each place
same_list : {A : Type 0} (xs ys : List A) → length xs ≡ length ys → ((k : ℕ) (x y : A) → slice_get xs k ≡ Some x → slice_get ys k ≡ Some y → x ≡ y) → xs ≡ ys
same_list [] [] len at = refl
same_list [] (y ∷ ys) len at = absurd (omega (arith, len))
same_list (x ∷ xs) [] len at = absurd (omega (arith, len))
same_list (x ∷ xs) (y ∷ ys) len at = let first = at 0 x y refl refl in let more = same_list xs ys (omega (arith, len)) (λ k. at (suc k)) in λ i. first i ∷ more i

-- lists that go beside one list, each by a relation, where these leave one choice
same_matched : {A C : Type 0} (P Q : A → C → Type 0) (xs : List A) (ys zs : List C) → ((x : A) (y z : C) → P x y → Q x z → y ≡ z) → AllZip P xs ys → AllZip Q xs zs → ys ≡ zs
same_matched P Q [] [] [] one m n = refl
same_matched P Q [] [] (z ∷ zs) one m n = absurd n
same_matched P Q [] (y ∷ ys) zs one m n = absurd m
same_matched P Q (x ∷ xs) [] zs one m n = absurd m
same_matched P Q (x ∷ xs) (y ∷ ys) [] one m n = absurd n
same_matched P Q (x ∷ xs) (y ∷ ys) (z ∷ zs) one m n = let first = one x y z m.0 n.0 in let more = same_matched P Q xs ys zs one m.1 n.1 in λ i. first i ∷ more i

-- ---- replicas

same_replica : (x y : ReplicaValue) → x.roster ≡ y.roster → x.own ≡ y.own → coordinates x.state ≡ coordinates y.state → x ≡ y
same_replica x y roster own state = let value = same_value x.state y.state state in λ i. record { roster = roster i; own = own i; state = value i }

-- rosters that begin one roster, with as many names, are equal
same_roster : (x y r q : RosterValue) → r ≡ q → Begins x r → Begins y q → length x.names ≡ length y.names → x ≡ y
same_roster x y r q same bx by len =
    let b : Begins y r = subst (Begins y) (sym same) by in
    let group : x.group ≡ y.group = bx.0 ∙ sym b.0 in
    let names : x.names ≡ y.names = same_beginnings x.names y.names r.names bx.1 b.1 len in
    λ i. record { group = group i; names = names i }

same_replicas : (r q : RosterValue) (names : ℕ → ℕ) (xs ys : List ReplicaValue) (f : ℕ → Coordinates) → r ≡ q → AreAtTheirPlaces r xs → AreAtTheirPlaces q ys → HaveNames names xs → HaveNames names ys → length xs ≡ length ys
    → ((k : ℕ) → f k ≡ state_of (slice_get xs k)) → ((k : ℕ) → f k ≡ state_of (slice_get ys k)) → xs ≡ ys
same_replicas r q names xs ys f same px py nx ny len fx fy = same_list xs ys len (λ k x y ex ey.
    let a = px k x ex in
    let b = py k y ey in
    same_replica x y (same_roster x.roster y.roster r q same a.0 b.0 (nx k x ex ∙ sym (ny k y ey))) (a.1 ∙ sym b.1) (sym (fx k ∙ ap state_of ex) ∙ fy k ∙ ap state_of ey))

-- ---- asks

abbrev ranked : Bool → Bool → ℕ
ranked live seen = cond live 1 (cond seen 2 0)

-- what is live and what is seen is known by the rank, where what is live is seen
same_ranked : (l s m t : Bool) → (l ≡ true → s ≡ true) → (m ≡ true → t ≡ true) → ranked l s ≡ ranked m t → (l ≡ m) × (s ≡ t)
same_ranked true s true t a b e = (refl, a refl ∙ sym (b refl))
same_ranked true s false true a b e = absurd (omega (arith, e))
same_ranked true s false false a b e = absurd (omega (arith, e))
same_ranked false true true t a b e = absurd (omega (arith, e))
same_ranked false false true t a b e = absurd (omega (arith, e))
same_ranked false true false true a b e = (refl, refl)
same_ranked false true false false a b e = absurd (omega (arith, e))
same_ranked false false false true a b e = absurd (omega (arith, e))
same_ranked false false false false a b e = (refl, refl)

same_digest : (g h : DigestValue) → ranks_in g ≡ ranks_in h → IsInside g.live g.seen → IsInside h.live h.seen → g ≡ h
same_digest g h e inside other =
    let at = λ (d : Dot). same_ranked (set.contains g.live d) (set.contains g.seen d) (set.contains h.live d) (set.contains h.seen d) (inside.each_dot d) (other.each_dot d) (ap (λ (r : Ranks). r.rank d) e) in
    let seen : g.seen ≡ h.seen = set.same_set dots_total dots_exact g.seen h.seen (λ d. (at d).1) in
    let live : g.live ≡ h.live = set.same_set dots_total dots_exact g.live h.live (λ d. (at d).0) in
    let a : StateValue = record { lives = map.empty; counts = g.counts } in
    let b : StateValue = record { lives = map.empty; counts = h.counts } in
    let numbers : a ≡ b = same_value a b (λ i. record { life = λ d. map.get a.lives d; number = (e i).number }) in
    λ i. record { seen = seen i; live = live i; counts = (numbers i).counts }

same_ask : (q : Question) (a b : AskText) → HoldsAsk q a → HoldsAsk q b → a ≡ b
same_ask q a b x y =
    let digest : x.digest ≡ y.digest = same_digest x.digest y.digest (x.ranks ∙ sym y.ranks) x.inside y.inside in
    let asker : a.asker ≡ b.asker = x.asker ∙ sym y.asker in
    let bytes : a.bytes ≡ b.bytes = x.text ∙ ap digest_text digest ∙ sym y.text in
    let names : a.names ≡ b.names = x.names ∙ sym y.names in
    λ i. record { asker = asker i; names = names i; bytes = bytes i }

-- ---- answers

same_answer : (o p : RosterValue) → o ≡ p → (qs : List Question) (r : Reply) (a b : AnswerText) → HoldsAnswer o qs r a → HoldsAnswer p qs r b → a ≡ b
same_answer o p same qs r a b x y =
    let question : a.question ≡ b.question = x.question ∙ sym y.question in
    let asker : a.asker ≡ b.asker = x.asker ∙ sym y.asker in
    let asked : x.asked ≡ y.asked = same_some x.asked y.asked (sym x.ask ∙ y.ask) in
    let value : x.value ≡ y.value = same_value x.value y.value (x.state ∙ sym y.state) in
    let certificate : IsCertificate (ranks y.asked.state) y.value x.rows =
    subst (λ (z : StateValue). IsCertificate (ranks y.asked.state) z x.rows) value (subst (λ (q : Question). IsCertificate (ranks q.state) x.value x.rows) asked x.certificate) in
    let rows : x.rows ≡ y.rows = one_certificate (ranks y.asked.state) y.value y.rows x.rows y.certificate certificate in
    let text : answer_text (answer a.asker x.value x.rows) ≡ answer_text (answer b.asker y.value y.rows) = λ i. answer_text (answer (asker i) (value i) (rows i)) in
    let bytes : a.bytes ≡ b.bytes = x.text ∙ text ∙ sym y.text in
    let roster : a.roster ≡ b.roster = same_roster a.roster b.roster o p same x.begins y.begins (x.names ∙ sym y.names) in
    λ i. record { question = question i; asker = asker i; roster = roster i; bytes = bytes i }

-- ---- worlds

pub one_value : WorldsHaveOneValue
one_value v u w roster s t =
    let memory = same_replicas v.roster u.roster w.memory_names v.memory u.memory w.memory roster s.memory_places t.memory_places s.memory_names t.memory_names (sym s.replicas ∙ t.replicas) s.memory t.memory in
    let kept = same_replicas v.roster u.roster w.kept_names v.kept u.kept w.kept roster s.kept_places t.kept_places s.kept_names t.kept_names (s.same_length ∙ sym s.replicas ∙ t.replicas ∙ sym t.same_length) s.kept t.kept in
    let asks = same_matched HoldsAsk HoldsAsk w.asks v.asks u.asks same_ask s.asks t.asks in
    let answers = same_matched (HoldsAnswer v.roster w.asks) (HoldsAnswer u.roster w.asks) w.answers v.answers u.answers (same_answer v.roster u.roster roster w.asks) s.answers t.answers in
    λ i. record { roster = roster i; memory = memory i; kept = kept i; asks = asks i; answers = answers i }
