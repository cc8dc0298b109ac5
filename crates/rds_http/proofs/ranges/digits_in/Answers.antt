use denote.Bor.{Bor}
use Rattle.std.proofs.Common.{◌≡◌, ◌++◌, ◌∙◌, ℕ, List, Option, None, Some, ap, codes}
use Rattle.std.specs.Prelude.{IfSome, ◌≢◌}
use Rattle.std.specs.Option.{MatchOption}
use Rattle.std.proofs.lemmas.Bool.Decides.{Decides-eqb}
use Rattle.std.proofs.lemmas.Slice.Eq.{strip_prefix_is, strip_suffix_is}
use Rattle.rds_http.proofs.ranges.digits_in.Goals as goal

-- what stands between two texts
between : (value rest : List ℕ) (front back : List ℕ) (r : Option (Bor (List ℕ))) → value ≡ front ++ rest
    → IfSome r (λ x. rest ≡ x.now ++ back) → IfSome r (λ x. value ≡ front ++ (x.now ++ back))
between value rest front back None is at = tt
between value rest front back (Some x) is at = is ∙ ap (λ l. front ++ l) at

some_is : (rest back : List ℕ) (r : Option (Bor (List ℕ))) → MatchOption r ((front : List ℕ) → rest ≢ front ++ back) (λ x. rest ≡ x.now ++ back)
    → IfSome r (λ x. rest ≡ x.now ++ back)
some_is rest back None is = tt
some_is rest back (Some x) is = is

pub returns : goal.returns
returns c =
    let value = c.args.value.now in
    let rest = c.in_ok-strip_prefix.field-0 in
    let front : value ≡ codes "bytes=" ++ rest.now =
    strip_prefix_is Decides-eqb value (codes "bytes=") (Some rest) c.in_ok-strip_prefix.ensures.cases in
    let back = strip_suffix_is Decides-eqb rest.now (codes "-") c.strip_suffix.result c.strip_suffix.ensures.cases in
    between value rest.now (codes "bytes=") (codes "-") c.strip_suffix.result front
    (some_is rest.now (codes "-") c.strip_suffix.result back)
