use Rattle.std.proofs.Common.{◌≡◌, ◌+◌, ℕ, suc, true, sym, ap, subst, take, length, arith}
use Rattle.std.specs.List.{list_all}
use Rattle.rds_names.specs.Name.{is_name}
use Rattle.rds_bytes.proofs.HaveTexts.{all_taken}
use Rattle.rds_bytes.specs.Spelling.{short_text}
use Rattle.rds_bytes.proofs.Adding.{measured-more}
use Rattle.rds_bytes.proofs.PartFormats.{name_most}
use Rattle.rds_bytes.proofs.roster.names_length.Goals as goal

pub loop-number-preserved : goal.loop-number-preserved
loop-number-preserved c =
    let more = measured-more short_text c.args.roster.now.names c.loop-number.number c.in-Some.name (sym c.in-Some.ensures) in
    let one : suc c.loop-number.number ≡ c.loop-number.number + 1 = omega arith in
    let named = all_taken is_name c.args.roster.now.names c.loop-number.number c.in-Some.name (sym c.in-Some.ensures) c.as_str.ensures.within c.loop-number.invariant.1.1 in
    let text = ap length c.as_str.ensures.text in (
      omega (arith, more, text, c.loop-number.invariant.0),
      (omega (arith, text, name_most c.in-Some.name c.as_str.ensures.within, c.loop-number.invariant.1.0), subst (λ (n : ℕ). list_all is_name (take n c.args.roster.now.names) ≡ true) one named),
    )
