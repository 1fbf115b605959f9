use Rattle.std.proofs.Common.{◌≡◌, ◌∙◌, ℤ, ap, sym, subst₂, arith, w64}
use Rattle.std.specs.Prelude.{IfErr}
use Rattle.std.proofs.lemmas.Int.{ints, to_z-of_z}
use mir.Val.{to_z, of_z}
use Rattle.fraction_theory.specs.Fraction.{over}
use Rattle.fraction_theory.proofs.FieldLaws.{+ℚ_nil}
use Rattle.market_data.specs.Scales.{share_one}
use Rattle.market_model.specs.LimitRows.{share_value}
use Rattle.market_model.specs.NamedSums.{IsShareRefusal}
use Rattle.market_model.specs.Valued.{passed_at}
use Rattle.limit_rows.proofs.factors.with_taker.Goals as goal

pub returns-then-belongs-clause-stops : goal.returns-then-belongs-clause-stops
returns-then-belongs-clause-stops g c =
    let value = g.N.Exact.value in
    let p = c.args.pickup.now in
    let fits : to_z w64 (of_z w64 p.share) ≡ p.share = to_z-of_z w64 p.share (record { sfits = omega (arith, ints, c.requires.pickup.above, c.requires.pickup.most) }) in
    let share : value c.of_parts-share.result ≡ share_value p = c.of_parts-share.ensures ∙ ap (λ (z : ℤ). over z share_one) fits in
    subst₂ (λ a b. IfErr c.with_product.result (λ passed. IsShareRefusal (value c.args.sum) a b g.N.Exact.bound (passed_at value passed))) share c.shift_for_unit.ensures c.with_product.ensures.stops

pub returns-else-belongs-clause-sum : goal.returns-else-belongs-clause-sum
returns-else-belongs-clause-sum g c = rw c.if-belongs.false (sym (+ℚ_nil (g.N.Exact.value c.args.sum)))
