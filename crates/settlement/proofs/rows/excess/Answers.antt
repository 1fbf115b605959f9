use Rattle.std.proofs.Common.{◌≡◌, ◌∙◌, ap, subst, sym, w64}
use Rattle.std.proofs.lemmas.Int.{to_z-of_z}
use mir.Val.{to_z, of_z}
use Rattle.fraction_theory.specs.Fraction.{whole, ◌-ℚ◌}
use Rattle.fraction_theory.specs.Order.{◌<ℚ◌, ◌≤ℚ◌}
use Rattle.fraction_theory.specs.Signs.{abs_ℚ}
use Rattle.fraction_theory.proofs.OrderLaws.{<ℚ-≤ℚ}
use Rattle.fraction_theory.proofs.SignLaws.{part_at_least, part_at_most}
use Rattle.market_model.specs.Dispatch.{zero}
use Rattle.market_model.specs.Overrun.{overrun}
use Rattle.settlement.proofs.rows.excess.Goals as goal

pub beyond-requires : goal.beyond-requires
beyond-requires g c =
    let known : to_z w64 (of_z w64 c.limit_at.result) ≡ c.limit_at.result = to_z-of_z w64 c.limit_at.result (record { sfits = c.limit_at.type_inv }) in
    (c.limit_at.result, c.limit_at.ensures.sign, c.datum.ensures ∙ ap whole known)

pub returns-in-Some-clause-excess : goal.returns-in-Some-clause-excess
returns-in-Some-clause-excess g c =
    let value = g.N.Exact.value in
    let known : to_z w64 (of_z w64 c.limit_at.result) ≡ c.limit_at.result = to_z-of_z w64 c.limit_at.result (record { sfits = c.limit_at.type_inv }) in
    let limit = c.datum.ensures ∙ ap whole known ∙ c.limit_at.ensures.limit in
    let past = rw c.in-Some.is at c.in_ok-over.ensures.overrun in
    let over : value c.in-Some.over ≡ overrun c.args.market.now c.args.row (value c.args.flow) = past.1 ∙ ap (λ x. abs_ℚ (value c.args.flow) -ℚ x) limit in
    over ∙ sym (part_at_least (overrun c.args.market.now c.args.row (value c.args.flow)) (<ℚ-≤ℚ zero _ (subst (λ e. zero <ℚ e) over past.0)))

pub returns-in-None : goal.returns-in-None
returns-in-None g c =
    let value = g.N.Exact.value in
    let known : to_z w64 (of_z w64 c.limit_at.result) ≡ c.limit_at.result = to_z-of_z w64 c.limit_at.result (record { sfits = c.limit_at.type_inv }) in
    let limit = c.datum.ensures ∙ ap whole known ∙ c.limit_at.ensures.limit in
    let kept = rw c.in-None.is at c.in_ok-over.ensures.overrun in
    record {
      excess = c.datum-in-None.ensures ∙ sym (part_at_most (overrun c.args.market.now c.args.row (value c.args.flow)) (subst (λ x. (abs_ℚ (value c.args.flow) -ℚ x) ≤ℚ zero) limit kept));
      fits = tt;
    }

pub returns-in_err-over-clause-fits : goal.returns-in_err-over-clause-fits
returns-in_err-over-clause-fits g c = absurd c.in_err-over.ensures.fits
